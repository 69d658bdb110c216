-- Decimal numbers in a text.
use Rattle.std.proofs.Common.{◌≡◌, ◌≢◌, ℕ, ◌<◌, ◌^◌, ◌⊎◌, inl, inr, List, [], ◌∷◌, length, get_or, ap, ◌∙◌, arith}
use Rattle.std.specs.Fmt.{decimal}
use Rattle.std.proofs.lemmas.Fmt.{first_decimal, decimal_digit, IsAscii-decimal}
use Rattle.std.proofs.lemmas.Str.{IsUtf8-from_ascii}
use Rattle.std.proofs.lemmas.Str.Parse.{IsNumeralModel, numerals_by_value, tells_digits}
use Rattle.std.specs.Str.{IsUtf8}
use Rattle.std.specs.Str.Parse.{AllDigits, digits_value}

-- std's own reading of digits
pub own : IsNumeralModel (AllDigits 10) (digits_value 10)
own = numerals_by_value (AllDigits 10) tells_digits

zero_or_more : (n : ℕ) → (n ≡ 0) ⊎ (0 < n)
zero_or_more n = grind arith

-- a printed number is 0, or its first digit isn't 0
starts : (n : ℕ) → n < 2 ^ 64 → (decimal n ≡ 48 ∷ []) ⊎ (48 < get_or (decimal n) 0 0)
starts n small = elim (zero_or_more n) [
  | inl none ↦ inl (ap decimal none ∙ decimal_digit 0 (omega arith))
  | inr more ↦ inr (first_decimal n more small)
]

-- a text that begins with a plus or a needless zero is no printed number
pub odd_is_none : (text : List ℕ) (n : ℕ) → n < 2 ^ 64 → text ≡ decimal n
    → ((get_or text 0 0 ≡ 43 → length text ≡ 0) → (get_or text 0 0 ≡ 48) × (length text ≢ 1)) → ⊥
odd_is_none text n small e odd = elim (starts n small) [
  | inl zero ↦ let is : text ≡ 48 ∷ [] = e ∙ zero in let first : get_or text 0 0 ≡ 48 = ap (λ (l : List ℕ). get_or l 0 0) is in
      (odd (λ plus. absurd (omega (arith, plus, first)))).1 (ap (λ (l : List ℕ). length l) is)
  | inr more ↦ let first : get_or text 0 0 ≡ get_or (decimal n) 0 0 = ap (λ (l : List ℕ). get_or l 0 0) e in
      let is = odd (λ plus. absurd (omega (arith, plus, first, more))) in absurd (omega (arith, is.0, first, more))
]

pub decimal_is_text : (text : List ℕ) (n : ℕ) → n < 2 ^ 64 → text ≡ decimal n → IsUtf8 text
decimal_is_text text n small e = rw e (IsUtf8-from_ascii (decimal n) (IsAscii-decimal n small))
