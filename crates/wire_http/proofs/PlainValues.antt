-- Values of fields whose bytes are all visible, decimals among them, and heads of few bytes.
use Rattle.std.proofs.Common.{◌≡◌, ◌<◌, ◌≤◌, ◌+◌, ◌*◌, ◌^◌, ◌&&◌, ℕ, Bool, true, false, IsTrue, List, [], ◌∷◌, ◌++◌, codes, length, reverse, refl, arith, nat_lt, Result, Ok}
use Rattle.std.specs.Fmt.{decimal}
use Rattle.std.specs.List.{list_all}
use Rattle.std.specs.Char.{is_ascii_digit}
use Rattle.std.specs.Str.Parse.{AllDigits}
use Rattle.std.proofs.lemmas.Bool.{le-ltb}
use Rattle.std.proofs.lemmas.Bool.Decides.{nat_tests}
use Rattle.std.proofs.lemmas.Fmt.{decimal_is_IsNumeral, decimal_nonempty}
use Rattle.std.proofs.lemmas.List.{length-append, reverse-reverse}
use Rattle.std.proofs.lemmas.List.Elements.{All-cons, All-head, All-nil, All-weaker}
use Rattle.std.proofs.lemmas.List.Sums.{AllPass-from_list_all}
use Rattle.std.proofs.lemmas.Str.Parse.{digit_from_value}
use Rattle.httparse.specs.Grammar.{AllPass, is_ows, is_token_byte, is_value_byte, skip_ows, trim_ows}
use Rattle.httparse.proofs.TrimLemmas.{AllPass-reverse}
use Rattle.wire_http.specs.declared.fault.Fault.{Fault}
use Rattle.wire_http.specs.declared.message.Field.{Field}
use Rattle.wire_http.specs.HeadFields.{is_number, length_in}
use Rattle.wire_http.specs.MessageTexts.{field_line, field_lines, line_end}
use Rattle.wire_http.specs.WholeMessages.{IsPlain}

-- visible: no white space, no control byte, and only ASCII
abbrev pub is_visible : ℕ → Bool
is_visible b = nat_lt 32 b && nat_lt b 127

visible_passes : (b : ℕ) → IsTrue (is_visible b) → IsTrue (is_value_byte b)
visible_passes b h = grind (arith, nat_tests)

visible_stands : (b : ℕ) → IsTrue (is_visible b) → is_ows b ≡ false
visible_stands b h = grind (arith, nat_tests)

skip_visible : (v : List ℕ) → AllPass is_visible v → skip_ows v ≡ v
skip_visible [] h = refl
skip_visible (b ∷ bs) h = rw (visible_stands b (All-head (λ x. IsTrue (is_visible x)) b bs h)) refl

trim_visible : (v : List ℕ) → AllPass is_visible v → trim_ows v ≡ v
unfolding trim_ows
trim_visible v h = rw (skip_visible v h, skip_visible (reverse v) (AllPass-reverse is_visible v h), reverse-reverse) refl

-- a field with such a value is plain
pub plain_visible : (name value : List ℕ) → 0 < length name → list_all is_token_byte name ≡ true → AllPass is_visible value → IsPlain (record { name = name; value = value })
plain_visible name value some token h = record {
  name = (some, AllPass-from_list_all is_token_byte name token);
  value = All-weaker (λ x. IsTrue (is_visible x)) (λ x. IsTrue (is_value_byte x)) visible_passes value h;
  trimmed = trim_visible value h;
}

pub literal_visible : (v : List ℕ) → list_all is_visible v ≡ true → AllPass is_visible v
literal_visible v h = AllPass-from_list_all is_visible v h

-- Decimals

digits_visible : (ds : List ℕ) → AllDigits 10 ds → AllPass is_visible ds
digits_visible [] h = All-nil (λ x. IsTrue (is_visible x))
digits_visible (c ∷ cs) h =
    let at = digit_from_value c h.0 in
    All-cons (λ x. IsTrue (is_visible x)) c cs (grind (arith, nat_tests)) (digits_visible cs h.1)

digits_pass : (ds : List ℕ) → AllDigits 10 ds → list_all is_ascii_digit ds ≡ true
digits_pass [] h = refl
digits_pass (c ∷ cs) h =
    let at = digit_from_value c h.0 in
    let first : is_ascii_digit c ≡ true = grind (arith, nat_tests) in
    rw (first, digits_pass cs h.1) refl

pub decimal_visible : (n : ℕ) → n < 2 ^ 64 → AllPass is_visible (decimal n)
decimal_visible n fits = digits_visible (decimal n) (decimal_is_IsNumeral n fits).0.1

number_of : (n : ℕ) → n < 2 ^ 64 → is_number (decimal n) ≡ true
number_of n fits =
    let some : nat_lt 0 (length (decimal n)) ≡ true = let more = decimal_nonempty n fits in grind (arith, nat_tests) in
    rw (some, digits_pass (decimal n) (decimal_is_IsNumeral n fits).0.1) refl

abbrev pub sized : ℕ → Result ℕ Fault
sized n = Ok n

-- a decimal states its number as a length
pub length_is : (limit n : ℕ) → n < 2 ^ 64 → n ≤ limit → length_in limit (decimal n) ≡ sized n
length_is limit n fits low = rw (number_of n fits, (decimal_is_IsNumeral n fits).1, le-ltb limit n low) refl

-- Heads of few bytes

-- the names and values are short
abbrev pub Short : List Field → Type 0
Short [] = Unit {0}
Short (f ∷ fs) = (length f.name + length f.value ≤ 300) × Short fs

line_length : (f : Field) → length (field_line f) ≡ length f.name + length f.value + 4
line_length f =
    let one = length-append f.name (codes ": " ++ (f.value ++ line_end)) in
    let two = length-append f.value line_end in
    omega (arith, one, two)

pub lines_short : (fs : List Field) → Short fs → length (field_lines fs) ≤ 304 * length fs
lines_short [] h = omega arith
lines_short (f ∷ fs) h =
    let one = length-append (field_line f) (field_lines fs) in
    let rest = lines_short fs h.1 in
    let line = line_length f in
    let few = h.0 in
    omega (arith, one, rest, line, few)
