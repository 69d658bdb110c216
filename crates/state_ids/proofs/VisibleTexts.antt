-- Each byte of the text of an id is visible: only ASCII, with no white space and no control byte.
use Rattle.std.proofs.Common.{ℕ, Bool, true, false, IsTrue, List, length, ◌<◌, ◌&&◌, nat_lt, if◌then◌else◌, refl, arith, All, ◌≡◌}
use Rattle.std.proofs.lemmas.Bool.Decides.{nat_tests}
use Rattle.std.proofs.lemmas.List.Elements.{All-from_get_or}
use Rattle.uuid.specs.Text.{hex_digit, is_hyphen_place, digit_place, nibble, lower}
use Rattle.uuid.proofs.TextLemmas.{by_index_at, by_index_length, nibble_small}
use Rattle.state_ids.specs.Ids.{Id, layout, text_of}

abbrev pub is_visible : ℕ → Bool
is_visible b = nat_lt 32 b && nat_lt b 127

one_of_two : (b : Bool) (x y : ℕ) → IsTrue (is_visible x) → IsTrue (is_visible y) → IsTrue (is_visible (if b then x else y))
one_of_two true x y p q = p
one_of_two false x y p q = q

hex_visible : (d : ℕ) → d < 16 → IsTrue (is_visible (hex_digit lower d))
hex_visible d h = grind (arith, nat_tests)

abbrev digit_at : List ℕ → ℕ → ℕ
digit_at bytes k = if is_hyphen_place k then 45 else hex_digit lower (nibble bytes (digit_place k))

pub text_visible : (id : Id) → All (λ b. IsTrue (is_visible b)) (text_of id)
text_visible id =
    All-from_get_or (λ b. IsTrue (is_visible b)) (text_of id) 0 (λ i inside.
    rw (by_index_at 36 (digit_at (layout id)) i 0 (rw (by_index_length 36 (digit_at (layout id))) at inside))
    (one_of_two (is_hyphen_place i) 45 (hex_digit lower (nibble (layout id) (digit_place i))) refl
    (hex_visible (nibble (layout id) (digit_place i)) (nibble_small (layout id) (digit_place i)))))

pub text_length : (id : Id) → length (text_of id) ≡ 36
text_length id = by_index_length 36 (digit_at (layout id))
