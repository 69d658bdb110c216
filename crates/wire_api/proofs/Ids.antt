-- A text is one id or no id.
use Rattle.std.proofs.Common.{if◌then◌else◌, ◌≡◌, ◌==◌, ℕ, ◌+◌, ◌*◌, ◌^◌, ◌%◌, ◌<◌, ◌≤◌, Bool, true, false, List, codes, drop, length, take, Option, Some, None, option_and_then, ap, sym, ◌∙◌, refl, arith, subst, not, nat_le, nat_lt, ◌&&◌, ◌||◌, slice_index}
use Rattle.std.proofs.lemmas.Slice.Eq.{bytes_eq-Decides}
use Rattle.std.proofs.lemmas.Bool.{eqb-true}
use Rattle.std.proofs.lemmas.Bool.Decides.{nat_tests}
use Rattle.std.specs.Int.{from_be_bytes, to_be_bytes, w64}
use Rattle.std.proofs.lemmas.Nat.{from_be_bytes-to_be_bytes_8}
use Rattle.std.specs.Str.{bytes_eq}
use Rattle.uuid.specs.Text.{parsed}
use Rattle.state_ids.specs.Ids.{Id, IsId, IsTextOf, layout, variant_and_num}
use Rattle.wire_api.specs.Names.{id_at, id_in, id_of, is_layout, is_prefix_lower}

home_back : (id : Id) → IsId id → slice_index (layout id) 7 ≡ id.home
home_back id valid = let at : (8 * 2 ^ 12 + id.home) % 256 ≡ id.home = omega arith in at

num_back : (id : Id) → IsId id → from_be_bytes w64 (drop 8 (layout id)) % 2 ^ 62 ≡ id.num
num_back id valid =
    let fits : variant_and_num id.num < 2 ^ 64 = omega arith in
    let back : from_be_bytes w64 (to_be_bytes w64 (variant_and_num id.num)) ≡ variant_and_num id.num = from_be_bytes-to_be_bytes_8 (variant_and_num id.num) fits in
    let at : variant_and_num id.num % 2 ^ 62 ≡ id.num = omega arith in
    ap (λ (n : ℕ). n % 2 ^ 62) back ∙ at

-- an id is at its layout
pub id_at_layout : (id : Id) → IsId id → id_at (layout id) ≡ id
id_at_layout id valid =
    ap (λ (h : ℕ). record { home = h; num = from_be_bytes w64 (drop 8 (layout id)) % 2 ^ 62 }) (home_back id valid)
    ∙ ap (λ (n : ℕ). record { home = id.home; num = n }) (num_back id valid)

le_true : (a b : ℕ) → a ≤ b → nat_le a b ≡ true
le_true a b h = grind (arith, nat_tests)

lt_true : (a b : ℕ) → a < b → nat_lt a b ≡ true
lt_true a b h = grind (arith, nat_tests)

-- it has its own layout
is_layout_own : (id : Id) → IsId id → is_layout (layout id) id ≡ true
is_layout_own id valid = rw (le_true 1 id.home valid.home.0, le_true id.home 8 valid.home.1, le_true 1 id.num valid.num.0, lt_true id.num (2 ^ 48) valid.num.1) ((bytes_eq-Decides (layout id) (layout id)).1 refl)

with_true : (b : Bool) (x : Id) → b ≡ true → (if b then Some x else None) ≡ Some x
with_true true x e = refl
with_true false x e = cc

id_in_layout : (id : Id) → IsId id → id_in (layout id) ≡ Some id
id_in_layout id valid =
    subst (λ (x : Id). (if is_layout (layout id) x then Some x else None) ≡ Some id) (sym (id_at_layout id valid))
    (with_true (is_layout (layout id) id) id (is_layout_own id valid))

prefix_of : (text : List ℕ) → (length text ≡ 45 → take 9 text ≡ codes "urn:uuid:") → is_prefix_lower text ≡ true
prefix_of text h =
    elim (length text == 45) as (λ (b : Bool). ((b ≡ true) → length text ≡ 45) → (not b || bytes_eq (take 9 text) (codes "urn:uuid:")) ≡ true)
    [ true ↦ λ e. (bytes_eq-Decides (take 9 text) (codes "urn:uuid:")).1 (h (e refl)) | false ↦ λ e. refl ] (eqb-true (length text) 45)

-- a text of an id is that id
pub id_of_text : (text : List ℕ) (id : Id) → IsId id → IsTextOf text id → id_of text ≡ Some id
unfolding id_of
id_of_text text id valid is = rw (prefix_of text is.prefix, is.bytes) (id_in_layout id valid)

-- A text that is the text of no id is read as no id

test_le : (a b : ℕ) → nat_le a b ≡ true → a ≤ b
test_le a b h = grind (arith, nat_tests)

test_lt : (a b : ℕ) → nat_lt a b ≡ true → a < b
test_lt a b h = grind (arith, nat_tests)

both : (a b : Bool) → (a && b) ≡ true → (a ≡ true) × (b ≡ true)
both true b h = (refl, h)
both false b h = cc

valid_of : (bytes : List ℕ) (id : Id) → is_layout bytes id ≡ true → IsId id × (bytes ≡ layout id)
valid_of bytes id h =
    let a = both _ _ h in
    let b = both _ _ a.0 in
    let c = both _ _ b.0 in
    let d = both _ _ b.1 in (
      record { home = (test_le 1 id.home c.0, test_le id.home 8 c.1); num = (test_le 1 id.num d.0, test_lt id.num (2 ^ 48) d.1) },
      (bytes_eq-Decides bytes (layout id)).0 a.1,
    )

prefix_from : (text : List ℕ) → is_prefix_lower text ≡ true → length text ≡ 45 → take 9 text ≡ codes "urn:uuid:"
prefix_from text h e =
    let at : (length text == 45) ≡ true = grind (arith, nat_tests) in
    (bytes_eq-Decides (take 9 text) (codes "urn:uuid:")).0 (rw at at h)

none_in : (text bytes : List ℕ) (b : Bool) → is_layout bytes (id_at bytes) ≡ b → parsed text ≡ Some bytes
    → (length text ≡ 45 → take 9 text ≡ codes "urn:uuid:") → ((id : Id) → IsId id → IsTextOf text id → ⊥)
    → (if b then Some (id_at bytes) else None) ≡ None
none_in text bytes true e p pre none =
    let v = valid_of bytes (id_at bytes) e in
    absurd (none (id_at bytes) v.0 (record { bytes = p ∙ ap (λ (b : List ℕ). Some b) v.1; prefix = pre }))
none_in text bytes false e p pre none = refl

none_at : (text : List ℕ) (found : Option (List ℕ)) → parsed text ≡ found
    → (length text ≡ 45 → take 9 text ≡ codes "urn:uuid:") → ((id : Id) → IsId id → IsTextOf text id → ⊥)
    → option_and_then id_in found ≡ None
none_at text (Some bytes) p pre none = none_in text bytes (is_layout bytes (id_at bytes)) refl p pre none
none_at text None p pre none = refl

none_from : (text : List ℕ) (b : Bool) → is_prefix_lower text ≡ b → ((id : Id) → IsId id → IsTextOf text id → ⊥)
    → (if b then option_and_then id_in (parsed text) else None) ≡ None
none_from text true e none = none_at text (parsed text) refl (prefix_from text e) none
none_from text false e none = refl

pub no_id : (text : List ℕ) → ((id : Id) → IsId id → IsTextOf text id → ⊥) → id_of text ≡ None
unfolding id_of
no_id text none = none_from text (is_prefix_lower text) refl none
