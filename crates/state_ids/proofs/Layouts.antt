-- An id is read back from its layout.
use Rattle.std.proofs.Common.{◌≡◌, ℕ, ◌+◌, ◌*◌, ◌^◌, ◌%◌, ◌<◌, List, [], ◌∷◌, ap, sym, ◌∙◌, arith, get_or, take, length, Some, Result, Ok, Err, IfOk, codes}
use Rattle.uuid.specs.Text.{parsed}
use Rattle.std.specs.Int.{from_be_bytes, to_be_bytes, w64}
use Rattle.std.proofs.lemmas.Nat.{from_be_bytes-to_be_bytes_8}
use Rattle.state_ids.specs.Ids.{Id, IsId, IsTextOf, layout, variant_and_num}

-- the eight bytes starting at place 8
abbrev pub low_bytes : List ℕ → List ℕ
low_bytes b =
    get_or b 8 0 ∷ get_or b 9 0 ∷ get_or b 10 0 ∷ get_or b 11 0 ∷ get_or b 12 0 ∷ get_or b 13 0 ∷ get_or b 14 0 ∷ get_or b 15 0 ∷ []

pub home_back : (bytes : List ℕ) (id : Id) → IsId id → bytes ≡ layout id → get_or bytes 7 0 ≡ id.home
home_back bytes id valid same = let at : (8 * 2 ^ 12 + id.home) % 256 ≡ id.home = omega arith in ap (λ (b : List ℕ). get_or b 7 0) same ∙ at

pub num_back : (bytes : List ℕ) (id : Id) → IsId id → bytes ≡ layout id → from_be_bytes w64 (low_bytes bytes) % 2 ^ 62 ≡ id.num
num_back bytes id valid same =
    let fits : variant_and_num id.num < 2 ^ 64 = omega arith in
    let back : from_be_bytes w64 (to_be_bytes w64 (variant_and_num id.num)) ≡ variant_and_num id.num = from_be_bytes-to_be_bytes_8 (variant_and_num id.num) fits in
    let at : variant_and_num id.num % 2 ^ 62 ≡ id.num = omega arith in
    ap (λ (b : List ℕ). from_be_bytes w64 (low_bytes b) % 2 ^ 62) same ∙ ap (λ (n : ℕ). n % 2 ^ 62) back ∙ at

pub same_layout : (a b : Id) → a.home ≡ b.home → a.num ≡ b.num → layout a ≡ layout b
same_layout a b h n = let e : a ≡ b = ap (λ (x : ℕ). record { home = x; num = a.num }) h ∙ ap (λ (x : ℕ). record { home = b.home; num = x }) n in ap layout e

-- a text is read as whatever its bytes are read as
pub read_as : {E : Type 0} (text uuid bytes : List ℕ) (r : Result Id E) → Some uuid ≡ parsed text → bytes ≡ uuid
    → (length text ≡ 45 → take 9 text ≡ codes "urn:uuid:") → IfOk r (λ id. IsId id × (bytes ≡ layout id)) → IfOk r (λ id. IsId id × IsTextOf text id)
read_as text uuid bytes (Ok id) was same prefix (valid, laid) = (valid, record { bytes = sym was ∙ ap (λ (b : List ℕ). Some b) (sym same ∙ laid); prefix = prefix })
read_as text uuid bytes (Err e) was same prefix h = tt
