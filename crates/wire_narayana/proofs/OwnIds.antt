-- What is written for an id is read as that id.
use Rattle.std.proofs.Common.{◌≡◌, ◌≢◌, ◌++◌, ◌<◌, ℕ, suc, Bool, true, false, List, [], ◌∷◌, codes, take, length, get_or, reverse, sym, refl, ap, ◌∙◌, arith, append_assoc, subst}
use Rattle.std.specs.Prelude.{◌==◌, ◌||◌, if◌then◌else◌, IfOk, Result, Ok, Err}
use Rattle.std.specs.List.{list_any}
use Rattle.std.proofs.lemmas.Bool.{ne_eqb, or_right}
use Rattle.std.proofs.lemmas.List.{reverse-append, reverse-reverse, take_all, take_more}
use Rattle.std.proofs.lemmas.List.Folds.{list_any-append}
use Rattle.percent_encoding.specs.Percent.{percent_decode}
use Rattle.uuid.specs.Text.{hex_digit, is_hyphen_place, digit_place, nibble, lower}
use Rattle.uuid.proofs.TextLemmas.{by_index_at, by_index_length, nibble_small}
use Rattle.state_ids.specs.Ids.{Id, IsId, IsTextOf, layout, text_of}
use Rattle.wire_narayana.specs.Naming.{IsBaseUrl, Names, is_parting, last_part, name_in, path_of, without_slashes}

-- no `%`, `/`, `:` or `?`
abbrev is_mark : ℕ → Bool
is_mark b = (b == 37) || ((b == 47) || ((b == 58) || (b == 63)))

no_mark : (b : ℕ) → b ≢ 37 → b ≢ 47 → b ≢ 58 → b ≢ 63 → is_mark b ≡ false
no_mark b p q r s = rw (ne_eqb b 37 p, ne_eqb b 47 q, ne_eqb b 58 r, ne_eqb b 63 s) refl

hex_unmarked : (d : ℕ) → d < 16 → is_mark (hex_digit lower d) ≡ false
hex_unmarked d small = no_mark (hex_digit lower d) (λ e. grind (arith, e, small)) (λ e. grind (arith, e, small)) (λ e. grind (arith, e, small)) (λ e. grind (arith, e, small))

one_of_two : (b : Bool) (x y : ℕ) → is_mark x ≡ false → is_mark y ≡ false → is_mark (if b then x else y) ≡ false
one_of_two true x y p q = p
one_of_two false x y p q = q

abbrev digit_at : List ℕ → ℕ → ℕ
digit_at bytes k = if is_hyphen_place k then 45 else hex_digit lower (nibble bytes (digit_place k))

text_length : (id : Id) → length (text_of id) ≡ 36
text_length id = by_index_length 36 (digit_at (layout id))

unmarked_at : (id : Id) (i : ℕ) → i < length (text_of id) → is_mark (get_or (text_of id) i 0) ≡ false
unmarked_at id i inside =
    rw (by_index_at 36 (digit_at (layout id)) i 0 (rw (by_index_length 36 (digit_at (layout id))) at inside))
    (one_of_two (is_hyphen_place i) 45 (hex_digit lower (nibble (layout id) (digit_place i))) refl
    (hex_unmarked (nibble (layout id) (digit_place i)) (nibble_small (layout id) (digit_place i))))

none_of : (p : ℕ → Bool) (bs : List ℕ) → ((i : ℕ) → i < length bs → p (get_or bs i 0) ≡ false) → list_any p bs ≡ false
none_of p [] each = refl
none_of p (b ∷ bs) each = let first = each 0 (omega arith) in let more = none_of p bs (λ i inside. each (suc i) (omega (arith, inside))) in grind (arith, first, more)

-- a text without `%` has no escapes
decode_same : (bs : List ℕ) → list_any (λ b. b == 37) bs ≡ false → percent_decode bs ≡ bs
unfolding percent_decode
decode_same [] e = refl
decode_same (b ∷ []) e = refl
decode_same (b ∷ c ∷ []) e = refl
decode_same (b ∷ c ∷ d ∷ bs) e =
    let first : (b == 37) ≡ false = grind (arith, e) in
    let rest : list_any (λ x. x == 37) (c ∷ d ∷ bs) ≡ false = grind (arith, e) in
    rw first (ap (λ (l : List ℕ). b ∷ l) (decode_same (c ∷ d ∷ bs) rest))

-- a text without `?` is its own path
path_same : (bs : List ℕ) → list_any (λ b. b == 63) bs ≡ false → path_of bs ≡ bs
unfolding path_of
path_same [] e = refl
path_same (b ∷ bs) e =
    let first : (b == 63) ≡ false = grind (arith, e) in
    let rest : list_any (λ x. x == 63) bs ≡ false = grind (arith, e) in
    rw first (ap (λ (l : List ℕ). b ∷ l) (path_same bs rest))

-- a text that ends with another byte has no slash to lose
kept_end : (front : List ℕ) (b : ℕ) → (b == 47) ≡ false → without_slashes (front ++ b ∷ []) ≡ front ++ b ∷ []
kept_end front b e =
    rw (reverse-append front (b ∷ []), e) (sym (ap reverse (reverse-append front (b ∷ []))) ∙ reverse-reverse (front ++ b ∷ []))

parts_behind : (xs ys : List ℕ) → list_any is_parting (xs ++ 47 ∷ ys) ≡ true
parts_behind [] ys = refl
parts_behind (x ∷ xs) ys = or_right _ _ (parts_behind xs ys)

alone : (ys : List ℕ) → list_any is_parting ys ≡ false → last_part ys ≡ ys
unfolding last_part
alone [] e = refl
alone (y ∷ ys) e = rw e refl

-- the last part follows a slash, if nothing in it separates parts
last_behind : (xs ys : List ℕ) → list_any is_parting ys ≡ false → last_part (xs ++ 47 ∷ ys) ≡ ys
unfolding last_part
last_behind [] ys e = alone ys e
last_behind (x ∷ xs) ys e = rw (parts_behind (x ∷ xs) ys) (last_behind xs ys e)

neither : (a b : Bool) → a ≡ false → b ≡ false → (a || b) ≡ false
neither a b p q = grind arith

both_none : (p q : ℕ → Bool) (bs : List ℕ) → list_any (λ b. p b || q b) bs ≡ false → (list_any p bs ≡ false) × (list_any q bs ≡ false)
both_none p q [] e = (refl, refl)
both_none p q (b ∷ bs) e =
    let rest : list_any (λ x. p x || q x) bs ≡ false = grind (arith, e) in
    let more = both_none p q bs rest in
    let first : p b ≡ false = grind (arith, e) in
    let second : q b ≡ false = grind (arith, e) in
    (neither _ _ first more.0, neither _ _ second more.1)

text_has_none : (id : Id) (p : ℕ → Bool) → ((b : ℕ) → is_mark b ≡ false → p b ≡ false) → list_any p (text_of id) ≡ false
text_has_none id p is = none_of p (text_of id) (λ i inside. is (get_or (text_of id) i 0) (unmarked_at id i inside))

whole_has_none : (base : List ℕ) (id : Id) (p : ℕ → Bool) → list_any p base ≡ false → list_any p (codes "/lra-coordinator/") ≡ false → ((b : ℕ) → is_mark b ≡ false → p b ≡ false)
    → list_any p (base ++ (codes "/lra-coordinator/" ++ text_of id)) ≡ false
whole_has_none base id p e f is =
    list_any-append p base (codes "/lra-coordinator/" ++ text_of id)
    ∙ neither _ _ e (list_any-append p (codes "/lra-coordinator/") (text_of id) ∙ neither _ _ f (text_has_none id p is))

marks : (b : ℕ) → is_mark b ≡ false → ((b == 37) ≡ false) × ((b == 63) ≡ false) × ((b == 47) ≡ false) × (is_parting b ≡ false)
marks b e = (grind (arith, e), grind (arith, e), grind (arith, e), grind (arith, e))

last_byte : (id : Id) → text_of id ≡ take 35 (text_of id) ++ get_or (text_of id) 35 0 ∷ []
last_byte id = sym (take_all 36 (text_of id) (omega (arith, text_length id))) ∙ take_more (text_of id) 35 0 (omega (arith, text_length id))

-- a URL names the id from which it was made
pub names_own : (base : List ℕ) (id : Id) → IsId id → IsTextOf (text_of id) id → IsBaseUrl base → Names (base ++ (codes "/lra-coordinator/" ++ text_of id)) id
names_own base id is read clean =
    let text : List ℕ = text_of id in
    let whole : List ℕ = base ++ (codes "/lra-coordinator/" ++ text_of id) in
    let bases = both_none (λ b. b == 37) (λ b. b == 63) base clean in
    let once : percent_decode whole ≡ whole = decode_same whole (whole_has_none base id (λ b. b == 37) bases.0 refl (λ b e. (marks b e).0)) in
    let path : path_of whole ≡ whole = path_same whole (whole_has_none base id (λ b. b == 63) bases.1 refl (λ b e. (marks b e).1)) in
    let front : List ℕ = base ++ (codes "/lra-coordinator/" ++ take 35 (text_of id)) in
    let last : ℕ = get_or (text_of id) 35 0 in
    let split : whole ≡ front ++ last ∷ [] =
    ap (λ (l : List ℕ). base ++ (codes "/lra-coordinator/" ++ l)) (last_byte id) ∙ sym (append_assoc base (codes "/lra-coordinator/" ++ take 35 (text_of id)) (last ∷ [])) in
    let kept : without_slashes whole ≡ whole =
    ap without_slashes split ∙ kept_end front last (marks last (unmarked_at id 35 (omega (arith, text_length id)))).2 ∙ sym split in
    let part : last_part whole ≡ text =
    ap last_part (sym (append_assoc base (codes "/lra-coordinator") (47 ∷ text_of id))) ∙ last_behind (base ++ codes "/lra-coordinator") (text_of id) (text_has_none id is_parting (λ b e. (marks b e).3)) in
    let named : name_in (percent_decode (percent_decode whole)) ≡ text =
    ap name_in (ap percent_decode once ∙ once) ∙ ap (λ (l : List ℕ). last_part (without_slashes l)) path ∙ ap last_part kept ∙ part in
    (is, subst (λ t. IsTextOf t id) (sym named) read)

-- what holds for a text holds for what was written so
pub if_written : {T : Type 0} {E : Type 0} (f : T → List ℕ) (w : List ℕ) (P : List ℕ → Type 0) (r : Result T E) → IfOk r (λ t. f t ≡ w) → P w → IfOk r (λ t. P (f t))
if_written f w P (Ok t) e p = subst P (sym e) p
if_written f w P (Err x) e p = tt
