-- The last part of a path.
use Rattle.std.proofs.Common.{◌≡◌, ◌≢◌, ◌++◌, ◌+◌, ◌<◌, ℕ, ◌≤◌, Bool, true, false, List, [], ◌∷◌, drop, take, length, get_or, sym, refl, ap, ◌∙◌, arith, append_assoc, append-nil}
use Rattle.std.specs.Prelude.{◌==◌, ◌||◌, if◌then◌else◌}
use Rattle.std.specs.List.{list_any}
use Rattle.std.proofs.lemmas.Bool.{ne_eqb}
use Rattle.std.proofs.lemmas.List.{drop_all, drop_more, take_all, take_more}
use Rattle.wire_narayana.specs.Naming.{is_parting, last_part, path_of}

-- a list without a separating byte is its own last part
pub own_part : (bs : List ℕ) → (if list_any is_parting bs then last_part bs else bs) ≡ last_part bs
unfolding last_part
own_part [] = refl
own_part (b ∷ bs) = elim (list_any is_parting (b ∷ bs)) as (λ v. (if v then (if v then last_part bs else b ∷ bs) else b ∷ bs) ≡ (if v then last_part bs else b ∷ bs)) [ true ↦ refl | false ↦ refl ]

any_by : (x y : Bool) (whole part : List ℕ) → x ≡ true → (if (x || y) then whole else part) ≡ whole
any_by x y whole part e = grind (arith, e)

none_by : (x y : Bool) (whole part : List ℕ) → x ≡ false → (if (x || y) then whole else part) ≡ (if y then whole else part)
none_by x y whole part e = rw e refl

-- another part begins behind a separating byte
pub part_begins : (b : ℕ) (bs part : List ℕ) → is_parting b ≡ true → (if list_any is_parting bs then last_part bs else bs) ≡ (if list_any is_parting (b ∷ bs) then last_part (b ∷ bs) else part)
unfolding last_part
part_begins b bs part e = own_part bs ∙ sym (any_by (is_parting b) (list_any is_parting bs) (last_part (b ∷ bs)) part e ∙ any_by (is_parting b) (list_any is_parting bs) (last_part bs) (b ∷ bs) e)

same_if : (y : Bool) (a b part : List ℕ) → (if y then (if y then a else b) else part) ≡ (if y then a else part)
same_if true a b part = refl
same_if false a b part = refl

-- any other byte is passed over
pub part_goes_on : (b : ℕ) (bs part : List ℕ) → is_parting b ≡ false → (if list_any is_parting bs then last_part bs else part) ≡ (if list_any is_parting (b ∷ bs) then last_part (b ∷ bs) else part)
unfolding last_part
part_goes_on b bs part e =
    sym (none_by (is_parting b) (list_any is_parting bs) (last_part (b ∷ bs)) part e
    ∙ ap (λ (l : List ℕ). if list_any is_parting bs then l else part) (none_by (is_parting b) (list_any is_parting bs) (last_part bs) (b ∷ bs) e)
    ∙ same_if (list_any is_parting bs) (last_part bs) (b ∷ bs) part)

path_step : (i : ℕ) (bs : List ℕ) → i < length bs → path_of (drop i bs) ≡ path_of (get_or bs i 0 ∷ drop (i + 1) bs)
path_step i bs inside = ap path_of (drop_more bs i 0 inside)

ends_by : (b : ℕ) (bs : List ℕ) → b ≡ 63 → path_of (b ∷ bs) ≡ []
unfolding path_of
ends_by b bs e = rw e refl

goes_by : (b : ℕ) (bs : List ℕ) → b ≢ 63 → path_of (b ∷ bs) ≡ b ∷ path_of bs
unfolding path_of
goes_by b bs e = let other : (b == 63) ≡ false = ne_eqb b 63 e in rw other refl

-- the path ends before a question mark
pub path_ends : (i : ℕ) (bs : List ℕ) → i < length bs → get_or bs i 0 ≡ 63 → take i bs ++ path_of (drop i bs) ≡ take i bs
path_ends i bs inside e = ap (λ (l : List ℕ). take i bs ++ l) (path_step i bs inside ∙ ends_by (get_or bs i 0) (drop (i + 1) bs) e) ∙ append-nil (take i bs)

-- any other byte belongs to the path
pub path_more : (i : ℕ) (bs : List ℕ) → i < length bs → get_or bs i 0 ≢ 63 → take (i + 1) bs ++ path_of (drop (i + 1) bs) ≡ take i bs ++ path_of (drop i bs)
path_more i bs inside e =
    ap (λ (l : List ℕ). l ++ path_of (drop (i + 1) bs)) (take_more bs i 0 inside) ∙ append_assoc (take i bs) (get_or bs i 0 ∷ []) (path_of (drop (i + 1) bs))
    ∙ sym (ap (λ (l : List ℕ). take i bs ++ l) (path_step i bs inside ∙ goes_by (get_or bs i 0) (drop (i + 1) bs) e))

-- the whole was passed
pub path_whole : (i : ℕ) (bs : List ℕ) → i ≡ length bs → take i bs ++ path_of (drop i bs) ≡ bs
unfolding path_of
path_whole i bs e = ap (λ (l : List ℕ). l ++ path_of (drop i bs)) (take_all i bs (omega (arith, e))) ∙ ap (λ (l : List ℕ). bs ++ path_of l) (drop_all i bs (omega (arith, e))) ∙ append-nil bs

-- what holds for a rest, by the place at which it begins
pub begins_at : (i : ℕ) (bs part : List ℕ) → i < length bs → is_parting (get_or bs i 0) ≡ true
    → (if list_any is_parting (drop (i + 1) bs) then last_part (drop (i + 1) bs) else drop (i + 1) bs) ≡ (if list_any is_parting (drop i bs) then last_part (drop i bs) else part)
begins_at i bs part inside e =
    part_begins (get_or bs i 0) (drop (i + 1) bs) part e ∙ ap (λ (l : List ℕ). if list_any is_parting l then last_part l else part) (sym (drop_more bs i 0 inside))

pub goes_on_at : (i : ℕ) (bs part : List ℕ) → i < length bs → is_parting (get_or bs i 0) ≡ false
    → (if list_any is_parting (drop (i + 1) bs) then last_part (drop (i + 1) bs) else part) ≡ (if list_any is_parting (drop i bs) then last_part (drop i bs) else part)
goes_on_at i bs part inside e =
    part_goes_on (get_or bs i 0) (drop (i + 1) bs) part e ∙ ap (λ (l : List ℕ). if list_any is_parting l then last_part l else part) (sym (drop_more bs i 0 inside))

-- nothing is left
pub last_at : (i : ℕ) (bs part : List ℕ) → length bs ≤ i → (if list_any is_parting (drop i bs) then last_part (drop i bs) else part) ≡ part
last_at i bs part e = ap (λ (l : List ℕ). if list_any is_parting l then last_part l else part) (drop_all i bs e)
