-- a set has one list of records of a home
use Rattle.std.proofs.Common.{◌≡◌, ◌⊎◌, inl, inr, ◌<◌, ◌==◌, ℕ, List, [], ◌∷◌, refl, sym, ap, ◌∙◌, subst, Bool, true, false, cond, arith, Some, find}
use Rattle.std.specs.List.{AllByRecursion}
use Rattle.std.proofs.lemmas.Bool.Decides.{Decides-eqb}
use Rattle.state_ids.specs.Ids.{Id}
use Rattle.state_facts.specs.declared.fact.Fact.{Fact}
use Rattle.state_forest.specs.declared.record.Record.{Record}
use Rattle.state_forest.specs.Forests.{IsAscending, AreOf, is_of}
use Rattle.state_forest.specs.Standing.{Stands}
use Rattle.state_forest.proofs.Bools.{and_right}
use Rattle.state_forest.proofs.Places.{none_of}

abbrev at : ℕ → ℕ → Id
at home num = record { home = home; num = num }

is_own : (home : ℕ) (x : Record) → x.home ≡ home → is_of (at home x.num) x ≡ true
is_own home x e = let h = (Decides-eqb x.home home).1 e in let n = (Decides-eqb x.num x.num).1 refl in rw (h, n) refl

num_of : (home num : ℕ) (x : Record) → is_of (at home num) x ≡ true → x.num ≡ num
num_of home num x e = (Decides-eqb x.num num).0 (and_right (x.home == home) (x.num == num) e)

own_first : (home : ℕ) (x : Record) (xs : List Record) → x.home ≡ home → find (is_of (at home x.num)) (x ∷ xs) ≡ Some x
own_first home x xs e = let own = is_own home x e in rw own refl

-- a record that is found among records with numbers above n has a number above n
found_after : (n : ℕ) (t : Record → Bool) (xs : List Record) (x : Record) → AllByRecursion (λ (q : Record). n < q.num) xs → find t xs ≡ Some x → n < x.num
found_after n t [] x h e = absurd cc
found_after n t (y ∷ ys) x h e = by (found_after n t ys x h.1) (t y) e
  where
    by : (find t ys ≡ Some x → n < x.num) → (b : Bool) → cond b (Some y) (find t ys) ≡ Some x → n < x.num
    by rest true s = let same : y ≡ x = cc in subst (λ (q : Record). n < q.num) same h.0
    by rest false s = rest s

first_or_after : (y x : Record) (ys : List Record) (t : Record → Bool) → AllByRecursion (λ (q : Record). y.num < q.num) ys → find t (y ∷ ys) ≡ Some x → (y ≡ x) ⊎ (y.num < x.num)
first_or_after y x ys t h e = by (t y) e
  where
    by : (b : Bool) → cond b (Some y) (find t ys) ≡ Some x → (y ≡ x) ⊎ (y.num < x.num)
    by true s = inl cc
    by false s = inr (found_after y.num t ys x h s)

-- if each of two records is found where the other is, neither comes after the other, so they are
-- one
same_first : (x y : Record) → (y ≡ x) ⊎ (y.num < x.num) → (x ≡ y) ⊎ (x.num < y.num) → x ≡ y
same_first x y (inl e) s = sym e
same_first x y (inr l) (inl e) = e
same_first x y (inr l) (inr m) = absurd (omega (arith, l, m))

tails : (home n : ℕ) (x : Record) (xs ys : List Record) → AllByRecursion (λ (q : Record). x.num < q.num) xs → AllByRecursion (λ (q : Record). x.num < q.num) ys
    → (b : Bool) → is_of (at home n) x ≡ b → cond b (Some x) (find (is_of (at home n)) xs) ≡ cond b (Some x) (find (is_of (at home n)) ys) → find (is_of (at home n)) xs ≡ find (is_of (at home n)) ys
tails home n x xs ys a b true is e =
    let num = num_of home n x is in
    let P : ℕ → List Record → Type 0 = λ k qs. AllByRecursion (λ (q : Record). k < q.num) qs in
    none_of (at home n) xs (subst (λ k. P k xs) num a) ∙ sym (none_of (at home n) ys (subst (λ k. P k ys) num b))
tails home n x xs ys a b false is e = e

pub same_records : (home : ℕ) (xs ys : List Record) → AllByRecursion (λ (r : Record). r.home ≡ home) xs → AllByRecursion (λ (r : Record). r.home ≡ home) ys → IsAscending xs → IsAscending ys
    → ((n : ℕ) → find (is_of (at home n)) xs ≡ find (is_of (at home n)) ys) → xs ≡ ys
same_records home [] [] g h a b e = refl
same_records home [] (y ∷ ys) g h a b e = absurd (let found = e y.num ∙ own_first home y ys h.0 in cc)
same_records home (x ∷ xs) [] g h a b e = absurd (let found = sym (e x.num) ∙ own_first home x xs g.0 in cc)
same_records home (x ∷ xs) (y ∷ ys) g h a b e =
    let same : x ≡ y = same_first x y (first_or_after y x ys (is_of (at home x.num)) b.0 (sym (e x.num) ∙ own_first home x xs g.0))
    (first_or_after x y xs (is_of (at home y.num)) a.0 (e y.num ∙ own_first home y ys h.0)) in
    let later : AllByRecursion (λ (q : Record). x.num < q.num) ys = subst (λ (z : Record). AllByRecursion (λ (q : Record). z.num < q.num) ys) (sym same) b.0 in
    let rest : xs ≡ ys = same_records home xs ys g.1 h.1 a.1 b.1 (λ n.
    tails home n x xs ys a.0 later (is_of (at home n) x) refl
    (e n ∙ subst (λ (z : Record). find (is_of (at home n)) (y ∷ ys) ≡ find (is_of (at home n)) (z ∷ ys)) (sym same) refl)) in
    ap (λ (z : Record). z ∷ xs) same ∙ ap (λ (zs : List Record). y ∷ zs) rest

pub one_view : (nodes home : ℕ) (S : List Fact) (xs ys : List Record) → AreOf home xs → AreOf home ys → Stands nodes home S xs → Stands nodes home S ys → xs ≡ ys
one_view nodes home S xs ys a b s t =
    same_records home xs ys a.homes b.homes a.ascending b.ascending (λ n. s (at home n) refl ∙ sym (t (at home n) refl))
