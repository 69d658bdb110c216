-- the facts that give the member numbers of an LRA, in order
use Rattle.std.proofs.Common.{◌≡◌, ◌⊎◌, inl, inr, ◌≤◌, ◌<◌, ◌+◌, ◌&&◌, ℕ, zero, suc, List, [], ◌∷◌, Bool, true, false, refl, sym, ap, subst, ◌∙◌, arith, cond, filter, length, nat_lt, nat_le, Some, slice_get}
use Rattle.std.specs.List.{AllByRecursion}
use Rattle.std.proofs.lemmas.Bool.Decides.{nat_tests}
use Rattle.state_ids.specs.Ids.{Id}
use Rattle.state_facts.specs.declared.fact.Fact.{Fact}
use Rattle.state_facts.specs.Sets.{gives_number, member_number}
use Rattle.state_facts.specs.Lists.{In}
use Rattle.state_forest.specs.Records.{put_by_number, by_number, givers}
use Rattle.state_forest.specs.Standing.{AreOnce, IsSeated}
use Rattle.state_facts.proofs.Membership.{filter_in, in_filter}
use Rattle.state_forest.proofs.Bools.{all_in, all_from}

-- each fact has a lesser number than those after it
abbrev pub Ascend : List Fact → Type 0
Ascend [] = Unit {0}
Ascend (f ∷ fs) = AllByRecursion (λ g. f.num < g.num) fs × Ascend fs

-- no two facts have the same number
abbrev pub Differ : List Fact → Type 0
Differ [] = Unit {0}
Differ (f ∷ fs) = AllByRecursion (λ g. f.num ≡ g.num → ⊥) fs × Differ fs

all_put : (P : Fact → Type 0) (f : Fact) (fs : List Fact) → P f → AllByRecursion P fs → AllByRecursion P (put_by_number f fs)
all_put P f [] at h = (at, tt)
all_put P f (g ∷ fs) at h = by (nat_le f.num g.num) (all_put P f fs at h.1)
  where
    by : (b : Bool) → AllByRecursion P (put_by_number f fs) → AllByRecursion P (cond b (f ∷ g ∷ fs) (g ∷ put_by_number f fs))
    by true rest = (at, (h.0, h.1))
    by false rest = (h.0, rest)

pub all_by_number : (P : Fact → Type 0) (fs : List Fact) → AllByRecursion P fs → AllByRecursion P (by_number fs)
all_by_number P [] h = tt
all_by_number P (f ∷ fs) h = all_put P f (by_number fs) h.0 (all_by_number P fs h.1)

more_than : (n m : ℕ) (fs : List Fact) → n < m → AllByRecursion (λ g. m < g.num) fs → AllByRecursion (λ g. n < g.num) fs
more_than n m [] e h = tt
more_than n m (f ∷ fs) e h = (omega (arith, e, h.0), more_than n m fs e h.1)

put_ascends : (f : Fact) (fs : List Fact) → AllByRecursion (λ g. f.num ≡ g.num → ⊥) fs → Ascend fs → Ascend (put_by_number f fs)
put_ascends f [] other h = (tt, tt)
put_ascends f (g ∷ fs) other h = by (nat_le f.num g.num) refl (put_ascends f fs other.1 h.1)
  where
    by : (b : Bool) → nat_le f.num g.num ≡ b → Ascend (put_by_number f fs) → Ascend (cond b (f ∷ g ∷ fs) (g ∷ put_by_number f fs))
    by true t rest =
        let at_most : f.num ≤ g.num = grind (arith, nat_tests, t) in
        let less : f.num < g.num = omega (arith, at_most, other.0) in
        ((less, more_than f.num g.num fs less h.0), h)
    by false t rest =
        let less : g.num < f.num = grind (arith, nat_tests, t) in
        (all_put (λ x. g.num < x.num) f fs less h.0, rest)

pub by_number_ascends : (fs : List Fact) → Differ fs → Ascend (by_number fs)
by_number_ascends [] h = tt
by_number_ascends (f ∷ fs) h = put_ascends f (by_number fs) (all_by_number (λ g. f.num ≡ g.num → ⊥) fs h.0) (by_number_ascends fs h.1)

put_in : (x f : Fact) (fs : List Fact) → In x (put_by_number f fs) → (x ≡ f) ⊎ In x fs
put_in x f [] m = m
put_in x f (g ∷ fs) m = by (nat_le f.num g.num) (put_in x f fs) m
  where
    by : (b : Bool) → (In x (put_by_number f fs) → (x ≡ f) ⊎ In x fs) → In x (cond b (f ∷ g ∷ fs) (g ∷ put_by_number f fs)) → (x ≡ f) ⊎ In x (g ∷ fs)
    by true rest m = m
    by false rest (inl s) = inr (inl s)
    by false rest (inr m) = elim (rest m) [ inl s ↦ inl s | inr n ↦ inr (inr n) ]

in_put : (x f : Fact) (fs : List Fact) → (x ≡ f) ⊎ In x fs → In x (put_by_number f fs)
in_put x f [] m = m
in_put x f (g ∷ fs) m = by (nat_le f.num g.num) (in_put x f fs) m
  where
    by : (b : Bool) → ((x ≡ f) ⊎ In x fs → In x (put_by_number f fs)) → (x ≡ f) ⊎ In x (g ∷ fs) → In x (cond b (f ∷ g ∷ fs) (g ∷ put_by_number f fs))
    by true rest m = m
    by false rest (inl s) = inr (rest (inl s))
    by false rest (inr (inl s)) = inl s
    by false rest (inr (inr m)) = inr (rest (inr m))

pub by_number_in : (x : Fact) (fs : List Fact) → In x (by_number fs) → In x fs
by_number_in x [] m = m
by_number_in x (f ∷ fs) m = elim (put_in x f (by_number fs) m) [ inl s ↦ inl s | inr n ↦ inr (by_number_in x fs n) ]

pub in_by_number : (x : Fact) (fs : List Fact) → In x fs → In x (by_number fs)
in_by_number x [] m = m
in_by_number x (f ∷ fs) (inl s) = in_put x f (by_number fs) (inl s)
in_by_number x (f ∷ fs) (inr m) = in_put x f (by_number fs) (inr (in_by_number x fs m))

-- the givers are the facts of the set that give a number
pub giver_in : (S : List Fact) (l : Id) (f : Fact) → In f (givers S l) → In f S × (gives_number l f.body ≡ true)
giver_in S l f m = filter_in (λ x. gives_number l x.body) S f (by_number_in f _ m)

pub in_givers : (S : List Fact) (l : Id) (f : Fact) → In f S → gives_number l f.body ≡ true → In f (givers S l)
in_givers S l f m e = in_by_number f _ (in_filter (λ x. gives_number l x.body) S f m e)

length_put : (t : Fact → Bool) (f : Fact) (fs : List Fact) → length (filter t (put_by_number f fs)) ≡ length (filter t (f ∷ fs))
length_put t f [] = refl
length_put t f (g ∷ fs) = by (nat_le f.num g.num) (length_put t f fs)
  where
    swapped : (c d : Bool) → length (cond d (g ∷ filter t (put_by_number f fs)) (filter t (put_by_number f fs))) ≡ length (cond d (g ∷ cond c (f ∷ filter t fs) (filter t fs)) (cond c (f ∷ filter t fs) (filter t fs))) → length (cond d (g ∷ filter t (put_by_number f fs)) (filter t (put_by_number f fs))) ≡ length (cond c (f ∷ cond d (g ∷ filter t fs) (filter t fs)) (cond d (g ∷ filter t fs) (filter t fs)))
    swapped true true e = e
    swapped true false e = e
    swapped false true e = e
    swapped false false e = e

    more : (d : Bool) → length (filter t (put_by_number f fs)) ≡ length (cond (t f) (f ∷ filter t fs) (filter t fs)) → length (cond d (g ∷ filter t (put_by_number f fs)) (filter t (put_by_number f fs))) ≡ length (cond d (g ∷ cond (t f) (f ∷ filter t fs) (filter t fs)) (cond (t f) (f ∷ filter t fs) (filter t fs)))
    more true rest = ap (λ n. suc n) rest
    more false rest = rest

    by : (b : Bool) → length (filter t (put_by_number f fs)) ≡ length (cond (t f) (f ∷ filter t fs) (filter t fs)) → length (filter t (cond b (f ∷ g ∷ fs) (g ∷ put_by_number f fs))) ≡ length (cond (t f) (f ∷ cond (t g) (g ∷ filter t fs) (filter t fs)) (cond (t g) (g ∷ filter t fs) (filter t fs)))
    by true rest = refl
    by false rest = swapped (t f) (t g) (more (t g) rest)

-- the number of facts that pass a test does not depend on their order
pub length_by_number : (t : Fact → Bool) (fs : List Fact) → length (filter t (by_number fs)) ≡ length (filter t fs)
length_by_number t [] = refl
length_by_number t (f ∷ fs) = length_put t f (by_number fs) ∙ by (t f) (length_by_number t fs)
  where
    by : (b : Bool) → length (filter t (by_number fs)) ≡ length (filter t fs) → length (cond b (f ∷ filter t (by_number fs)) (filter t (by_number fs))) ≡ length (cond b (f ∷ filter t fs) (filter t fs))
    by true rest = ap (λ n. suc n) rest
    by false rest = rest

pub filter_both : {X : Type 0} (p q : X → Bool) (xs : List X) → filter (λ x. p x && q x) xs ≡ filter q (filter p xs)
filter_both p q [] = refl
filter_both {X} p q (x ∷ xs) = by (p x) (q x) refl (filter_both p q xs)
  where
    by : (b c : Bool) → q x ≡ c → filter (λ y. p y && q y) xs ≡ filter q (filter p xs) → cond (b && c) (x ∷ filter (λ y. p y && q y) xs) (filter (λ y. p y && q y) xs) ≡ filter q (cond b (x ∷ filter p xs) (filter p xs))
    by false c t rest = rest
    by true true t rest = rw t (ap (λ ys. x ∷ ys) rest)
    by true false t rest = rw t rest

-- a member number counts the givers with lesser numbers
pub number_is : (S : List Fact) (l : Id) (n : ℕ) → member_number S l n ≡ length (filter (λ f. nat_lt f.num n) (givers S l)) + 1
number_is S l n =
    ap (λ (fs : List Fact). length fs + 1) (filter_both (λ (f : Fact). gives_number l f.body) (λ (f : Fact). nat_lt f.num n) S)
    ∙ ap (λ k. k + 1) (sym (length_by_number (λ f. nat_lt f.num n) (filter (λ f. gives_number l f.body) S)))

pub differ_givers : (l : Id) (S : List Fact) → AreOnce S → ((f : Fact) → In f S → gives_number l f.body ≡ true → f.origin ≡ l.home) → Differ (filter (λ f. gives_number l f.body) S)
differ_givers l [] once home = tt
differ_givers l (f ∷ S) once home = by (gives_number l f.body) refl (differ_givers l S once.1 (λ x m. home x (inr m)))
  where
    by : (b : Bool) → gives_number l f.body ≡ b → Differ (filter (λ x. gives_number l x.body) S) → Differ (cond b (f ∷ filter (λ x. gives_number l x.body) S) (filter (λ x. gives_number l x.body) S))
    by true t rest = (
      all_from (λ g. f.num ≡ g.num → ⊥) (filter (λ x. gives_number l x.body) S) (λ g m same.
          let there = filter_in (λ (x : Fact). gives_number l x.body) S g m in
          all_in _ S once.0 g there.0 (home f (inl refl) t ∙ sym (home g (inr there.0) there.1)) same),
      rest,
    )
    by false t rest = rest

-- the givers of an LRA stand in order
pub givers_ascend : (S : List Fact) (l : Id) → IsSeated S → Ascend (givers S l)
givers_ascend S l seated = by_number_ascends (filter (λ f. gives_number l f.body) S) (differ_givers l S seated.once (λ f m e. seated.givers f l m e))

pub none_lesser : (n : ℕ) (fs : List Fact) → AllByRecursion (λ g. n < g.num) fs → filter (λ f. nat_lt f.num n) fs ≡ []
none_lesser n [] h = refl
none_lesser n (f ∷ fs) h = let not_less : nat_lt f.num n ≡ false = grind (arith, nat_tests, h.0) in rw not_less (none_lesser n fs h.1)

pub get_in : {X : Type 0} (xs : List X) (i : ℕ) (x : X) → slice_get xs i ≡ Some x → In x xs
get_in [] i x e = absurd cc
get_in (y ∷ xs) zero x e = inl (let same : y ≡ x = cc in sym same)
get_in (y ∷ xs) (suc i) x e = inr (get_in xs i x e)

pub in_get : {X : Type 0} (xs : List X) (x : X) → In x xs → (i : ℕ) × (slice_get xs i ≡ Some x)
in_get [] x m = absurd m
in_get (y ∷ xs) x (inl s) = (0, ap (λ z. Some z) (sym s))
in_get (y ∷ xs) x (inr m) = let rest = in_get xs x m in (suc rest.0, rest.1)

-- as many facts stand before the one at a place as the place says
pub place_is : (fs : List Fact) (i : ℕ) (f : Fact) → Ascend fs → slice_get fs i ≡ Some f → length (filter (λ g. nat_lt g.num f.num) fs) ≡ i
place_is [] i f h e = absurd cc
place_is (g ∷ fs) zero f h e =
    let same : g ≡ f = cc in
    let not_less : nat_lt g.num f.num ≡ false = ap (λ (x : Fact). nat_lt x.num f.num) same ∙ itself f.num in
    rw not_less (ap (λ (xs : List Fact). length xs) (none_lesser f.num fs (subst (λ (x : Fact). AllByRecursion (λ y. x.num < y.num) fs) same h.0)))
  where
    itself : (n : ℕ) → nat_lt n n ≡ false
    itself n = grind (arith, nat_tests)
place_is (g ∷ fs) (suc i) f h e =
    let less : g.num < f.num = all_in (λ x. g.num < x.num) fs h.0 f (get_in fs i f e) in
    let test : nat_lt g.num f.num ≡ true = grind (arith, nat_tests, less) in
    rw test (ap (λ n. suc n) (place_is fs i f h.1 e))
