-- a list with one more element
use Rattle.std.proofs.Common.{◌≡◌, inl, inr, ◌<◌, ◌+◌, ◌||◌, ℕ, zero, suc, List, [], ◌∷◌, ◌++◌, refl, sym, ap, ◌∙◌, Bool, true, false, cond, arith, None, filter, map, max, length, nat_le, replicate}
use Rattle.std.specs.Prelude.{slice_set}
use Rattle.std.specs.List.{list_any, AllByRecursion}
use Rattle.std.proofs.lemmas.Bool.Decides.{nat_tests}
use Rattle.std.proofs.lemmas.List.{map-append}
use Rattle.state_ids.specs.Ids.{Id}
use Rattle.state_ids.specs.States.{greater}
use Rattle.state_ids.specs.declared.outcome.Act.{Act}
use Rattle.state_facts.specs.declared.fact.Fact.{Fact}
use Rattle.state_facts.specs.Lists.{In, most}
use Rattle.state_facts.specs.Sets.{begins, parent_of, parent_named, heard, reported}
use Rattle.state_forest.specs.Records.{deadline_of, deadline_given, nodes_to, put_by_number, by_number}

pub none_found : {X : Type 0} (t : X → Bool) (xs : List X) → ((x : X) → In x xs → t x ≡ false) → list_any t xs ≡ false
none_found t [] h = refl
none_found t (x ∷ xs) h = let at = h x (inl refl) in rw at (none_found t xs (λ y m. h y (inr m)))

or_swap : (a b c : Bool) → (a || (b || c)) ≡ (b || (a || c))
or_swap true true c = refl
or_swap true false c = refl
or_swap false true c = refl
or_swap false false c = refl

pub any_more : {X : Type 0} (t : X → Bool) (xs ys : List X) (x : X) → list_any t (xs ++ x ∷ ys) ≡ (t x || list_any t (xs ++ ys))
any_more t [] ys x = refl
any_more t (z ∷ xs) ys x = ap (λ b. t z || b) (any_more t xs ys x) ∙ or_swap (t z) (t x) (list_any t (xs ++ ys))

pub most_more : {X : Type 0} (g : X → ℕ) (xs ys : List X) (x : X) → most g (xs ++ x ∷ ys) ≡ max (g x) (most g (xs ++ ys))
most_more g [] ys x = refl
most_more g (z ∷ xs) ys x = omega (arith, most_more g xs ys x)

pub filter_append : {X : Type 0} (t : X → Bool) (xs ys : List X) → filter t (xs ++ ys) ≡ filter t xs ++ filter t ys
filter_append t [] ys = refl
filter_append {X} t (x ∷ xs) ys = by (t x) (filter_append t xs ys)
  where
    by : (b : Bool) → filter t (xs ++ ys) ≡ filter t xs ++ filter t ys → cond b (x ∷ filter t (xs ++ ys)) (filter t (xs ++ ys)) ≡ cond b (x ∷ filter t xs) (filter t xs) ++ filter t ys
    by true rest = ap (λ zs. x ∷ zs) rest
    by false rest = rest

-- an element that fails the test is left out
pub filter_same : {X : Type 0} (t : X → Bool) (xs ys : List X) (x : X) → t x ≡ false → filter t (xs ++ x ∷ ys) ≡ filter t (xs ++ ys)
filter_same t xs ys x e = filter_append t xs (x ∷ ys) ∙ rw e (sym (filter_append t xs ys))

-- an element that passes the test stands between the others that do
pub filter_more : {X : Type 0} (t : X → Bool) (xs ys : List X) (x : X) → t x ≡ true → filter t (xs ++ x ∷ ys) ≡ filter t xs ++ x ∷ filter t ys
filter_more t xs ys x e = filter_append t xs (x ∷ ys) ∙ rw e refl

pub filter_none : {X : Type 0} (t : X → Bool) (xs : List X) → ((x : X) → In x xs → t x ≡ false) → filter t xs ≡ []
filter_none t [] h = refl
filter_none t (x ∷ xs) h = let at = h x (inl refl) in rw at (filter_none t xs (λ y m. h y (inr m)))

pub filter_all : {X : Type 0} (t : X → Bool) (xs : List X) → ((x : X) → In x xs → t x ≡ true) → filter t xs ≡ xs
filter_all t [] h = refl
filter_all t (x ∷ xs) h = let at = h x (inl refl) in rw at (ap (λ zs. x ∷ zs) (filter_all t xs (λ y m. h y (inr m))))

pub length_last : {X : Type 0} (xs : List X) (x : X) → length (xs ++ x ∷ []) ≡ length xs + 1
length_last [] x = omega arith
length_last (y ∷ ys) x = omega (arith, length_last ys x)

pub map_last : {X Y : Type 0} (g : X → Y) (xs : List X) (x : X) → map g (xs ++ x ∷ []) ≡ map g xs ++ g x ∷ []
map_last g xs x = map-append g xs (x ∷ [])

-- functions that agree on each element map a list to the same
pub map_agree : {X Y : Type 0} (g h : X → Y) (xs : List X) → ((x : X) → In x xs → g x ≡ h x) → map g xs ≡ map h xs
map_agree g h [] e = refl
map_agree g h (x ∷ xs) e = let at = e x (inl refl) in let rest = map_agree g h xs (λ y m. e y (inr m)) in cc

-- Facts in order of their numbers

put_last : (f : Fact) (fs : List Fact) → AllByRecursion (λ g. g.num < f.num) fs → put_by_number f fs ≡ fs ++ f ∷ []
put_last f [] h = refl
put_last f (g ∷ fs) h = let greater : nat_le f.num g.num ≡ false = grind (arith, nat_tests, h.0) in rw greater (ap (λ xs. g ∷ xs) (put_last f fs h.1))

put_before : (f g : Fact) (fs : List Fact) → g.num < f.num → put_by_number g (fs ++ f ∷ []) ≡ put_by_number g fs ++ f ∷ []
put_before f g [] h = let less : nat_le g.num f.num ≡ true = grind (arith, nat_tests, h) in rw less refl
put_before f g (x ∷ fs) h = by (nat_le g.num x.num) (put_before f g fs h)
  where
    by : (b : Bool) → put_by_number g (fs ++ f ∷ []) ≡ put_by_number g fs ++ f ∷ [] → cond b (g ∷ x ∷ (fs ++ f ∷ [])) (x ∷ put_by_number g (fs ++ f ∷ [])) ≡ cond b (g ∷ x ∷ fs) (x ∷ put_by_number g fs) ++ f ∷ []
    by true rest = refl
    by false rest = ap (λ xs. x ∷ xs) rest

all_put : (P : Fact → Type 0) (f : Fact) (fs : List Fact) → P f → AllByRecursion P fs → AllByRecursion P (put_by_number f fs)
all_put P f [] at h = (at, tt)
all_put P f (g ∷ fs) at h = by (nat_le f.num g.num) (all_put P f fs at h.1)
  where
    by : (b : Bool) → AllByRecursion P (put_by_number f fs) → AllByRecursion P (cond b (f ∷ g ∷ fs) (g ∷ put_by_number f fs))
    by true rest = (at, (h.0, h.1))
    by false rest = (h.0, rest)

all_by_number : (P : Fact → Type 0) (fs : List Fact) → AllByRecursion P fs → AllByRecursion P (by_number fs)
all_by_number P [] h = tt
all_by_number P (f ∷ fs) h = all_put P f (by_number fs) h.0 (all_by_number P fs h.1)

-- a fact with a greater number than all others comes last
pub by_number_last : (xs ys : List Fact) (f : Fact) → AllByRecursion (λ g. g.num < f.num) (xs ++ ys) → by_number (xs ++ f ∷ ys) ≡ by_number (xs ++ ys) ++ f ∷ []
by_number_last [] ys f h = put_last f (by_number ys) (all_by_number (λ g. g.num < f.num) ys h)
by_number_last (x ∷ xs) ys f h = ap (put_by_number x) (by_number_last xs ys f h.1) ∙ put_before f x (by_number (xs ++ ys)) h.0

-- What is looked for in a list of facts

pub parent_same : (xs ys : List Fact) (f : Fact) (l : Id) → begins l f ≡ false → parent_of (xs ++ f ∷ ys) l ≡ parent_of (xs ++ ys) l
parent_same [] ys f l e = rw e refl
parent_same (g ∷ xs) ys f l e = ap (λ r. cond (begins l g) (parent_named g.body) r) (parent_same xs ys f l e)

pub deadline_same : (xs ys : List Fact) (f : Fact) (l : Id) → begins l f ≡ false → deadline_of (xs ++ f ∷ ys) l ≡ deadline_of (xs ++ ys) l
deadline_same [] ys f l e = rw e refl
deadline_same (g ∷ xs) ys f l e = ap (λ r. cond (begins l g) (deadline_given g.body) r) (deadline_same xs ys f l e)

pub parent_first : (xs ys : List Fact) (f : Fact) (l : Id) → ((g : Fact) → In g xs → begins l g ≡ false) → begins l f ≡ true → parent_of (xs ++ f ∷ ys) l ≡ parent_named f.body
parent_first [] ys f l h e = rw e refl
parent_first (x ∷ xs) ys f l h e = let at = h x (inl refl) in rw at (parent_first xs ys f l (λ g k. h g (inr k)) e)

pub deadline_first : (xs ys : List Fact) (f : Fact) (l : Id) → ((g : Fact) → In g xs → begins l g ≡ false) → begins l f ≡ true → deadline_of (xs ++ f ∷ ys) l ≡ deadline_given f.body
deadline_first [] ys f l h e = rw e refl
deadline_first (x ∷ xs) ys f l h e = let at = h x (inl refl) in rw at (deadline_first xs ys f l (λ g k. h g (inr k)) e)

pub heard_same : (xs ys : List Fact) (f : Fact) (l : Id) (m : ℕ) (a : Act) → reported l m a f.body ≡ None → heard (xs ++ f ∷ ys) l m a ≡ heard (xs ++ ys) l m a
heard_same [] ys f l m a e = rw e refl
heard_same (g ∷ xs) ys f l m a e = ap (greater (reported l m a g.body)) (heard_same xs ys f l m a e)

-- Numbers given to the nodes

length_nodes : (g : ℕ → ℕ) (n : ℕ) → length (map g (nodes_to n)) ≡ n
length_nodes g zero = refl
length_nodes g (suc n) = omega (arith, ap (λ (xs : List ℕ). length xs) (map_last g (nodes_to n) (suc n)), length_last (map g (nodes_to n)) (g (suc n)), length_nodes g n)

replicate_last : {X : Type 0} (n : ℕ) (x : X) → replicate n x ++ x ∷ [] ≡ replicate (suc n) x
replicate_last zero x = refl
replicate_last (suc n) x = ap (λ xs. x ∷ xs) (replicate_last n x)

-- if every node is given 0, the list is all zeros
pub zero_at_nodes : (g : ℕ → ℕ) (n : ℕ) → ((k : ℕ) → g k ≡ 0) → map g (nodes_to n) ≡ replicate n 0
zero_at_nodes g zero none = refl
zero_at_nodes g (suc n) none =
    map_last g (nodes_to n) (suc n)
    ∙ ap (λ xs. xs ++ g (suc n) ∷ []) (zero_at_nodes g n none)
    ∙ ap (λ k. replicate n 0 ++ k ∷ []) (none (suc n))
    ∙ replicate_last n 0

set_last : (xs : List ℕ) (a b v i : ℕ) → (length xs ≡ i → b ≡ v) → ((length xs ≡ i → ⊥) → b ≡ a) → slice_set (xs ++ a ∷ []) i v ≡ slice_set xs i v ++ b ∷ []
set_last [] a b v zero here there = ap (λ c. c ∷ []) (sym (here refl))
set_last [] a b v (suc i) here there = ap (λ c. c ∷ []) (sym (there (λ e. absurd (omega arith))))
set_last (x ∷ xs) a b v zero here there = ap (λ c. v ∷ (xs ++ c ∷ [])) (sym (there (λ e. absurd (omega arith))))
set_last (x ∷ xs) a b v (suc i) here there = ap (λ r. x ∷ r) (set_last xs a b v i (λ e. here (ap suc e)) (λ n. there (λ e. n (omega (arith, e)))))

-- if what one node is given changes, the list changes at its place
pub set_at_node : (g h : ℕ → ℕ) (i v n : ℕ) → h (suc i) ≡ v → ((k : ℕ) → (k ≡ suc i → ⊥) → h k ≡ g k) → map h (nodes_to n) ≡ slice_set (map g (nodes_to n)) i v
set_at_node g h i v zero e others = refl
set_at_node g h i v (suc n) e others =
    map_last h (nodes_to n) (suc n)
    ∙ ap (λ r. r ++ h (suc n) ∷ []) (set_at_node g h i v n e others)
    ∙ sym (set_last (map g (nodes_to n)) (g (suc n)) (h (suc n)) v i
    (λ same. ap (λ k. h (suc k)) (sym (length_nodes g n) ∙ same) ∙ e)
    (λ other. others (suc n) (λ same. other (omega (arith, length_nodes g n, same)))))
    ∙ ap (λ r. slice_set r i v) (sym (map_last g (nodes_to n) (suc n)))
