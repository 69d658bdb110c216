-- the members and stamps of a record are those of its facts
use Rattle.std.proofs.Common.{◌≡◌, ◌≤◌, ◌<◌, ◌+◌, ◌-◌, ◌&&◌, ◌==◌, ◌∷◌, ◌++◌, inl, inr, ℕ, zero, suc, List, [], refl, sym, ap, ◌∙◌, Bool, true, false, cond, arith, Option, Some, None, find, filter, map, length, nat_lt, option_and_then, replicate, length-append, ◌^◌}
use Rattle.std.proofs.lemmas.List.{map-append, length-replicate}
use Rattle.std.specs.Prelude.{slice_set}
use Rattle.std.specs.List.{AllByRecursion}
use Rattle.std.proofs.lemmas.Bool.Decides.{nat_tests}
use Rattle.state_ids.specs.Ids.{Id}
use Rattle.state_facts.specs.declared.fact.Fact.{Fact}
use Rattle.state_facts.specs.Sets.{gives_number, member_number, IsNumbered}
use Rattle.state_ids.specs.declared.outcome.Verdict.{Verdict}
use Rattle.state_forest.specs.declared.record.Place.{Place}
use Rattle.state_forest.specs.declared.record.Member.{Member}
use Rattle.state_forest.specs.declared.record.Record.{Record}
use Rattle.state_facts.specs.Lists.{In}
use Rattle.state_forest.specs.Gathering.{lesser_number, number_above, least_above, giver_at, next_giver, IsRecordable}
use Rattle.state_forest.specs.Records.{givers, member_by, members_of, nodes_to}
use Rattle.state_forest.proofs.Bools.{all_in, and_left, and_right}
use Rattle.state_forest.proofs.GiversOfNumbers.{Ascend, in_givers, giver_in, differ_givers, by_number_ascends, all_by_number, number_is}

number_none : (n : ℕ) (l : Id) (f : Fact) → number_above n l f ≡ None → gives_number l f.body ≡ true → nat_lt n f.num ≡ true → ⊥
number_none n l f none gives above = absurd (let some : number_above n l f ≡ Some f.num = rw (gives, above) refl in cc)

number_some : (n : ℕ) (l : Id) (f : Fact) (a : ℕ) → number_above n l f ≡ Some a → (gives_number l f.body ≡ true) × (nat_lt n f.num ≡ true) × (a ≡ f.num)
number_some n l f a e = by (gives_number l f.body) (nat_lt n f.num) refl refl e
  where
    by : (b c : Bool) → gives_number l f.body ≡ b → nat_lt n f.num ≡ c → cond (b && c) (Some f.num) None ≡ Some a → (gives_number l f.body ≡ true) × (nat_lt n f.num ≡ true) × (a ≡ f.num)
    by true true s t e = (s, t, cc)
    by true false s t e = absurd cc
    by false c s t e = absurd cc

-- k is the least number above n of the facts that give a number
record IsLeast (n : ℕ) (l : Id) (S : List Fact) (k : ℕ) : Type 0 where
  pub fact : Fact
  pub inside : In fact S
  pub gives : gives_number l fact.body ≡ true
  pub above : nat_lt n fact.num ≡ true
  pub number : k ≡ fact.num
  pub least : (g : Fact) → In g S → gives_number l g.body ≡ true → nat_lt n g.num ≡ true → k ≤ g.num

-- what the answer for the least number above n means
abbrev Says : ℕ → Id → List Fact → Option ℕ → Type 0
Says n l S None = (f : Fact) → In f S → gives_number l f.body ≡ true → nat_lt n f.num ≡ true → ⊥
Says n l S (Some k) = IsLeast n l S k

says_more : (n : ℕ) (l : Id) (g : Fact) (S : List Fact) (o p : Option ℕ) → number_above n l g ≡ o → Says n l S p → Says n l (g ∷ S) (lesser_number o p)
says_more n l g S None None at rest = λ f i gives above. none f i gives above
  where
    none : (f : Fact) → In f (g ∷ S) → gives_number l f.body ≡ true → nat_lt n f.num ≡ true → ⊥
    none f (inl same) gives above = number_none n l g at (ap (λ (x : Fact). gives_number l x.body) (sym same) ∙ gives) (ap (λ (x : Fact). nat_lt n x.num) (sym same) ∙ above)
    none f (inr i) gives above = rest f i gives above
says_more n l g S None (Some b) at rest =
    record {
      fact = rest.fact;
      inside = inr rest.inside;
      gives = rest.gives;
      above = rest.above;
      number = rest.number;
      least = λ f i gives above. least f i gives above;
    }
  where
    least : (f : Fact) → In f (g ∷ S) → gives_number l f.body ≡ true → nat_lt n f.num ≡ true → b ≤ f.num
    least f (inl same) gives above = absurd (number_none n l g at (ap (λ (x : Fact). gives_number l x.body) (sym same) ∙ gives) (ap (λ (x : Fact). nat_lt n x.num) (sym same) ∙ above))
    least f (inr i) gives above = rest.least f i gives above
says_more n l g S (Some a) None at rest =
    let here = number_some n l g a at in
    record { fact = g; inside = inl refl; gives = here.0; above = here.1; number = here.2; least = λ f i gives above. least here.2 f i gives above }
  where
    least : a ≡ g.num → (f : Fact) → In f (g ∷ S) → gives_number l f.body ≡ true → nat_lt n f.num ≡ true → a ≤ f.num
    least own f (inl same) gives above = omega (arith, own, ap (λ (x : Fact). x.num) same)
    least own f (inr i) gives above = absurd (rest f i gives above)
says_more n l g S (Some a) (Some b) at rest = by (nat_lt b a) refl
  where
    here : (gives_number l g.body ≡ true) × (nat_lt n g.num ≡ true) × (a ≡ g.num)
    here = number_some n l g a at

    least : (k : ℕ) → k ≤ a → k ≤ b → (f : Fact) → In f (g ∷ S) → gives_number l f.body ≡ true → nat_lt n f.num ≡ true → k ≤ f.num
    least k under_a under_b f (inl same) gives above = omega (arith, here.2, under_a, ap (λ (x : Fact). x.num) same)
    least k under_a under_b f (inr i) gives above = omega (arith, under_b, rest.least f i gives above)

    by : (c : Bool) → nat_lt b a ≡ c → Says n l (g ∷ S) (cond c (Some b) (Some a))
    by true t =
        let less : b ≤ a = grind (arith, nat_tests, t) in
        record { fact = rest.fact; inside = inr rest.inside; gives = rest.gives; above = rest.above; number = rest.number; least = least b less (omega arith) }
    by false t =
        let less : a ≤ b = grind (arith, nat_tests, t) in
        record { fact = g; inside = inl refl; gives = here.0; above = here.1; number = here.2; least = least a (omega arith) less }

least_says : (n : ℕ) (l : Id) (S : List Fact) → Says n l S (least_above n l S)
least_says n l [] = λ f i gives above. i
least_says n l (g ∷ S) = says_more n l g S (number_above n l g) (least_above n l S) refl (least_says n l S)

pub find_in : {X : Type 0} (p : X → Bool) (xs : List X) (x : X) → find p xs ≡ Some x → In x xs × (p x ≡ true)
find_in p [] x e = absurd cc
find_in p (y ∷ xs) x e = by (find_in p xs x) (p y) refl e
  where
    by : (find p xs ≡ Some x → In x xs × (p x ≡ true)) → (b : Bool) → p y ≡ b → cond b (Some y) (find p xs) ≡ Some x → In x (y ∷ xs) × (p x ≡ true)
    by rest true t e = let same : y ≡ x = cc in (inl (sym same), sym (ap p same) ∙ t)
    by rest false t e = let found = rest e in (inr found.0, found.1)

find_misses : {X : Type 0} (p : X → Bool) (xs : List X) (x : X) → In x xs → p x ≡ true → find p xs ≡ None → ⊥
find_misses p [] x i e none = i
find_misses p (y ∷ xs) x i e none = by (find_misses p xs x) (p y) refl i none
  where
    by : (In x xs → p x ≡ true → find p xs ≡ None → ⊥) → (b : Bool) → p y ≡ b → In x (y ∷ xs) → cond b (Some y) (find p xs) ≡ None → ⊥
    by rest true t i none = cc
    by rest false t (inl same) none = absurd (let wrong : p y ≡ true = ap p (sym same) ∙ e in cc)
    by rest false t (inr i) none = rest i e none

all_above : (n : ℕ) (fs : List Fact) → AllByRecursion (λ x. n < x.num) fs → filter (λ x. nat_lt n x.num) fs ≡ fs
all_above n [] h = refl
all_above n (f ∷ fs) h = let above : nat_lt n f.num ≡ true = grind (arith, nat_tests, h.0) in rw above (ap (λ xs. f ∷ xs) (all_above n fs h.1))

further : (n m : ℕ) (fs : List Fact) → n ≤ m → AllByRecursion (λ x. m < x.num) fs → AllByRecursion (λ x. n < x.num) fs
further n m [] e h = tt
further n m (f ∷ fs) e h = (omega (arith, e, h.0), further n m fs e h.1)

-- of facts in order, the one with the least number above n comes next
next_filter : (n : ℕ) (fs : List Fact) (f : Fact) → Ascend fs → In f fs → n < f.num → ((g : Fact) → In g fs → nat_lt n g.num ≡ true → f.num ≤ g.num) → filter (λ x. nat_lt n x.num) fs ≡ f ∷ filter (λ x. nat_lt f.num x.num) fs
next_filter n [] f h i above least = absurd i
next_filter n (g ∷ fs) f h i above least = by (λ j. next_filter n fs f h.1 j above (λ x k. least x (inr k))) (nat_lt n g.num) refl i
  where
    by : (In f fs → filter (λ x. nat_lt n x.num) fs ≡ f ∷ filter (λ x. nat_lt f.num x.num) fs) → (b : Bool) → nat_lt n g.num ≡ b → In f (g ∷ fs) → cond b (g ∷ filter (λ x. nat_lt n x.num) fs) (filter (λ x. nat_lt n x.num) fs) ≡ f ∷ filter (λ x. nat_lt f.num x.num) (g ∷ fs)
    by rest true t (inl same) =
        let number : f.num ≡ g.num = ap (λ (x : Fact). x.num) same in
        let not_less : nat_lt f.num g.num ≡ false = grind (arith, nat_tests, number) in
        let beyond : AllByRecursion (λ (x : Fact). f.num < x.num) fs = further f.num g.num fs (omega (arith, number)) h.0 in
        rw not_less (ap (λ (x : Fact). x ∷ filter (λ y. nat_lt n y.num) fs) (sym same) ∙ ap (λ xs. f ∷ xs) (all_above n fs (further n f.num fs (omega (arith, above)) beyond) ∙ sym (all_above f.num fs beyond)))
    by rest true t (inr j) = absurd (omega (arith, least g (inl refl) t, all_in _ fs h.0 f j))
    by rest false t (inl same) = absurd (let number : f.num ≡ g.num = ap (λ (x : Fact). x.num) same in grind (arith, nat_tests, t, number, above))
    by rest false t (inr j) =
        let not_less : nat_lt f.num g.num ≡ false = grind (arith, nat_tests, t, above) in
        rw not_less (rest j)

none_filter : (n : ℕ) (fs : List Fact) → ((g : Fact) → In g fs → nat_lt n g.num ≡ true → ⊥) → filter (λ x. nat_lt n x.num) fs ≡ []
none_filter n [] h = refl
none_filter n (f ∷ fs) h = by (nat_lt n f.num) refl (none_filter n fs (λ g i. h g (inr i)))
  where
    by : (b : Bool) → nat_lt n f.num ≡ b → filter (λ x. nat_lt n x.num) fs ≡ [] → cond b (f ∷ filter (λ x. nat_lt n x.num) fs) (filter (λ x. nat_lt n x.num) fs) ≡ []
    by true t rest = absurd (h f (inl refl) t)
    by false t rest = rest

pub givers_in_order : (S : List Fact) (l : Id) → IsRecordable S → Ascend (givers S l)
givers_in_order S l kept = by_number_ascends (filter (λ f. gives_number l f.body) S) (differ_givers l S kept.once (λ f i e. kept.givers f l i e))

same_number : (a b : ℕ) → a ≡ b → (b == a) ≡ true
same_number a b e = grind (arith, nat_tests, e)

equal_number : (a b : ℕ) → (a == b) ≡ true → a ≡ b
equal_number a b e = grind (arith, nat_tests, e)

-- the fact that was found is the next giver
pub next_some : (n : ℕ) (l : Id) (S : List Fact) (f : Fact) → Ascend (givers S l) → next_giver n l S ≡ Some f → filter (λ x. nat_lt n x.num) (givers S l) ≡ f ∷ filter (λ x. nat_lt f.num x.num) (givers S l)
next_some n l S f order e = by (least_above n l S) (least_says n l S) e
  where
    by : (o : Option ℕ) → Says n l S o → option_and_then (giver_at l S) o ≡ Some f → filter (λ x. nat_lt n x.num) (givers S l) ≡ f ∷ filter (λ x. nat_lt f.num x.num) (givers S l)
    by None says e = absurd cc
    by (Some k) says e =
        let found = find_in (λ (x : Fact). gives_number l x.body && (x.num == k)) S f e in
        let gives = and_left (gives_number l f.body) _ found.1 in
        let number : f.num ≡ k = equal_number f.num k (and_right (gives_number l f.body) _ found.1) in
        let above : n < f.num = grind (arith, nat_tests, says.above, says.number, number) in
        next_filter n (givers S l) f order (in_givers S l f found.0 gives) above (λ g i t.
        let inside = giver_in S l g i in
        omega (arith, number, says.least g inside.0 inside.1 t))

-- and if none is found, there are no more givers above n
pub next_none : (n : ℕ) (l : Id) (S : List Fact) → next_giver n l S ≡ None → filter (λ x. nat_lt n x.num) (givers S l) ≡ []
next_none n l S e = by (least_above n l S) (least_says n l S) e
  where
    by : (o : Option ℕ) → Says n l S o → option_and_then (giver_at l S) o ≡ None → filter (λ x. nat_lt n x.num) (givers S l) ≡ []
    by None says e = none_filter n (givers S l) (λ g i t. let inside = giver_in S l g i in says g inside.0 inside.1 t)
    by (Some k) says e =
        absurd (find_misses (λ (x : Fact). gives_number l x.body && (x.num == k)) S says.fact says.inside (rw says.gives (same_number k says.fact.num says.number)) e)

-- all givers have numbers above 0
numbers_above : (S : List Fact) → AllByRecursion IsNumbered S → AllByRecursion (λ x. 0 < x.num) S
numbers_above [] h = tt
numbers_above (f ∷ S) h = (h.0.0, numbers_above S h.1)

kept_all : (P : Fact → Type 0) (t : Fact → Bool) (S : List Fact) → AllByRecursion P S → AllByRecursion P (filter t S)
kept_all P t [] h = tt
kept_all P t (f ∷ S) h = by (t f) (kept_all P t S h.1)
  where
    by : (b : Bool) → AllByRecursion P (filter t S) → AllByRecursion P (cond b (f ∷ filter t S) (filter t S))
    by true rest = (h.0, rest)
    by false rest = rest

pub givers_from_zero : (l : Id) (S : List Fact) → AllByRecursion IsNumbered S → filter (λ x. nat_lt 0 x.num) (givers S l) ≡ givers S l
givers_from_zero l S h = all_above 0 (givers S l) (all_by_number (λ x. 0 < x.num) _ (kept_all (λ x. 0 < x.num) (λ x. gives_number l x.body) S (numbers_above S h)))

append_none : {X : Type 0} (xs : List X) → xs ++ [] ≡ xs
append_none [] = refl
append_none (x ∷ xs) = ap (λ ys. x ∷ ys) (append_none xs)

append_one : {X : Type 0} (xs ys : List X) (x : X) → (xs ++ x ∷ []) ++ ys ≡ xs ++ x ∷ ys
append_one [] ys x = refl
append_one (y ∷ xs) ys x = ap (λ zs. y ∷ zs) (append_one xs ys x)

-- one more member is made of the next giver
pub members_step : (S : List Fact) (l : Id) (n : ℕ) (f : Fact) (ms new : List Member) (made : Member) → IsRecordable S → next_giver n l S ≡ Some f → made ≡ member_by S l f.num f.body → new ≡ ms ++ made ∷ [] → ms ++ map (λ g. member_by S l g.num g.body) (filter (λ x. nat_lt n x.num) (givers S l)) ≡ members_of S l → new ++ map (λ g. member_by S l g.num g.body) (filter (λ x. nat_lt f.num x.num) (givers S l)) ≡ members_of S l
members_step S l n f ms new made kept next is pushed rest =
    let show : Fact → Member = λ g. member_by S l g.num g.body in
    let more : List Member = map show (filter (λ x. nat_lt f.num x.num) (givers S l)) in
    let first : map show (filter (λ x. nat_lt n x.num) (givers S l)) ≡ show f ∷ more = ap (map show) (next_some n l S f (givers_in_order S l kept) next) in
    ap (λ (xs : List Member). xs ++ more) pushed
    ∙ append_one ms more made
    ∙ ap (λ (m : Member). ms ++ m ∷ more) is
    ∙ ap (λ (xs : List Member). ms ++ xs) (sym first)
    ∙ rest

-- if there is no next giver, the members are complete
pub members_done : (S : List Fact) (l : Id) (n : ℕ) (ms : List Member) → next_giver n l S ≡ None → ms ++ map (λ g. member_by S l g.num g.body) (filter (λ x. nat_lt n x.num) (givers S l)) ≡ members_of S l → ms ≡ members_of S l
members_done S l n ms none rest =
    sym (append_none ms) ∙ ap (λ (fs : List Fact). ms ++ map (λ g. member_by S l g.num g.body) fs) (sym (next_none n l S none)) ∙ rest

pub members_start : (S : List Fact) (l : Id) (ms : List Member) → AllByRecursion IsNumbered S → ms ≡ [] → ms ++ map (λ g. member_by S l g.num g.body) (filter (λ x. nat_lt 0 x.num) (givers S l)) ≡ members_of S l
members_start S l ms numbers empty =
    ap (λ (xs : List Member). xs ++ map (λ g. member_by S l g.num g.body) (filter (λ x. nat_lt 0 x.num) (givers S l))) empty
    ∙ ap (map (λ (g : Fact). member_by S l g.num g.body)) (givers_from_zero l S numbers)

-- Stamps

last_node : (g : ℕ → ℕ) (n : ℕ) → map g (nodes_to (suc n)) ≡ map g (nodes_to n) ++ g (suc n) ∷ []
last_node g n = map-append g (nodes_to n) (suc n ∷ [])

length_nodes : (g : ℕ → ℕ) (n : ℕ) → length (map g (nodes_to n)) ≡ n
length_nodes g zero = refl
length_nodes g (suc n) = omega (arith, ap (λ (xs : List ℕ). length xs) (last_node g n), length-append (map g (nodes_to n)) (g (suc n) ∷ []), length_nodes g n)

set_after : (xs ys : List ℕ) (y v : ℕ) → slice_set (xs ++ y ∷ ys) (length xs) v ≡ xs ++ v ∷ ys
set_after [] ys y v = refl
set_after (x ∷ xs) ys y v = ap (λ zs. x ∷ zs) (set_after xs ys y v)

-- the counts of the first i nodes, followed by zeros
abbrev pub first_nodes : (ℕ → ℕ) → ℕ → ℕ → List ℕ
first_nodes g n i = map g (nodes_to i) ++ replicate (n - i) 0

pub nodes_length : (g : ℕ → ℕ) (n i : ℕ) → i ≤ n → length (first_nodes g n i) ≡ n
nodes_length g n i h = omega (arith, length-append (map g (nodes_to i)) (replicate (n - i) 0), length_nodes g i, length-replicate {A = ℕ} (n - i) 0)

pub nodes_step : (g : ℕ → ℕ) (n i node v : ℕ) (old new : List ℕ) → i < n → node ≡ i + 1 → v ≡ g node → old ≡ first_nodes g n i → new ≡ slice_set old (node - 1) v → new ≡ first_nodes g n (i + 1)
nodes_step g n i node v old new h at counts was is =
    let rest : n - i ≡ suc (n - (i + 1)) = omega (arith, h) in
    let place : node - 1 ≡ i = omega (arith, at) in
    let next : node ≡ suc i = omega (arith, at) in
    let laid : old ≡ map g (nodes_to i) ++ 0 ∷ replicate (n - (i + 1)) 0 = was ∙ ap (λ (k : ℕ). map g (nodes_to i) ++ replicate k 0) rest in
    let done : first_nodes g n (suc i) ≡ map g (nodes_to i) ++ g (suc i) ∷ replicate (n - suc i) 0 =
    ap (λ (xs : List ℕ). xs ++ replicate (n - suc i) 0) (last_node g i) ∙ append_one (map g (nodes_to i)) (replicate (n - suc i) 0) (g (suc i)) in
    let one_more : i + 1 ≡ suc i = omega arith in
    is
    ∙ ap (λ (xs : List ℕ). slice_set xs (node - 1) v) laid
    ∙ ap (λ (k : ℕ). slice_set (map g (nodes_to i) ++ 0 ∷ replicate (n - (i + 1)) 0) k v) (place ∙ sym (length_nodes g i))
    ∙ set_after (map g (nodes_to i)) (replicate (n - (i + 1)) 0) 0 v
    ∙ ap (λ (w : ℕ). map g (nodes_to i) ++ w ∷ replicate (n - (i + 1)) 0) (counts ∙ ap g next)
    ∙ ap (λ (k : ℕ). map g (nodes_to i) ++ g (suc i) ∷ replicate (n - k) 0) one_more
    ∙ sym done
    ∙ ap (first_nodes g n) (sym one_more)

-- Numbers of members

filter_shorter : {X : Type 0} (t : X → Bool) (xs : List X) → length (filter t xs) ≤ length xs
filter_shorter t [] = omega arith
filter_shorter {X} t (x ∷ xs) = by (t x) (filter_shorter t xs)
  where
    by : (b : Bool) → length (filter t xs) ≤ length xs → length (cond b (x ∷ filter t xs) (filter t xs)) ≤ length (x ∷ xs)
    by true rest = omega (arith, rest)
    by false rest = omega (arith, rest)

-- a member number fits a byte
pub number_fits : (S : List Fact) (l : Id) (n : ℕ) → IsRecordable S → member_number S l n < 2 ^ 8
number_fits S l n kept =
    let few = kept.few l in
    omega (arith, number_is S l n, filter_shorter (λ (f : Fact). nat_lt f.num n) (givers S l), few)

pub same_record : (a b : Record) → a.home ≡ b.home → a.num ≡ b.num → a.parent ≡ b.parent → a.deadline ≡ b.deadline → a.decision ≡ b.decision → a.stamps ≡ b.stamps → a.members ≡ b.members → a ≡ b
same_record a b home num parent deadline decision stamps members =
    let step : (x : ℕ) → x ≡ b.home → (y : ℕ) → y ≡ b.num → (p : Option Place) → p ≡ b.parent → (d : ℕ) → d ≡ b.deadline → ◌≡◌ {A = Record} (record { home = x; num = y; parent = p; deadline = d; decision = a.decision; stamps = a.stamps; members = a.members }) (record { home = b.home; num = b.num; parent = b.parent; deadline = b.deadline; decision = a.decision; stamps = a.stamps; members = a.members }) =
    λ x ex y ey p ep d ed.
    ap (λ (z : ℕ). record { home = z; num = y; parent = p; deadline = d; decision = a.decision; stamps = a.stamps; members = a.members }) ex
    ∙ ap (λ (z : ℕ). record { home = b.home; num = z; parent = p; deadline = d; decision = a.decision; stamps = a.stamps; members = a.members }) ey
    ∙ ap (λ (z : Option Place). record { home = b.home; num = b.num; parent = z; deadline = d; decision = a.decision; stamps = a.stamps; members = a.members }) ep
    ∙ ap (λ (z : ℕ). record { home = b.home; num = b.num; parent = b.parent; deadline = z; decision = a.decision; stamps = a.stamps; members = a.members }) ed in
    step a.home home a.num num a.parent parent a.deadline deadline
    ∙ ap (λ (z : Option Verdict). record { home = b.home; num = b.num; parent = b.parent; deadline = b.deadline; decision = z; stamps = a.stamps; members = a.members }) decision
    ∙ ap (λ (z : List ℕ). record { home = b.home; num = b.num; parent = b.parent; deadline = b.deadline; decision = b.decision; stamps = z; members = a.members }) stamps
    ∙ ap (λ (z : List Member). record { home = b.home; num = b.num; parent = b.parent; deadline = b.deadline; decision = b.decision; stamps = b.stamps; members = z }) members
