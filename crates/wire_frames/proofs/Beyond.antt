-- which facts and stamps are beyond a base
use Rattle.std.proofs.Common.{◌≡◌, inl, inr, ◌≤◌, ◌<◌, ◌-◌, ◌==◌, ◌&&◌, ℕ, zero, suc, List, [], ◌∷◌, refl, sym, ap, ◌∙◌, Bool, true, false, cond, not, arith, length, map, nat_lt, slice_index}
use Rattle.std.proofs.lemmas.Bool.Decides.{nat_tests}
use Rattle.std.proofs.lemmas.List.{get_or_past, length-map}
use Rattle.state_ids.specs.Ids.{Id}
use Rattle.state_ids.specs.Fronts.{IsBelow, count}
use Rattle.state_facts.specs.declared.fact.Fact.{Fact}
use Rattle.state_facts.specs.Lists.{In}
use Rattle.state_facts.proofs.Membership.{any_from, any_gives, in_append, most_least}
use Rattle.state_forest.specs.Records.{is_about, nodes_to, stamp}
use Rattle.state_forest.proofs.Bools.{and_left, and_right}
use Rattle.theory_history.specs.Histories.{is_counted}
use Rattle.theory_history.specs.Views.{IsCounted}
use Rattle.theory_history.proofs.Basics.{at_most, both_true, false_from, in_left, in_right, length_nodes, less_by}
use Rattle.theory_history.proofs.MergedRecords.{count_nodes}
use Rattle.theory_history.proofs.TwoClosedSets.{stamp_reaches}
use Rattle.wire_frames.specs.Frames.{has_news, is_beyond}

-- The nodes

pub in_nodes : (n k : ℕ) → 1 ≤ k → k ≤ n → In k (nodes_to n)
in_nodes zero k a b = absurd (omega (arith, a, b))
in_nodes (suc n) k a b = elim (at_most k n) [
  | inl e ↦ in_left (nodes_to n) (suc n ∷ []) k (in_nodes n k a e)
  | inr e ↦ let same : k ≡ suc n = omega (arith, b, e) in in_right (nodes_to n) (suc n ∷ []) k (inl same)
]

last_node : (n k : ℕ) → In k (suc n ∷ []) → (1 ≤ k) × (k ≤ suc n)
last_node n k (inl e) = (omega (arith, e), omega (arith, e))
last_node n k (inr e) = absurd e

pub nodes_in : (n k : ℕ) → In k (nodes_to n) → (1 ≤ k) × (k ≤ n)
nodes_in zero k m = absurd m
nodes_in (suc n) k m = elim (in_append (nodes_to n) (suc n ∷ []) k m) [
  | inl e ↦ let rest = nodes_in n k e in (rest.0, omega (arith, rest.1))
  | inr e ↦ last_node n k e
]

pub less_from : (a b : ℕ) → a < b → nat_lt a b ≡ true
less_from a b e = grind (arith, nat_tests)

pub not_less : (a b : ℕ) → nat_lt a b ≡ false → b ≤ a
not_less a b e = grind (arith, nat_tests)

-- two tests are equal if they are true together and false together
pub bool_is : (a b : Bool) → (a ≡ true → b ≡ true) → (a ≡ false → b ≡ false) → a ≡ b
bool_is true b on off = sym (on refl)
bool_is false b on off = sym (off refl)

-- Counts

-- a front that is not beyond a base is below it
pub below_from : (base v : List ℕ) → is_beyond base v ≡ false → IsBelow v base
below_from base v e node = elim (at_most (count v node) (count base node)) [
  | inl le ↦ le
  | inr lt ↦ elim (at_most (length v) (node - 1)) [
    | inl past ↦ let none : count v node ≡ 0 = get_or_past v (node - 1) 0 past in absurd (omega (arith, none, lt))
    | inr within ↦
        let back : suc (node - 1) - 1 ≡ node - 1 = omega arith in
        let same : count v (suc (node - 1)) ≡ count v node = ap (λ (i : ℕ). slice_index v i) back in
        let base_same : count base (suc (node - 1)) ≡ count base node = ap (λ (i : ℕ). slice_index base i) back in
        let less = less_from (count base (suc (node - 1))) (count v (suc (node - 1))) (omega (arith, lt, same, base_same)) in
        let there = in_nodes (length v) (suc (node - 1)) (omega arith) (omega (arith, within)) in
        let found = any_from (λ k. nat_lt (count base k) (count v k)) (nodes_to (length v)) (suc (node - 1)) there less in
        let clash : true ≡ false = sym found ∙ e in
        absurd cc
  ]
]

pub beyond_from : (base v : List ℕ) → IsBelow v base → is_beyond base v ≡ false
beyond_from base v below = false_from (is_beyond base v) (λ e.
    let node = any_gives (λ k. nat_lt (count base k) (count v k)) (nodes_to (length v)) e in
    omega (arith, less_by (count base node.0) (count v node.0) node.2, below node.0))

-- Facts

pub uncounted : (base : List ℕ) (f : Fact) → not (is_counted base f) ≡ true → count base f.origin < f.num
uncounted base f e = grind (arith, nat_tests)

pub counted_from : (base : List ℕ) (f : Fact) → not (is_counted base f) ≡ false → f.num ≤ count base f.origin
counted_from base f e = grind (arith, nat_tests)

-- if nothing about l is new, the base counts each fact about l
pub no_news : (S : List Fact) (base : List ℕ) (l : Id) → has_news S base l ≡ false → (f : Fact) → In f S → is_about l f ≡ true → f.num ≤ count base f.origin
no_news S base l e f m about = by (not (is_counted base f)) refl
  where
    by : (b : Bool) → not (is_counted base f) ≡ b → f.num ≤ count base f.origin
    by true new =
        let found = any_from (λ g. is_about l g && not (is_counted base g)) S f m (both_true (is_about l f) (not (is_counted base f)) about new) in
        let clash : true ≡ false = sym found ∙ e in
        absurd cc
    by false old = counted_from base f old

kept_num : (a b : Bool) (n c : ℕ) → (a ≡ true → b ≡ true → n ≤ c) → cond (a && b) n 0 ≤ c
kept_num true true n c f = f refl refl
kept_num true false n c f = omega arith
kept_num false b n c f = omega arith

same_node : (a b : ℕ) → (a == b) ≡ true → a ≡ b
same_node a b e = grind (arith, nat_tests)

-- then no stamp of l is beyond the base
quiet_stamp : (S : List Fact) (base : List ℕ) (l : Id) → has_news S base l ≡ false → (node : ℕ) → stamp S l node ≤ count base node
quiet_stamp S base l e node =
    most_least (λ f. cond ((f.origin == node) && is_about l f) f.num 0) S (count base node) (λ f m.
    kept_num (f.origin == node) (is_about l f) f.num (count base node) (λ at about.
    omega (arith, no_news S base l e f m about, ap (count base) (same_node f.origin node at))))

-- each fact that a front counts is of one of its nodes
origin_within : (S : List Fact) (front : List ℕ) → IsCounted S front → (f : Fact) → In f S → f.origin ≤ length front
origin_within S front counted f m = elim (at_most (length front) (f.origin - 1)) [
  | inl past ↦
      let none : count front f.origin ≡ 0 = get_or_past front (f.origin - 1) 0 past in
      absurd (omega (arith, none, counted.counted f m, (counted.some f m).1))
  | inr within ↦ omega (arith, within)
]

stamps_long : (S : List Fact) (l : Id) (n : ℕ) → length (map (stamp S l) (nodes_to n)) ≡ n
stamps_long S l n = length-map (nodes_to n) (stamp S l) ∙ length_nodes n

-- some fact about l is new exactly if its record has a stamp beyond the base
pub news_beyond : (S : List Fact) (front base : List ℕ) (l : Id) → IsCounted S front → has_news S base l ≡ is_beyond base (map (stamp S l) (nodes_to (length front)))
news_beyond S front base l counted =
    bool_is (has_news S base l) (is_beyond base stamps) new (λ e. beyond_from base stamps (quiet e))
  where
    stamps : List ℕ
    stamps = map (stamp S l) (nodes_to (length front))

    at_node : (node : ℕ) → 1 ≤ node → node ≤ length front → count stamps node ≡ stamp S l node
    at_node node low high = count_nodes (stamp S l) (length front) node low high

    new : has_news S base l ≡ true → is_beyond base stamps ≡ true
    new e =
        let f = any_gives (λ g. is_about l g && not (is_counted base g)) S e in
        let about = and_left (is_about l f.0) (not (is_counted base f.0)) f.2 in
        let late = uncounted base f.0 (and_right (is_about l f.0) (not (is_counted base f.0)) f.2) in
        let low = (counted.some f.0 f.1).0 in
        let high = origin_within S front counted f.0 f.1 in
        let reach = stamp_reaches S l f.0 f.0.origin f.1 refl about in
        let there : In f.0.origin (nodes_to (length stamps)) = in_nodes (length stamps) f.0.origin low (omega (arith, high, stamps_long S l (length front))) in
        any_from (λ k. nat_lt (count base k) (count stamps k)) (nodes_to (length stamps)) f.0.origin there
        (less_from (count base f.0.origin) (count stamps f.0.origin) (omega (arith, late, reach, at_node f.0.origin low high)))

    quiet : has_news S base l ≡ false → IsBelow stamps base
    quiet e = below_from base stamps (false_from (is_beyond base stamps) (λ yes.
        let node = any_gives (λ k. nat_lt (count base k) (count stamps k)) (nodes_to (length stamps)) yes in
        let bounds = nodes_in (length stamps) node.0 node.1 in
        let here = at_node node.0 bounds.0 (omega (arith, bounds.1, stamps_long S l (length front))) in
        omega (arith, less_by (count base node.0) (count stamps node.0) node.2, here, quiet_stamp S base l e node.0)))
