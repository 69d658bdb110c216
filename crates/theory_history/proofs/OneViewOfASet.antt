-- a set has one front of a given number of nodes, and one view
use Rattle.std.proofs.Common.{◌≡◌, ◌≤◌, ◌+◌, ◌-◌, ℕ, zero, suc, List, [], refl, sym, ap, subst, ◌∙◌, arith, length, map, get_or}
use Rattle.std.proofs.lemmas.Grind.{same_number_lists}
use Rattle.std.proofs.lemmas.List.{get_or_default, same_lists}
use Rattle.state_ids.specs.Fronts.{count}
use Rattle.state_facts.specs.declared.fact.Fact.{Fact}
use Rattle.state_forest.specs.declared.record.Record.{Record}
use Rattle.state_forest.specs.Records.{nodes_to}
use Rattle.state_forest.proofs.OneListOfRecords.{one_view as one_list}
use Rattle.theory_history.specs.Views.{AreRecords, IsCounted, StandsFor, View, purge_number, records_at}

-- a front that counts the set counts no more of a node than any other front that counts it
counts_below : (S : List Fact) (a b : List ℕ) → IsCounted S a → IsCounted S b → (i : ℕ) → get_or a i 0 ≤ get_or b i 0
counts_below S a b left right i = by (get_or a i 0) refl
  where
    by : (n : ℕ) → get_or a i 0 ≡ n → get_or a i 0 ≤ get_or b i 0
    by zero none = omega (arith, none)
    by (suc n) some =
        let place : i + 1 - 1 ≡ i = omega arith in
        let reached : suc n ≤ count a (i + 1) = omega (arith, some, ap (λ (k : ℕ). get_or a k 0) place) in
        let last = left.all (i + 1) (suc n) (omega arith) (omega arith) reached in
        omega (arith, right.counted last.0 last.1, some, last.3, ap (count b) last.2, ap (λ (k : ℕ). get_or b k 0) place)

-- a set has one front of a given number of nodes
pub one_front : (S : List Fact) (a b : List ℕ) → length a ≡ length b → IsCounted S a → IsCounted S b → a ≡ b
one_front S a b nodes left right =
    same_number_lists a b nodes (λ i there. omega (arith, counts_below S a b left right i, counts_below S b a right left i))

-- two lists of the records of the same number of homes are equal if the records of each home are
pub same_homes : (nodes : ℕ) (xs ys : List (List Record)) → length xs ≡ nodes → length ys ≡ nodes → ((home : ℕ) → 1 ≤ home → home ≤ nodes → records_at xs home ≡ records_at ys home) → xs ≡ ys
same_homes nodes xs ys long as_long same =
    same_lists xs ys (long ∙ sym as_long) (λ i d there.
    let place : i + 1 - 1 ≡ i = omega arith in
    let first : 1 ≤ i + 1 = omega arith in
    let last : i + 1 ≤ nodes = omega (arith, there, long) in
    get_or_default xs i d [] there
    ∙ ap (λ (k : ℕ). get_or xs k []) (sym place)
    ∙ same (i + 1) first last
    ∙ ap (λ (k : ℕ). get_or ys k []) place
    ∙ get_or_default ys i [] d (omega (arith, last, as_long)))

pub same_views : (a b : View) → a.front ≡ b.front → a.purges ≡ b.purges → a.records ≡ b.records → a ≡ b
same_views a b fronts purges records =
    ap (λ (v : List ℕ). record { front = v; purges = a.purges; records = a.records }) fronts
    ∙ ap (λ (v : List ℕ). record { front = b.front; purges = v; records = a.records }) purges
    ∙ ap (λ (rs : List (List Record)). record { front = b.front; purges = b.purges; records = rs }) records

one_home : (S : List Fact) (nodes home : ℕ) (xs ys : List Record) → AreRecords nodes S home xs → AreRecords nodes S home ys → xs ≡ ys
one_home S nodes home xs ys left right = one_list nodes home S xs ys left.order right.order left.stands right.stands

one_forest : (S : List Fact) (nodes : ℕ) (xs ys : List (List Record)) → length xs ≡ nodes → length ys ≡ nodes
    → ((home : ℕ) → 1 ≤ home → home ≤ nodes → AreRecords nodes S home (records_at xs home))
    → ((home : ℕ) → 1 ≤ home → home ≤ nodes → AreRecords nodes S home (records_at ys home)) → xs ≡ ys
one_forest S nodes xs ys long as_long left right =
    same_homes nodes xs ys long as_long (λ home low high. one_home S nodes home (records_at xs home) (records_at ys home) (left home low high) (right home low high))

-- a set has one view of a given number of nodes
pub one_view : (S : List Fact) (a b : View) → length a.front ≡ length b.front → StandsFor S a → StandsFor S b → a ≡ b
one_view S a b nodes left right =
    let fronts : a.front ≡ b.front = one_front S a.front b.front nodes left.front right.front in
    let purges : a.purges ≡ b.purges = left.purges ∙ ap (λ (n : ℕ). map (purge_number S) (nodes_to n)) nodes ∙ sym right.purges in
    let records : a.records ≡ b.records =
    one_forest S (length b.front) a.records b.records (left.homes ∙ nodes) right.homes
    (subst (λ (n : ℕ). (home : ℕ) → 1 ≤ home → home ≤ n → AreRecords n S home (records_at a.records home)) nodes left.records)
    right.records in
    same_views a b fronts purges records
