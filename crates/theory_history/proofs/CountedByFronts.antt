-- the front that counts a set, with one more fact, and for the empty set
use Rattle.std.proofs.Common.{◌≡◌, ◌≢◌, ◌⊎◌, inl, inr, ◌≤◌, ◌<◌, ◌+◌, ◌-◌, ℕ, zero, suc, List, [], ◌∷◌, ◌++◌, refl, sym, ap, subst, ◌∙◌, arith, length, replicate, map, get_or, get_or-set_other, get_or-set_same}
use Rattle.std.proofs.lemmas.List.{get_or-replicate, length-replicate}
use Rattle.state_ids.specs.Fronts.{count}
use Rattle.state_facts.specs.declared.fact.Fact.{Fact}
use Rattle.state_forest.specs.Records.{nodes_to}
use Rattle.state_forest.specs.declared.record.Record.{Record}
use Rattle.theory_history.specs.Growth.{IsMore}
use Rattle.theory_history.specs.Changes.{raised}
use Rattle.theory_history.specs.Views.{AreRecords, IsCounted, StandsFor, purge_number}
use Rattle.theory_history.specs.Replies.{entered, next_fact}
use Rattle.state_facts.specs.declared.command.Command.{Command}
use Rattle.theory_history.proofs.StaysSettled.{either_more, in_more, new_more}
use Rattle.theory_history.proofs.Basics.{length_nodes, same_or_not}

-- A front that counts one more fact of a node

-- the raised front counts one more of that node
pub raised_here : (v : List ℕ) (node : ℕ) → 1 ≤ node → node ≤ length v → count (raised v node) node ≡ count v node + 1
raised_here v node a b = let lt : node - 1 < length v = omega arith in rw get_or-set_same refl

-- and no more of the other nodes
pub raised_else : (v : List ℕ) (node k : ℕ) → 1 ≤ node → 1 ≤ k → (k ≡ node → ⊥) → count (raised v node) k ≡ count v k
raised_else v node k a b n = let ne : k - 1 ≢ node - 1 = (λ s. n (omega (arith, s))) in rw get_or-set_other refl

at_most_raised : (v : List ℕ) (node k : ℕ) → 1 ≤ node → node ≤ length v → 1 ≤ k → count v k ≤ count (raised v node) k
at_most_raised v node k some there one = elim (same_or_not k node) [
  | inl s ↦ omega (arith, raised_here v node some there, ap (count v) s, ap (count (raised v node)) s)
  | inr n ↦ omega (arith, raised_else v node k some one n)
]

-- a number that the raised front counts is the new one or was counted before
new_or_old : (v : List ℕ) (node k num : ℕ) → 1 ≤ node → node ≤ length v → 1 ≤ k → num ≤ count (raised v node) k → ((k ≡ node) × (num ≡ count v node + 1)) ⊎ (num ≤ count v k)
new_or_old v node k num some there one bound = elim (same_or_not k node) [
  | inl s ↦ elim (same_or_not num (count v node + 1)) [
    | inl n ↦ inl (s, n)
    | inr n ↦ inr (lesser num (count v node) (count v k) (omega (arith, bound, raised_here v node some there, ap (count (raised v node)) s)) n (sym (ap (count v) s)))
  ]
  | inr n ↦ inr (omega (arith, bound, raised_else v node k some one n))
]
  where
    lesser : (a b c : ℕ) → a ≤ b + 1 → (a ≡ b + 1 → ⊥) → b ≡ c → a ≤ c
    lesser a b c h n e = omega arith

-- the set with a node's next fact is counted by the front that counts one more of that node
pub counted_with : (f : Fact) (S T : List Fact) (v : List ℕ) (node : ℕ) (c : Command) → IsCounted S v → 1 ≤ node → node ≤ length v → f ≡ next_fact S v node c → IsMore f S T → IsCounted T (raised v node)
counted_with f S T v node c counted some there is more =
    record {
      some = λ g m. elim (either_more f g S T more m) [
        | inl s ↦ (omega (arith, origin g s, some), omega (arith, number g s))
        | inr k ↦ counted.some g k
      ];
      counted = λ g m. elim (either_more f g S T more m) [
        | inl s ↦ omega (arith, number g s, raised_here v node some there, ap (count (raised v node)) (origin g s))
        | inr k ↦ omega (arith, counted.counted g k, at_most_raised v node g.origin some there (counted.some g k).0)
      ];
      all = λ k num one first bound. elim (new_or_old v node k num some there one bound) [
        | inl new ↦ (f, new_more f S T more, origin f refl ∙ sym new.0, number f refl ∙ sym new.1)
        | inr old ↦ let found = counted.all k num one first old in (found.0, in_more f S T more found.0 found.1, found.2, found.3)
      ];
    }
  where
    origin : (g : Fact) → g ≡ f → g.origin ≡ node
    origin g s = ap (λ (x : Fact). x.origin) (s ∙ is)

    number : (g : Fact) → g ≡ f → g.num ≡ count v node + 1
    number g s = ap (λ (x : Fact). x.num) (s ∙ is)

none_after : {X : Type 0} (xs : List X) → xs ≡ xs ++ []
none_after [] = refl
none_after (x ∷ xs) = ap (λ ys. x ∷ ys) (none_after xs)

-- the fact that a node enters is one more fact of its set
pub more_entered : (S : List Fact) (v : List ℕ) (node : ℕ) (c : Command) → IsCounted S v → 1 ≤ node → IsMore (next_fact S v node c) S (entered S v node c)
more_entered S v node c counted some =
    record {
      before = S;
      after = [];
      was = none_after S;
      is = refl;
      some = some;
      newest = λ g m o. omega (arith, counted.counted g m, ap (count v) o);
    }

-- The empty set

-- a front of zeros counts nothing
pub zero_at : (n i : ℕ) → ◌≡◌ {A = ℕ} (get_or (replicate n 0) i 0) 0
zero_at zero i = refl
zero_at (suc n) zero = refl
zero_at (suc n) (suc i) = zero_at n i

-- a front of zeros counts the empty set
pub empty_counted : (n : ℕ) → IsCounted [] (replicate n 0)
empty_counted n =
    record {
      some = λ f m. absurd m;
      counted = λ f m. absurd m;
      all = λ node num one first bound. absurd (omega (arith, bound, zero_at n (node - 1), first));
    }

no_purges : (xs : List ℕ) → map (purge_number []) xs ≡ replicate (length xs) 0
no_purges [] = refl
no_purges (x ∷ xs) = ap (λ (ys : List ℕ). 0 ∷ ys) (no_purges xs)

no_records : (nodes home : ℕ) → AreRecords nodes [] home []
no_records nodes home = record { order = record { homes = tt; ascending = tt }; stands = λ l e. refl }

-- and with no records it is a view that stands for the empty set
pub empty_stands : (n : ℕ) → StandsFor [] (record { front = replicate n 0; purges = replicate n 0; records = replicate n [] })
empty_stands n =
    let zeros : List ℕ = replicate n 0 in
    let size : length zeros ≡ n = length-replicate {A = ℕ} n 0 in
    record {
      front = empty_counted n;
      purges = sym (no_purges (nodes_to (length zeros)) ∙ ap (λ k. replicate {A = ℕ} k 0) (length_nodes (length zeros) ∙ size));
      homes = length-replicate {A = List Record} n [] ∙ sym size;
      records = λ home one bound.
          let within : home - 1 < n = omega (arith, bound, one, size) in
          subst (λ (rs : List Record). AreRecords (length zeros) [] home rs) (sym (get_or-replicate {A = List Record} n (home - 1) [] [] within)) (no_records (length zeros) home);
    }
