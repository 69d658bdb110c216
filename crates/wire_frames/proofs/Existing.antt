-- a set that a front counts has a view
use Rattle.std.proofs.Common.{◌≡◌, ◌≤◌, ◌<◌, ◌==◌, ◌&&◌, ℕ, zero, suc, List, [], ◌∷◌, ◌++◌, refl, sym, ap, subst, ◌∙◌, Bool, true, false, cond, arith, Option, Some, None, find, map, length, nat_le}
use Rattle.std.proofs.lemmas.Bool.Decides.{nat_tests}
use Rattle.std.proofs.lemmas.List.{length-map}
use Rattle.std.specs.List.{AllByRecursion}
use Rattle.state_ids.specs.Ids.{Id}
use Rattle.state_ids.specs.Fronts.{count}
use Rattle.state_facts.specs.declared.fact.Fact.{Fact}
use Rattle.state_facts.specs.Sets.{is_held}
use Rattle.state_forest.specs.declared.record.Record.{Record}
use Rattle.state_forest.specs.Forests.{IsAscending, is_of}
use Rattle.state_forest.specs.Records.{nodes_to, record_of}
use Rattle.state_forest.proofs.Bools.{all_more}
use Rattle.theory_history.specs.Views.{AreRecords, IsCounted, StandsFor, View, purge_number}
use Rattle.theory_history.proofs.Basics.{false_from, held_begun, length_nodes}
use Rattle.theory_history.proofs.Covered.{begun_covered}
use Rattle.wire_frames.proofs.Filters.{at_home}

-- the record of an LRA, if it is held
abbrev held_record : List Fact → (nodes home num : ℕ) → List Record
held_record S nodes home num = cond (is_held S (record { home = home; num = num })) (record_of nodes S (record { home = home; num = num }) ∷ []) []

-- the records of a home, up to a number
abbrev records_to : List Fact → (nodes home num : ℕ) → List Record
records_to S nodes home zero = []
records_to S nodes home (suc num) = records_to S nodes home num ++ held_record S nodes home (suc num)

-- the view of a set that this front counts
abbrev pub view_made : List Fact → List ℕ → View
view_made S front =
    record {
      front = front;
      purges = map (purge_number S) (nodes_to (length front));
      records = map (λ home. records_to S (length front) home (count front home)) (nodes_to (length front));
    }

ascending_last : (rs : List Record) (r : Record) → IsAscending rs → AllByRecursion (λ (q : Record). q.num < r.num) rs → IsAscending (rs ++ r ∷ [])
ascending_last [] r up all = (tt, tt)
ascending_last (q ∷ rs) r up all = (all_more (λ (s : Record). q.num < s.num) rs r up.0 all.0, ascending_last rs r up.1 all.1)

no_more : (xs : List Record) → xs ++ [] ≡ xs
no_more [] = refl
no_more (x ∷ xs) = ap (λ zs. x ∷ zs) (no_more xs)

all_less : (rs : List Record) (n : ℕ) → AllByRecursion (λ (q : Record). q.num ≤ n) rs → AllByRecursion (λ (q : Record). q.num < suc n) rs
all_less [] n all = tt
all_less (r ∷ rs) n all = (omega (arith, all.0), all_less rs n all.1)

all_most : (rs : List Record) (n : ℕ) → AllByRecursion (λ (q : Record). q.num ≤ n) rs → AllByRecursion (λ (q : Record). q.num ≤ suc n) rs
all_most [] n all = tt
all_most (r ∷ rs) n all = (omega (arith, all.0), all_most rs n all.1)

-- the first of the two records that is there
abbrev or_else : Option Record → Option Record → Option Record
or_else None o = o
or_else (Some r) o = Some r

find_append : (t : Record → Bool) (xs ys : List Record) → find t (xs ++ ys) ≡ or_else (find t xs) (find t ys)
find_append t [] ys = refl
find_append t (x ∷ xs) ys = by (t x) (find_append t xs ys)
  where
    by : (b : Bool) → find t (xs ++ ys) ≡ or_else (find t xs) (find t ys) → cond b (Some x) (find t (xs ++ ys)) ≡ or_else (cond b (Some x) (find t xs)) (find t ys)
    by true rest = refl
    by false rest = rest

same_num : (a b : ℕ) → (a == b) ≡ true → a ≡ b
same_num a b e = grind (arith, nat_tests)

module _ (S : List Fact) (nodes home : ℕ) where
  homes_made : (n : ℕ) → AllByRecursion (λ (r : Record). r.home ≡ home) (records_to S nodes home n)
  homes_made zero = tt
  homes_made (suc n) = by (is_held S (record { home = home; num = suc n })) (homes_made n)
    where
      by : (b : Bool) → AllByRecursion (λ (r : Record). r.home ≡ home) (records_to S nodes home n) → AllByRecursion (λ (r : Record). r.home ≡ home) (records_to S nodes home n ++ cond b (record_of nodes S (record { home = home; num = suc n }) ∷ []) [])
      by true all = all_more (λ (r : Record). r.home ≡ home) (records_to S nodes home n) (record_of nodes S (record { home = home; num = suc n })) all refl
      by false all = subst (λ (rs : List Record). AllByRecursion (λ (r : Record). r.home ≡ home) rs) (sym (no_more (records_to S nodes home n))) all

  numbers_made : (n : ℕ) → AllByRecursion (λ (r : Record). r.num ≤ n) (records_to S nodes home n)
  numbers_made zero = tt
  numbers_made (suc n) = by (is_held S (record { home = home; num = suc n })) (all_most (records_to S nodes home n) n (numbers_made n))
    where
      by : (b : Bool) → AllByRecursion (λ (r : Record). r.num ≤ suc n) (records_to S nodes home n) → AllByRecursion (λ (r : Record). r.num ≤ suc n) (records_to S nodes home n ++ cond b (record_of nodes S (record { home = home; num = suc n }) ∷ []) [])
      by true all = all_more (λ (r : Record). r.num ≤ suc n) (records_to S nodes home n) (record_of nodes S (record { home = home; num = suc n })) all (omega arith)
      by false all = subst (λ (rs : List Record). AllByRecursion (λ (r : Record). r.num ≤ suc n) rs) (sym (no_more (records_to S nodes home n))) all

  ascending_made : (n : ℕ) → IsAscending (records_to S nodes home n)
  ascending_made zero = tt
  ascending_made (suc n) = by (is_held S (record { home = home; num = suc n })) (ascending_made n)
    where
      by : (b : Bool) → IsAscending (records_to S nodes home n) → IsAscending (records_to S nodes home n ++ cond b (record_of nodes S (record { home = home; num = suc n }) ∷ []) [])
      by true up = ascending_last (records_to S nodes home n) (record_of nodes S (record { home = home; num = suc n })) up (all_less (records_to S nodes home n) n (numbers_made n))
      by false up = subst IsAscending (sym (no_more (records_to S nodes home n))) up

  -- what is found among the records up to a number
  found_made : (n : ℕ) (num : ℕ) → 1 ≤ num → find (is_of (record { home = home; num = num })) (records_to S nodes home n) ≡ cond (is_held S (record { home = home; num = num }) && nat_le num n) (Some (record_of nodes S (record { home = home; num = num }))) None
  found_made zero num some = let none = beyond num 0 some in rw none (never (is_held S (record { home = home; num = num })) (record_of nodes S (record { home = home; num = num })))
    where
      beyond : (a b : ℕ) → b < a → nat_le a b ≡ false
      beyond a b e = grind (arith, nat_tests)

      never : (b : Bool) (r : Record) → None ≡ cond (b && false) (Some r) None
      never true r = refl
      never false r = refl
  found_made (suc n) num some =
      find_append (is_of l) (records_to S nodes home n) (held_record S nodes home (suc n))
      ∙ ap (λ o. or_else o (find (is_of l) (held_record S nodes home (suc n)))) (found_made n num some)
      ∙ by (num == suc n) refl
    where
      l : Id
      l = record { home = home; num = num }

      last : (b : Bool) → is_held S l ≡ b → or_else (cond (b && nat_le num n) (Some (record_of nodes S l)) None) (find (is_of l) (cond b (record_of nodes S l ∷ []) [])) ≡ cond (b && true) (Some (record_of nodes S l)) None
      last true e = let own = own_is num in by_le (nat_le num n) (rw own refl)
        where
          own_is : (k : ℕ) → ((home == home) && (k == k)) ≡ true
          own_is k = grind (arith, nat_tests)

          by_le : (c : Bool) → find (is_of l) (record_of nodes S l ∷ []) ≡ Some (record_of nodes S l) → or_else (cond c (Some (record_of nodes S l)) None) (find (is_of l) (record_of nodes S l ∷ [])) ≡ Some (record_of nodes S l)
          by_le true f = refl
          by_le false f = f
      last false e = refl

      le_last : (k m : ℕ) → k ≡ suc m → nat_le k (suc m) ≡ true
      le_last k m e = grind (arith, nat_tests)

      le_other : (k m : ℕ) → (k == suc m) ≡ false → nat_le k (suc m) ≡ nat_le k m
      le_other k m e = grind (arith, nat_tests)

      other_is : (k m : ℕ) → (k == suc m) ≡ false → ((home == home) && (suc m == k)) ≡ false
      other_is k m e = grind (arith, nat_tests)

      or_none : (o : Option Record) → or_else o None ≡ o
      or_none None = refl
      or_none (Some r) = refl

      none_last : (b : Bool) (k m : ℕ) → (k == suc m) ≡ false → find (is_of (record { home = home; num = k })) (cond b (record_of nodes S (record { home = home; num = suc m }) ∷ []) []) ≡ None
      none_last true k m e = let other = other_is k m e in rw other refl
      none_last false k m e = refl

      by : (b : Bool) → (num == suc n) ≡ b → or_else (cond (is_held S l && nat_le num n) (Some (record_of nodes S l)) None) (find (is_of l) (held_record S nodes home (suc n))) ≡ cond (is_held S l && nat_le num (suc n)) (Some (record_of nodes S l)) None
      by true e =
          let same = same_num num (suc n) e in
          let le = le_last num n same in
          subst (λ (k : ℕ). or_else (cond (is_held S l && nat_le num n) (Some (record_of nodes S l)) None) (find (is_of l) (held_record S nodes home k)) ≡ cond (is_held S l && nat_le num (suc n)) (Some (record_of nodes S l)) None) same
          (rw le (last (is_held S l) refl))
      by false e =
          let le = le_other num n e in
          let none = none_last (is_held S (record { home = home; num = suc n })) num n e in
          ap (or_else (cond (is_held S l && nat_le num n) (Some (record_of nodes S l)) None)) none
          ∙ or_none (cond (is_held S l && nat_le num n) (Some (record_of nodes S l)) None)
          ∙ ap (λ b. cond (is_held S l && b) (Some (record_of nodes S l)) None) (sym le)

-- and that view stands for the set
pub view_stands : (S : List Fact) (front : List ℕ) → IsCounted S front → StandsFor S (view_made S front)
view_stands S front counted = record {
  front = counted;
  purges = refl;
  homes = length-map (nodes_to (length front)) (λ home. records_to S (length front) home (count front home)) ∙ length_nodes (length front);
  records = λ home low high.
      subst (AreRecords (length front) S home) (sym (at_home (λ k. records_to S (length front) k (count front k)) [] (length front) home low high))
      (record {
        order = record { homes = homes_made S (length front) home (count front home); ascending = ascending_made S (length front) home (count front home) };
        stands = λ l at. subst (λ (k : ℕ). find (is_of (record { home = k; num = l.num })) (records_to S (length front) home (count front home)) ≡ cond (is_held S (record { home = k; num = l.num })) (Some (record_of (length front) S (record { home = k; num = l.num }))) None) (sym at) (one home l.num (is_held S (record { home = home; num = l.num })) refl);
      });
}
  where
    covered : (home num : ℕ) → is_held S (record { home = home; num = num }) ≡ true → (1 ≤ num) × (num ≤ count front home)
    covered home num e = begun_covered S front (record { home = home; num = num }) counted (held_begun S (record { home = home; num = num }) e)

    le_true : (a b : ℕ) → a ≤ b → nat_le a b ≡ true
    le_true a b e = grind (arith, nat_tests)

    none_zero : (home n : ℕ) → find (is_of (record { home = home; num = 0 })) (records_to S (length front) home n) ≡ None
    none_zero home zero = refl
    none_zero home (suc n) =
        find_append (is_of (record { home = home; num = 0 })) (records_to S (length front) home n) (held_record S (length front) home (suc n))
        ∙ ap (λ o. or_else o (find (is_of (record { home = home; num = 0 })) (held_record S (length front) home (suc n)))) (none_zero home n)
        ∙ by (is_held S (record { home = home; num = suc n }))
      where
        off : (k m : ℕ) → ((k == k) && (suc m == 0)) ≡ false
        off k m = grind (arith, nat_tests)

        by : (b : Bool) → find (is_of (record { home = home; num = 0 })) (cond b (record_of (length front) S (record { home = home; num = suc n }) ∷ []) []) ≡ None
        by true = let none = off home n in rw none refl
        by false = refl

    one : (home num : ℕ) (b : Bool) → is_held S (record { home = home; num = num }) ≡ b → find (is_of (record { home = home; num = num })) (records_to S (length front) home (count front home)) ≡ cond (is_held S (record { home = home; num = num })) (Some (record_of (length front) S (record { home = home; num = num }))) None
    one home zero b e = none_zero home (count front home) ∙ (let off = false_from (is_held S (record { home = home; num = 0 })) (λ f. omega (arith, (covered home 0 f).0)) in rw off refl)
    one home (suc num) true e = let le = le_true (suc num) (count front home) (covered home (suc num) e).1 in found_made S (length front) home (count front home) (suc num) (omega arith) ∙ rw (e, le) refl
    one home (suc num) false e = found_made S (length front) home (count front home) (suc num) (omega arith) ∙ rw e refl
