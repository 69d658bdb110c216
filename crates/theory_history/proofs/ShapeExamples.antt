-- the shape of views, computed: two views whose merge has lost it, since no one history has both
use Rattle.std.proofs.Common.{◌≡◌, inl, inr, ◌≤◌, ◌-◌, ◌∙◌, ℕ, zero, suc, List, [], ◌∷◌, ap, refl, subst, sym, arith, Some, None, true, false, get_or, is_some, length, slice_index}
use Rattle.state_ids.specs.Ids.{Id}
use Rattle.state_ids.specs.Fronts.{IsBelow}
use Rattle.state_facts.specs.Lists.{In}
use Rattle.state_forest.specs.Forests.{id_of, is_of}
use Rattle.state_forest.specs.MembersByNumber.{numbered}
use Rattle.state_forest.proofs.MembersAndStamps.{find_in}
use Rattle.state_forest.proofs.NumberedMembers.{same_is}
use Rattle.state_forest.specs.declared.record.Member.{Member}
use Rattle.state_forest.specs.declared.record.Member.TheVariants.{Left, Nested}
use Rattle.state_forest.specs.declared.record.Place.{Place}
use Rattle.state_forest.specs.declared.record.Record.{Record}
use Rattle.state_forest.specs.Shape.{IsInPlace, IsNestedAt, found_at, is_shallow}
use Rattle.theory_history.specs.Merging.{merged}
use Rattle.theory_history.specs.ViewShape.{HasShape}
use Rattle.theory_history.specs.Views.{View, record_at, records_at}

abbrev outer : Id
outer = record { home = 1; num = 1 }

abbrev inner : Id
inner = record { home = 1; num = 2 }

abbrev place : Place
place = record { number = 1; slot = 1 }

-- the first LRA, with one member
abbrev outer_record : ℕ → Member → Record
outer_record stamp m = record { home = 1; num = 1; parent = None; deadline = 0; decision = None; stamps = stamp ∷ []; members = m ∷ [] }

abbrev second_root : Record
second_root = record { home = 1; num = 2; parent = None; deadline = 0; decision = None; stamps = 2 ∷ []; members = [] }

abbrev inner_record : Record
inner_record = record { home = 1; num = 2; parent = Some place; deadline = 0; decision = None; stamps = 2 ∷ []; members = [] }

-- the second LRA is nested in the first
abbrev nesting : View
nesting =
    record {
      front = 2 ∷ [];
      purges = 0 ∷ [];
      records = (outer_record 2 (Nested 2) ∷ inner_record ∷ []) ∷ [];
    }

-- the second LRA is a root, and a participant joined the first and left
abbrev roots : View
roots =
    record {
      front = 4 ∷ [];
      purges = 0 ∷ [];
      records = (outer_record 4 Left ∷ second_root ∷ []) ∷ [];
    }

-- the records of the first home of a view
abbrev firsts : View → List Record
firsts view = records_at view.records 1

nested_there : IsNestedAt 1 (firsts nesting) 2 place
nested_there = record { parent = outer_record 2 (Nested 2); found = refl; member = refl }

two_levels : is_shallow 2 1 (firsts nesting) 2 ≡ true
two_levels = refl

not_one_level : is_shallow 1 1 (firsts nesting) 2 ≡ false
not_one_level = refl

-- Each of the two views has the shape

-- a view of one home has the shape if each of its records has its place
one_home : (front purges : List ℕ) (rs : List Record) → length rs ≤ 256 → IsBelow purges front → ((r : Record) → In r rs → IsInPlace front r.home rs r.num r)
    → HasShape (record { front = front; purges = purges; records = rs ∷ [] })
one_home front purges rs few below each =
    record {
      homes = λ home some. record { few = number (home - 1); in_place = λ num r at. found home num r (home - 1) refl some at };
      purges = below;
    }
  where
    number : (i : ℕ) → length (get_or (rs ∷ []) i []) ≤ 256
    number zero = few
    number (suc i) = omega arith

    found : (home num : ℕ) (r : Record) (i : ℕ) → home - 1 ≡ i → 1 ≤ home → found_at home (get_or (rs ∷ []) i []) num ≡ Some r → IsInPlace front home (get_or (rs ∷ []) i []) num r
    found home num r zero first some at =
        let there = find_in (is_of (record { home = home; num = num })) rs r at in
        let same = same_is (id_of r) (record { home = home; num = num }) there.1 in
        subst (λ (x : Id). IsInPlace front x.home rs x.num r) same (each r there.0)
    found home num r (suc i) later some at = absurd cc

one_count : (a b : ℕ) → a ≤ b → IsBelow (a ∷ []) (b ∷ [])
one_count a b le node = by (node - 1)
  where
    by : (i : ℕ) → slice_index (a ∷ []) i ≤ slice_index (b ∷ []) i
    by zero = le
    by (suc i) = omega arith

no_place : (place : Place) → None ≡ Some place → ⊥
no_place place e = cc

nesting_has_it : HasShape nesting
nesting_has_it = one_home (2 ∷ []) (0 ∷ []) (outer_record 2 (Nested 2) ∷ inner_record ∷ []) (omega arith) (one_count 0 2 (omega arith)) each
  where
    each : (r : Record) → In r (outer_record 2 (Nested 2) ∷ inner_record ∷ []) → IsInPlace (2 ∷ []) r.home (firsts nesting) r.num r
    each r (inl s) = subst (λ (x : Record). IsInPlace (2 ∷ []) x.home (firsts nesting) x.num x) (sym s) (record {
      parent = λ place e. absurd (no_place place e);
      nested = λ num m. elim m [
        | inl same ↦ let two : num ≡ 2 = cc in ap (λ (n : ℕ). is_some (found_at 1 (firsts nesting) n)) two
        | inr none ↦ absurd none
      ];
      shallow = refl;
      stamps = one_count 2 2 (omega arith);
    })
    each r (inr (inl s)) = subst (λ (x : Record). IsInPlace (2 ∷ []) x.home (firsts nesting) x.num x) (sym s) (record {
      parent = λ named e. let same : place ≡ named = cc in subst (IsNestedAt 1 (firsts nesting) 2) same nested_there;
      nested = λ num m. absurd m;
      shallow = refl;
      stamps = one_count 2 2 (omega arith);
    })
    each r (inr (inr none)) = absurd none

roots_have_it : HasShape roots
roots_have_it = one_home (4 ∷ []) (0 ∷ []) (outer_record 4 Left ∷ second_root ∷ []) (omega arith) (one_count 0 4 (omega arith)) each
  where
    each : (r : Record) → In r (outer_record 4 Left ∷ second_root ∷ []) → IsInPlace (4 ∷ []) r.home (firsts roots) r.num r
    each r (inl s) = subst (λ (x : Record). IsInPlace (4 ∷ []) x.home (firsts roots) x.num x) (sym s) (record {
      parent = λ place e. absurd (no_place place e);
      nested = λ num m. elim m [
        | inl same ↦ absurd cc
        | inr none ↦ absurd none
      ];
      shallow = refl;
      stamps = one_count 4 4 (omega arith);
    })
    each r (inr (inl s)) = subst (λ (x : Record). IsInPlace (4 ∷ []) x.home (firsts roots) x.num x) (sym s) (record {
      parent = λ place e. absurd (no_place place e);
      nested = λ num m. absurd m;
      shallow = refl;
      stamps = one_count 2 4 (omega arith);
    })
    each r (inr (inr none)) = absurd none

-- Their merge does not have it

-- the merge keeps the parent of the second LRA and drops the member
still_nested : record_at (merged nesting roots) inner ≡ Some inner_record
still_nested = refl

no_member : IsNestedAt 1 (firsts (merged nesting roots)) 2 place → ⊥
no_member at =
    let parent : Some (outer_record 4 Left) ≡ Some at.parent = at.found in
    let same : outer_record 4 Left ≡ at.parent = cc in
    let member : Some Left ≡ Some (Nested 2) = ap (λ (r : Record). numbered r.members 1) same ∙ at.member in
    cc

merge_has_it_not : HasShape (merged nesting roots) → ⊥
merge_has_it_not shape = no_member (((shape.homes 1 (omega arith)).in_place 2 inner_record still_nested).parent place refl)
