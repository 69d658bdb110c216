-- the views of closed sets of a lawful history have the shape
use Rattle.std.proofs.Common.{◌≡◌, inl, inr, ◌≤◌, ◌+◌, ◌-◌, ◌&&◌, ◌==◌, ℕ, zero, suc, List, [], refl, sym, ap, subst, ◌∙◌, Bool, true, false, cond, arith, Option, Some, None, is_some, length, map, slice_index}
use Rattle.std.proofs.lemmas.List.{get_or_past, length-map}
use Rattle.std.specs.List.{list_any}
use Rattle.std.specs.Option.{option_map_or}
use Rattle.state_ids.specs.Ids.{Id}
use Rattle.state_ids.specs.Fronts.{IsBelow, count, join_fronts}
use Rattle.state_facts.specs.declared.fact.Body.{Body}
use Rattle.state_facts.specs.declared.fact.Body.TheVariants.{Begin, Join, Leave, Decide, Report, Forgot, Told, Purge}
use Rattle.state_facts.specs.declared.fact.Fact.{Fact}
use Rattle.state_facts.specs.Lists.{In, most}
use Rattle.state_facts.specs.Sets.{chain, depth, is_begun, is_held, is_purged_root, member_number, parent_named, parent_of}
use Rattle.state_facts.proofs.Chains.{depth_is}
use Rattle.state_facts.proofs.Membership.{most_least}
use Rattle.state_forest.specs.declared.record.Member.{Member}
use Rattle.state_forest.specs.declared.record.Member.TheVariants.{Nested}
use Rattle.state_forest.specs.declared.record.Place.{Place}
use Rattle.state_forest.specs.declared.record.Record.{Record}
use Rattle.state_forest.specs.Records.{givers, is_about, member_by, members_of, nodes_to, place_in, record_of, stamp}
use Rattle.state_forest.specs.Standing.{IsWhole}
use Rattle.state_forest.proofs.Begins.{begin_gives, parent_begin, parent_begun}
use Rattle.state_forest.proofs.Bools.{and_right, not_false}
use Rattle.state_forest.proofs.ParentsAndChains.{begins_at, chain_up, parent_home}
use Rattle.state_forest.proofs.RecordCounts.{held_count}
use Rattle.state_forest.proofs.ShownByMembers.{depth_up}
use Rattle.state_forest.proofs.NumberedMembers.{get_map, numbered_at, seat_of}
use Rattle.state_forest.proofs.RecordsOfASet.{held_parent, place_parent, stands_at}
use Rattle.state_forest.proofs.UnderAnLra.{nested_child}
use Rattle.state_forest.specs.Shape.{IsInPlace, IsNestedAt, found_at, is_shallow}
use Rattle.theory_history.specs.Growth.{IsSettled}
use Rattle.theory_history.specs.Histories.{History, IsClosed, IsLawful, facts}
use Rattle.theory_history.specs.Merging.{IsMerged}
use Rattle.theory_history.specs.ViewShape.{HasShape}
use Rattle.theory_history.specs.Views.{IsCounted, StandsFor, View, is_purge_fact, purge_number, record_at, records_at}
use Rattle.theory_history.proofs.PatchesAddFacts.{FoundRecord, found_record, held_home}
use Rattle.theory_history.proofs.FewAtHome.{few_held}
use Rattle.theory_history.proofs.ClosedSets.{closed_settled}
use Rattle.theory_history.proofs.MergeIsAJoin.{merge_law}
use Rattle.theory_history.proofs.MergedRecords.{nth_of}
use Rattle.theory_history.proofs.ReplyOrRefusal.{held_within}
use Rattle.theory_history.proofs.JoinedFronts.{closed_join}
use Rattle.theory_history.proofs.Basics.{at_most, equal_from, held_begun, length_nodes}

-- Numbers of each node

-- if each node's number is at most the front's count, the list of these numbers is below the front
below_front : (g : ℕ → ℕ) (front : List ℕ) → ((node : ℕ) → g node ≤ count front node) → IsBelow (map g (nodes_to (length front))) front
below_front g front each node = elim (at_most (length front) (node - 1)) [
  | inl past ↦
      let size : length (map g (nodes_to (length front))) ≡ length front = length-map (nodes_to (length front)) g ∙ length_nodes (length front) in
      let none : count (map g (nodes_to (length front))) node ≡ 0 = get_or_past (map g (nodes_to (length front))) (node - 1) 0 (omega (arith, past, size)) in
      omega (arith, none)
  | inr within ↦
      let here : count (map g (nodes_to (length front))) node ≡ g (suc (node - 1)) = nth_of g 0 (length front) (node - 1) within in
      let back : suc (node - 1) - 1 ≡ node - 1 = omega arith in
      let same : count front (suc (node - 1)) ≡ count front node = ap (λ (i : ℕ). slice_index front i) back in
      let most = each (suc (node - 1)) in
      omega (arith, here, same, most)
]

-- the greatest number of a node's facts that pass a test is at most the front's count
most_within : (S : List Fact) (v : List ℕ) (t : Fact → Bool) → IsCounted S v → (node : ℕ) → most (λ f. cond ((f.origin == node) && t f) f.num 0) S ≤ count v node
most_within S v t counted node = most_least (λ f. cond ((f.origin == node) && t f) f.num 0) S (count v node) (λ f m. by f (counted.counted f m) (f.origin == node) refl (t f))
  where
    by : (f : Fact) → f.num ≤ count v f.origin → (b : Bool) → (f.origin == node) ≡ b → (c : Bool) → cond (b && c) f.num 0 ≤ count v node
    by f le true at true = subst (λ (k : ℕ). f.num ≤ count v k) (equal_from f.origin node at) le
    by f le true at false = omega arith
    by f le false at c = omega arith

-- Parents and what is nested in them

-- an LRA that is nested in one that is held is held
held_child : (S : List Fact) (l c : Id) → IsWhole S → parent_of S c ≡ Some l → is_held S l ≡ true → is_held S c ≡ true
held_child S l c whole up held =
    let begun = parent_begun S c l up in
    let kept = not_false _ (and_right (is_begun S l) _ held) in
    let no_root : is_purged_root S c ≡ false = rw up refl in
    let along : list_any (is_purged_root S) (chain S c) ≡ false = ap (list_any (is_purged_root S)) (chain_up S whole.nested c l up) ∙ rw no_root kept in
    rw (begun, along) refl

-- a fact that names a parent makes a nested member of the new LRA
nested_by : (S : List Fact) (l p : Id) (num : ℕ) (body : Body) → parent_named body ≡ Some p → member_by S l num body ≡ Nested num
nested_by S l p num (Begin parent deadline) e = refl
nested_by S l p num (Join id m links) e = absurd cc
nested_by S l p num (Leave id m) e = refl
nested_by S l p num (Decide id verdict) e = refl
nested_by S l p num (Report id m act outcome) e = refl
nested_by S l p num (Forgot id m) e = refl
nested_by S l p num (Told id m) e = refl
nested_by S l p num (Purge root) e = refl

-- the place that a record names as its parent
placed_at : (S : List Fact) (l p : Id) (place : Place) → parent_of S l ≡ Some p → place_in S l.num (parent_of S l) ≡ Some place → place.slot ≡ member_number S p l.num
placed_at S l p place up e =
    let named : Some (record { number = p.num; slot = member_number S p l.num }) ≡ Some place = sym (ap (place_in S l.num) up) ∙ e in
    let same : record { number = p.num; slot = member_number S p l.num } ≡ place = cc in
    ap (λ (x : Place). x.slot) (sym same)

-- another LRA of the same home
abbrev beside : Id → ℕ → Id
beside l num = record { home = l.home; num = num }

module _ (S : List Fact) (view : View) (settled : IsSettled S) (stands : StandsFor S view) where
  -- the view has the record of each LRA that is held
  held_found : (l : Id) → is_held S l ≡ true → record_at view l ≡ Some (record_of (length view.front) S l)
  held_found l held = stands_at (length view.front) l.home S (records_at view.records l.home) l (stands.records l.home (held_home S view l stands held) (held_within S view l stands held)).stands refl held

  parent_there : (l : Id) (r : Record) → FoundRecord S view l r → (place : Place) → r.parent ≡ Some place → IsNestedAt l.home (records_at view.records l.home) l.num place
  parent_there l r found place named =
      let own : place_in S l.num (parent_of S l) ≡ Some place = sym (ap (λ (x : Record). x.parent) found.is) ∙ named in
      let above = beside l place.number in
      let up = place_parent S l place settled.whole own in
      let begin = parent_begin S l above up in
      let at = begins_at l begin.0 begin.2 in
      let seat = seat_of S above begin.0 settled.seated begin.1 (begin_gives above begin.0.body begin.3) in
      let slot : place.slot ≡ seat.0 + 1 = placed_at S l above place up own ∙ ap (member_number S above) (sym at.1) ∙ seat.2 in
      let nested : member_by S above begin.0.num begin.0.body ≡ Nested l.num = nested_by S above above begin.0.num begin.0.body begin.3 ∙ ap (λ (n : ℕ). Nested n) at.1 in
      record {
        parent = record_of (length view.front) S above;
        found = held_found above (held_parent S l above settled.whole found.held up);
        member =
            numbered_at (members_of S above) seat.0 place.slot (Nested l.num) slot
            (get_map (λ f. member_by S above f.num f.body) (givers S above) seat.0 begin.0 seat.1 ∙ ap (λ (m : Member). Some m) nested);
      }

  nested_there : (l : Id) (r : Record) → FoundRecord S view l r → (num : ℕ) → In (Nested num) r.members → is_some (found_at l.home (records_at view.records l.home) num) ≡ true
  nested_there l r found num m =
      let inside : In (Nested num) (members_of S l) = subst (λ (x : Record). In (Nested num) x.members) found.is m in
      let up = nested_child S l num settled.whole settled.seated.once inside in
      ap (λ (o : Option Record). is_some o) (held_found (beside l num) (held_child S l (beside l num) settled.whole up found.held))

  -- an LRA is as deep by the records as by the set
  shallow_by : (levels : ℕ) (l : Id) → is_held S l ≡ true → depth S l ≤ levels → is_shallow levels l.home (records_at view.records l.home) l.num ≡ true
  shallow_by zero l held deep = let some = depth_is S settled.whole.nested l in absurd (omega (arith, some, deep))
  shallow_by (suc levels) l held deep =
      ap (λ (o : Option Record). option_map_or (λ (r : Record). option_map_or (λ (p : Place). is_shallow levels l.home (records_at view.records l.home) p.number) r.parent true) o false) (held_found l held)
      ∙ by (λ p kept above. shallow_by levels p kept above) (parent_of S l) refl
    where
      by : ((p : Id) → is_held S p ≡ true → depth S p ≤ levels → is_shallow levels p.home (records_at view.records p.home) p.num ≡ true) → (parent : Option Id) → parent_of S l ≡ parent
          → option_map_or (λ (p : Place). is_shallow levels l.home (records_at view.records l.home) p.number) (place_in S l.num parent) true ≡ true
      by rest None up = refl
      by rest (Some p) up =
          let home = parent_home S l p settled.whole.nested up in
          let above = depth_up S p l settled.whole up in
          ap (λ (k : ℕ). is_shallow levels k (records_at view.records k) p.num) (sym home) ∙ rest p (held_parent S l p settled.whole held up) (omega (arith, deep, above))

  -- a record of the view has its place in it
  pub record_in_place : (l : Id) (r : Record) → 1 ≤ l.home → record_at view l ≡ Some r → IsInPlace view.front l.home (records_at view.records l.home) l.num r
  record_in_place l r some at =
      let found = found_record S view l r stands some at in
      let stamps : r.stamps ≡ map (stamp S l) (nodes_to (length view.front)) = ap (λ (x : Record). x.stamps) found.is in
      record {
        parent = parent_there l r found;
        nested = nested_there l r found;
        shallow = shallow_by 8 l found.held (settled.shallow l (held_begun S l found.held));
        stamps = subst (λ (ns : List ℕ). IsBelow ns view.front) (sym stamps) (below_front (stamp S l) view.front (most_within S view.front (is_about l) stands.front));
      }

  purges_below : IsBelow view.purges view.front
  purges_below =
      subst (λ (ns : List ℕ). IsBelow ns view.front) (sym stands.purges)
      (below_front (purge_number S) view.front (most_within S view.front (λ f. is_purge_fact f.body) stands.front))

-- the view of a closed set of a lawful history has the shape
pub closed_shape : (h : History) (v : List ℕ) (view : View) → IsLawful h → IsClosed h v → StandsFor (facts h v) view → HasShape view
closed_shape h v view law closed stands =
    let S = facts h v in
    let settled = closed_settled h law v closed in
    record {
      homes = λ home some.
          record {
            few = few home some settled;
            in_place = λ num r at. record_in_place S view settled stands (record { home = home; num = num }) r some at;
          };
      purges = purges_below S view settled stands;
    }
  where
    few : (home : ℕ) → 1 ≤ home → IsSettled (facts h v) → length (records_at view.records home) ≤ 256
    few home some settled = elim (at_most home (length view.front)) [
      | inl there ↦
          let are = stands.records home some there in
          let many = held_count (length view.front) home (facts h v) (records_at view.records home) are.order are.stands settled.seated.once in
          let few = few_held h law v closed home some in
          omega (arith, many, few)
      | inr past ↦
          let none : records_at view.records home ≡ [] = get_or_past view.records (home - 1) [] (omega (arith, past, stands.homes)) in
          let empty : length (records_at view.records home) ≡ 0 = ap (λ (rs : List Record). length rs) none in
          omega (arith, empty)
    ]

-- and so has the merge of two such views
pub merged_shape : (h : History) (v w : List ℕ) (a b c : View) → IsLawful h → IsClosed h v → IsClosed h w → StandsFor (facts h v) a → StandsFor (facts h w) b → IsMerged a b c → HasShape c
merged_shape h v w a b c law cv cw sa sb m = closed_shape h (join_fronts v w) c law (closed_join h v w cv cw) (merge_law h v w a b c law cv cw sa sb m)
