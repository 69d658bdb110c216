-- the frames of closed sets of a lawful history keep the rules of the grammar
use Rattle.std.proofs.Common.{◌≡◌, inl, inr, ◌≤◌, ◌<◌, ◌-◌, ◌^◌, ◌==◌, ℕ, zero, suc, List, [], ◌∷◌, refl, sym, ap, subst, ◌∙◌, Bool, true, false, cond, arith, Option, Some, None, filter, find, map, length, is_some, nat_lt, slice_index}
use Rattle.std.proofs.lemmas.Bool.Decides.{nat_tests}
use Rattle.std.proofs.lemmas.List.{length-map}
use Rattle.std.specs.List.{AllByRecursion, list_any}
use Rattle.state_ids.specs.Ids.{Id}
use Rattle.state_ids.specs.Fronts.{IsBelow, count}
use Rattle.state_facts.specs.declared.fact.Fact.{Fact}
use Rattle.state_facts.specs.Lists.{In}
use Rattle.state_facts.proofs.Membership.{filter_in, map_in}
use Rattle.state_forest.specs.declared.record.Record.{Record}
use Rattle.state_forest.specs.Forests.{IsAscending, is_of}
use Rattle.state_forest.specs.RecordMerges.{home_stamp}
use Rattle.state_forest.specs.Records.{members_of, nodes_to, stamp}
use Rattle.state_forest.proofs.Bools.{all_from, all_in}
use Rattle.theory_history.specs.Growth.{IsSettled}
use Rattle.theory_history.specs.Histories.{History, IsClosed, IsLawful, facts}
use Rattle.theory_history.specs.ViewShape.{HasShape}
use Rattle.theory_history.specs.Views.{IsCounted, StandsFor, View, purge_number, record_at, records_at}
use Rattle.theory_history.proofs.PatchesAddFacts.{FoundRecord, found_record}
use Rattle.theory_history.proofs.Basics.{held_begun, length_nodes}
use Rattle.theory_history.proofs.ClosedSets.{closed_settled}
use Rattle.theory_history.proofs.Covered.{begun_covered}
use Rattle.theory_history.proofs.MergedRecords.{count_nodes}
use Rattle.theory_history.proofs.SetsToMerge.{closed_proper}
use Rattle.theory_history.proofs.ViewsHaveShape.{closed_shape}
use Rattle.theory_history.proofs.TwoClosedSets.{IsProper}
use Rattle.wire_frames.specs.Frames.{IsRising, frame_of, is_beyond, live_at}
use Rattle.wire_frames.specs.Grammar.{AreLive, KeepsRulesIn, IsLinked, IsOfGrammar, nested_numbers}
use Rattle.wire_frames.proofs.Filters.{rising_numbers}
use Rattle.wire_frames.proofs.LawfulMembers.{few_members, members_linked, nested_in_order, nested_within, own_begin, placed_well}
use Rattle.wire_frames.proofs.OfSets.{frame_stands, live_is, numbers_held, records_are}

-- Records among those of a home

own_is : (home : ℕ) (r : Record) → r.home ≡ home → is_of (record { home = home; num = r.num }) r ≡ true
own_is home r e = grind (arith, nat_tests)

other_is : (home : ℕ) (r q : Record) → r.num < q.num → is_of (record { home = home; num = q.num }) r ≡ false
other_is home r q e = grind (arith, nat_tests)

-- a record of a home is found by its number
found_own : (home : ℕ) (rs : List Record) (r : Record) → AllByRecursion (λ (q : Record). q.home ≡ home) rs → IsAscending rs → In r rs → find (is_of (record { home = home; num = r.num })) rs ≡ Some r
found_own home [] r own up m = absurd m
found_own home (q ∷ rs) r own up (inl e) = let here = own_is home r (ap (λ (x : Record). x.home) e ∙ own.0) in subst (λ (x : Record). find (is_of (record { home = home; num = r.num })) (x ∷ rs) ≡ Some r) e (rw here refl)
found_own home (q ∷ rs) r own up (inr m) =
    let other = other_is home q r (all_in (λ (x : Record). q.num < x.num) rs up.0 r m) in
    rw other (found_own home rs r own.1 up.1 m)

less_long : (p : Record → Bool) (rs : List Record) → length (filter p rs) ≤ length rs
less_long p [] = omega arith
less_long p (r ∷ rs) = by (p r) (less_long p rs)
  where
    by : (b : Bool) → length (filter p rs) ≤ length rs → length (cond b (r ∷ filter p rs) (filter p rs)) ≤ suc (length rs)
    by true rest = omega (arith, rest)
    by false rest = omega (arith, rest)

some_if : {X : Type 0} (b : Bool) (x : X) → is_some (cond b (Some x) None) ≡ b
some_if true x = refl
some_if false x = refl

only_if : {X : Type 0} (b : Bool) (x y : X) → cond b (Some x) None ≡ Some y → x ≡ y
only_if true x y e = cc
only_if false x y e = absurd cc

-- Counts

-- counts are numbers of facts
pub small_counts : (S : List Fact) (front : List ℕ) → IsSettled S → IsCounted S front → (node : ℕ) → count front node < 2 ^ 48
small_counts S front settled counted node = by (count front node) refl
  where
    by : (n : ℕ) → count front node ≡ n → count front node < 2 ^ 48
    by zero e = omega (arith, e)
    by (suc n) e =
        let back : suc (node - 1) - 1 ≡ node - 1 = omega arith in
        let same : count front (suc (node - 1)) ≡ count front node = ap (λ (i : ℕ). slice_index front i) back in
        let f = counted.all (suc (node - 1)) (suc n) (omega arith) (omega arith) (omega (arith, same, e)) in
        omega (arith, e, f.3, (settled.numbered f.0 f.1).1)

module _ (S : List Fact) (view : View) (base : List ℕ) (settled : IsSettled S) (proper : IsProper S) (shape : HasShape view) (stands : StandsFor S view) where
  abbrev nodes : ℕ
  nodes = length view.front

  -- a record of the view is found at its home
  found_at_home : (home : ℕ) (r : Record) → 1 ≤ home → home ≤ length view.front → In r (records_at view.records home) → record_at view (record { home = home; num = r.num }) ≡ Some r
  found_at_home home r low high m =
      let order = (stands.records home low high).order in
      found_own home (records_at view.records home) r order.homes order.ascending m

  record_of_view : (home : ℕ) (r : Record) → 1 ≤ home → home ≤ length view.front → In r (records_at view.records home) → FoundRecord S view (record { home = home; num = r.num }) r
  record_of_view home r low high m = found_record S view (record { home = home; num = r.num }) r stands low (found_at_home home r low high m)

  -- the front counts its number
  number_of_view : (home : ℕ) (r : Record) → 1 ≤ home → home ≤ length view.front → In r (records_at view.records home) → (1 ≤ r.num) × (r.num ≤ count view.front home)
  number_of_view home r low high m =
      let found = record_of_view home r low high m in
      begun_covered S view.front (record { home = home; num = r.num }) stands.front (held_begun S (record { home = home; num = r.num }) found.held)

  -- the live list that is told of a home
  live_told : (home : ℕ) (nums : List ℕ) → 1 ≤ home → home ≤ length view.front → live_at (frame_of view base).live home ≡ Some nums → map (λ (r : Record). r.num) (records_at view.records home) ≡ nums
  live_told home nums low high e =
      only_if (nat_lt (count base home) (count view.purges home)) (map (λ (r : Record). r.num) (records_at view.records home)) nums
      (sym (live_is S view base stands home low high) ∙ e)

  live_well : (home : ℕ) (nums : List ℕ) → 1 ≤ home → home ≤ length view.front → live_at (frame_of view base).live home ≡ Some nums → AreLive (count view.front home) nums
  live_well home nums low high e =
      let rs = records_at view.records home in
      subst (AreLive (count view.front home)) (live_told home nums low high e)
      (record {
        few = let size = length-map rs (λ (r : Record). r.num) in omega (arith, size, (shape.homes home low).few);
        rising = rising_numbers rs (stands.records home low high).order.ascending;
        within = all_from (λ (n : ℕ). (1 ≤ n) × (n ≤ count view.front home)) (map (λ (r : Record). r.num) rs) (λ n m.
            let r = map_in (λ (q : Record). q.num) rs n m in
            let bounds = number_of_view home r.0 low high r.1 in
            (omega (arith, bounds.0, r.2), omega (arith, bounds.1, r.2)));
      })

  -- the home's stamp counts the begin of the LRA
  pub own_counted : (home : ℕ) (r : Record) → 1 ≤ home → home ≤ length view.front → In r (records_at view.records home) → 1 ≤ home_stamp r
  own_counted home r low high m =
      let l : Id = record { home = home; num = r.num } in
      let found = record_of_view home r low high m in
      let own_stamp : home_stamp r ≡ stamp S l home = ap home_stamp found.is ∙ count_nodes (stamp S l) nodes home low high in
      omega (arith, own_stamp, own_begin S l (held_begun S l found.held), (number_of_view home r low high m).0)

  -- a record that is told fits
  pub record_fits : (home : ℕ) (r : Record) → 1 ≤ home → home ≤ length view.front → In r (records_at view.records home) → is_beyond base r.stamps ≡ true → KeepsRulesIn base view.front (live_at (frame_of view base).live home) r
  record_fits home r low high m new =
      let l : Id = record { home = home; num = r.num } in
      let found = record_of_view home r low high m in
      let begun = held_begun S l found.held in
      let bounds = number_of_view home r low high m in
      let own_home : r.home ≡ home = ap (λ (x : Record). x.home) found.is in
      let stamps : r.stamps ≡ map (stamp S l) (nodes_to nodes) = ap (λ (x : Record). x.stamps) found.is in
      let members = ap (λ (x : Record). x.members) found.is in
      let own_stamp : home_stamp r ≡ stamp S l home = ap home_stamp found.is ∙ count_nodes (stamp S l) nodes home low high in
      record {
        some = bounds.0;
        reach = omega (arith, bounds.1, ap (count view.front) own_home);
        told = λ nums e.
            ap (list_any (λ n. n == r.num)) (sym (live_told home nums low high e)) ∙ (numbers_held S view base stands home low high).held r.num ∙ found.held;
        placed = λ place e. placed_well S view.front settled stands.front l begun place (sym (ap (λ (x : Record). x.parent) found.is) ∙ e);
        nodes = ap (λ (v : List ℕ). length v) stamps ∙ length-map (nodes_to nodes) (stamp S l) ∙ length_nodes nodes;
        within = ((shape.homes home low).in_place r.num r (found_at_home home r low high m)).stamps;
        own = omega (arith, own_stamp, own_begin S l begun);
        new = new;
        few = let size = ap (λ ms. length ms) members in omega (arith, size, few_members S settled l);
        rising = subst (λ ms. IsRising (nested_numbers ms)) (sym members) (nested_in_order S settled l);
        nested = subst (λ ms. AllByRecursion (λ (n : ℕ). (r.num < n) × (n ≤ home_stamp r)) (nested_numbers ms)) (sym members)
            (subst (λ (k : ℕ). AllByRecursion (λ (n : ℕ). (r.num < n) × (n ≤ k)) (nested_numbers (members_of S l))) (sym own_stamp) (nested_within S settled l));
        linked = subst (λ ms. AllByRecursion IsLinked ms) (sym members) (members_linked S proper l);
      }

  pub frame_well : length base ≡ length view.front → IsBelow base view.front → IsOfGrammar (frame_of view base)
  frame_well bases below =
      let is = frame_stands S view base stands in
      record {
        small = small_counts S view.front settled stands.front;
        bases = bases;
        base = below;
        nodes = ap (λ (v : List ℕ). length v) stands.purges ∙ length-map (nodes_to nodes) (purge_number S) ∙ length_nodes nodes;
        purges = shape.purges;
        lives = is.lives;
        listed = λ home low high.
            ap (λ (o : Option (List ℕ)). is_some o) (live_is S view base stands home low high)
            ∙ some_if (nat_lt (count base home) (count view.purges home)) (map (λ (r : Record). r.num) (records_at view.records home));
        live = live_well;
        homes = is.homes;
        order = is.order;
        few = λ home low high.
            let size = ap (λ (rs : List Record). length rs) (records_are S view base stands home low high) in
            omega (arith, size, less_long (λ r. is_beyond base r.stamps) (records_at view.records home), (shape.homes home low).few);
        records = λ home r low high m.
            let there = filter_in (λ (q : Record). is_beyond base q.stamps) (records_at view.records home) r (subst (λ (rs : List Record). In r rs) (records_are S view base stands home low high) m) in
            record_fits home r low high there.0 there.1;
      }

-- so do the frames of the views of closed sets of a lawful history
pub grammar_law : (h : History) (w base : List ℕ) (view : View) → IsLawful h → IsClosed h w → StandsFor (facts h w) view → length base ≡ length view.front → IsBelow base view.front → IsOfGrammar (frame_of view base)
grammar_law h w base view law closed stands bases below =
    frame_well (facts h w) view base (closed_settled h law w closed) (closed_proper h law w closed) (closed_shape h w view law closed stands) stands bases below
