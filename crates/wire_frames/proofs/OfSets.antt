-- the frame of a view is that of the set for which the view stands
use Rattle.std.proofs.Common.{◌≡◌, ◌≤◌, ◌&&◌, ℕ, List, [], refl, sym, ap, subst, ◌∙◌, Bool, true, false, cond, Option, Some, None, find, is_some, length, map, nat_lt}
use Rattle.std.proofs.lemmas.List.{length-map}
use Rattle.state_ids.specs.Ids.{Id}
use Rattle.state_ids.specs.Fronts.{count}
use Rattle.state_facts.specs.declared.fact.Fact.{Fact}
use Rattle.state_facts.specs.Sets.{is_held}
use Rattle.state_forest.specs.declared.record.Record.{Record}
use Rattle.state_forest.specs.Forests.{AreOf, is_of}
use Rattle.state_forest.specs.Records.{nodes_to, record_of}
use Rattle.state_forest.proofs.Removals.{filter_are_of}
use Rattle.theory_history.specs.Views.{StandsFor, View, purge_number, records_at}
use Rattle.theory_history.proofs.Basics.{length_nodes}
use Rattle.theory_history.proofs.MergedViews.{record_standing}
use Rattle.theory_history.proofs.MergedRecords.{count_nodes}
use Rattle.wire_frames.specs.Frames.{AreHeld, IsFrame, frame_of, has_news, is_beyond, live_at, live_since, records_since}
use Rattle.wire_frames.proofs.Beyond.{news_beyond}
use Rattle.wire_frames.proofs.Filters.{at_home, find_passing, listed_found, passed, rising_numbers}

some_held : (held : Bool) (r : Record) → is_some (cond held (Some r) None) ≡ held
some_held true r = refl
some_held false r = refl

passed_held : (p : Record → Bool) (held news : Bool) (r : Record) → p r ≡ news → passed p (cond held (Some r) None) ≡ cond (held && news) (Some r) None
passed_held p true news r e = ap (λ (b : Bool). cond b (Some r) None) e
passed_held p false news r e = refl

module _ (S : List Fact) (view : View) (base : List ℕ) (stands : StandsFor S view) where
  -- the last purge of a home is the set's
  last_purge : (home : ℕ) → 1 ≤ home → home ≤ length view.front → count view.purges home ≡ purge_number S home
  last_purge home low high = ap (λ (v : List ℕ). count v home) stands.purges ∙ count_nodes (purge_number S) (length view.front) home low high

  pub live_is : (home : ℕ) → 1 ≤ home → home ≤ length view.front → live_at (frame_of view base).live home ≡ live_since view base home
  live_is home low high = at_home (live_since view base) None (length view.front) home low high

  pub records_are : (home : ℕ) → 1 ≤ home → home ≤ length view.front → records_at (frame_of view base).records home ≡ records_since view base home
  records_are home low high = at_home (records_since view base) [] (length view.front) home low high

  -- the numbers of a home's records are those of its held LRAs
  pub numbers_held : (home : ℕ) → 1 ≤ home → home ≤ length view.front → AreHeld S home (map (λ (r : Record). r.num) (records_at view.records home))
  numbers_held home low high =
      let are = stands.records home low high in
      record {
        rising = rising_numbers (records_at view.records home) are.order.ascending;
        held = λ num. let l : Id = record { home = home; num = num } in
            listed_found l (records_at view.records home) are.order.homes ∙ ap (λ (o : Option Record). is_some o) (are.stands l refl) ∙ some_held (is_held S l) (record_of (length view.front) S l);
      }

  listed_at : (home : ℕ) → 1 ≤ home → home ≤ length view.front → (b : Bool) → nat_lt (count base home) (purge_number S home) ≡ b
      → live_at (frame_of view base).live home ≡ cond b (Some (map (λ (r : Record). r.num) (records_at view.records home))) None
  listed_at home low high b e =
      live_is home low high
      ∙ ap (λ (c : Bool). cond c (Some (map (λ (r : Record). r.num) (records_at view.records home))) None)
      (ap (λ (n : ℕ). nat_lt (count base home) n) (last_purge home low high) ∙ e)

  record_since : (l : Id) → 1 ≤ l.home → l.home ≤ length view.front
      → find (is_of l) (records_at (frame_of view base).records l.home) ≡ cond (is_held S l && has_news S base l) (Some (record_of (length view.front) S l)) None
  record_since l low high =
      ap (find (is_of l)) (records_are l.home low high)
      ∙ find_passing l (λ r. is_beyond base r.stamps) (records_at view.records l.home) (stands.records l.home low high).order.ascending
      ∙ ap (passed (λ r. is_beyond base r.stamps)) (record_standing S view l stands low high)
      ∙ passed_held (λ r. is_beyond base r.stamps) (is_held S l) (has_news S base l) (record_of (length view.front) S l) (sym (news_beyond S view.front base l stands.front))

  long : {X : Type 0} (g : ℕ → X) → length (map g (nodes_to (length view.front))) ≡ length view.front
  long g = length-map (nodes_to (length view.front)) g ∙ length_nodes (length view.front)

  -- the frame of the view is that of the set
  pub frame_stands : IsFrame S base (frame_of view base)
  frame_stands =
      record {
        base_is = refl;
        front = stands.front;
        purges = stands.purges;
        lives = long (live_since view base);
        listed = λ home low high e. (map (λ (r : Record). r.num) (records_at view.records home), listed_at home low high true e, numbers_held home low high);
        unlisted = λ home low high e. listed_at home low high false e;
        homes = long (records_since view base);
        order = λ home low high.
            subst (AreOf home) (sym (records_are home low high)) (filter_are_of (λ r. is_beyond base r.stamps) home (records_at view.records home) (stands.records home low high).order);
        records = record_since;
      }
