-- Right rows are those of the view that is told from them.
use Rattle.std.proofs.Common.{◌≡◌, inl, inr, ℕ, ◌+◌, ◌-◌, ◌≤◌, List, [], length, sym, subst, ◌∙◌, arith}
use Rattle.std.proofs.lemmas.Bool.{cases_lt}
use Rattle.std.proofs.lemmas.Bool.Decides.{nat_tests}
use Rattle.std.proofs.lemmas.List.{length-map}
use Rattle.std.specs.Prelude.{slice_get}
use Rattle.std.specs.Option.{option_map_or}
use Rattle.sqlite.specs.Order.{Row}
use Rattle.state_facts.specs.Lists.{In}
use Rattle.state_forest.specs.declared.merging.Told.{Told}
use Rattle.state_forest.specs.declared.record.Record.{Record}
use Rattle.state_forest.specs.Forests.{AreOf, is_of}
use Rattle.state_forest.proofs.MembersAndStamps.{find_in}
use Rattle.theory_history.specs.Merging.{Telling}
use Rattle.theory_history.specs.Views.{records_at}
use Rattle.theory_history.specs.ViewShape.{HasShape}
use Rattle.wire_frames.specs.declared.version.Version.{Version}
use Rattle.state_journal.specs.Reads.{AreNumbered, AreRowsOf, ShapeBreaksAt, view_told}
use Rattle.state_journal.specs.LraRows.{AreRecordRows, IsRowAt, told_at}
use Rattle.state_journal.specs.FrontRows.{AreFronts}
use Rattle.state_journal.proofs.ToldViews.{told_at_home}

module _ (v : Version) (me : ℕ) (front purges : List ℕ) (homes : List Told) (front_rows rows : List Row) (fronts : AreFronts v me front_rows front purges) (count : length homes ≡ length front)
    (are : AreRecordRows v front rows (length rows) (told_at homes)) (ordered : (home : ℕ) → 1 ≤ home → AreOf home (told_at homes home)) where
  abbrev telling : Telling
  telling = record { front = front; purges = purges; homes = homes }

  row_of : (home : ℕ) (r : Record) → In r (told_at homes home) → (i : ℕ) × IsRowAt v front rows i r
  row_of home r has = elim (cases_lt 0 home) [
    | inl some ↦ let it = are.only home r some has in (it.0, it.3)
    | inr none ↦
        let first : home - 1 ≡ 1 - 1 = omega (arith, none) in
        let it = are.only 1 r (omega arith) (subst (λ i. In r (option_map_or (λ (told : Told). told.records.records) (slice_get homes i) [])) first has) in (it.0, it.3)
  ]

  pub numbered : AreNumbered telling
  numbered l r found =
      let there = find_in (is_of l) (told_at homes l.home) r found in
      let rules = (row_of l.home r there.0).1.is.rules.num in
      let same = there.1 in
      let some : 1 ≤ r.num = grind (arith, nat_tests, rules) in
      grind (arith, nat_tests, same, some)

  same_home : (home : ℕ) → records_at (view_told telling).records home ≡ told_at homes home
  same_home home = told_at_home homes (home - 1)

  pub rows_are : AreRowsOf v me front_rows rows (view_told telling)
  rows_are = record {
    fronts = fronts;
    records = record {
      right = are.right;
      each = λ i kept low at. let it = are.each i kept low at in (it.0, subst (In kept) (sym (same_home kept.home)) it.1);
      only = λ home kept some has. are.only home kept some (subst (In kept) (same_home home) has);
    };
    homes = length-map homes _ ∙ count;
    order = λ home some high. subst (AreOf home) (sym (same_home home)) (ordered home some);
  }

  pub shape_breaks : (nodes : ℕ) → length front ≡ nodes → ¬ HasShape (view_told telling) → ShapeBreaksAt me nodes front_rows rows (nodes + 1 + length rows)
  shape_breaks nodes counted broken = record { version = v; view = view_told telling; right = rows_are; counted = counted; breaks = broken; is = omega (arith, fronts.all, counted) }
