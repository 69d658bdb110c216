-- Rows that stand for a view which keeps the rules break the format nowhere.
use Rattle.std.proofs.Common.{inl, inr, ℕ, ◌≤◌, List, length, sym, subst}
use Rattle.sqlite.specs.Order.{Row}
use Rattle.sqlite.specs.Tree.{Trees}
use Rattle.theory_history.specs.Views.{View}
use Rattle.theory_history.specs.ViewShape.{HasShape}
use Rattle.wire_frames.specs.declared.version.Version.{Version}
use Rattle.state_journal.specs.Broken.{IsBrokenAt}
use Rattle.state_journal.specs.FrontRows.{AreFronts, FrontBreaksAt}
use Rattle.state_journal.specs.Listings.{AreFrontRows, AreLraRows}
use Rattle.state_journal.specs.LraRows.{RecordBreaksAt}
use Rattle.state_journal.specs.Reads.{AreRowsOf, BreaksAt, LraBreaksAt, ShapeBreaksAt}
use Rattle.state_journal.specs.Ruled.{AreTables, KeepsRulesAs}
use Rattle.state_journal.specs.Stands.{StandsAs}
use Rattle.state_journal.proofs.OneViewOfRows.{one_front, one_purges, one_version, one_view}
use Rattle.state_journal.proofs.RightFronts.{fronts_right, right_at}
use Rattle.state_journal.proofs.RightRecords.{record_right}
use Rattle.state_journal.proofs.RowsStand.{rows_stand, ruled}

module _ (v : Version) (me : ℕ) (db : Trees) (view : View) (low : me ≤ 8) (tables : AreTables db) (stands : StandsAs v me db view) (rules : KeepsRulesAs v view)
    (rows lra_rows : List Row) (fronts : AreFrontRows db rows) (lras : AreLraRows db lra_rows) where
  are : AreFronts v me rows view.front view.purges
  are = fronts_right v me db rows view low tables stands rules fronts

  front_whole : (place : ℕ) → ¬ FrontBreaksAt me (length view.front) rows place
  front_whole place it = it.breaks (right_at v me rows view.front view.purges are place)

  lra_whole : (place : ℕ) → ¬ LraBreaksAt me (length view.front) rows lra_rows place
  lra_whole place it =
      let version = one_version it.version v me rows it.front it.purges view.front view.purges it.right are in
      let same = one_front it.version v me rows it.front it.purges view.front view.purges it.right are it.counted in
      let breaks = subst (λ front. RecordBreaksAt v front lra_rows it.at) same (subst (λ (w : Version). RecordBreaksAt w it.front lra_rows it.at) version it.breaks) in
      breaks.breaks (record_right v me db lra_rows view tables stands rules lras it.at breaks.within)

  shape_whole : (place : ℕ) → ¬ ShapeBreaksAt me (length view.front) rows lra_rows place
  shape_whole place it =
      let version = one_version it.version v me rows it.view.front it.view.purges view.front view.purges it.right.fronts are in
      let right = subst (λ (w : Version). AreRowsOf w me rows lra_rows it.view) version it.right in
      let front = one_front v v me rows it.view.front it.view.purges view.front view.purges right.fronts are it.counted in
      let purges = one_purges v v me rows it.view.front it.view.purges view.front view.purges right.fronts are it.counted in
      let stand = rows_stand v me db rows lra_rows it.view stands.formed lras right fronts in
      let same = one_view v me db it.view view front purges stand stands (ruled v me db rows lra_rows it.view stands.formed lras right) rules.records in
      it.breaks (subst HasShape (sym same) rules.shape)

  whole : (place : ℕ) → ¬ BreaksAt me (length view.front) rows lra_rows place
  whole place (inl front) = front_whole place front
  whole place (inr (inl lra)) = lra_whole place lra
  whole place (inr (inr shape)) = shape_whole place shape

pub never_refused : (v : Version) (me place : ℕ) (db : Trees) (view : View) → me ≤ 8 → AreTables db → StandsAs v me db view → KeepsRulesAs v view → ¬ IsBrokenAt me (length view.front) db place
never_refused v me place db view low tables stands rules broken = whole v me db view low tables stands rules broken.front_rows broken.lra_rows broken.fronts broken.lras place broken.breaks
