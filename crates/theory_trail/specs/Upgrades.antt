-- Openings of a journal that are stopped.
use Rattle.std.specs.Prelude.{◌≡◌, ℕ, List, [], ◌∷◌}
use Rattle.sqlite.specs.Held.{Held, state}
use Rattle.sqlite.specs.State.{HasCleanDisk, Survives}
use Rattle.sqlite.specs.Tree.{Trees}
use Rattle.sqlite_trees.specs.declared.store.Store.{Ghosts}
use Rattle.theory_history.specs.Views.{View}
use Rattle.wire_frames.specs.declared.version.Version.{Version}
use Rattle.state_journal.specs.NewStores.{MayLeaveOpened}
use Rattle.state_journal.specs.Ruled.{KeepsRulesAs}
use Rattle.state_journal.specs.Stands.{StandsAs}
use Rattle.state_journal.specs.Tables.{IsJournal}

-- what an opening finds in rows: the view for which they stand in one of the versions, by whose
-- rules they are read
pub record IsFoundIn (me : ℕ) (db : Trees) (view : View) : Type 0 where
  pub version : Version
  pub stands : StandsAs version me db view
  pub rules : KeepsRulesAs version view

-- an opening that was stopped: the connection that it took, the state in which it left that
-- connection, and the rows that the stop left
pub record StoppedOpening (S : Type 0) : Type 0 where
  pub taken : Held S
  pub left : Held S
  pub rows : Trees

-- the opening took a journal with the rows `before`, and a stop may leave the opening's rows of the
-- connection that it left
pub record IsStopped {S : Type 0} (g : Ghosts S) (me nodes : ℕ) (before : Trees) (opening : StoppedOpening S) : Type 0 where
  pub was : IsJournal (state g opening.taken)
  pub shows : (state g opening.taken).now.trees ≡ before
  pub survives : Survives (state g opening.taken) (state g opening.left) (MayLeaveOpened (state g opening.taken) me nodes)
  pub clean : HasCleanDisk (state g opening.left)
  pub may : (state g opening.left).may_leave opening.rows

-- an opening that was stopped when it was done: its connection shows the rows that are left
abbrev pub stopped_when_done : {S : Type 0} → Ghosts S → (taken left : Held S) → StoppedOpening S
stopped_when_done g taken left = record { taken = taken; left = left; rows = (state g left).now.trees }

-- one that was stopped before it did anything
abbrev pub stopped_at_once : {S : Type 0} → Ghosts S → Held S → StoppedOpening S
stopped_at_once g held = stopped_when_done g held held

-- each opening took the rows that the one before it left
abbrev pub AreStopped : {S : Type 0} → Ghosts S → (me nodes : ℕ) → (before : Trees) → List (StoppedOpening S) → (after : Trees) → Type 0
AreStopped g me nodes before [] after = after ≡ before
AreStopped g me nodes before (opening ∷ openings) after = IsStopped g me nodes before opening × AreStopped g me nodes opening.rows openings after
