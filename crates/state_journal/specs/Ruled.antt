-- What the tables and a view must satisfy so that rows that stand for the view are never refused.
use Rattle.std.specs.Prelude.{◌≤◌, ◌<◌, ◌^◌, ℕ, length}
use Rattle.sqlite.specs.Tree.{Trees, IsTable}
use Rattle.state_ids.specs.declared.TheConstants.{MAX_NODES}
use Rattle.state_ids.specs.Fronts.{count}
use Rattle.state_forest.specs.declared.record.Record.{Record}
use Rattle.theory_history.specs.Views.{View}
use Rattle.theory_history.specs.ViewShape.{HasShape}
use Rattle.wire_frames.specs.declared.version.Version.{Version}
use Rattle.wire_frames.specs.declared.version.Version.TheVariants.{Two}
use Rattle.wire_frames.specs.OneRecord.{IsRecordUnderAs}
use Rattle.wire_frames.specs.Typed.{IsTypedRecord}
use Rattle.state_journal.specs.Schema.{front_tree, lra_tree}
use Rattle.state_journal.specs.Stands.{IsHeld}

-- both are tables as the store keeps them: their rowids rise, so no row stands twice
pub record AreTables (db : Trees) : Type 0 where
  pub front : IsTable (db front_tree)
  pub lra : IsTable (db lra_tree)

-- The view keeps the rules by which rows of a version are read: it has at most 8 nodes and counts
-- of 48 bits, each of its records keeps the rules of a record under its front, and it has the shape
pub record KeepsRulesAs (v : Version) (view : View) : Type 0 where
  pub few : length view.front ≤ MAX_NODES
  pub small : (node : ℕ) → count view.front node < 2 ^ 48
  pub records : (r : Record) → IsHeld view r → IsRecordUnderAs v view.front r
  pub shape : HasShape view

-- the view keeps the rules of version 2
abbrev pub KeepsRules : View → Type 0
KeepsRules view = KeepsRulesAs Two view

-- each record of the view has the types of a record: a deadline of 64 bits, and kept links
abbrev pub AreTyped : View → Type 0
AreTyped view = (r : Record) → IsHeld view r → IsTypedRecord r
