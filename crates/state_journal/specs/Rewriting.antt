-- Rewriting the rows of a view.
use Rattle.std.specs.Prelude.{◌≡◌, ◌⊎◌, ◌++◌, ℕ, pos, List, ◌∷◌}
use Rattle.std.specs.List.{flat_map}
use Rattle.sqlite.specs.Order.{Row}
use Rattle.sqlite.specs.Tree.{Trees}
use Rattle.state_forest.specs.declared.record.Record.{Record}
use Rattle.theory_history.specs.Views.{View}
use Rattle.wire_frames.specs.declared.version.Version.TheVariants.{One}
use Rattle.wire_frames.specs.Encoding.{record_text}
use Rattle.state_journal.specs.Ruled.{KeepsRulesAs}
use Rattle.state_journal.specs.Tables.{SetsFront, signed}
use Rattle.state_journal.specs.Turns.{InTurn}
use Rattle.state_journal.specs.Stands.{PutsRecord, StandsAs}
use Rattle.state_journal.specs.Statements.{IsRefusedOn, Makes, front_values, lra_values, put_front, put_lra}

-- the records of all homes, one home after another
abbrev pub all_records : List (List Record) → List Record
all_records homes = flat_map (λ (rs : List Record). rs) homes

-- the row of each record is written, and then the first row of `front` with the node's own number
-- and version 2
pub record Rewrites (me : ℕ) (homes : List (List Record)) (old new : Trees) : Type 0 where
  pub mid : Trees
  pub records : InTurn PutsRecord (all_records homes) old mid
  pub version : SetsFront 0 (pos me) (pos 2) mid new

-- Why the rows can't be written. They are written in the order of `Rewrites`

-- the values of the row of a record
abbrev pub row_values : Record → Row
row_values r = lra_values r.home (signed r.num) (record_text r)

-- the statement that writes this record's row turns the old tables into the new
abbrev pub MakesRow : Record → Trees → Trees → Type 0
MakesRow r old new = Makes put_lra (row_values r) old new

-- the statement that writes this record's row is refused on these tables
abbrev pub RefusesRow : Record → Trees → Type 0
RefusesRow r db = IsRefusedOn put_lra (row_values r) db

-- the rows of some of these records, from the first on, were written, and that of the next record
-- is refused
pub record RefusesOneOf (records : List Record) (old : Trees) : Type 0 where
  pub done : List Record
  pub next : Record
  pub left : List Record
  pub split : done ++ next ∷ left ≡ records
  pub mid : Trees
  pub made : InTurn MakesRow done old mid
  pub refused : RefusesRow next mid

-- the rows of all records were written, and the first row of `front` is refused
pub record RefusesVersion (me : ℕ) (records : List Record) (old : Trees) : Type 0 where
  pub mid : Trees
  pub made : InTurn MakesRow records old mid
  pub refused : IsRefusedOn put_front (front_values 0 (signed me) (signed 2)) mid

abbrev pub RefusesRewriting : (me : ℕ) → (homes : List (List Record)) → Trees → Type 0
RefusesRewriting me homes old = RefusesOneOf (all_records homes) old ⊎ RefusesVersion me (all_records homes) old

-- Rows of version 1 that SQL refuses to rewrite, by the kit's account of SQL. It isn't proved that
-- the kit refuses no rows of a journal that a node made
pub record IsUnwritable (me : ℕ) (db : Trees) : Type 0 where
  pub view : View
  pub before : StandsAs One me db view
  pub rules : KeepsRulesAs One view
  pub refused : RefusesRewriting me view.records db
