-- The two statements that write a row, and the results of a statement by the kit's account of SQL.
use Rattle.std.specs.Prelude.{◌≡◌, ◌⊎◌, ℕ, ℤ, pos, List, [], ◌∷◌, codes, false, None, Ok, Option, Err}
use Rattle.sqlite_disk.specs.Disk.{MoreFaults}
use Rattle.sqlite.specs.declared.error.Error.{Error}
use Rattle.sqlite.specs.declared.error.Error.TheVariants.{SqliteFailure}
use Rattle.sqlite.specs.declared.error.ErrorCode.TheVariants.{OutOfMemory}
use Rattle.sqlite.specs.declared.types.Value.TheVariants.{Blob, Int}
use Rattle.sqlite.specs.Does.{Does, Tally}
use Rattle.sqlite.specs.Effect.{Database}
use Rattle.sqlite.specs.Listing.{understood}
use Rattle.sqlite.specs.Order.{Row}
use Rattle.sqlite.specs.Rows.{Outcome}
use Rattle.sqlite.specs.State.{text_of}
use Rattle.sqlite.specs.Tree.{Trees}
use Rattle.sqlite_resolve.specs.declared.compiled.Compiled.{Compiled}
use Rattle.sqlite_schema.specs.declared.schema.Keys.TheVariants.{Enforced}
use Rattle.state_journal.specs.Schema.{journal_schema}

abbrev pub put_front : List ℕ
put_front = codes "INSERT INTO front (origin, held, purged) VALUES (?1, ?2, ?3) ON CONFLICT (origin) DO UPDATE SET held = ?2, purged = ?3"

abbrev pub front_values : ℕ → ℤ → ℤ → Row
front_values origin held purged = Int (pos origin) ∷ Int held ∷ Int purged ∷ []

abbrev pub put_lra : List ℕ
put_lra = codes "INSERT INTO lra (home, num, body) VALUES (?1, ?2, ?3) ON CONFLICT (home, num) DO UPDATE SET body = ?3"

abbrev pub lra_values : ℕ → ℤ → List ℕ → Row
lra_values home num body = Int (pos home) ∷ Int num ∷ Blob body ∷ []

-- the two tables as a database
abbrev pub on_journal : Trees → Database
on_journal db = record { schema = journal_schema; trees = db }

-- The result of a statement with these values on the tables, without a limit on steps: the tables
-- after it, or a refusal
abbrev pub ComesTo : (sql : List ℕ) → (values : Row) → Trees → Outcome (Tally × Database) → Type 0
ComesTo sql values db out = (c : Compiled) × (understood journal_schema sql ≡ Ok c)
    × Does None (record { keys = Enforced; in_doubt = false; may_wait = false }) values (on_journal db) (text_of sql c) c.returning c.command out

-- the statement turns the old tables into these
abbrev pub Makes : (sql : List ℕ) → (values : Row) → Trees → Trees → Type 0
Makes sql values db next = (tally : Tally) × ComesTo sql values db (Ok (tally, on_journal next))

-- the statement is refused on these tables
abbrev pub IsRefusedOn : (sql : List ℕ) → (values : Row) → Trees → Type 0
IsRefusedOn sql values db = (stop : Option Error) × ComesTo sql values db (Err stop)

-- the reason why a statement fails: memory ran out, the disk failed, or the statement is refused so
abbrev pub FailsFor : Error → (before after : ℕ) → (refused : Type 0) → Type 0
FailsFor e before after refused = (e ≡ SqliteFailure OutOfMemory) ⊎ (MoreFaults before after ⊎ refused)
