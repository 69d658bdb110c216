-- What the seven texts mean.
use Rattle.std.proofs.Common.{◌≡◌, ℕ, pos, negsuc, List, [], ◌∷◌, codes, false, Some, None, Ok, refl}
use Rattle.sqlite.specs.declared.types.Value.TheVariants.{Null, Int}
use Rattle.sqlite.specs.Term.{Term, lit, col}
use Rattle.sqlite.specs.Query.{Query, inner, end}
use Rattle.sqlite.specs.Source.TheVariants.{Values}
use Rattle.sqlite.specs.Command.TheVariants.{InsertOr, Select, Delete}
use Rattle.sqlite_schema.specs.declared.command.Conflict.TheVariants.{Abort}
use Rattle.sqlite_schema.specs.declared.program.Program.{Program}
use Rattle.sqlite_sql.specs.Term.{op1, op2}
use Rattle.sqlite_sql.specs.declared.ops.UnaryOp.TheVariants.{ToNumeric}
use Rattle.sqlite_sql.specs.declared.ops.BinaryOp.TheVariants.{Compare}
use Rattle.sqlite_sql.specs.declared.ops.CompareOp.TheVariants.{Eq}
use Rattle.sqlite_value.specs.declared.keys.Collation.TheVariants.{Binary}
use Rattle.sqlite_value.specs.Keys.{ascending}
use Rattle.sqlite.specs.Command.{Command}
use Rattle.sqlite.specs.Compile.{table_defined_by}
use Rattle.sqlite_tied.specs.Compute.{everything}
use Rattle.sqlite.specs.Listing.{understood}
use Rattle.sqlite.proofs.Callers.{command_of}
use Rattle.state_journal.specs.Schema.{front_table, lra_table, journal_schema}
use Rattle.state_journal.specs.Statements.{put_front, put_lra}

abbrev pub create_front : List ℕ
create_front = codes "CREATE TABLE front (origin INTEGER PRIMARY KEY, held INTEGER NOT NULL, purged INTEGER NOT NULL)"

abbrev pub create_lra : List ℕ
create_lra = codes "CREATE TABLE lra (home INTEGER NOT NULL, num INTEGER NOT NULL, body BLOB NOT NULL, PRIMARY KEY (home, num))"

abbrev pub select_front : List ℕ
select_front = codes "SELECT origin, held, purged FROM front ORDER BY origin"

abbrev pub select_lra : List ℕ
select_lra = codes "SELECT home, num, body FROM lra ORDER BY home, num"

abbrev pub delete_lra : List ℕ
delete_lra = codes "DELETE FROM lra WHERE home = ?1 AND num = ?2"

pub create_front_is : table_defined_by create_front ≡ Ok (record front_table { tree = 0 })
unfolding understood everything
create_front_is = refl

pub create_lra_is : table_defined_by create_lra ≡ Ok (record lra_table { tree = 0 })
unfolding understood everything
create_lra_is = refl

abbrev pub plain_query : ℕ → List Term → List Term → Query
plain_query table test shown = record {
  from = inner table end;
  filter = test;
  group = None;
  project = shown;
  distinct = false;
  collations = [];
  order = [];
  limit = lit (Int (negsuc 0));
  offset = lit (Int (pos 0));
}

abbrev pub program : Query → Program
program q = record { lets = []; body = q }

abbrev pub equals : Term → Term → Term
equals a b = op2 (Compare Eq Binary) a b

abbrev pub front_query : Query
front_query = record (plain_query 0 [] (col 1 0 ∷ col 1 2 ∷ col 1 3 ∷ [])) { order = (col 1 0, ascending Binary) ∷ [] }

abbrev pub lra_query : Query
lra_query = record (plain_query 1 [] (col 1 1 ∷ col 1 2 ∷ col 1 3 ∷ [])) { order = (col 1 1, ascending Binary) ∷ (col 1 2, ascending Binary) ∷ [] }

abbrev pub front_terms : List Term
front_terms = col 0 0 ∷ lit Null ∷ col 0 1 ∷ col 0 2 ∷ []

abbrev pub lra_terms : List Term
lra_terms = lit Null ∷ col 0 0 ∷ col 0 1 ∷ col 0 2 ∷ []

abbrev pub front_update : Query
front_update = plain_query 0 (equals (col 1 0) (col 0 3) ∷ []) (col 1 0 ∷ col 1 0 ∷ lit Null ∷ col 0 1 ∷ col 0 2 ∷ [])

abbrev pub lra_update : Query
lra_update = plain_query 1 (equals (col 1 0) (col 0 3) ∷ []) (col 1 0 ∷ col 1 0 ∷ col 1 1 ∷ col 1 2 ∷ col 0 2 ∷ [])

abbrev pub lra_delete : Query
lra_delete = plain_query 1 (equals (col 1 1) (op1 ToNumeric (col 0 0)) ∷ equals (col 1 2) (op1 ToNumeric (col 0 1)) ∷ []) (col 1 0 ∷ [])

abbrev pub front_upsert : Command
front_upsert = InsertOr 0 Abort (Values front_terms 4) (record { target = Some (0 ∷ []); update = Some (program front_update) } ∷ [])

abbrev pub lra_upsert : Command
lra_upsert = InsertOr 1 Abort (Values lra_terms 4) (record { target = Some (1 ∷ 2 ∷ []); update = Some (program lra_update) } ∷ [])

pub select_front_is : command_of (understood journal_schema select_front) ≡ Select (program front_query) (codes "origin" ∷ codes "held" ∷ codes "purged" ∷ [])
unfolding understood everything
select_front_is = refl

pub select_lra_is : command_of (understood journal_schema select_lra) ≡ Select (program lra_query) (codes "home" ∷ codes "num" ∷ codes "body" ∷ [])
unfolding understood everything
select_lra_is = refl

pub put_front_is : command_of (understood journal_schema put_front) ≡ front_upsert
unfolding understood everything
put_front_is = refl

pub put_lra_is : command_of (understood journal_schema put_lra) ≡ lra_upsert
unfolding understood everything
put_lra_is = refl

pub delete_lra_is : command_of (understood journal_schema delete_lra) ≡ Delete 1 (program lra_delete)
unfolding understood everything
delete_lra_is = refl
