-- What the first opening of a store makes.
use Rattle.std.specs.Prelude.{◌≡◌, ℕ, [], true, IsTrue}
use Rattle.sqlite.specs.State.{State, Shows}
use Rattle.sqlite.specs.Tree.{Trees}
use Rattle.theory_history.specs.Views.{View, empty_view}
use Rattle.wire_frames.specs.declared.version.Version.TheVariants.{One}
use Rattle.state_journal.specs.Schema.{no_schema, front_schema, journal_schema, front_tree, lra_tree}
use Rattle.state_journal.specs.Ruled.{KeepsRulesAs}
use Rattle.state_journal.specs.Stands.{Stands, StandsAs}
use Rattle.state_journal.specs.Tables.{IsJournal}

-- an open store with neither table
pub record IsNew (s : State) : Type 0 where
  pub is_open : IsTrue s.is_open
  pub settled : s.now ≡ s.committed
  pub schema : s.now.schema ≡ no_schema

-- such a store with a transaction on
pub record IsMaking (s : State) : Type 0 where
  pub is_open : IsTrue s.is_open
  pub inside : IsTrue s.in_transaction
  pub schema : s.now.schema ≡ no_schema

-- the same with the table `front`, which has no row
pub record IsHalfMade (s : State) : Type 0 where
  pub is_open : IsTrue s.is_open
  pub inside : IsTrue s.in_transaction
  pub schema : s.now.schema ≡ front_schema
  pub empty : s.now.trees front_tree ≡ []

-- a store with both tables and a transaction on
pub record IsThere (s : State) : Type 0 where
  pub inside : IsTrue s.in_transaction
  pub schema : s.now.schema ≡ journal_schema

-- the transaction goes on over the same commit, and the first table was made
abbrev pub HasFrontTable : State → State → Type 0
HasFrontTable old new = Shows old new new.now old.committed true × IsHalfMade new

-- both tables exist, and have no row
abbrev pub HasNoRows : Trees → Type 0
HasNoRows db = (db front_tree ≡ []) × (db lra_tree ≡ [])

abbrev pub Empties : Trees → Trees → Type 0
Empties old new = HasNoRows new

-- tables without a row get the rows of a view of no facts
abbrev pub SetsNone : (me nodes : ℕ) → Trees → Trees → Type 0
SetsNone me nodes old new = HasNoRows old → Stands me new (empty_view nodes)

-- What a stop may leave while the tables are made, in addition to what it left before: of a journal
-- nothing, of a new store the rows of a view of no facts. Nothing is said of any other store
abbrev pub MayLeaveNew : State → (me nodes : ℕ) → Trees → Type 0
MayLeaveNew s me nodes db = ¬ IsJournal s × (IsNew s → Stands me db (empty_view nodes))

-- Rows of version 1 became rows of version 2 for the same view. The view keeps the rules of version
-- 1, so nobody listens in it, and there is no other such view
pub record IsRewritten (me : ℕ) (old new : Trees) : Type 0 where
  pub view : View
  pub before : StandsAs One me old view
  pub rules : KeepsRulesAs One view
  pub after : Stands me new view

-- What a stop during an opening may leave, in addition to what it left before: of a new store the
-- rows of a view of no facts, and of a journal of version 1 its rows in version 2. Of a journal of
-- version 2 that is nothing. Nothing is said of any other store
abbrev pub MayLeaveOpened : State → (me nodes : ℕ) → Trees → Type 0
MayLeaveOpened s me nodes db = (IsNew s → Stands me db (empty_view nodes)) × (IsJournal s → IsRewritten me s.now.trees db)
