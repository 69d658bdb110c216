-- What the two tables hold, and how a statement changes them.
use Rattle.std.specs.Prelude.{◌≡◌, ◌≤◌, ◌<◌, ◌⊎◌, ◌↔◌, ℕ, ℤ, pos, List, [], ◌∷◌, true, Option, Some, IsTrue}
use Rattle.std.specs.Int.{cast_signed, w64}
use Rattle.sqlite.specs.declared.types.Value.TheVariants.{Null, Int, Blob}
use Rattle.sqlite.specs.Order.{Row, column}
use Rattle.sqlite.specs.Tree.{Trees, rowid}
use Rattle.sqlite.specs.State.{State, Shows}
use Rattle.sqlite_rules.specs.Lists.{Has}
use Rattle.state_ids.specs.Fronts.{count}
use Rattle.state_journal.specs.Schema.{front_tree, lra_tree, journal_schema}

-- a number of 64 bits, as the database keeps it: with a sign
abbrev pub signed : ℕ → ℤ
signed n = cast_signed w64 n

-- a row of `front` as the store keeps it: the origin is the row's id, and the column of the origin
-- is empty
abbrev pub front_row : ℕ → ℤ → ℤ → Row
front_row origin held purged = Int (pos origin) ∷ Null ∷ Int held ∷ Int purged ∷ []

-- the table `front` has this row
abbrev pub HasFront : Trees → ℕ → ℤ → ℤ → Type 0
HasFront db origin held purged = Has (db front_tree) (front_row origin held purged)

pub record IsFrontRow (row : Row) : Type 0 where
  pub origin : ℕ
  pub held : ℤ
  pub purged : ℤ
  pub is : row ≡ front_row origin held purged

-- each row has the form, and no origin comes twice
pub record IsFrontFormed (rows : List Row) : Type 0 where
  pub each : (row : Row) → Has rows row → IsFrontRow row
  pub apart : (a b : Row) → Has rows a → Has rows b → rowid a ≡ rowid b → a ≡ b

-- a row of `lra` as the store keeps it
abbrev pub lra_row : ℤ → ℕ → ℤ → List ℕ → Row
lra_row id home num body = Int id ∷ Int (pos home) ∷ Int num ∷ Blob body ∷ []

-- the table `lra` has this row
abbrev pub HasLra : Trees → ℕ → ℤ → List ℕ → Type 0
HasLra db home num body = (id : ℤ) × Has (db lra_tree) (lra_row id home num body)

pub record IsLraRow (row : Row) : Type 0 where
  pub id : ℤ
  pub home : ℕ
  pub num : ℤ
  pub body : List ℕ
  pub is : row ≡ lra_row id home num body

-- each row has the form of its table; in `front` no origin comes twice, in `lra` no row id and no
-- key
pub record IsFormed (db : Trees) : Type 0 where
  pub front : IsFrontFormed (db front_tree)
  pub each : (row : Row) → Has (db lra_tree) row → IsLraRow row
  pub apart : (a b : Row) → Has (db lra_tree) a → Has (db lra_tree) b → rowid a ≡ rowid b → a ≡ b
  pub one : (a b : Row) → Has (db lra_tree) a → Has (db lra_tree) b → column a 1 ≡ column b 1 → column a 2 ≡ column b 2 → a ≡ b

abbrev pub IsKey : ℕ → ℤ → ℕ → ℤ → Type 0
IsKey home num h n = (h ≡ home) × (n ≡ num)

-- the body with this key is the value, if there is one, and everything else is as it was
pub record SetsLra (home : ℕ) (num : ℤ) (value : Option (List ℕ)) (old new : Trees) : Type 0 where
  pub front : new front_tree ≡ old front_tree
  pub formed : IsFormed new
  pub there : (body : List ℕ) → HasLra new home num body ↔ (value ≡ Some body)
  pub others : (h : ℕ) (n : ℤ) (body : List ℕ) → ¬ IsKey home num h n → HasLra new h n body ↔ HasLra old h n body

-- the row of this origin has these numbers, and everything else is as it was
pub record SetsFront (origin : ℕ) (held purged : ℤ) (old new : Trees) : Type 0 where
  pub lra : new lra_tree ≡ old lra_tree
  pub formed : IsFormed new
  pub there : (h p : ℤ) → HasFront new origin h p ↔ ((h ≡ held) × (p ≡ purged))
  pub others : (o : ℕ) (h p : ℤ) → ¬ (o ≡ origin) → HasFront new o h p ↔ HasFront old o h p

-- the rows of the first nodes have these numbers, and everything else is as it was
pub record SetsFronts (front purges : List ℕ) (nodes : ℕ) (old new : Trees) : Type 0 where
  pub lra : new lra_tree ≡ old lra_tree
  pub formed : IsFormed new
  pub there : (node : ℕ) (h p : ℤ) → 1 ≤ node → node ≤ nodes → HasFront new node h p ↔ ((h ≡ signed (count front node)) × (p ≡ signed (count purges node)))
  pub others : (o : ℕ) (h p : ℤ) → (o ≡ 0) ⊎ (nodes < o) → HasFront new o h p ↔ HasFront old o h p

-- a journal with a transaction on
pub record IsWriting (s : State) : Type 0 where
  pub is_open : IsTrue s.is_open
  pub inside : IsTrue s.in_transaction
  pub schema : s.now.schema ≡ journal_schema
  pub formed : IsFormed s.now.trees

-- a journal between two transactions
pub record IsJournal (s : State) : Type 0 where
  pub is_open : IsTrue s.is_open
  pub settled : s.now ≡ s.committed
  pub schema : s.now.schema ≡ journal_schema
  pub formed : IsFormed s.now.trees

-- the transaction goes on over the same commit, and its trees have changed this way
pub record GoesOn (Changes : Trees → Trees → Type 0) (old new : State) : Type 0 where
  pub shows : Shows old new new.now old.committed true
  pub writing : IsWriting new
  pub change : Changes old.now.trees new.now.trees
