-- What a journal keeps.
use Rattle.std.specs.Prelude.{◌≡◌, ◌+◌, ◌⊎◌, ℕ}
use Rattle.sqlite.specs.Held.{Held, state}
use Rattle.sqlite.specs.State.{State}
use Rattle.sqlite_trees.specs.declared.store.Store.{Ghosts}
use Rattle.theory_history.specs.Views.{View}
use Rattle.state_journal.specs.NewStores.{IsNew}
use Rattle.state_journal.specs.Stands.{KeepsView}
use Rattle.state_journal.specs.Tables.{IsJournal}

-- a store that no one else wrote: a new one, or a journal
abbrev pub IsOwn : State → Type 0
IsOwn s = IsNew s ⊎ IsJournal s

-- A journal as contracts see it: its connection, the state of that connection when the journal was
-- opened, and the number of the database's refusals since then, except for those because memory ran
-- out, as far as a number of 64 bits counts
pub record JournalState (S : Type 0) : Type 0 where
  pub connection : Held S
  pub opened : Held S
  pub refusals : ℕ

-- A journal that was opened on a store of its own keeps this view of the node: while the disk is
-- clean and the connection open, its rows stand for the view
abbrev pub Keeps : {S : Type 0} → Ghosts S → (me : ℕ) → JournalState S → View → Type 0
Keeps g me journal view = IsOwn (state g journal.opened) → KeepsView me (state g journal.connection) view

-- one more refusal was counted, unless the count is as great as possible
abbrev pub IsCounted : (old new : ℕ) → Type 0
IsCounted old new = (new ≡ old + 1) ⊎ ((new ≡ old) × (old ≡ 18446744073709551615))
