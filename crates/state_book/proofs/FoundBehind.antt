-- What a start finds after a call.
use Rattle.std.proofs.Common.{◌≡◌, ◌⊎◌, inl, inr, ℕ, IsTrue, arith, subst, sym}
use Rattle.sqlite.specs.Held.{Held, state}
use Rattle.sqlite.specs.State.{HasCleanDisk}
use Rattle.sqlite.specs.Tree.{Trees}
use Rattle.sqlite_trees.specs.declared.store.Store.{Ghosts}
use Rattle.theory_history.specs.Views.{View}
use Rattle.state_journal.proofs.RuledViews.{one_ruled_view, rows_of_one_version}
use Rattle.state_journal.proofs.Stored.{leaves}
use Rattle.state_journal.specs.Tables.{IsJournal}
use Rattle.wire_frames.specs.declared.version.Version.{Version}
use Rattle.wire_frames.specs.declared.version.Version.TheVariants.{Two}
use Rattle.state_journal.specs.Stands.{Stands, StandsAs}
use Rattle.state_book.specs.declared.calls.Call.{Call}
use Rattle.state_book.specs.Books.{AreRuled, BookState, IsBook, IsStartedBehind, MayCommit}
use Rattle.state_book.specs.Next.{IsFoundBehind, IsNext}

module _ {S : Type 0} (g : Ghosts S) (settled : (s : S) (db : Trees) → IsTrue (g.view s).is_open → g.recovers s db → db ≡ (g.view s).committed)
    (old : BookState S) (asked : Call) (now : ℕ) (left : Held S) (db : Trees) (found : View) (is : IsBook g old) (ruled : AreRuled old asked now) (started : IsStartedBehind g old asked now left db found) where
  clean : HasCleanDisk (state g old.journal.connection)
  clean = omega (arith, started.survives.clean, started.clean)

  shown : IsJournal (state g old.journal.connection) × Stands old.me (state g old.journal.connection).now.trees old.records
  shown = is.stored started.own clean started.was_open

  -- the rows that a call leaves are of version 2
  of_two : (view : View) → Stands old.me db view → Stands old.me db found
  of_two view stands = subst (λ (v : Version). StandsAs v old.me db found) (rows_of_one_version started.version Two old.me db found view started.stands stands) started.stands

  by : (state g old.journal.connection).may_leave db ⊎ MayCommit g old asked now db → IsFoundBehind old.me old.records asked now found
  by (inl before) =
      let stands = leaves g settled old.me old.journal old.records is.stored clean started.own started.was_open db before in
      inl (one_ruled_view Two old.me db found old.records (of_two old.records stands) stands started.rules ruled.before)
  by (inr commits) =
      let it = commits shown.0 shown.1 in
      let same = one_ruled_view Two old.me db found it.1 (of_two it.1 it.3) it.3 started.rules (ruled.next it.0 it.1 it.2) in
      inr (it.0, subst (λ v. IsNext old.me old.records asked now it.0 v) (sym same) it.2)

  pub found_behind : IsFoundBehind old.me old.records asked now found
  found_behind = by (started.survives.crash started.clean db started.may)
