-- What a stop leaves before anything was done, and after all was.
use Rattle.std.proofs.Common.{◌≡◌, inl, ℕ, zero, suc, IsTrue, refl, sym, ap, subst, arith, replicate, [], ◌∷◌}
use Rattle.sqlite.specs.Effect.{Database}
use Rattle.sqlite.specs.Held.{Held, state}
use Rattle.sqlite.specs.State.{HasCleanDisk, Survives}
use Rattle.sqlite.specs.Tree.{Trees}
use Rattle.sqlite_trees.specs.declared.store.Store.{Ghosts}
use Rattle.wire_frames.specs.declared.version.Version.TheVariants.{Two}
use Rattle.state_journal.specs.Keeping.{IsOwn}
use Rattle.state_journal.specs.NewStores.{MayLeaveOpened}
use Rattle.state_journal.specs.Ruled.{KeepsRules}
use Rattle.state_journal.specs.Stands.{Stands}
use Rattle.state_journal.specs.Tables.{IsJournal}
use Rattle.state_book.specs.Books.{AreRuled, BookState, IsBook, IsStartedBehind, MayCommit}
use Rattle.state_book.specs.declared.calls.Call.{Call}
use Rattle.theory_trail.specs.Upgrades.{AreStopped, IsStopped, stopped_at_once, stopped_when_done}

module _ {S : Type 0} (g : Ghosts S) (stays : (s : S) → IsTrue (g.view s).is_open → g.recovers s (g.view s).committed) where
  itself : (held : Held S) (commits : Trees → Type 0) → IsTrue (state g held).is_open → Survives (state g held) (state g held) commits
  itself held commits is_open =
      record {
        clean = omega arith;
        shield = λ x. x;
        counts = omega arith;
        limit = refl;
        closes = λ clean was. inl is_open;
        crash = λ clean db may. inl may;
      }

  may_leave_rows : (held : Held S) → IsJournal (state g held) → (state g held).may_leave (state g held).now.trees
  may_leave_rows held journal =
      subst (λ (db : Trees). g.recovers held.store db) (sym (ap (λ (d : Database). d.trees) journal.settled)) (stays held.store journal.is_open)

  stopped_once : (me nodes : ℕ) (taken left : Held S) → IsJournal (state g taken) → Survives (state g taken) (state g left) (MayLeaveOpened (state g taken) me nodes) → IsJournal (state g left) → HasCleanDisk (state g left)
      → IsStopped g me nodes (state g taken).now.trees (stopped_when_done g taken left)
  stopped_once me nodes taken left was survives is clean = record { was = was; shows = refl; survives = survives; clean = clean; may = may_leave_rows left is }

  pub openings_before : (me nodes stops : ℕ) (held : Held S) → IsJournal (state g held) → HasCleanDisk (state g held)
      → AreStopped g me nodes (state g held).now.trees (replicate stops (stopped_at_once g held)) (state g held).now.trees
  openings_before me nodes zero held journal clean = refl
  openings_before me nodes (suc stops) held journal clean = (
    stopped_once me nodes held held journal (itself held _ journal.is_open) journal clean,
    openings_before me nodes stops held journal clean,
  )

  pub openings_after : (me nodes : ℕ) (taken left : Held S) → IsJournal (state g taken) → Survives (state g taken) (state g left) (MayLeaveOpened (state g taken) me nodes) → IsJournal (state g left) → HasCleanDisk (state g left)
      → AreStopped g me nodes (state g taken).now.trees (stopped_when_done g taken left ∷ []) (state g left).now.trees
  openings_after me nodes taken left was survives is clean = (stopped_once me nodes taken left was survives is clean, refl)

  -- a call that was stopped once it was done
  pub started_after : (old new : BookState S) (asked : Call) (now : ℕ) → Survives (state g old.journal.connection) (state g new.journal.connection) (MayCommit g old asked now)
      → IsBook g new → new.me ≡ old.me → new.journal.opened ≡ old.journal.opened → KeepsRules new.records → IsOwn (state g old.journal.opened) → IsTrue (state g old.journal.connection).is_open
      → IsTrue (state g new.journal.connection).is_open → HasCleanDisk (state g new.journal.connection)
      → IsStartedBehind g old asked now new.journal.connection (state g new.journal.connection).now.trees new.records
  started_after old new asked now survives is node first rules own was_open is_open clean =
      let kept = is.stored (subst (λ (h : Held S). IsOwn (state g h)) (sym first) own) clean is_open in
      record {
        own = own;
        was_open = was_open;
        survives = survives;
        clean = clean;
        may = may_leave_rows new.journal.connection kept.0;
        version = Two;
        stands = subst (λ (me : ℕ). Stands me (state g new.journal.connection).now.trees new.records) node kept.1;
        rules = rules;
      }

  -- one that was stopped before it did anything
  pub started_before : (old : BookState S) (asked : Call) (now : ℕ) → IsBook g old → AreRuled old asked now → IsOwn (state g old.journal.opened) → IsTrue (state g old.journal.connection).is_open
      → HasCleanDisk (state g old.journal.connection) → IsStartedBehind g old asked now old.journal.connection (state g old.journal.connection).now.trees old.records
  started_before old asked now is ruled own is_open clean =
      started_after old old asked now (itself old.journal.connection _ is_open) is refl refl ruled.before own is_open is_open clean
