-- What a transaction on the rows means for the views that they stand for.
use Rattle.std.proofs.Common.{◌≡◌, ◌⊎◌, inl, inr, ℕ, Ok, Err, Result, arith, sym, subst, ap, ◌∙◌}
use Rattle.std.specs.Prelude.{IsTrue, MatchResult, OnErr, OnOk}
use Rattle.sqlite.specs.Effect.{Database}
use Rattle.sqlite.specs.Held.{state}
use Rattle.sqlite.specs.State.{State, HasCleanDisk, Survives}
use Rattle.sqlite.specs.Tree.{Trees}
use Rattle.sqlite_trees.specs.declared.store.Store.{Ghosts}
use Rattle.theory_history.specs.Changes.{Change, patched}
use Rattle.theory_history.specs.Views.{View}
use Rattle.state_journal.specs.Keeping.{IsOwn, JournalState, Keeps}
use Rattle.state_journal.specs.Tables.{IsFormed, IsJournal}
use Rattle.state_journal.specs.Stands.{IsPatchOf, KeepsView, Patches, Stands}
use Rattle.state_journal.proofs.StandsLemmas.{patch_stands}

-- the rows stand for the patched view
pub stored : {A E : Type 0} (me : ℕ) (view : View) (change : Change) (old new : State) (result : Result A E) → Stands me old.now.trees view → IsPatchOf view change
    → OnOk result (IsJournal new × Patches change old.now.trees new.now.trees) → OnOk result (IsJournal new × Stands me new.now.trees (patched change view))
stored me view change old new (Ok done) stands fits did = (did.0, patch_stands me old.now.trees new.now.trees view change stands fits did.1)
stored me view change old new (Err e) stands fits did = did

-- a stop leaves what it would have left before, or rows for the patched view
pub survived : (change : Change) (old new : State) → Survives old new (λ db. IsJournal old → Patches change old.now.trees db)
    → Survives old new (λ db. IsJournal old → (me : ℕ) (view : View) → Stands me old.now.trees view → IsPatchOf view change → Stands me db (patched change view))
survived change old new s = record {
  clean = s.clean;
  shield = s.shield;
  counts = s.counts;
  limit = s.limit;
  closes = s.closes;
  crash = λ clean db may. elim (s.crash clean db may) [
    | inl before ↦ inl before
    | inr left ↦ inr (λ was me view stands fits. patch_stands me old.now.trees db view change stands fits (left was))
  ];
}

-- if nothing changed, the rows stand for the view as before
same_view : (me : ℕ) (view : View) (old new : State) → IsTrue new.is_open → IsJournal old → Stands me old.now.trees view → (new.now ≡ old.now) × (new.committed ≡ old.committed)
    → IsJournal new × Stands me new.now.trees view
same_view me view old new still was stands same = (
  record {
    is_open = still;
    settled = same.0 ∙ was.settled ∙ sym same.1;
    schema = ap (λ (d : Database). d.schema) same.0 ∙ was.schema;
    formed = subst (λ (d : Database). IsFormed d.trees) (sym same.0) was.formed;
  },
  subst (λ (d : Database). Stands me d.trees view) (sym same.0) stands,
)

-- after a patch the patched view is kept, and after a refusal the view as it was
pub keeps : {A E : Type 0} {P : Trees → Type 0} (me : ℕ) (view : View) (change : Change) (old new : State) (result : Result A E) → Survives old new P
    → (HasCleanDisk new → IsTrue new.is_open → IsTrue old.is_open)
    → (HasCleanDisk new → IsJournal old → OnOk result (IsJournal new × Patches change old.now.trees new.now.trees))
    → (HasCleanDisk new → IsJournal old → IsTrue new.is_open → OnErr result ((new.now ≡ old.now) × (new.committed ≡ old.committed)))
    → KeepsView me old view
    → MatchResult result (λ _. IsPatchOf view change → KeepsView me new (patched change view)) (λ _. KeepsView me new view)
keeps me view change old new (Ok done) survives was_open ok kept held = λ fits clean still.
    let was = held (omega (arith, survives.clean, clean)) (was_open clean still) in
    let did = ok clean was.0 in
    (did.0, patch_stands me old.now.trees new.now.trees view change was.1 fits did.1)
keeps me view change old new (Err e) survives was_open ok kept held = λ clean still.
    let was = held (omega (arith, survives.clean, clean)) (was_open clean still) in
    same_view me view old new still was.0 was.1 (kept clean was.0 still)

-- what a stop leaves stands for the view, or for the patched view
pub stops : (me : ℕ) (view : View) (change : Change) (was db : Trees) → Stands me was view → IsPatchOf view change → (db ≡ was) ⊎ Patches change was db → Stands me db view ⊎ Stands me db (patched change view)
stops me view change was db stands fits (inl same) = inl (subst (λ t. Stands me t view) (sym same) stands)
stops me view change was db stands fits (inr did) = inr (patch_stands me was db view change stands fits did)

-- what a stop leaves of an open journal is what it shows, which stands for the view
pub leaves : {S : Type 0} (g : Ghosts S) → ((s : S) (db : Trees) → IsTrue (g.view s).is_open → g.recovers s db → db ≡ (g.view s).committed) → (me : ℕ) (journal : JournalState S) (view : View)
    → Keeps g me journal view → HasCleanDisk (state g journal.connection) → IsOwn (state g journal.opened) → IsTrue (state g journal.connection).is_open
    → (db : Trees) → (state g journal.connection).may_leave db → Stands me db view
leaves g settled me journal view keeps clean own on db may =
    let it = keeps own clean on in
    let same : db ≡ (state g journal.connection).now.trees = settled journal.connection.store db on may ∙ sym (ap (λ (d : Database). d.trees) it.0.settled) in
    subst (λ t. Stands me t view) (sym same) it.1
