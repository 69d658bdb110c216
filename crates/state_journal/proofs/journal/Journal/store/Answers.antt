use Rattle.std.proofs.Common.{ℕ, sym, subst, ap}
use Rattle.sqlite.specs.Held.{Held, state}
use Rattle.sqlite.specs.State.{HasCleanDisk, Survives}
use Rattle.theory_history.specs.Changes.{patched}
use Rattle.theory_history.specs.Views.{View}
use Rattle.state_journal.specs.Keeping.{IsOwn, JournalState, Keeps}
use Rattle.state_journal.specs.Stands.{IsPatchOf, KeepsView, Stands}
use Rattle.state_journal.specs.Tables.{IsJournal}
use Rattle.state_journal.proofs.journal.Journal.store.Goals as goal

pub returns-in-Ok-clause-stands : goal.returns-in-Ok-clause-stands
returns-in-Ok-clause-stands g c me view clean was stands fits =
    let back = sym (ap (λ (j : JournalState g.row.S.Denot). j.connection) c.self.view_is) in
    c.in-Ok.ensures.stands me view clean (subst (λ first. IsJournal (state g.S.Store first)) back was) (subst (λ first. Stands me (state g.S.Store first).now.trees view) back stands) fits

pub returns-in-Ok-clause-stored : goal.returns-in-Ok-clause-stored
returns-in-Ok-clause-stored g c me view held fits own =
    let before = subst (λ (j : JournalState g.row.S.Denot). Keeps g.S.Store me j view) (sym c.self.view_is) held in
    c.in-Ok.ensures.keeps me view (before own) fits

pub returns-in-Ok-clause-crash : goal.returns-in-Ok-clause-crash
returns-in-Ok-clause-crash g c =
    subst (λ (first : Held g.row.S.Denot). Survives (state g.S.Store first) (state g.S.Store c.write_patch.new.connection) (λ db. IsJournal (state g.S.Store first) → (me : ℕ) (view : View) →
    Stands me (state g.S.Store first).now.trees view → IsPatchOf view c.args.patch.now → Stands me db (patched c.args.patch.now view)))
    (ap (λ (j : JournalState g.row.S.Denot). j.connection) c.self.view_is) c.write_patch.ensures.crash

pub returns-in-Ok-clause-stops : goal.returns-in-Ok-clause-stops
returns-in-Ok-clause-stops g c me view clean was stands fits db may =
    let back = sym (ap (λ (j : JournalState g.row.S.Denot). j.connection) c.self.view_is) in
    c.write_patch.ensures.stops me view clean (subst (λ first. IsJournal (state g.S.Store first)) back was) (subst (λ first. Stands me (state g.S.Store first).now.trees view) back stands) fits db may

pub returns-in-Err-clause-kept : goal.returns-in-Err-clause-kept
returns-in-Err-clause-kept g c me view held own =
    let before = subst (λ (j : JournalState g.row.S.Denot). Keeps g.S.Store me j view) (sym c.self.view_is) held in
    let was = subst (λ first. IsOwn (state g.S.Store first)) c.refuse.ensures.opened own in
    subst (λ last. KeepsView me (state g.S.Store last) view) (sym c.refuse.ensures.connection) (c.in-Err.ensures.keeps me view (before was))

pub returns-in-Err-clause-crash : goal.returns-in-Err-clause-crash
returns-in-Err-clause-crash g c =
    subst (λ (last : Held g.row.S.Denot). Survives (state g.S.Store c.args.self.now.connection) (state g.S.Store last) (λ db. IsJournal (state g.S.Store c.args.self.now.connection) → (me : ℕ) (view : View) →
    Stands me (state g.S.Store c.args.self.now.connection).now.trees view → IsPatchOf view c.args.patch.now → Stands me db (patched c.args.patch.now view)))
    (sym c.refuse.ensures.connection)
    (subst (λ (first : Held g.row.S.Denot). Survives (state g.S.Store first) (state g.S.Store c.write_patch.new.connection) (λ db. IsJournal (state g.S.Store first) → (me : ℕ) (view : View) →
    Stands me (state g.S.Store first).now.trees view → IsPatchOf view c.args.patch.now → Stands me db (patched c.args.patch.now view)))
    (ap (λ (j : JournalState g.row.S.Denot). j.connection) c.self.view_is) c.write_patch.ensures.crash)

pub returns-in-Err-clause-stops : goal.returns-in-Err-clause-stops
returns-in-Err-clause-stops g c me view clean was stands fits db may =
    let same = c.refuse.ensures.connection in
    let back = sym (ap (λ (j : JournalState g.row.S.Denot). j.connection) c.self.view_is) in
    c.write_patch.ensures.stops me view (subst (λ last. HasCleanDisk (state g.S.Store last)) same clean) (subst (λ first. IsJournal (state g.S.Store first)) back was)
    (subst (λ first. Stands me (state g.S.Store first).now.trees view) back stands) fits db (subst (λ last. (state g.S.Store last).may_leave db) same may)
