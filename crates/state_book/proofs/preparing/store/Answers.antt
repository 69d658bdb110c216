use Rattle.std.proofs.Common.{Option, subst, sym}
use Rattle.std.specs.Prelude.{IfSome, IsTrue, OnOk}
use Rattle.theory_history.specs.Changes.{Change, with_patch}
use Rattle.state_journal.specs.Keeping.{Keeps}
use Rattle.sqlite.specs.Held.{state}
use Rattle.state_journal.specs.Stands.{IsPatchOf, Stands}
use Rattle.state_book.proofs.Stops.{survives_more, survives_same}
use Rattle.state_book.proofs.preparing.store.Goals as goal

pub returns-in-Some-clause-stored : goal.returns-in-Some-clause-stored
returns-in-Some-clause-stored g c me view kept fits =
    let is = subst (λ (o : Option Change). IfSome o (IsPatchOf view)) c.in-Some.is fits in
    subst (λ (o : Option Change). OnOk c.store.result (Keeps g.S.Store me c.store.new.self (with_patch o view))) (sym c.in-Some.is) (c.store.ensures.stored me view kept is)

pub returns-in-Some-clause-crash : goal.returns-in-Some-clause-crash
returns-in-Some-clause-crash g c =
    survives_more (state g.S.Store c.args.journal.now.connection) (state g.S.Store c.store.new.self.connection) _ _
    (λ db more was me view stood fits.
    subst (λ (o : Option Change). Stands me db (with_patch o view)) (sym c.in-Some.is) (more was me view stood (subst (λ (o : Option Change). IfSome o (IsPatchOf view)) c.in-Some.is fits)))
    c.store.ensures.crash

pub returns-in-None-clause-crash : goal.returns-in-None-clause-crash
returns-in-None-clause-crash g c = survives_same (state g.S.Store c.args.journal.now.connection) _

pub returns-in-Some-clause-open : goal.returns-in-Some-clause-open
returns-in-Some-clause-open g c clean =
    let old = state g.S.Store c.args.journal.now.connection in
    let new = state g.S.Store c.store.new.self.connection in
    subst (λ (o : Option Change). OnOk c.store.result (IfSome o (λ _. IsTrue old.is_open × IsTrue new.is_open))) (sym c.in-Some.is) (c.store.ensures.open clean)
