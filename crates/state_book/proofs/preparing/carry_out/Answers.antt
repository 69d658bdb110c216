use Rattle.std.proofs.Common.{subst, sym}
use Rattle.sqlite.specs.Held.{state}
use Rattle.theory_history.specs.Views.{View}
use Rattle.state_replica.specs.Replicas.{view_of}
use Rattle.state_journal.specs.Keeping.{Keeps}
use Rattle.state_book.proofs.FittingPatches.{fits_its_view}
use Rattle.state_book.proofs.Stops.{survives_more}
use Rattle.state_book.proofs.preparing.carry_out.Goals as goal

pub returns-clause-keeps : goal.returns-clause-keeps
returns-clause-keeps g c me kept =
    subst (λ (v : View). Keeps g.S.Store me c.store.new.journal v) (sym c.change.ensures.view) (c.in_ok-store.ensures.stored me (view_of c.args.replica.now) kept (fits_its_view c.args.patch c.args.replica.now c.requires))

pub returns-in_err-store-clause-keeps : goal.returns-in_err-store-clause-keeps
returns-in_err-store-clause-keeps g c me kept = c.in_err-store.ensures.kept me (view_of c.args.replica.now) kept

pub returns-clause-crash : goal.returns-clause-crash
returns-clause-crash g c =
    survives_more (state g.S.Store c.args.journal.now.connection) (state g.S.Store c.store.new.journal.connection) _ _
    (λ db more was me stood. more was me (view_of c.args.replica.now) stood (fits_its_view c.args.patch c.args.replica.now c.requires)) c.store.ensures.crash

pub returns-in_err-store-clause-crash : goal.returns-in_err-store-clause-crash
returns-in_err-store-clause-crash g c =
    survives_more (state g.S.Store c.args.journal.now.connection) (state g.S.Store c.store.new.journal.connection) _ _
    (λ db more was me stood. more was me (view_of c.args.replica.now) stood (fits_its_view c.args.patch c.args.replica.now c.requires)) c.store.ensures.crash
