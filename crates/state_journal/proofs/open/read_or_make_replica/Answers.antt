use Rattle.std.proofs.Common.{◌∙◌, arith, inl, inr, subst, sym}
use Rattle.sqlite.specs.Held.{state}
use Rattle.theory_history.specs.Views.{View}
use Rattle.state_journal.specs.Keeping.{IsOwn}
use Rattle.state_journal.specs.Ruled.{KeepsRules}
use Rattle.state_journal.specs.Stands.{KeepsView}
use Rattle.state_replica.specs.Replicas.{view_of}
use Rattle.state_journal.proofs.KeptRules.{empty_keeps_rules}
use Rattle.state_journal.proofs.Opened.{IsRead, of_same, renewed_crash, renewed_failed, renewed_keeps, renewed_ruled}
use Rattle.state_journal.proofs.open.read_or_make_replica.Goals as goal

pub returns-in-None-clause-ruled : goal.returns-in-None-clause-ruled
returns-in-None-clause-ruled g c clean own = elim own [
  | inl new ↦ subst (λ (v : View). KeepsRules v) (sym c.in_ok-empty.ensures.empty) (empty_keeps_rules c.args.nodes c.requires.few)
  | inr journal ↦ absurd (rw c.in-None.is at (c.in_ok-read.ensures.reads clean journal).1)
]

pub returns-in-Some-clause-crash : goal.returns-in-Some-clause-crash
returns-in-Some-clause-crash g c =
    let old = state g.S.Store c.args.connection.now in
    let mid = state g.S.Store c.read_or_make.new.connection in
    let read : IsRead old mid c.args.me c.in-Some.version (view_of c.in-Some.replica) = record {
      not_new = λ clean fresh. absurd (let both = sym c.in-Some.is ∙ (c.in_ok-read.ensures.made clean fresh).0 in cc);
      reads = λ clean was. rw c.in-Some.is at (c.in_ok-read.ensures.reads clean was).0;
      rules = λ clean was. rw c.in-Some.is at (c.in_ok-read.ensures.ruled clean was);
      same = c.in_ok-read.ensures.same;
    } in
    renewed_crash old mid (state g.S.Store c.renew_rows.new.connection) c.args.me c.args.nodes c.in-Some.version (view_of c.in-Some.replica) read c.read_or_make.ensures.crash c.renew_rows.ensures.crash

pub returns-in-Some-clause-keeps : goal.returns-in-Some-clause-keeps
returns-in-Some-clause-keeps g c =
    let old = state g.S.Store c.args.connection.now in
    let mid = state g.S.Store c.read_or_make.new.connection in
    let new = state g.S.Store c.renew_rows.new.connection in
    let read : IsRead old mid c.args.me c.in-Some.version (view_of c.in-Some.replica) = record {
      not_new = λ clean fresh. absurd (let both = sym c.in-Some.is ∙ (c.in_ok-read.ensures.made clean fresh).0 in cc);
      reads = λ clean was. rw c.in-Some.is at (c.in_ok-read.ensures.reads clean was).0;
      rules = λ clean was. rw c.in-Some.is at (c.in_ok-read.ensures.ruled clean was);
      same = c.in_ok-read.ensures.same;
    } in
    of_same (λ replica. IsOwn old → KeepsView c.args.me new (view_of replica)) c.renew_rows.result c.in-Some.replica c.renew_rows.ensures.same
    (renewed_keeps old mid new c.args.me c.args.nodes c.in-Some.version (view_of c.in-Some.replica) read c.renew_rows.result (λ clean. omega (arith, c.renew_rows.ensures.crash.clean, clean)) c.renew_rows.ensures.was_open c.renew_rows.ensures.stands)

pub returns-in-Some-clause-ruled : goal.returns-in-Some-clause-ruled
returns-in-Some-clause-ruled g c clean own =
    let old = state g.S.Store c.args.connection.now in
    let mid = state g.S.Store c.read_or_make.new.connection in
    let new = state g.S.Store c.renew_rows.new.connection in
    let read : IsRead old mid c.args.me c.in-Some.version (view_of c.in-Some.replica) = record {
      not_new = λ clean fresh. absurd (let both = sym c.in-Some.is ∙ (c.in_ok-read.ensures.made clean fresh).0 in cc);
      reads = λ clean was. rw c.in-Some.is at (c.in_ok-read.ensures.reads clean was).0;
      rules = λ clean was. rw c.in-Some.is at (c.in_ok-read.ensures.ruled clean was);
      same = c.in_ok-read.ensures.same;
    } in
    of_same (λ replica. KeepsRules (view_of replica)) c.renew_rows.result c.in-Some.replica c.renew_rows.ensures.same
    (renewed_ruled old mid new c.args.me c.args.nodes c.in-Some.version (view_of c.in-Some.replica) read c.renew_rows.result (omega (arith, c.renew_rows.ensures.crash.clean, clean)) own)

pub returns-in-Some-clause-failed : goal.returns-in-Some-clause-failed
returns-in-Some-clause-failed g c clean was idle free =
    let old = state g.S.Store c.args.connection.now in
    let mid = state g.S.Store c.read_or_make.new.connection in
    let new = state g.S.Store c.renew_rows.new.connection in
    let read : IsRead old mid c.args.me c.in-Some.version (view_of c.in-Some.replica) = record {
      not_new = λ clean fresh. absurd (let both = sym c.in-Some.is ∙ (c.in_ok-read.ensures.made clean fresh).0 in cc);
      reads = λ clean was. rw c.in-Some.is at (c.in_ok-read.ensures.reads clean was).0;
      rules = λ clean was. rw c.in-Some.is at (c.in_ok-read.ensures.ruled clean was);
      same = c.in_ok-read.ensures.same;
    } in
    renewed_failed old mid new c.args.me c.args.nodes c.in-Some.version (view_of c.in-Some.replica) read c.renew_rows.result c.read_or_make.ensures.crash c.renew_rows.ensures.crash clean was
    c.renew_rows.ensures.first (λ there. c.renew_rows.ensures.failed clean there (c.read_or_make.ensures.crash.limit ∙ free))
