use Rattle.std.proofs.Common.{◌∙◌, arith, subst}
use Rattle.std.proofs.lemmas.Result.{err_from_is_err_and}
use Rattle.sqlite.specs.Effect.{Database}
use Rattle.sqlite.specs.Held.{state}
use Rattle.sqlite.specs.State.{HasCleanDisk}
use Rattle.state_journal.specs.Rewriting.{RefusesRewriting}
use Rattle.state_journal.proofs.QueryRefusals.{if_err}
use Rattle.state_journal.proofs.StatementsFail.{asked_first, failed_since, writing_still}
use Rattle.state_replica.specs.Replicas.{view_of}
use Rattle.state_journal.proofs.rewriting.put_anew.Goals as goal

pub returns-in_err-select_front-clause-failed : goal.returns-in_err-select_front-clause-failed
returns-in_err-select_front-clause-failed g c clean writing free =
    let why = asked_first _ _ _ _ (c.in_err-select_front.ensures.refused clean writing.is_open writing.schema free) in
    let told = err_from_is_err_and c.from_residual.result c.from_residual.ensures.1 in
    rw (told.1, told.2) why

pub returns-clause-failed : goal.returns-clause-failed
returns-clause-failed g c clean writing free =
    let old = state g.S.Store c.args.tx.now.conn.now in
    let mid = state g.S.Store c.select_front.new.tx.conn.now in
    let before : HasCleanDisk mid = omega (arith, c.put_rows.ensures.survives.clean, clean) in
    let same = c.in_ok-select_front.ensures.same before writing.schema in
    let stops : RefusesRewriting c.args.me (view_of c.args.replica.now).records mid.now.trees → RefusesRewriting c.args.me (view_of c.args.replica.now).records old.now.trees = λ refused. subst (λ (d : Database). RefusesRewriting c.args.me (view_of c.args.replica.now).records d.trees) same refused in
    if_err c.put_rows.result _ _ (λ e failed. failed_since e _ _ _ _ _ c.select_front.ensures.survives.counts stops failed)
    (c.put_rows.ensures.failed clean (writing_still old mid writing (c.in_ok-select_front.ensures.still before writing.schema) (c.in_ok-select_front.ensures.inside before writing.inside) same) (c.select_front.ensures.survives.limit ∙ free))
