use Rattle.std.proofs.Common.{◌∙◌, ◌≡◌, inl, inr, arith, subst}
use Rattle.std.proofs.lemmas.Result.{err_from_is_err_and}
use Rattle.sqlite.specs.Held.{state}
use Rattle.sqlite.specs.State.{HasCleanDisk}
use Rattle.state_journal.specs.Rewriting.{MakesRow, RefusesOneOf, RefusesRewriting, all_records}
use Rattle.state_journal.specs.Stands.{PutsRecord}
use Rattle.state_journal.specs.Turns.{InTurn}
use Rattle.state_journal.specs.Statements.{IsRefusedOn, front_values, put_front}
use Rattle.state_journal.specs.Tables.{GoesOn, signed}
use Rattle.state_journal.proofs.QueryRefusals.{if_err}
use Rattle.state_journal.proofs.RewriteSteps.{rows_anew}
use Rattle.state_journal.proofs.StatementsFail.{failed_since}
use Rattle.state_replica.specs.Replicas.{records_in, view_of}
use Rattle.state_journal.proofs.rewriting.put_rows.Goals as goal

pub returns-clause-ok : goal.returns-clause-ok
returns-clause-ok g c clean writing =
    let old = state g.S.Store c.args.tx.now.conn.now in
    let mid = state g.S.Store c.put_homes.new.tx.conn.now in
    let new = state g.S.Store c.put_front.new.tx.conn.now in
    let first = c.in_ok-put_homes.ensures.ok (omega (arith, c.put_front.ensures.survives.clean, clean)) writing in
    let all = subst (λ homes. GoesOn (InTurn PutsRecord (all_records (records_in homes))) old mid) c.homes.ensures.homes first in
    rows_anew old mid new c.args.me _ (view_of c.args.replica.now).records c.put_front.result (omega (arith, c.number.ensures.range)) (c.from.ensures ∙ c.number.ensures.value) all (c.put_front.ensures.ok clean)

pub returns-in_err-put_homes-clause-failed : goal.returns-in_err-put_homes-clause-failed
returns-in_err-put_homes-clause-failed g c clean writing free =
    let old = state g.S.Store c.args.tx.now.conn.now in
    let stops : RefusesOneOf (all_records (records_in c.homes.result.now)) old.now.trees → RefusesRewriting c.args.me (view_of c.args.replica.now).records old.now.trees = λ refused.
    inl (subst (λ homes. RefusesOneOf (all_records (records_in homes)) old.now.trees) c.homes.ensures.homes refused) in
    let why = failed_since _ _ _ _ _ _ (omega arith) stops (c.in_err-put_homes.ensures.failed clean writing free) in
    let told = err_from_is_err_and c.from_residual.result c.from_residual.ensures.1 in
    rw (told.1, told.2) why

pub returns-clause-failed : goal.returns-clause-failed
returns-clause-failed g c clean writing free =
    let old = state g.S.Store c.args.tx.now.conn.now in
    let mid = state g.S.Store c.put_homes.new.tx.conn.now in
    let before : HasCleanDisk mid = omega (arith, c.put_front.ensures.survives.clean, clean) in
    let first = c.in_ok-put_homes.ensures.ok before writing in
    let made = subst (λ homes. InTurn MakesRow (all_records (records_in homes)) old.now.trees mid.now.trees) c.homes.ensures.homes (c.in_ok-put_homes.ensures.made before writing free) in
    let held : c.from.result ≡ c.args.me = c.from.ensures ∙ c.number.ensures.value in
    let stops : IsRefusedOn put_front (front_values 0 (signed c.from.result) (signed 2)) mid.now.trees → RefusesRewriting c.args.me (view_of c.args.replica.now).records old.now.trees = λ refused.
    inr (record { mid = mid.now.trees; made = made; refused = subst (λ k. IsRefusedOn put_front (front_values 0 (signed k) (signed 2)) mid.now.trees) held refused }) in
    if_err c.put_front.result _ _ (λ e failed. failed_since e _ _ _ _ _ c.put_homes.ensures.survives.counts stops failed) (c.put_front.ensures.failed clean first.writing (c.put_homes.ensures.survives.limit ∙ free))
