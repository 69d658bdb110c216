use Rattle.std.proofs.Common.{◌≡◌, ap, ◌∙◌, w64, of_z}
use Rattle.std.proofs.Math.Facts.{of_z-to_z}
use Rattle.std.proofs.lemmas.Result.{err_from_is_err_and}
use Rattle.sqlite.specs.Held.{state}
use Rattle.state_journal.specs.Tables.{signed}
use Rattle.state_journal.proofs.FrontStep.{front_step}
use Rattle.state_journal.proofs.StatementsFail.{front_refused}
use Rattle.state_journal.proofs.steps.put_front.Goals as goal

pub returns-clause-ok : goal.returns-clause-ok
returns-clause-ok g c clean writing =
    let old = state g.S.Store c.args.tx.now.conn.now in
    let new = state g.S.Store c.execute.new.self.conn.now in
    let ran = c.in_ok-execute.ensures.runs clean writing.inside in
    let bits1 : of_z w64 c.cast_signed.result ≡ c.args.held = ap (of_z w64) c.cast_signed.ensures ∙ of_z-to_z c.ranges.held in
    let bits2 : of_z w64 c.cast_signed-2.result ≡ c.args.purged = ap (of_z w64) c.cast_signed-2.ensures ∙ of_z-to_z c.ranges.purged in
    let all = front_step old new c.args.origin (signed c.args.held) (signed c.args.purged) c.in_ok-execute.field-0 writing.schema writing.formed (rw (c.params-to_sql.ensures, c.from.ensures, c.params-to_sql-2.ensures, c.params-to_sql-3.ensures, bits1, bits2) at ran.0) in
    record { shows = ran.1; writing = record { is_open = ran.1.is_open; inside = ran.1.mode; schema = all.0; formed = all.1.formed }; change = all.1 }

pub returns-in_err-execute-clause-failed : goal.returns-in_err-execute-clause-failed
returns-in_err-execute-clause-failed g c clean writing free =
    let old = state g.S.Store c.args.tx.now.conn.now in
    let new = state g.S.Store c.execute.new.self.conn.now in
    let ran = c.in_err-execute.ensures.runs clean writing.inside in
    let bits1 : of_z w64 c.cast_signed.result ≡ c.args.held = ap (of_z w64) c.cast_signed.ensures ∙ of_z-to_z c.ranges.held in
    let bits2 : of_z w64 c.cast_signed-2.result ≡ c.args.purged = ap (of_z w64) c.cast_signed-2.ensures ∙ of_z-to_z c.ranges.purged in
    let why = front_refused old new _ _ _ writing.schema free _ writing.is_open (rw (c.params-to_sql.ensures, c.from.ensures, c.params-to_sql-2.ensures, c.params-to_sql-3.ensures, bits1, bits2) at ran) in
    let told = err_from_is_err_and c.from_residual.result c.from_residual.ensures.1 in
    rw (told.1, told.2) why
