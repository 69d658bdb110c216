use Rattle.std.proofs.Common.{◌≡◌, ap, ◌∙◌, w64, of_z}
use Rattle.std.proofs.Math.Facts.{of_z-to_z}
use Rattle.sqlite.specs.Held.{state}
use Rattle.state_journal.specs.Tables.{signed}
use Rattle.state_journal.proofs.LraDeleteStep.{delete_step}
use Rattle.state_journal.proofs.steps.delete_lra.Goals as goal

pub returns-clause-ok : goal.returns-clause-ok
returns-clause-ok g c clean writing =
    let old = state g.S.Store c.args.tx.now.conn.now in
    let new = state g.S.Store c.execute.new.self.conn.now in
    let ran = c.in_ok-execute.ensures.runs clean writing.inside in
    let bits1 : of_z w64 c.cast_signed.result ≡ c.args.num = ap (of_z w64) c.cast_signed.ensures ∙ of_z-to_z c.ranges.num in
    let all = delete_step old new c.args.home (signed c.args.num) c.in_ok-execute.field-0 writing.schema writing.formed (rw (c.params-to_sql.ensures, c.from.ensures, c.params-to_sql-2.ensures, bits1) at ran.0) in
    record { shows = ran.1; writing = record { is_open = ran.1.is_open; inside = ran.1.mode; schema = all.0; formed = all.1.formed }; change = all.1 }
