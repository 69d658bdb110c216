use Rattle.state_journal.proofs.StatementsFail.{told_so}
use Rattle.state_journal.proofs.open.renew_rows.Goals as goal

pub returns-in-Err-clause-failed : goal.returns-in-Err-clause-failed
returns-in-Err-clause-failed g c clean was free is = told_so c.refusal_of.result c.in-Err.error _ _ _ c.refusal_of.ensures is (c.in-Err.ensures.failed clean was free)
