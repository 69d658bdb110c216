use Rattle.wire_http.proofs.Heads.{at_end}
use Rattle.wire_http.proofs.head.fault_at_end.Goals as goal

pub returns-in-Long-clause-shown : goal.returns-in-Long-clause-shown
returns-in-Long-clause-shown c = at_end _ _ _ _ c.requires.most c.in-Long.ensures
