use Rattle.wire_http.proofs.ResponseFaults.{one_fault}
use Rattle.wire_http.proofs.laws.a_response_has_one_fault.Goals as goal

pub returns : goal.returns
returns c = one_fault
