use Rattle.wire_http.proofs.Left.{request_refused}
use Rattle.wire_http.proofs.laws.a_fault_is_of_the_request.Goals as goal

pub returns : goal.returns
returns c = request_refused
