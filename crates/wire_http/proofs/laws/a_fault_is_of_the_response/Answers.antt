use Rattle.wire_http.proofs.Left.{response_refused}
use Rattle.wire_http.proofs.laws.a_fault_is_of_the_response.Goals as goal

pub returns : goal.returns
returns c = response_refused
