use Rattle.wire_http.proofs.Left.{response_taken}
use Rattle.wire_http.proofs.laws.a_response_is_taken_off.Goals as goal

pub returns : goal.returns
returns c = response_taken
