use Rattle.wire_http.proofs.Left.{request_taken}
use Rattle.wire_http.proofs.laws.a_request_is_taken_off.Goals as goal

pub returns : goal.returns
returns c = request_taken
