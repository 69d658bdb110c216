use Rattle.wire_http.proofs.Left.{request_found}
use Rattle.wire_http.proofs.laws.a_whole_request_is_read.Goals as goal

pub returns : goal.returns
returns c = request_found
