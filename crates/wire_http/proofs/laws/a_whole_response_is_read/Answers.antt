use Rattle.wire_http.proofs.Left.{response_found}
use Rattle.wire_http.proofs.laws.a_whole_response_is_read.Goals as goal

pub returns : goal.returns
returns c = response_found
