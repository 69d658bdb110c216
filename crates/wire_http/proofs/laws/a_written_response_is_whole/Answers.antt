use Rattle.wire_http.proofs.WholeMessages.{whole_response}
use Rattle.wire_http.proofs.laws.a_written_response_is_whole.Goals as goal

pub returns : goal.returns
returns c = whole_response
