use Rattle.wire_http.proofs.WholeMessages.{whole_request}
use Rattle.wire_http.proofs.laws.a_written_request_is_whole.Goals as goal

pub returns : goal.returns
returns c = whole_request
