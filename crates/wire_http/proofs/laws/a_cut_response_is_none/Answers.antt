use Rattle.wire_http.proofs.Cuts.{cut_is_none}
use Rattle.wire_http.proofs.laws.a_cut_response_is_none.Goals as goal

pub returns : goal.returns
returns c = cut_is_none
