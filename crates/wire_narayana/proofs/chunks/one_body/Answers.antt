use Rattle.wire_narayana.proofs.OneBody.{one_body}
use Rattle.wire_narayana.proofs.chunks.one_body.Goals as goal

pub returns : goal.returns
returns c = one_body
