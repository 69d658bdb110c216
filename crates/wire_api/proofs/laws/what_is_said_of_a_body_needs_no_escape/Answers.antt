use Rattle.wire_api.proofs.PlainTexts.{plain_why}
use Rattle.wire_api.proofs.laws.what_is_said_of_a_body_needs_no_escape.Goals as goal

pub returns : goal.returns
returns c = plain_why
