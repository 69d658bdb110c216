use Rattle.wire_api.proofs.ReadBack.{begun_told, joined_told, member_told, shown_told}
use Rattle.wire_api.proofs.laws.an_answer_tells_its_reply.Goals as goal

pub returns-clause-begun : goal.returns-clause-begun
returns-clause-begun c = begun_told

pub returns-clause-joined : goal.returns-clause-joined
returns-clause-joined c = joined_told

pub returns-clause-shown : goal.returns-clause-shown
returns-clause-shown c = shown_told

pub returns-clause-member : goal.returns-clause-member
returns-clause-member c = member_told
