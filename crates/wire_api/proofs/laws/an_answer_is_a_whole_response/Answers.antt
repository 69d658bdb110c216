use Rattle.wire_api.proofs.AnswersRead.{fault_whole, reply_whole, unrouted_whole}
use Rattle.wire_api.proofs.laws.an_answer_is_a_whole_response.Goals as goal

pub returns-clause-reply : goal.returns-clause-reply
returns-clause-reply c = reply_whole

pub returns-clause-unrouted : goal.returns-clause-unrouted
returns-clause-unrouted c = unrouted_whole

pub returns-clause-fault : goal.returns-clause-fault
returns-clause-fault c = fault_whole
