use Rattle.node_core.proofs.Answering.{waits}
use Rattle.node_core.proofs.laws.an_answer_waits_for_what_its_call_stored.Goals as goal

pub returns : goal.returns
returns c = waits
