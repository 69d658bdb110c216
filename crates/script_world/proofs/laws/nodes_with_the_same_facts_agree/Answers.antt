use Rattle.script_world.proofs.Agreeing.{nodes_agree}
use Rattle.script_world.proofs.laws.nodes_with_the_same_facts_agree.Goals as goal

pub returns : goal.returns
returns c = λ s one other world took. nodes_agree s one other world took
