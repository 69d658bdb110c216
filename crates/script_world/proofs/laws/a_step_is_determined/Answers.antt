use Rattle.script_world.proofs.Determined.{step_once}
use Rattle.script_world.proofs.laws.a_step_is_determined.Goals as goal

pub returns : goal.returns
returns c =
    record {
      reply = λ s t u event reply other one two. (step_once s t u event reply other one two).reply_is;
      state = λ s t u event reply other one two. (step_once s t u event reply other one two).state_is;
    }
