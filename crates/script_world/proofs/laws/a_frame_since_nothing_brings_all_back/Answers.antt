use Rattle.script_world.proofs.Restarting.{comes_back}
use Rattle.script_world.proofs.laws.a_frame_since_nothing_brings_all_back.Goals as goal

pub returns : goal.returns
returns c = comes_back
