use Rattle.script_lines.proofs.OneRun.{one_run}
use Rattle.script_lines.proofs.laws.a_script_is_one_run.Goals as goal

pub returns : goal.returns
returns c = one_run
