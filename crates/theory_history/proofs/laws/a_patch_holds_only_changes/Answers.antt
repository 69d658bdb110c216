use Rattle.theory_history.proofs.PatchesOnlyChange.{command_only}
use Rattle.theory_history.proofs.laws.a_patch_holds_only_changes.Goals as goal

pub returns : goal.returns
returns c = command_only
