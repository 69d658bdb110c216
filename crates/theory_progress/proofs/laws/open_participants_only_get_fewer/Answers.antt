use Rattle.theory_progress.proofs.OpenUnder.{ended_none}
use Rattle.theory_progress.proofs.OpenInAHistory.{falls, stays}
use Rattle.theory_progress.proofs.laws.open_participants_only_get_fewer.Goals as goal

pub returns : goal.returns
returns c = record { stays = stays; falls = falls; none = ended_none }
