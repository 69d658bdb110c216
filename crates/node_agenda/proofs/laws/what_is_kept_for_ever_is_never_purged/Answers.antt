use Rattle.node_agenda.proofs.Keeping.{never_purged}
use Rattle.node_agenda.proofs.laws.what_is_kept_for_ever_is_never_purged.Goals as goal

pub returns : goal.returns
returns c = never_purged
