use Rattle.theory_history.proofs.ViewReplies.{view_law}
use Rattle.theory_history.proofs.laws.a_view_replies_as_its_set.Goals as goal

pub returns : goal.returns
returns c = view_law
