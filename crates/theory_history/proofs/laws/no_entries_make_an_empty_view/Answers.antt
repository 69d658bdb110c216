use Rattle.theory_history.proofs.PatchedHistories.{empty_view_in}
use Rattle.theory_history.proofs.laws.no_entries_make_an_empty_view.Goals as goal

pub returns : goal.returns
returns c = empty_view_in
