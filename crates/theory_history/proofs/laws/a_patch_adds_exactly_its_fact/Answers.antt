use Rattle.theory_history.proofs.PatchedHistories.{front_with, view_with}
use Rattle.theory_history.proofs.laws.a_patch_adds_exactly_its_fact.Goals as goal

pub returns : goal.returns
returns c = record { view = view_with; front = front_with }
