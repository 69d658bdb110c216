use Rattle.theory_progress.proofs.UnderWay.{closing_alone, ends_below, root_alone}
use Rattle.theory_progress.proofs.laws.an_lra_ends_with_its_saga.Goals as goal

pub returns : goal.returns
returns c = record { root = root_alone; closing = λ S l settled close. closing_alone S l close; ends = ends_below }
