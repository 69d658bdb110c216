use Rattle.theory_trail.proofs.LostNodes.{new_to_all}
use Rattle.theory_trail.proofs.laws.copies.its_numbers_go_on.Goals as goal

pub returns : goal.returns
returns c = new_to_all
