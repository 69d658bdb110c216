use Rattle.theory_trail.proofs.LostNodes.{a_disk_is_lost, back}
use Rattle.theory_trail.proofs.laws.copies.a_lost_node_takes_back_what_was_copied.Goals as goal

pub returns : goal.returns
returns c = record { taken_back = back; disk = a_disk_is_lost }
