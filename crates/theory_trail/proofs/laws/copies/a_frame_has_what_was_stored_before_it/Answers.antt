use Rattle.theory_trail.proofs.Copied.{has_before}
use Rattle.theory_trail.proofs.laws.copies.a_frame_has_what_was_stored_before_it.Goals as goal

pub returns : goal.returns
returns c = has_before
