use Rattle.theory_trail.proofs.GivenFrames.{given_fits, encoded_told, told_encoded}
use Rattle.theory_trail.proofs.laws.a_frame_that_is_given_can_be_taken.Goals as goal

pub returns : goal.returns
returns c = record { encoded = told_encoded; told = encoded_told; given = given_fits }
