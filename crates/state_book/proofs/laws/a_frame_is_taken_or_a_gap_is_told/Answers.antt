use Rattle.state_book.proofs.Frames.{union_or_gap}
use Rattle.state_book.proofs.laws.a_frame_is_taken_or_a_gap_is_told.Goals as goal

pub returns : goal.returns
returns c h v w me now a b frame reply from next = union_or_gap h v w a b frame reply from next
