use Rattle.wire_frames.proofs.Alone.{fits_under, is_record_under}
use Rattle.wire_frames.proofs.laws.records_of_a_history_have_an_encoding.Goals as goal

pub returns : goal.returns
returns c = record { fit = fits_under; rules = is_record_under }
