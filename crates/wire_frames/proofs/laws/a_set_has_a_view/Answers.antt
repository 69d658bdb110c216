use Rattle.std.proofs.Common.{refl}
use Rattle.wire_frames.proofs.Existing.{view_made, view_stands}
use Rattle.wire_frames.proofs.laws.a_set_has_a_view.Goals as goal

pub returns : goal.returns
returns c S front counted = (view_made S front, refl, view_stands S front counted)
