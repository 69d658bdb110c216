use Rattle.std.proofs.Common.{sym, subst}
use Rattle.theory_history.specs.Merging.{Telling}
use Rattle.wire_frames.specs.Frames.{Frame}
use Rattle.wire_frames.specs.Sending.{IsToldBy, frame_told}
use Rattle.wire_frames.proofs.ToldByFrames.{told_by}
use Rattle.wire_frames.proofs.delta.Delta.into_taken.Goals as goal

pub returns : goal.returns
returns c =
    let telling : Telling = record { front = c.self.inside.front; purges = c.self.inside.purges; homes = c.self.inside.homes.items } in
    subst (λ (frame : Frame). IsToldBy frame c.new.result) c.self.view_is
    (subst (λ (t : Telling). IsToldBy (frame_told c.self.inside.base telling) t) (sym c.new.ensures) (told_by c.self.inside.base telling))
