use Rattle.std.proofs.Common.{length, ◌-◌, ◌≡◌, ◌≤◌, ◌++◌, take}
use Rattle.wire_frames.specs.Seen.{IsWell, Seen}
use Rattle.wire_frames.specs.Sources.{of_stream}
use Rattle.wire_frames.proofs.stream.StreamInput.fill.Given as goal

abbrev pub invariant-loop-done : goal.invariant-loop-done
invariant-loop-done g l =
    let now : Seen = of_stream g.S.Source.stream g.S.Source.calls l.self.track.now.start.value l.self.begun l.self.source l.self.interrupted l.self.bytes l.self.track.now.taken l.self.limit in
    let old : Seen = of_stream g.S.Source.stream g.S.Source.calls l.fn.self.track.now.start.value l.fn.self.begun l.fn.self.source l.fn.self.interrupted l.fn.self.bytes l.fn.self.track.now.taken l.fn.self.limit in
    record {
      start : now.first ≡ old.first;
      limit : now.limit ≡ old.limit;
      well : IsWell old → IsWell now;
      within : l.done ≤ length l.buffer;
      taken : now.taken ≡ old.taken ++ take l.done l.buffer;
    }

abbrev pub decreases-loop-done : goal.decreases-loop-done
decreases-loop-done g l = length l.initial.buffer - l.done
