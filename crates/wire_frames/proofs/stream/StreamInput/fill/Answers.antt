use Rattle.std.proofs.Common.{◌≡◌, ◌∙◌, ◌-◌, length, take, arith, length-take}
use Rattle.std.proofs.lemmas.List.{take_all}
use Rattle.wire_frames.specs.Seen.{Seen}
use Rattle.wire_frames.specs.Sources.{of_stream}
use Rattle.wire_frames.proofs.Grown.{filled, cut_short}
use Rattle.wire_frames.proofs.Pieces.{filled_more, part_within}
use Rattle.wire_frames.proofs.stream.StreamInput.fill.Goals as goal

pub returns-in-Err-clause-gives : goal.returns-in-Err-clause-gives
returns-in-Err-clause-gives g c =
    let old : Seen = of_stream g.S.Source.stream g.S.Source.calls c.args.self.now.track.now.start.value c.args.self.now.begun c.args.self.now.source c.args.self.now.interrupted c.args.self.now.bytes c.args.self.now.track.now.taken c.args.self.now.limit in
    let s = c.piece.new.self in
    let new : Seen = of_stream g.S.Source.stream g.S.Source.calls s.track.now.start.value s.begun s.source s.interrupted s.bytes s.track.now.taken s.limit in
    let h = c.in-Err.ensures.takes in
    let i = c.loop-done.invariant in (
      h.0 ∙ i.start,
      h.3.2,
      cut_short old new (take c.loop-done.done c.loop-done.buffer) c.args.first (length c.args.buffer.now) c.in-Err.stop h.3.1 (h.3.0 ∙ i.taken)
          (omega (arith, length-take c.loop-done.done c.loop-done.buffer, c.loop-done-test.true, c.loop-done.auto.buffer))
          (omega (arith, c.if-self-buffer.false, c.args.self.now.here, c.args.self.now.within)),
      λ well. h.4 (i.well well),
    )

pub returns-clause-gives : goal.returns-clause-gives
returns-clause-gives g c =
    let old : Seen = of_stream g.S.Source.stream g.S.Source.calls c.args.self.now.track.now.start.value c.args.self.now.begun c.args.self.now.source c.args.self.now.interrupted c.args.self.now.bytes c.args.self.now.track.now.taken c.args.self.now.limit in
    let s = c.loop-done.self in
    let new : Seen = of_stream g.S.Source.stream g.S.Source.calls s.track.now.start.value s.begun s.source s.interrupted s.bytes s.track.now.taken s.limit in
    let i = c.loop-done.invariant in
    let whole : take c.loop-done.done c.loop-done.buffer ≡ c.loop-done.buffer = take_all c.loop-done.done c.loop-done.buffer c.loop-done-test.false in (
      i.start,
      tt,
      filled old new c.loop-done.buffer c.args.first (length c.args.buffer.now) i.start i.limit (rw whole at i.taken) c.loop-done.auto.buffer
          (omega (arith, c.if-self-buffer.false, c.args.self.now.here, c.args.self.now.within)),
      i.well,
    )

pub loop-done-preserved : goal.loop-done-preserved
loop-done-preserved g c =
    let h = c.in-Ok.ensures.takes in
    let i = c.loop-done.invariant in
    record {
      start = h.0 ∙ i.start;
      limit = h.1 ∙ i.limit;
      well = λ well. h.4 (i.well well);
      within = part_within c.loop-done.done (length c.loop-done.buffer - c.loop-done.done) c.in-Ok.n c.loop-done.buffer c.piece.new.buffer i.within c.in-Ok.ensures.bound;
      taken = filled_more _ _ _ c.loop-done.done (length c.loop-done.buffer - c.loop-done.done) c.in-Ok.n c.loop-done.buffer c.piece.new.buffer i.within c.in-Ok.ensures.bound i.taken h.2;
    }
