use Rattle.std.proofs.Common.{◌≡◌, ◌+◌, ◌++◌, ◌<◌, ◌∙◌, ℕ, length, take, ap, refl, arith, length-take}
use Rattle.std.proofs.KnownBytes.{Consumes-trans}
use Rattle.std.proofs.lemmas.List.{length-append}
use Rattle.wire_frames.proofs.Pieces.{both_bytes, goes_on_well, going_calls, grown_twice, still_stands}
use Rattle.wire_frames.proofs.stream.Stream.piece.Goals as goal

pub returns-then-n-eq0-clause-takes : goal.returns-then-n-eq0-clause-takes
returns-then-n-eq0-clause-takes g c =
    let end = c.in-Ok.ensures.bytes.1 c.if-n-eq0.true (omega (arith, c.requires.some, c.read_piece.auto.buffer)) in (
      refl,
      refl,
      tt,
      (refl, tt, (omega (arith, c.requires.some, c.requires.fits), end)),
      λ well. goes_on_well _ _ _ c.in-Ok.ensures.streams.none_failed c.in-Ok.ensures.below well,
    )

pub invariant_of-self-in-Ok : goal.invariant_of-self-in-Ok
invariant_of-self-in-Ok g c =
    let self = c.args.self.now in
    let b = c.in-Ok.ensures.bytes.0 in
    let s = c.in-Ok.ensures.streams in
    let size : length c.extend.new.self ≡ length (self.track.now.taken ++ take c.in-Ok.n c.read_piece.new.buffer) = ap length c.extend.ensures in
    let took : length (take c.in-Ok.n c.read_piece.new.buffer) ≡ c.in-Ok.n = omega (arith, length-take c.in-Ok.n c.read_piece.new.buffer, c.in-Ok.ensures.bound) in
    let some : 0 < c.in-Ok.n = omega (arith, c.if-n-eq0.false) in
    let before = going_calls self.progress self.place c.in-Going.is in
    let after = going_calls self.progress (self.place + c.in-Ok.n) c.in-Going.is in
    record {
      gave = grown_twice _ _ _ self.track.now.taken (take c.in-Ok.n c.read_piece.new.buffer) c.extend.new.self self.gave b.given c.extend.ensures;
      left = rw c.extend.ensures (Consumes-trans _ _ _ self.track.now.taken (take c.in-Ok.n c.read_piece.new.buffer) self.left b.left);
      fits = rw c.extend.ensures (both_bytes self.track.now.taken (take c.in-Ok.n c.read_piece.new.buffer) self.fits c.bytes_fit.ensures);
      stands = still_stands self.progress (g.S.Source.stream self.source.now) (g.S.Source.stream c.read_piece.new.source) (g.S.Source.calls self.track.now.start.value) (g.S.Source.calls self.source.now) (g.S.Source.calls c.read_piece.new.source)
          self.interrupted c.read_piece.new.interrupted c.in-Going.is self.stands s.none_failed c.in-Ok.ensures.below;
      few = omega (arith, s.few, self.few, some, before, after);
      counted = omega (arith, c.in-Ok.ensures.counted, self.counted);
      here = size ∙ length-append self.track.now.taken (take c.in-Ok.n c.read_piece.new.buffer) ∙ ap (λ (m : ℕ). m + length (take c.in-Ok.n c.read_piece.new.buffer)) self.here ∙ ap (λ (m : ℕ). self.place + m) took;
      within = omega (arith, c.in-Ok.ensures.bound, c.requires.fits, c.read_piece.auto.buffer, self.here);
      inside = self.inside;
      short = omega (arith, after, c.in-Ok.ensures.bound, c.requires.fits, c.read_piece.auto.buffer, self.here, self.inside);
    }

pub returns-else-n-eq0-clause-takes : goal.returns-else-n-eq0-clause-takes
returns-else-n-eq0-clause-takes g c = (
  refl,
  refl,
  c.extend.ensures,
  tt,
  λ well. goes_on_well _ _ _ c.in-Ok.ensures.streams.none_failed c.in-Ok.ensures.below well,
)
