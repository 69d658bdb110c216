use Rattle.std.proofs.Common.{ℕ, [], ◌∷◌, ◌∙◌, sym, subst, arith}
use Rattle.wire_http.specs.Streams.{Gives}
use Rattle.script_lines.proofs.LineReadings.{reading_byte, reading_end, reading_line}
use Rattle.script_lines.proofs.Splits.{differs}
use Rattle.script_lines.proofs.line.read_line.Goals as goal

pub returns-in-Some-eq10-clause-read : goal.returns-in-Some-eq10-clause-read
returns-in-Some-eq10-clause-read g c =
    let stream = g.R.Source.stream in
    let P : ℕ → Type 0 = λ b. Gives (stream c.bytes.reader) (stream c.read_byte.new.source) (b ∷ []) in
    let gave = subst P (sym c.in-Some-eq10.field-0-is ∙ c.in-Some-eq10.field-0-test) (rw c.in-Some-eq10.is at c.in-Ok.ensures.some) in
    reading_line _ _ _ _ c.bytes.invariant.reading gave

pub returns-in-None-clause-read : goal.returns-in-None-clause-read
returns-in-None-clause-read g c = reading_end _ _ _ _ c.bytes.invariant.reading (rw c.in-None.is at c.in-Ok.ensures.end)

pub bytes-preserved : goal.bytes-preserved
bytes-preserved g c = record {
  reading = reading_byte _ _ _ _ _ c.in-Some.byte c.bytes.invariant.reading (rw c.in-Some.is at c.in-Ok.ensures.some)
      (differs c.in-Some.byte 10 (rw c.in-Some.is at c.in-Some.byte-test.1)) c.keep.ensures.kept;
  room = c.keep.ensures.room;
  below = omega (arith, c.in-Ok.ensures.below);
  counted = omega (arith, c.in-Ok.ensures.counted, c.bytes.invariant.counted);
  none_failed = c.in-Ok.ensures.streams.none_failed ∙ c.bytes.invariant.none_failed;
  spent = omega (arith, c.in-Ok.ensures.called, c.bytes.invariant.spent);
  fewer = omega arith;
}
