use Rattle.std.proofs.Common.{◌≡◌, ◌+◌, ◌<◌, ◌≤◌, vec_capacity}
use Rattle.script_lines.proofs.LineReadings.{IsReading}
use Rattle.script_lines.proofs.line.read_line.Given as goal

abbrev pub invariant-bytes : goal.invariant-bytes
invariant-bytes g l = let s = g.R.Source in record {
  reading : IsReading l.line.items (s.stream l.fn.reader) (s.stream l.reader);
  room : 4097 ≤ vec_capacity l.line;
  below : l.interrupted < 1024;
  counted : (s.calls l.reader).interrupted ≡ (s.calls l.fn.reader).interrupted + l.interrupted;
  none_failed : (s.calls l.reader).failed ≡ (s.calls l.fn.reader).failed;
  spent : (s.calls l.fn.reader).made + l.fn.reads_left ≤ (s.calls l.reader).made + l.reads_left;
  fewer : l.reads_left ≤ l.fn.reads_left;
}

abbrev pub decreases-bytes : goal.decreases-bytes
decreases-bytes g l = l.reads_left
