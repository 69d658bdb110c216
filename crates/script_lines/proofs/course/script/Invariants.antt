use Rattle.std.proofs.Common.{◌+◌, ◌≤◌, ◌≡◌, length, vec_capacity}
use Rattle.script_lines.specs.ScriptEnds.{max_reads}
use Rattle.script_lines.proofs.Runs.{Runs}
use Rattle.script_lines.proofs.course.script.Given as goal

abbrev pub invariant-lines : goal.invariant-lines
invariant-lines g l = let s = g.R.Source in let t = g.W.Sink in record {
  nodes : length l.world.replicas ≡ l.nodes;
  running : Runs l.nodes l.world (s.stream l.fn.reader) (s.stream l.reader) (t.stream l.fn.writer) (t.stream l.writer)
      (s.calls l.fn.reader) (s.calls l.reader) (t.calls l.fn.writer) (t.calls l.writer);
  room : 4097 ≤ vec_capacity l.line;
  spent : (s.calls l.fn.reader).made + max_reads ≤ (s.calls l.reader).made + l.reads_left;
}

abbrev pub decreases-lines : goal.decreases-lines
decreases-lines g l = l.reads_left
