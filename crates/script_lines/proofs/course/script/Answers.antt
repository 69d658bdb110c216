use Rattle.std.proofs.Common.{arith}
use Rattle.script_lines.proofs.Runs.{part_none, runs_end, runs_fault, runs_line, runs_nodes, runs_part, runs_start, runs_whole}
use Rattle.script_lines.proofs.course.script.Goals as goal

pub returns-in_default-clause-part : goal.returns-in_default-clause-part
returns-in_default-clause-part g c = part_none c.args.nodes c.requires.some (g.R.Source.stream c.args.reader.now) (g.W.Sink.stream c.args.writer.now)

pub returns-in_default-new-clause-part : goal.returns-in_default-new-clause-part
returns-in_default-new-clause-part g c = part_none c.args.nodes c.requires.some (g.R.Source.stream c.args.reader.now) (g.W.Sink.stream c.args.writer.now)

pub lines-init : goal.lines-init
lines-init g c =
    let running = runs_start c.args.nodes c.in-Ok-new.world (g.R.Source.stream c.args.reader.now) (g.W.Sink.stream c.args.writer.now)
    (g.R.Source.calls c.args.reader.now) (g.W.Sink.calls c.args.writer.now) c.requires.some (rw c.from.ensures at c.in-Ok-new.ensures.start) in
    record {
      nodes = runs_nodes _ _ _ _ _ _ _ _ _ _ running;
      running = running;
      room = omega (arith, c.in-Ok.ensures.capacity);
      spent = omega arith;
    }

pub returns-in_default-read_line-clause-part : goal.returns-in_default-read_line-clause-part
returns-in_default-read_line-clause-part g c = runs_fault _ _ _ _ _ _ _ _ _ _ _ c.lines.invariant.running c.in_default-read_line.ensures.cut

pub returns-in_default-read_line-clause-whole : goal.returns-in_default-read_line-clause-whole
returns-in_default-read_line-clause-whole g c = λ _. runs_whole _ _ _ _ _ _ _ _ _ _ _ c.lines.invariant.running c.in_default-read_line.ensures.cut

pub returns-in_default-print_line-clause-part : goal.returns-in_default-print_line-clause-part
returns-in_default-print_line-clause-part g c =
    runs_part _ _ _ _ _ _ _ _ _ _ _ _ _ _ _ c.lines.invariant.running c.in-Ok-read_line.ensures.read (rw c.deref.ensures.value at c.in_default-print_line.ensures.err)

pub returns-then-not-more-clause-text : goal.returns-then-not-more-clause-text
returns-then-not-more-clause-text g c =
    let read = rw c.if-not-more.true at c.in-Ok-read_line.ensures.read in
    runs_end _ _ _ _ _ _ _ _ _ _ _ _ _ _ _ _ c.lines.invariant.running read c.in-Ok-read_line.ensures.streams
    (rw c.deref.ensures.value at c.in-Ok-print_line.ensures.ok) c.in-Ok-print_line.ensures.streams

pub lines-preserved : goal.lines-preserved
lines-preserved g c =
    let read = rw c.if-not-more.false at c.in-Ok-read_line.ensures.read in
    let running = runs_line _ _ _ _ _ _ _ _ _ _ _ _ _ _ _ _ c.lines.invariant.running read c.in-Ok-read_line.ensures.streams
    (rw c.deref.ensures.value at c.in-Ok-print_line.ensures.ok) c.in-Ok-print_line.ensures.streams in
    record {
      nodes = runs_nodes _ _ _ _ _ _ _ _ _ _ running;
      running = running;
      room = c.read_line.ensures.room;
      spent = omega (arith, c.read_line.ensures.spent, c.lines.invariant.spent);
    }
