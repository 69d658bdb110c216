use Rattle.script_lines.proofs.Bases.{no_count}
use Rattle.std.proofs.Common.{arith}
use Rattle.script_lines.proofs.asking.nodes.base_of.Goals as goal

pub returns-in_err-counts : goal.returns-in_err-counts
returns-in_err-counts c =
    rw c.from_residual-in_err-counts.ensures
    (no_count c.args.words c.loop-place.words c.next.new.self c.in_ok-next.field-0.now c.loop-place.counts c.loop-place.place c.args.nodes c.loop-place.invariant
    (omega (arith, c.loop-place-test.true, c.from-nodes.ensures)) c.requires.few c.in_ok-next.ensures c.in_err-counts.ensures)
