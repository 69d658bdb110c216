use Rattle.script_lines.proofs.Bases.{IsCounting}
use Rattle.script_lines.proofs.asking.nodes.base_of.Given as goal

abbrev pub invariant-loop-place : goal.invariant-loop-place
invariant-loop-place l = IsCounting l.fn.words l.words l.counts l.place
