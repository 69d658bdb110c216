use Rattle.std.proofs.Common.{arith, sym, ◌∙◌}
use Rattle.wire_narayana.proofs.Parts.{path_ends, path_more, path_whole}
use Rattle.wire_narayana.proofs.ids.path_of.Goals as goal

pub returns-then-text-place-eq63 : goal.returns-then-text-place-eq63
returns-then-text-place-eq63 c = sym (path_ends c.loop-place.place c.args.text.now (grind arith) c.if-text-place-eq63.true) ∙ c.loop-place.invariant

pub loop-place-preserved : goal.loop-place-preserved
loop-place-preserved c = path_more c.loop-place.place c.args.text.now (grind arith) c.if-text-place-eq63.false ∙ c.loop-place.invariant

pub returns : goal.returns
returns c = sym (path_whole c.loop-place.place c.args.text.now (grind arith)) ∙ c.loop-place.invariant
