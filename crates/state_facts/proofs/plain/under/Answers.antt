use Rattle.std.proofs.Common.{sym, ◌∙◌}
use Rattle.state_facts.proofs.Chains.{parent_lesser}
use Rattle.state_facts.proofs.plain.under.Goals as goal

pub above-smaller : goal.above-smaller
above-smaller c = parent_lesser c.args.facts.now c.above.at c.in-Some.above c.requires (sym c.parent.ensures ∙ c.in-Some.is)
