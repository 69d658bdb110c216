use Rattle.script_lines.proofs.Steps.{holds_at}
use Rattle.script_lines.proofs.showing.replica_at.Goals as goal

pub returns-clause-holds : goal.returns-clause-holds
returns-clause-holds c s w = holds_at s c.args.world.now c.args.node c.replica.result.now w c.requires (c.replica.ensures.view s w)
