use Rattle.std.proofs.Common.{◌≤◌, arith}
use Rattle.theory_history.specs.Replies.{member_shown}
use Rattle.state_replica.specs.Replicas.{view_of}
use Rattle.script_world.proofs.Happening.{of_own}
use Rattle.script_world.proofs.world.World.member.Goals as goal

pub returns : goal.returns
returns c s w =
    let some : 1 ≤ c.args.node = c.is_a_node.ensures.0 in
    of_own s c.args.self.now c.args.node (view_of c.replica.result.now) _ (λ S v. member_shown S v c.args.id c.args.member) w some c.requires (c.replica.ensures.view s w) c.member.ensures.settled
