use Rattle.node_replication.proofs.Reaching.{reach}
use Rattle.node_replication.specs.Steps.{Hears, Learns}
use Rattle.node_replication.proofs.followers_state.FollowersState.hear.Goals as goal

pub invariant_of-self : goal.invariant_of-self
invariant_of-self g c =
    let counted = reach (Learns c.args.ours) _ c.self.inside.replication _ c.self.invariant.0 c.note_count.ensures in
    (reach (Hears c.args.other c.args.theirs c.args.now) _ c.note_count.new.self _ counted c.hear.ensures, c.self.invariant.1)
