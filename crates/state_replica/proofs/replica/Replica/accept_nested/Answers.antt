use Rattle.std.proofs.Common.{◌∙◌, ap, sym}
use Rattle.state_forest.specs.declared.record.Record.{Record}
use Rattle.state_replica.specs.Replicas.{view_of}
use Rattle.state_replica.proofs.PreparedReplies.{nest_few}
use Rattle.state_replica.proofs.replica.Replica.accept_nested.Goals as goal

pub patch_of_two-requires-clause-same : goal.patch_of_two-requires-clause-same
patch_of_two-requires-clause-same c =
    ap (λ (r : Record). r.home) c.fresh_record-child.ensures
    ∙ sym (nest_few (view_of c.args.self.now) c.args.me c.args.parent c.args.deadline c.in_ok-next.next c.requires.accepted c.in_ok-next.ensures.found).0
