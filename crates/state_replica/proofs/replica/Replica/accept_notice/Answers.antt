use Rattle.state_replica.specs.Replicas.{view_of}
use Rattle.state_replica.proofs.PreparedReplies.{notice_next}
use Rattle.state_replica.proofs.replica.Replica.accept_notice.Goals as goal

pub returns-clause-next : goal.returns-clause-next
returns-clause-next c =
    notice_next c.args.notice (view_of c.args.self.now) c.args.me c.args.id c.args.member c.reply.result c.in_ok-next.next c.note_at.new.members c.in_ok-patch.patch
    c.reply.ensures (c.requires.accepted, c.in_ok-next.ensures.found) c.in_ok-note_at.ensures c.in_ok-patch.ensures.patch
