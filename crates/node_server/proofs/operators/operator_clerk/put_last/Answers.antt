use Rattle.node_server.proofs.Receipts.{put}
use Rattle.node_server.proofs.operators.operator_clerk.put_last.Goals as goal

pub returns-clause-ok : goal.returns-clause-ok
returns-clause-ok c = put c.args.receipts.now.items c.push.new.self.items c.args.call c.args.reply c.in-Ok.ensures.items
