use Rattle.state_book.specs.Clerks.{last_reply}
use Rattle.wire_api.specs.Serving.{Makes}
use Rattle.wire_operators.proofs.Sent.{replied}
use Rattle.wire_operators.proofs.serving.serve_call.Goals as goal

pub returns-in-Ok : goal.returns-in-Ok
returns-in-Ok g c =
    let after = c.call.new.self in
    replied c.args.wanted.now (Makes g.C.Clerk c.args.clerk.now after c.args.now c.args.call) g.W.Sink c.args.writer.now c.end_replied.new.writer
    c.reply.result.now (last_reply (g.C.Clerk.receipts after)) c.end_replied.result c.in-Ok.ensures c.reply.ensures c.end_replied.ensures
