use Rattle.std.proofs.Common.{◌≡◌, refl}
use Rattle.wire_api.specs.Routes.{routed}
use Rattle.wire_api.specs.Serving.{Makes}
use Rattle.wire_api.proofs.Sent.{no_memory_served}
use Rattle.wire_api.proofs.serving.serve_request.Goals as goal

pub returns-then-eq : goal.returns-then-eq
returns-then-eq g c =
    let clerk = c.args.clerk.now in
    no_memory_served (clerk ≡ clerk) (Makes g.C.Clerk clerk clerk c.args.now) g.W.Sink c.args.writer.now c.end_no_memory.new.writer
    (routed c.args.now c.args.request.now) c.end_no_memory.result refl c.end_no_memory.ensures
