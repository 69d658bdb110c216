use Rattle.std.proofs.Common.{◌≡◌, refl, string_bytes, subst}
use Rattle.std.specs.Option.{option_map}
use Rattle.wire_api.specs.BodyFaults.{why_in}
use Rattle.wire_api.specs.Routes.{routed}
use Rattle.wire_api.specs.Serving.{Makes}
use Rattle.wire_api.proofs.Sent.{explained, no_memory_unless}
use Rattle.wire_api.proofs.serving.serve_or_explain.Goals as goal

pub returns-in-Ok-Some : goal.returns-in-Ok-Some
returns-in-Ok-Some g c =
    let clerk = c.args.clerk.now in
    let request = c.args.request.now in
    explained (clerk ≡ clerk) (Makes g.C.Clerk clerk clerk c.args.now) g.W.Sink c.args.writer.now c.end_wrong.new.writer c.as_str.result.now (string_bytes c.in-Ok-Some.why)
    (why_in c.args.now request) (routed c.args.now request) c.end_wrong.result refl c.as_str.ensures.value
    (subst (λ o. option_map string_bytes o ≡ why_in c.args.now request) c.in-Ok-Some.field-0-is c.in-Ok-Some.ensures) c.end_wrong.ensures

pub returns-in-Err : goal.returns-in-Err
returns-in-Err g c =
    let clerk = c.args.clerk.now in
    let request = c.args.request.now in
    no_memory_unless (why_in c.args.now request) (clerk ≡ clerk) (Makes g.C.Clerk clerk clerk c.args.now) g.W.Sink c.args.writer.now c.end_no_memory.new.writer
    (routed c.args.now request) c.end_no_memory.result refl c.end_no_memory.ensures
