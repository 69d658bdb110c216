use Rattle.std.proofs.Common.{◌≡◌, ◌∙◌, sym}
use Rattle.wire_api.specs.Serving.{Makes}
use Rattle.wire_operators.specs.Serving.{IsTold}
use Rattle.wire_operators.specs.Wanted.{wanted}
use Rattle.wire_operators.proofs.Sent.{called}
use Rattle.wire_operators.proofs.serving.serve_wanted.Goals as goal

pub returns-in-Some : goal.returns-in-Some
returns-in-Some g c =
    let old = c.args.clerk.now in
    let new = c.serve_call.new.clerk in
    called (new ≡ old) (Makes g.C.Clerk old new c.args.now) (IsTold g.T.State c.args.state.now) g.W.Sink c.args.writer.now c.serve_call.new.writer c.args.now c.args.request.now
    (wanted c.args.request.now) c.wanted_by-wanted.result c.in-Some.call c.serve_call.result
    c.wanted_by-wanted.ensures (sym c.call_of.ensures ∙ c.in-Some.is) c.serve_call.ensures
