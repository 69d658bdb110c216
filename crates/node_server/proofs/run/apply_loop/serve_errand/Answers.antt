use Rattle.std.proofs.Common.{Some}
use Rattle.node_server.proofs.Outcomes.{told_made}
use Rattle.node_server.proofs.run.apply_loop.serve_errand.Goals as goal

pub returns : goal.returns
returns g c = (
  Some c.in-Some.errand.wanted.call,
  c.in-Some.ensures,
  told_made g.C.Clerk c.args.clerk.now c.make-outcome.new.clerk c.in-Some.errand.wanted.now c.in-Some.errand.wanted.call c.make-outcome.result c.told-told.result
      c.make-outcome.ensures c.told-told.ensures,
)
