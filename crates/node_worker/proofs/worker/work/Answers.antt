use Rattle.std.proofs.Common.{[], ◌∷◌, ◌++◌, None, Some}
use Rattle.node_worker.proofs.Workings.{served_next, ungated}
use Rattle.node_worker.proofs.worker.work.Goals as goal

pub loop-preserved : goal.loop-preserved
loop-preserved g c =
    let cs = c.loop.invariant.0 in (
      cs ++ c.in-Some-next.connection ∷ [],
      served_next c.args.addressee.now g.A.Arrivals.gives g.A.Reader.Source g.A.Writer.Sink g.C.Clerk c.args.connections.now c.args.clerk cs c.loop.connections c.loop.gated.clerk
          c.in-Some-next.connection c.next-in-loop.new.self c.serve.new.clerk.clerk c.loop.invariant.1 c.in-Some-next.ensures
          (ungated c.args.addressee.now g.A.Reader.Source g.A.Writer.Sink g.C.Clerk (λ x. x.clerk) c.in-Some-next.connection c.loop.gated c.serve.new.clerk None c.in-None-serve.ensures),
    )

pub returns-in-Some-serve : goal.returns-in-Some-serve
returns-in-Some-serve g c = (
  c.loop.invariant.0,
  c.loop.connections,
  c.loop.gated.clerk,
  c.loop.invariant.1,
  (
    c.in-Some-next.connection,
    c.in-Some-next.ensures,
    ungated c.args.addressee.now g.A.Reader.Source g.A.Writer.Sink g.C.Clerk (λ x. x.clerk) c.in-Some-next.connection c.loop.gated c.serve.new.clerk (Some c.in-Some-serve.refusal) c.in-Some-serve.ensures,
  ),
)
