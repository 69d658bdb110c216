use Rattle.std.proofs.Common.{List}
use Rattle.node_worker.specs.Working.{ServesEach}
use Rattle.node_worker.specs.declared.arrivals.Connection.{Connection}
use Rattle.node_worker.proofs.worker.work.Given as goal

abbrev pub invariant-loop : goal.invariant-loop
invariant-loop g l =
    (cs : List (Connection _ _)) × ServesEach l.addressee g.A.Arrivals.gives g.A.Reader.Source g.A.Writer.Sink g.C.Clerk l.fn.connections l.fn.clerk cs l.connections l.gated.clerk
