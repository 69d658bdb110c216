use Rattle.state_replica.specs.Replicas.{KeepsRoom, view_of}
use Rattle.state_replica.proofs.Absorbed.{IsTakenSo}
use Rattle.state_replica.proofs.replica.Replica.absorb_homes.Given as goal

abbrev pub invariant-loop-told : goal.invariant-loop-told
invariant-loop-told l = record {
  so : IsTakenSo (view_of l.fn.self) l.fn.taken l.self l.patch l.fn.patch l.told-iterator.rest.items;
  stays : KeepsRoom l.fn.self l.self;
}
