use Rattle.std.proofs.Common.{◌≡◌, drop}
use Rattle.state_replica.specs.Replicas.{KeepsRoom, view_of}
use Rattle.theory_history.specs.Changes.{remove_each}
use Rattle.state_replica.proofs.replica.Replica.remove_all.Given as goal

-- taking out what is left of what remains gives the result
abbrev pub invariant-loop-id : goal.invariant-loop-id
invariant-loop-id l =
    (l.self.front ≡ l.fn.self.front)
    × (l.self.purges ≡ l.fn.self.purges)
    × (remove_each (drop l.id-index l.removed) (view_of l.self).records ≡ remove_each l.removed (view_of l.fn.self).records)
    × KeepsRoom l.fn.self l.self
