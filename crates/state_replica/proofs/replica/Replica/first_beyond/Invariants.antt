use Rattle.theory_history.specs.Readings.{by_view}
use Rattle.state_replica.specs.Replicas.{view_of}
use Rattle.state_replica.proofs.Paging.{AreBare}
use Rattle.state_replica.proofs.replica.Replica.first_beyond.Given as goal

-- the homes so far have no held LRA
abbrev pub invariant-loop-place : goal.invariant-loop-place
invariant-loop-place l = AreBare (by_view (view_of l.self)) l.home l.place
