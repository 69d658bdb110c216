use Rattle.state_replica.proofs.SameHomes.{AreSameTo}
use Rattle.state_replica.proofs.replica.Replica.same_records.Given as goal

-- the homes so far have the same records
abbrev pub invariant-loop-place : goal.invariant-loop-place
invariant-loop-place l = AreSameTo l.place l.self.homes l.other.homes
