use Rattle.wire_frames.specs.Telling.{AreTold, is_newer_to}
use Rattle.state_replica.specs.Replicas.{stamps_of, view_of}
use Rattle.wire_frames.proofs.since.tell_all.Given as goal

-- the LRAs with a newer stamp of one of the nodes so far are told
abbrev pub invariant-loop-place : goal.invariant-loop-place
invariant-loop-place l = AreTold (λ m. is_newer_to l.place l.base (stamps_of (view_of l.replica) m)) l.replica.homes l.fn.told.items l.told.items
