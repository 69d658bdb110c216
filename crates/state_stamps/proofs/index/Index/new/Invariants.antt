use Rattle.std.proofs.Common.{◌≡◌, [], replicate}
use Rattle.state_stamps.specs.Indexes.{entries_of}
use Rattle.state_stamps.proofs.index.Index.new.Given as goal

-- the lists of the origins so far are made
abbrev pub invariant-loop-place : goal.invariant-loop-place
invariant-loop-place l = entries_of l.origins.items ≡ replicate l.place []
