use Rattle.std.proofs.Common.{◌≡◌, ◌++◌, take}
use Rattle.wire_frames.specs.Encoding.{vector}
use Rattle.wire_pulls.proofs.bodies.push_counts.Given as goal

-- the counts so far were added
abbrev pub invariant-loop-count : goal.invariant-loop-count
invariant-loop-count l = l.body.items ≡ l.fn.body.items ++ vector (take l.count-index l.counts)
