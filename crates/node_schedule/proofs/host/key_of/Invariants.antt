use Rattle.std.proofs.Common.{◌≡◌, drop}
use Rattle.node_schedule.specs.Keys.{key_from, key_of}
use Rattle.node_schedule.proofs.host.key_of.Given as goal

-- together with what is left, the number so far makes the key of the whole name
abbrev pub invariant-loop-place : goal.invariant-loop-place
invariant-loop-place l = key_from l.key (drop l.place l.bytes) ≡ key_of l.name
