use Rattle.std.proofs.Common.{◌≡◌, ◌++◌, drop, map, take}
use Rattle.node_schedule.specs.Turns.{recalled}
use Rattle.node_schedule.proofs.hosts.recall_each.Given as goal

-- the hosts so far are taken back, and the others are as they were
abbrev pub invariant-loop-host : goal.invariant-loop-host
invariant-loop-host l = l.hosts ≡ map recalled (take l.host-index l.fn.hosts) ++ drop l.host-index l.fn.hosts
