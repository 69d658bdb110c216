use Rattle.std.proofs.Common.{◌≡◌, drop}
use Rattle.std.specs.List.{position_from}
use Rattle.node_schedule.specs.Turns.{is_host_of, place_of}
use Rattle.node_schedule.proofs.hosts.place_of.Given as goal

-- no host so far has that name
abbrev pub invariant-loop-place : goal.invariant-loop-place
invariant-loop-place l = position_from (is_host_of l.duty) l.place (drop l.place l.hosts) ≡ place_of l.duty l.hosts
