use Rattle.node_schedule.specs.Turns.{IsFirstOf, is_new, is_newer}
use Rattle.node_schedule.proofs.hosts.newest.Given as goal

-- the last of the hosts so far that were never called
abbrev pub invariant-loop-place : goal.invariant-loop-place
invariant-loop-place l = IsFirstOf l.place is_new is_newer l.hosts l.last
