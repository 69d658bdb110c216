use Rattle.node_schedule.specs.Turns.{IsFirstOf, is_before, may_be_called}
use Rattle.node_schedule.proofs.hosts.longest.Given as goal

-- the first of the hosts so far
abbrev pub invariant-loop-place : goal.invariant-loop-place
invariant-loop-place l = IsFirstOf l.place (may_be_called l.busy) is_before l.hosts l.first
