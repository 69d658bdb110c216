use Rattle.std.proofs.Common.{◌≡◌, ◌≤◌, ◌+◌, ◌-◌, length}
use Rattle.node_replication.specs.Spreads.{holders, is_holder}
use Rattle.node_replication.proofs.Counting.{number_of}
use Rattle.node_replication.proofs.acknowledgements.holders.Given as goal

-- together with those that are left, these are all
abbrev pub invariant-loop-place : goal.invariant-loop-place
invariant-loop-place l =
    (l.found ≤ l.place) × (l.found + number_of (is_holder l.me l.least l.told) (l.place + 1) (length l.told - l.place) ≡ holders l.me l.least l.told)
