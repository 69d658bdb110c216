use Rattle.std.proofs.Common.{◌≡◌, ◌++◌}
use Rattle.state_replica.proofs.merge.add_records.Given as goal

-- the records that were added, followed by what is left, are all
abbrev pub invariant-loop-next : goal.invariant-loop-next
invariant-loop-next l = l.list.items ++ l.next-iterator ≡ l.fn.list.items ++ l.fn.more
