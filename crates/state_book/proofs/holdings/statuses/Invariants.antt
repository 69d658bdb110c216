use Rattle.std.proofs.Common.{◌≡◌}
use Rattle.theory_history.specs.Next.{member_shown_on}
use Rattle.state_replica.specs.Replicas.{view_of}
use Rattle.state_book.specs.Holdings.{statuses_of}
use Rattle.state_book.proofs.holdings.statuses.Given as goal

-- the statuses that were pushed are those of the numbers so far
abbrev pub invariant-loop-place : goal.invariant-loop-place
invariant-loop-place l = l.list.items ≡ statuses_of (member_shown_on (view_of l.replica) l.id) l.place
