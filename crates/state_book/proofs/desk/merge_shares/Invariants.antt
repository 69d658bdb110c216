use Rattle.std.proofs.Common.{◌≡◌, ◌+◌, vec_len, sum_by}
use Rattle.state_book.proofs.desk.merge_shares.Given as goal

abbrev pub invariant-loop-next : goal.invariant-loop-next
invariant-loop-next g l = (l.all.parts + vec_len l.passes ≡ vec_len l.fn.passes) × (l.all.amount + sum_by (λ p. p.share) l.passes.items ≡ sum_by (λ p. p.share) l.fn.passes.items)

abbrev pub decreases-loop-next : goal.decreases-loop-next
decreases-loop-next g l = vec_len l.passes
