use Rattle.std.proofs.Common.{◌≡◌, ◌+◌, vec_len}
use Rattle.state_book.specs.Desks.{AreNew}
use Rattle.state_book.proofs.desk.passes.Given as goal

abbrev pub invariant-loop-i : goal.invariant-loop-i
invariant-loop-i g l = (l.all.parts + l._i ≡ l.workers + 1) × (l.all.amount ≡ 0) × (vec_len l.made + 1 ≡ l._i) × AreNew l.made.items
