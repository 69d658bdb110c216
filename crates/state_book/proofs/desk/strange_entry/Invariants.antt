use Rattle.std.proofs.Common.{◌≡◌, drop, flat_map}
use Rattle.state_book.specs.Desks.{first_strange}
use Rattle.state_book.proofs.desk.strange_entry.Given as goal

abbrev pub invariant-loop-index : goal.invariant-loop-index
invariant-loop-index g l = first_strange l.index (drop l.index l.trail) (flat_map (λ p. p.receipts) l.passes) ≡ first_strange 0 l.trail (flat_map (λ p. p.receipts) l.passes)
