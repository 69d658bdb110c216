use Rattle.std.proofs.Common.{◌≡◌, drop, flat_map}
use Rattle.state_book.specs.Desks.{first_stray}
use Rattle.state_book.proofs.desk.stray.Given as goal

abbrev pub invariant-loop-pass : goal.invariant-loop-pass
invariant-loop-pass g l = first_stray l.trail (flat_map (λ p. p.receipts) (drop l.pass-index l.passes)) ≡ first_stray l.trail (flat_map (λ p. p.receipts) l.passes)
