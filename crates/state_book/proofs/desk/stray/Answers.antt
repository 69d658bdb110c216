use Rattle.std.proofs.Common.{sym, ap, ◌∙◌}
use Rattle.state_book.specs.Desks.{first_stray}
use Rattle.state_book.proofs.Strange.{stray_found, stray_passed}
use Rattle.state_book.proofs.desk.stray.Goals as goal

pub returns-in-Some : goal.returns-in-Some
returns-in-Some g c =
    sym (stray_found (λ p. p.receipts) _ _ _ _ _ c.loop-pass-test.true c.pass-item.is (ap (first_stray c.args.trail.now) (sym c.receipts.ensures) ∙ sym c.stray_in.ensures ∙ c.in-Some.is)) ∙ c.loop-pass.invariant

pub loop-pass-preserved : goal.loop-pass-preserved
loop-pass-preserved g c =
    stray_passed (λ p. p.receipts) _ _ _ _ c.loop-pass-test.true c.pass-item.is (ap (first_stray c.args.trail.now) (sym c.receipts.ensures) ∙ sym c.stray_in.ensures ∙ c.in-None.is) ∙ c.loop-pass.invariant
