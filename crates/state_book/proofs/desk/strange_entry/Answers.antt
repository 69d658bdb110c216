use Rattle.std.proofs.Common.{sym, ◌∙◌}
use Rattle.state_book.specs.Desks.{PassState}
use Rattle.state_book.proofs.Strange.{strange_at_entry}
use Rattle.state_book.proofs.desk.strange_entry.Goals as goal

pub returns-then-not-is_named_once : goal.returns-then-not-is_named_once
returns-then-not-is_named_once g c =
    sym (strange_at_entry (λ (p : PassState). p.receipts) c.args.trail.now c.args.passes.now c.loop-index.index c.index-trail-index.result _ c.loop-index-test.true c.index-trail-index.is
    (sym c.is_named_once.ensures ∙ c.if-not-is_named_once.true)) ∙ c.loop-index.invariant

pub loop-index-preserved : goal.loop-index-preserved
loop-index-preserved g c =
    sym (strange_at_entry (λ (p : PassState). p.receipts) c.args.trail.now c.args.passes.now c.loop-index.index c.index-trail-index.result _ c.loop-index-test.true c.index-trail-index.is
    (sym c.is_named_once.ensures ∙ c.if-not-is_named_once.false)) ∙ c.loop-index.invariant
