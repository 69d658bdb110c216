use Rattle.std.proofs.Common.{◌∙◌, ap, sym, Some, None, cond}
use Rattle.state_forest.proofs.ChangedRecords.{kept_none, kept_some}
use Rattle.state_forest.proofs.forest.Forest.kept_at.Goals as goal

pub returns-in_default : goal.returns-in_default
returns-in_default c =
    kept_none c.args.self.now.home c.args.removed.now c.args.self.now.records c.args.num c.records.ensures.order c.in_default.ensures

pub returns-then-is_among : goal.returns-then-is_among
returns-then-is_among c =
    sym (ap (λ b. cond b None (Some c.in-Some.record.now)) c.if-is_among.true)
    ∙ kept_some c.args.self.now.home c.args.removed.now c.args.self.now.records c.args.num c.in-Some.record.now c.is_among.result c.records.ensures.order c.in-Some.ensures c.is_among.ensures

pub returns-else-is_among : goal.returns-else-is_among
returns-else-is_among c =
    sym (ap (λ b. cond b None (Some c.in-Some.record.now)) c.if-is_among.false)
    ∙ kept_some c.args.self.now.home c.args.removed.now c.args.self.now.records c.args.num c.in-Some.record.now c.is_among.result c.records.ensures.order c.in-Some.ensures c.is_among.ensures
