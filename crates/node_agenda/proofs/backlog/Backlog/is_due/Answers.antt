use Rattle.std.proofs.Common.{◌∙◌, ◌≡◌, true, arith, sym}
use Rattle.std.specs.Prelude.{is_some, not}
use Rattle.node_agenda.proofs.FirstDue.{due_by}
use Rattle.node_agenda.proofs.backlog.Backlog.is_due.Goals as goal

pub returns-then-is_none : goal.returns-then-is_none
returns-then-is_none c =
    let free : not (is_some c.args.self.now.taking) ≡ true = grind (arith, c.is_none.ensures, c.if-is_none.true) in
    c.is_some.ensures ∙ sym (due_by c.args.now c.args.self.now c.first_due.result free c.first_due.ensures)
