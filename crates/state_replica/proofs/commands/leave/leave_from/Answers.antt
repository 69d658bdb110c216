use Rattle.std.proofs.Common.{◌-◌, ◌∙◌, sym, ap, set}
use Rattle.state_forest.specs.declared.record.Member.{Member}
use Rattle.theory_history.specs.Growth.{leaving}
use Rattle.theory_history.proofs.OneMemberChanged.{change_none, change_some, numbered_is}
use Rattle.state_replica.proofs.commands.leave.leave_from.Goals as goal

pub returns-in-Some : goal.returns-in-Some
returns-in-Some c some =
    let there = sym (numbered_is c.args.members.now c.args.number some) ∙ sym c.in-Some.ensures in
    c.set.ensures ∙ ap (λ (m : Member). set c.args.members.now (c.args.number - 1) m) c.leaving-next.ensures ∙ sym (change_some leaving (c.args.number - 1) c.args.members.now c.in-Some.member.now there)

pub returns-in_default : goal.returns-in_default
returns-in_default c some =
    let there = sym (numbered_is c.args.members.now c.args.number some) ∙ sym c.in_default.ensures in
    sym (change_none leaving (c.args.number - 1) c.args.members.now there)
