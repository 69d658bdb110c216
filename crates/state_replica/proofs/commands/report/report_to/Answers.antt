use Rattle.std.proofs.Common.{◌≡◌, ◌-◌, ◌∙◌, sym, ap, set, rules}
use Rattle.state_forest.specs.declared.record.Member.{Member}
use Rattle.theory_history.specs.Growth.{reporting}
use Rattle.theory_history.proofs.OneMemberChanged.{change_none, change_some, numbered_is}
use Rattle.state_replica.proofs.commands.report.report_to.Goals as goal

pub returns-in_ok-clone : goal.returns-in_ok-clone
returns-in_ok-clone c some =
    let there = sym (numbered_is c.args.members.now c.args.number some) ∙ sym c.in-Some.ensures in
    let same : c.in_ok-clone.field-0 ≡ c.in-Some.member.now = search rules in
    let told = reporting c.args.act c.args.outcome in
    c.set.ensures ∙ ap (λ (m : Member). set c.args.members.now (c.args.number - 1) m) (c.reporting-next.ensures ∙ ap told same)
    ∙ sym (change_some told (c.args.number - 1) c.args.members.now c.in-Some.member.now there)

pub returns-in_default : goal.returns-in_default
returns-in_default c some =
    let there = sym (numbered_is c.args.members.now c.args.number some) ∙ sym c.in_default.ensures in
    sym (change_none (reporting c.args.act c.args.outcome) (c.args.number - 1) c.args.members.now there)
