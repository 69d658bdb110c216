use Rattle.std.proofs.Common.{sym, ap, ◌∙◌}
use Rattle.node_schedule.specs.Turns.{is_before, may_be_called}
use Rattle.node_schedule.proofs.Choices.{passed_by, stands_at}
use Rattle.node_schedule.proofs.hosts.longer.Goals as goal

pub returns-then-not-may_be_called : goal.returns-then-not-may_be_called
returns-then-not-may_be_called c =
    passed_by c.args.place (may_be_called c.args.busy) is_before c.args.hosts.now c.args.first
    (ap (may_be_called c.args.busy) (stands_at c.args.hosts.now c.args.place c.index-hosts-place.result c.requires.within c.index-hosts-place.is)
    ∙ sym c.may_be_called.ensures ∙ c.if-not-may_be_called.true)
    c.requires.first
