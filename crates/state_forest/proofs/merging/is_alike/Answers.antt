use Rattle.std.proofs.Common.{sym, ap, ◌∙◌}
use Rattle.state_forest.specs.declared.record.Member.TheVariants.{Participant}
use Rattle.state_forest.proofs.EqualRecords.{links_same}
use Rattle.state_forest.proofs.MemberMerges.{participants_swap}
use Rattle.state_forest.proofs.merging.is_alike.Goals as goal

pub returns-in-Participant-other : goal.returns-in-Participant-other
returns-in-Participant-other c = λ yes.
    let p = c.in-Participant.kept in
    let q = c.in-Participant-other.other in
    rw (c.in-Participant.is, c.in-Participant-other.is) (ap Participant (participants_swap p q (links_same p.links q.links (sym c.eq.ensures ∙ yes))))
