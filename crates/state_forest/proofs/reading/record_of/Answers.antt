use Rattle.state_forest.proofs.MembersAndStamps.{number_fits, same_record}
use Rattle.state_forest.proofs.reading.record_of.Goals as goal

pub returns-clause-entry : goal.returns-clause-entry
returns-clause-entry c kept =
    same_record _ _ c.home.ensures.value c.num.ensures.value
    (c.place.ensures (λ p. number_fits c.args.facts.now p c.args.id.num kept))
    c.deadline.ensures c.decision.ensures c.stamps.ensures (c.in_ok-members.ensures kept)
