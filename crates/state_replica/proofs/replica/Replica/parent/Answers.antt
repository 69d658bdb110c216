use Rattle.std.proofs.Common.{◌∙◌, is_some, sym, ap, length}
use Rattle.state_facts.specs.Sets.{IsNumbered}
use Rattle.state_forest.proofs.ParticipantAnswers.{parent_lost}
use Rattle.state_forest.proofs.Bools.{all_from}
use Rattle.state_replica.specs.Replicas.{view_of}
use Rattle.theory_history.proofs.SameReadings.{has_record}
use Rattle.state_replica.proofs.replica.Replica.parent.Goals as goal

pub returns-in-Ok-clause-settled : goal.returns-in-Ok-clause-settled
returns-in-Ok-clause-settled c S settled stands =
    c.parent.ensures.settled (length c.args.self.now.front) S settled.whole (all_from IsNumbered S settled.numbered) (c.in-Ok.ensures.stands S stands)

pub returns-in-Err-clause-settled : goal.returns-in-Err-clause-settled
returns-in-Err-clause-settled c S settled stands = parent_lost S c.args.id (sym (has_record S (view_of c.args.self.now) c.args.id stands) ∙ ap is_some c.in-Err.ensures.nowhere)
