use Rattle.std.proofs.Common.{◌∙◌, is_some, sym, ap, length}
use Rattle.state_forest.proofs.ParticipantAnswers.{participant_lost}
use Rattle.state_replica.specs.Replicas.{view_of}
use Rattle.theory_history.proofs.SameReadings.{has_record}
use Rattle.state_replica.proofs.replica.Replica.participant.Goals as goal

pub returns-in-Ok-clause-settled : goal.returns-in-Ok-clause-settled
returns-in-Ok-clause-settled c S settled stands = c.participant.ensures.settled (length c.args.self.now.front) S settled.seated (c.in-Ok.ensures.stands S stands)

pub returns-in-Err-clause-settled : goal.returns-in-Err-clause-settled
returns-in-Err-clause-settled c S settled stands = participant_lost S c.args.id c.args.member (sym (has_record S (view_of c.args.self.now) c.args.id stands) ∙ ap is_some c.in-Err.ensures.nowhere)
