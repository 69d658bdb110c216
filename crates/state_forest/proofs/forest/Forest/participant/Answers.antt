use Rattle.std.proofs.Common.{sym, ap, ◌∙◌}
use Rattle.state_forest.specs.declared.record.Record.{Record}
use Rattle.state_forest.specs.MembersByNumber.{numbered}
use Rattle.state_forest.specs.Participants.{participant_at}
use Rattle.state_forest.proofs.ParticipantAnswers.{participant_held, participant_law, participant_lost}
use Rattle.state_forest.proofs.RecordsOfASet.{found_is, held_if_found, not_held}
use Rattle.state_forest.proofs.forest.Forest.participant.Goals as goal

pub returns-in_default-clause-settled : goal.returns-in_default-clause-settled
returns-in_default-clause-settled c nodes S seated stands =
    participant_lost S c.args.id c.args.member (not_held nodes S c.args.self.now.records c.args.id stands (sym c.in_default.ensures.found))

pub returns-clause-settled : goal.returns-clause-settled
returns-clause-settled c nodes S seated stands =
    let found = sym c.in-Some.ensures.found in
    let held = held_if_found nodes S c.args.self.now.records c.args.id c.in-Some.record.now stands found in
    let kept = found_is nodes S c.args.self.now.records c.args.id c.in-Some.record.now stands held found in
    let member = c.get-2.ensures ∙ ap (λ (r : Record). numbered r.members c.args.member) kept in
    c.participant_at.ensures ∙ ap participant_at member ∙ participant_law S c.args.id c.args.member seated ∙ sym (participant_held S c.args.id c.args.member held)
