use Rattle.std.proofs.Common.{◌≡◌, ◌&&◌, ◌∙◌, [], ℕ, List, rules, sym, ap, Bool, true, false, Option, Some, Ok, is_some}
use Rattle.std.specs.Option.{option_map_or}
use Rattle.state_forest.specs.declared.record.Participant.{Participant as ParticipantRecord}
use Rattle.state_forest.specs.declared.record.Record.{Record}
use Rattle.state_forest.specs.MembersByNumber.{numbered}
use Rattle.state_forest.specs.Owings.{forgetting_at, owes}
use Rattle.state_forest.specs.Participants.{answered_of, participant_at}
use Rattle.state_forest.specs.Said.{is_over_at, is_owed_at, participant_of}
use Rattle.state_forest.specs.Shape.{found_at}
use Rattle.state_forest.proofs.ToldByChains.{both_false, both_true, to_forget_is}
use Rattle.state_forest.proofs.forest.Forest.is_to_forget.Goals as goal

-- the answer for the record and the participant that were found
answered : (home own : ℕ) (records : List Record) (num m : ℕ) (r : Record) (p : ParticipantRecord) (b : Bool) → home ≡ own → found_at home records num ≡ Some r → participant_at (numbered r.members m) ≡ Some p
    → b ≡ (is_over_at (found_at own records) r.num && owes (forgetting_at (found_at own records) r) p)
    → Ok b ≡ answered_of (is_some (found_at home records num)) (is_some (participant_of (found_at home records) num m)) (is_owed_at (found_at home records) num m)
answered home own records num m r p b same found joined is =
    let there : participant_of (found_at home records) num m ≡ Some p = ap (λ (o : Option Record). participant_at (numbered (option_map_or (λ (q : Record). q.members) o []) m)) found ∙ joined in
    to_forget_is (found_at home records) num m r p b found there (is ∙ ap (λ (h : ℕ). is_over_at (found_at h records) r.num && owes (forgetting_at (found_at h records) r) p) (sym same))

pub returns-then-not-owes-clause-says : goal.returns-then-not-owes-clause-says
returns-then-not-owes-clause-says c =
    let at = found_at c.args.self.now.home c.args.self.now.records in
    let r = c.in-Some.record.now in
    let p = c.in-Some-participant_at.participant.now in
    let fails : owes (forgetting_at at r) p ≡ false = search rules in
    answered c.args.id.home c.args.self.now.home c.args.self.now.records c.args.id.num c.args.member r p false c.in-Some.ensures.home (sym c.in-Some.ensures.found)
    (sym (ap participant_at c.get-2.ensures) ∙ sym c.in-Some-participant_at.ensures) (both_false (is_over_at at r.num) (owes (forgetting_at at r) p) fails)

pub returns-clause-says : goal.returns-clause-says
returns-clause-says c =
    let at = found_at c.args.self.now.home c.args.self.now.records in
    let r = c.in-Some.record.now in
    let p = c.in-Some-participant_at.participant.now in
    let passes : owes (forgetting_at at r) p ≡ true = search rules in
    answered c.args.id.home c.args.self.now.home c.args.self.now.records c.args.id.num c.args.member r p c.is_over.result c.in-Some.ensures.home (sym c.in-Some.ensures.found)
    (sym (ap participant_at c.get-2.ensures) ∙ sym c.in-Some-participant_at.ensures) (c.is_over.ensures ∙ both_true (is_over_at at r.num) (owes (forgetting_at at r) p) passes)
