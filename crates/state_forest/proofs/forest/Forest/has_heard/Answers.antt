use Rattle.std.proofs.Common.{◌≡◌, ◌∙◌, Bool, Err, Ok, is_some, rules}
use Rattle.state_facts.specs.declared.refusal.Refusal.TheVariants.{UnknownMember}
use Rattle.state_facts.specs.Sets.{is_heard, is_participant}
use Rattle.state_forest.specs.Participants.{answered_of}
use Rattle.state_forest.specs.Said.{is_heard_at, participant_of}
use Rattle.state_forest.specs.Shape.{found_at}
use Rattle.state_forest.proofs.RecordsSayTheSet.{heard_said, known_said, participant_said}
use Rattle.state_forest.proofs.forest.Forest.has_heard.Goals as goal

pub returns-in_default-participant_at-clause-answer : goal.returns-in_default-participant_at-clause-answer
returns-in_default-participant_at-clause-answer c nodes S whole seated stands =
    let l = c.args.id in
    let m = c.args.member in
    let records = c.args.self.now.records in
    let at = found_at l.home records in
    let asked : Bool = is_heard_at at l.num m c.args.act c.args.outcome in
    let said : Err UnknownMember ≡ answered_of (is_some (at l.num)) (is_some (participant_of at l.num m)) asked = search rules in
    said
    ∙ known_said nodes S records l (is_some (participant_of at l.num m)) (is_participant S l m) asked (is_heard S l m c.args.act c.args.outcome) stands (λ held. participant_said nodes S records l m seated stands held)
    (λ held some. heard_said nodes S records l m c.args.act c.args.outcome seated stands held some)

pub returns-clause-answer : goal.returns-clause-answer
returns-clause-answer c nodes S whole seated stands =
    let l = c.args.id in
    let m = c.args.member in
    let records = c.args.self.now.records in
    let at = found_at l.home records in
    let asked : Bool = is_heard_at at l.num m c.args.act c.args.outcome in
    let said : Ok c.hears.result ≡ answered_of (is_some (at l.num)) (is_some (participant_of at l.num m)) asked = search rules in
    said
    ∙ known_said nodes S records l (is_some (participant_of at l.num m)) (is_participant S l m) asked (is_heard S l m c.args.act c.args.outcome) stands (λ held. participant_said nodes S records l m seated stands held)
    (λ held some. heard_said nodes S records l m c.args.act c.args.outcome seated stands held some)
