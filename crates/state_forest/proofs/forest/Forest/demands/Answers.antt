use Rattle.std.proofs.Common.{◌≡◌, ◌∙◌, Bool, Err, Ok, is_some, rules}
use Rattle.state_facts.specs.declared.refusal.Refusal.TheVariants.{UnknownMember}
use Rattle.state_facts.specs.Sets.{is_demanded, is_participant}
use Rattle.state_forest.specs.Participants.{answered_of}
use Rattle.state_forest.specs.Said.{is_demanded_at, participant_of}
use Rattle.state_forest.specs.Shape.{found_at}
use Rattle.state_forest.proofs.RecordsSayTheSet.{demanded_said, known_said, participant_said}
use Rattle.state_forest.proofs.forest.Forest.demands.Goals as goal

pub returns-in_default-participant_at-clause-answer : goal.returns-in_default-participant_at-clause-answer
returns-in_default-participant_at-clause-answer c nodes S whole nest seated stands =
    let l = c.args.id in
    let m = c.args.member in
    let records = c.args.self.now.records in
    let at = found_at l.home records in
    let asked : Bool = is_demanded_at at l.num m c.args.act in
    let said : Err UnknownMember ≡ answered_of (is_some (at l.num)) (is_some (participant_of at l.num m)) asked = search rules in
    said
    ∙ known_said nodes S records l (is_some (participant_of at l.num m)) (is_participant S l m) asked (is_demanded S l m c.args.act) stands (λ held. participant_said nodes S records l m seated stands held)
    (λ held some. demanded_said nodes S records l m c.args.act whole nest seated stands held some)

pub returns-clause-answer : goal.returns-clause-answer
returns-clause-answer c nodes S whole nest seated stands =
    let l = c.args.id in
    let m = c.args.member in
    let records = c.args.self.now.records in
    let at = found_at l.home records in
    let asked : Bool = is_demanded_at at l.num m c.args.act in
    let said : Ok c.demands.result ≡ answered_of (is_some (at l.num)) (is_some (participant_of at l.num m)) asked = search rules in
    said
    ∙ known_said nodes S records l (is_some (participant_of at l.num m)) (is_participant S l m) asked (is_demanded S l m c.args.act) stands (λ held. participant_said nodes S records l m seated stands held)
    (λ held some. demanded_said nodes S records l m c.args.act whole nest seated stands held some)
