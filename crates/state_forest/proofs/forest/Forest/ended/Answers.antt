use Rattle.std.proofs.Common.{◌≡◌, ◌∙◌, Ok, is_some, rules}
use Rattle.state_facts.specs.Sets.{is_ended}
use Rattle.state_forest.specs.Said.{is_ended_at}
use Rattle.state_forest.specs.Shape.{found_at}
use Rattle.state_forest.specs.Standing.{answered}
use Rattle.state_forest.proofs.RecordsSayTheSet.{answer_said, ended_said}
use Rattle.state_forest.proofs.forest.Forest.ended.Goals as goal

pub returns-clause-answer : goal.returns-clause-answer
returns-clause-answer c nodes S whole nest stands =
    let l = c.args.id in
    let records = c.args.self.now.records in
    let at = found_at l.home records in
    let said : Ok c.is_ended.result ≡ answered (is_some (at l.num)) (is_ended_at at l.num) = search rules in
    said ∙ answer_said nodes S records l (is_ended_at at l.num) (is_ended S l) stands (λ held. ended_said nodes S records l whole nest stands held)
