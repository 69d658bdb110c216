use Rattle.std.proofs.Common.{◌≡◌, ◌∙◌, Ok, is_some, length, rules}
use Rattle.state_facts.specs.Sets.{numbers_given}
use Rattle.state_forest.specs.Said.{members_at}
use Rattle.state_forest.specs.Shape.{found_at}
use Rattle.state_forest.specs.Standing.{answered}
use Rattle.state_forest.proofs.RecordsSayTheSet.{answer_said, numbers_said}
use Rattle.state_forest.proofs.forest.Forest.numbers_given.Goals as goal

pub returns-clause-answer : goal.returns-clause-answer
returns-clause-answer c nodes S whole stands =
    let l = c.args.id in
    let records = c.args.self.now.records in
    let at = found_at l.home records in
    let said : Ok c.len.result ≡ answered (is_some (at l.num)) (length (members_at at l.num)) = search rules in
    said ∙ answer_said nodes S records l (length (members_at at l.num)) (numbers_given S l) stands (λ held. numbers_said nodes S records l stands held)
