use Rattle.std.proofs.Common.{◌≡◌, ◌∙◌, Ok, is_some, rules}
use Rattle.state_facts.specs.Sets.{want}
use Rattle.state_forest.specs.Said.{want_at}
use Rattle.state_forest.specs.Shape.{found_at}
use Rattle.state_forest.specs.Standing.{answered}
use Rattle.state_forest.proofs.RecordsSayTheSet.{answer_said, want_said}
use Rattle.state_forest.proofs.forest.Forest.want.Goals as goal

pub returns-clause-answer : goal.returns-clause-answer
returns-clause-answer c nodes S whole nest stands =
    let l = c.args.id in
    let records = c.args.self.now.records in
    let at = found_at l.home records in
    let said : Ok c.wanted_of.result ≡ answered (is_some (at l.num)) (want_at at l.num) = search rules in
    said ∙ answer_said nodes S records l (want_at at l.num) (want S l) stands (λ held. want_said nodes S records l whole nest stands held)
