use Rattle.std.proofs.Common.{◌≡◌, ◌∙◌, Ok, is_some, rules}
use Rattle.state_facts.specs.Sets.{shows_now}
use Rattle.state_forest.specs.Said.{shown_at}
use Rattle.state_forest.specs.Shape.{found_at}
use Rattle.state_forest.specs.Standing.{answered}
use Rattle.state_forest.proofs.RecordsSayTheSet.{answer_said, shown_said}
use Rattle.state_forest.proofs.forest.Forest.status.Goals as goal

pub returns-clause-answer : goal.returns-clause-answer
returns-clause-answer c nodes S whole nest stands =
    let l = c.args.id in
    let records = c.args.self.now.records in
    let at = found_at l.home records in
    let said : Ok c.status_from.result ≡ answered (is_some (at l.num)) (shown_at at l.num) = search rules in
    said ∙ answer_said nodes S records l (shown_at at l.num) (shows_now S l) stands (λ held. shown_said nodes S records l whole nest stands held)
