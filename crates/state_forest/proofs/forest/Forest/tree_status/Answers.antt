use Rattle.std.proofs.Common.{◌≡◌, ◌∙◌, Ok, is_some, rules}
use Rattle.state_forest.specs.Shape.{found_at}
use Rattle.state_forest.specs.Standing.{answered}
use Rattle.state_forest.specs.Trees.{tree_shown_at, tree_shows}
use Rattle.state_forest.proofs.RecordsSayTheSet.{answer_said, tree_said}
use Rattle.state_forest.proofs.forest.Forest.tree_status.Goals as goal

pub returns-clause-answer : goal.returns-clause-answer
returns-clause-answer c nodes S whole nest stands =
    let l = c.args.id in
    let records = c.args.self.now.records in
    let at = found_at l.home records in
    let said : Ok c.tree_status.result ≡ answered (is_some (at l.num)) (tree_shown_at at l.num) = search rules in
    said ∙ answer_said nodes S records l (tree_shown_at at l.num) (tree_shows S l) stands (λ held. tree_said nodes S records l whole nest stands held)
