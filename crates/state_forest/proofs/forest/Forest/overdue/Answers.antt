use Rattle.std.proofs.Common.{Option, subst, sym}
use Rattle.state_ids.specs.Ids.{Id}
use Rattle.state_forest.specs.Overdue.{IsLeastOverdue}
use Rattle.state_forest.proofs.Overdue.{overdue_said}
use Rattle.state_forest.proofs.forest.Forest.overdue.Goals as goal

pub returns-clause-answer : goal.returns-clause-answer
returns-clause-answer c nodes S whole nest numbered stands =
    let home = c.args.self.now.home in
    subst (λ (o : Option Id). IsLeastOverdue S home c.args.now o) (sym c.first_overdue.ensures.value)
    (overdue_said nodes home S c.args.self.now.records c.args.now c.first_overdue.ensures.order whole nest numbered stands)
