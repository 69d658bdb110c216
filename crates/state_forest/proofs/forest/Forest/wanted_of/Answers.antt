use Rattle.std.proofs.Common.{◌∙◌, ap}
use Rattle.state_forest.specs.Shape.{found_at}
use Rattle.state_forest.specs.Wants.{over}
use Rattle.state_forest.proofs.RecordsSayTheSet.{wanted_above, wanted_alone}
use Rattle.state_forest.proofs.forest.Forest.wanted_of.Goals as goal

pub returns-in-Some : goal.returns-in-Some
returns-in-Some c found =
    let at = found_at c.args.self.now.home c.args.self.now.records in
    c.over.ensures ∙ ap (over c.args.kept.now.decision) c.wanted_within-above.ensures ∙ wanted_above at c.args.num c.args.kept.now c.in-Some.place found c.in-Some.is

pub returns-in-None : goal.returns-in-None
returns-in-None c found = wanted_alone (found_at c.args.self.now.home c.args.self.now.records) c.args.num c.args.kept.now found c.in-None.is
