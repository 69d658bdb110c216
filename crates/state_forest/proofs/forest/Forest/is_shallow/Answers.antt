use Rattle.std.proofs.Common.{◌∙◌}
use Rattle.state_forest.specs.Shape.{records_after}
use Rattle.state_forest.proofs.ShapeOfAHome.{shallow_of_nested, shallow_of_root}
use Rattle.state_forest.proofs.forest.Forest.is_shallow.Goals as goal

pub returns-in-Some : goal.returns-in-Some
returns-in-Some c found =
    c.is_shallow_within.ensures
    ∙ shallow_of_nested c.args.self.now.home (records_after c.args.changes.now c.args.self.now) c.args.kept.now c.in-Some.place found c.in-Some.is

pub returns-in-None : goal.returns-in-None
returns-in-None c found =
    shallow_of_root c.args.self.now.home (records_after c.args.changes.now c.args.self.now) c.args.kept.now found c.in-None.is
