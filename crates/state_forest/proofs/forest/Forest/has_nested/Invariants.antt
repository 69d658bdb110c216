use Rattle.std.proofs.Common.{take}
use Rattle.std.specs.List.{AllByRecursion}
use Rattle.state_forest.specs.Shape.{records_after}
use Rattle.state_forest.proofs.ShapeOfAHome.{IsThere}
use Rattle.state_forest.proofs.forest.Forest.has_nested.Given as goal

-- the nested LRAs so far are there
abbrev pub invariant-loop-member : goal.invariant-loop-member
invariant-loop-member l = AllByRecursion (IsThere l.self.home (records_after l.changes l.self)) (take l.member-index l.members)
