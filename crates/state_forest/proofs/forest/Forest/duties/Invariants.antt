use Rattle.std.proofs.Common.{◌≡◌, ◌++◌, flat_map}
use Rattle.state_forest.specs.Owings.{IsLastRoot, owed_of}
use Rattle.state_forest.specs.Shape.{found_at}
use Rattle.state_forest.proofs.forest.Forest.duties.Given as goal

-- what was owed so far, with what the records left owe, is all
abbrev pub invariant-loop-kept : goal.invariant-loop-kept
invariant-loop-kept l =
    let owed = owed_of l.errand l.self.home (found_at l.self.home l.self.records) in
    record {
      owed : l.dues.items ++ flat_map owed l.kept-iterator ≡ flat_map owed l.self.records;
      last : IsLastRoot (found_at l.self.home l.self.records) l.last;
    }
