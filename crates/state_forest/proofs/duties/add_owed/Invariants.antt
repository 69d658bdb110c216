use Rattle.std.proofs.Common.{◌≡◌, ◌+◌, ◌++◌, drop}
use Rattle.state_forest.specs.Owings.{owed_by}
use Rattle.state_forest.proofs.duties.add_owed.Given as goal

-- what was added, with what the members left owe, is all that is owed
abbrev pub invariant-loop-kept : goal.invariant-loop-kept
invariant-loop-kept l =
    (l.member ≡ l.kept-index)
    × (l.dues.items ++ owed_by l.owing l.lra (l.member + 1) (drop l.kept-index l.kept-items) ≡ l.initial.dues.items ++ owed_by l.owing l.lra 1 l.kept-items)
