use Rattle.std.proofs.Common.{◌≡◌, ◌+◌, drop}
use Rattle.state_forest.specs.Owings.{owed_by}
use Rattle.state_forest.proofs.duties.first_owed.Given as goal

-- the first owed is the first owed of the members that are left
abbrev pub invariant-loop-kept : goal.invariant-loop-kept
invariant-loop-kept l =
    (l.member ≡ l.kept-index) × (owed_by l.owing l.lra (l.member + 1) (drop l.kept-index l.kept-items) ≡ owed_by l.owing l.lra 1 l.kept-items)
