use Rattle.std.proofs.Common.{◌≡◌, drop}
use Rattle.std.specs.List.{list_any}
use Rattle.state_forest.specs.Forests.{is_of}
use Rattle.state_forest.proofs.shape.is_among.Given as goal

-- whether the LRA is among the ids depends on the ids that are left
abbrev pub invariant-loop-id : goal.invariant-loop-id
invariant-loop-id l = list_any (λ k. is_of k l.kept) l.ids ≡ list_any (λ k. is_of k l.kept) (drop l.id-index l.ids)
