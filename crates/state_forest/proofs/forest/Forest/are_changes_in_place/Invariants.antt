use Rattle.std.proofs.Common.{◌≡◌, Some}
use Rattle.std.specs.List.{AllByRecursion}
use Rattle.state_forest.specs.Shape.{IsInPlace, found_at, records_after}
use Rattle.state_forest.proofs.forest.Forest.are_changes_in_place.Given as goal

-- all have their place exactly if those that are left have theirs. Each that is left is found
abbrev pub invariant-loop-record : goal.invariant-loop-record
invariant-loop-record l =
    let after = records_after l.changes l.self in
    let those = AllByRecursion (λ r. IsInPlace l.front l.self.home after r.num r) in
    record {
      found : AllByRecursion (λ r. found_at l.self.home after r.num ≡ Some r) l.record-iterator;
      all : those l.record-iterator → those l.changes.records.records;
      left : those l.changes.records.records → those l.record-iterator;
    }
