use Rattle.std.proofs.Common.{◌≡◌, true}
use Rattle.std.specs.List.{AllByRecursion}
use Rattle.state_facts.specs.Lists.{In}
use Rattle.state_forest.specs.Shape.{IsInPlace, is_untouched, records_after}
use Rattle.state_forest.proofs.forest.Forest.are_untouched_in_place.Given as goal

-- all that stay have their place exactly if those that are left have theirs. Each that is left is
-- one of the home
abbrev pub invariant-loop-record : goal.invariant-loop-record
invariant-loop-record l =
    let those = AllByRecursion (λ r. is_untouched l.changes r ≡ true → IsInPlace l.front l.self.home (records_after l.changes l.self) r.num r) in
    record {
      own : AllByRecursion (λ r. In r l.self.records) l.record-iterator;
      all : those l.record-iterator → those l.self.records;
      left : those l.self.records → those l.record-iterator;
    }
