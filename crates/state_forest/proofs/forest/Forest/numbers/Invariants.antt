use Rattle.std.proofs.Common.{◌≡◌, ◌++◌, map}
use Rattle.state_forest.specs.declared.record.Record.{Record}
use Rattle.state_forest.proofs.forest.Forest.numbers.Given as goal

-- the numbers of the records so far, and of those that are left
abbrev pub invariant-loop-record : goal.invariant-loop-record
invariant-loop-record l =
    let numbers = map (λ (r : Record). r.num) in
    l.numbers.items ++ numbers l.record-iterator ≡ numbers l.self.records
