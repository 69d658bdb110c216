use Rattle.std.proofs.Common.{◌<◌}
use Rattle.std.specs.List.{AllByRecursion}
use Rattle.state_forest.specs.declared.record.Record.{Record}
use Rattle.state_journal.proofs.lra_rows.is_after.Given as goal

-- all records are lesser exactly if those that are left are
abbrev pub invariant-loop-record : goal.invariant-loop-record
invariant-loop-record l =
    let lesser = AllByRecursion (λ (q : Record). q.num < l.num) in
    record {
      all : lesser l.record-iterator → lesser l.fn.records;
      left : lesser l.fn.records → lesser l.record-iterator;
    }
