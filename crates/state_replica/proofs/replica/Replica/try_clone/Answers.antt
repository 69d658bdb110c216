use Rattle.std.proofs.Common.{◌∙◌, ap, List}
use Rattle.state_forest.specs.declared.record.Record.{Record}
use Rattle.state_replica.specs.Replicas.{view_of}
use Rattle.theory_history.specs.Views.{View}
use Rattle.state_replica.proofs.SameHomes.{copied_kept, copied_records}
use Rattle.state_replica.proofs.replica.Replica.try_clone.Goals as goal

pub invariant_of-result : goal.invariant_of-result
invariant_of-result c =
    copied_kept c.self.inside.front c.self.inside.purges c.self.inside.homes.items c.in_ok-clone.field-0.items c.self.inside.index c.in_ok-clone-2.field-0 c.in_ok-clone.ensures.cases.0 c.in_ok-clone-2.ensures.cases c.self.invariant

pub returns : goal.returns
returns c =
    let with_records : List (List Record) → View = λ records. record { front = c.self.inside.front; purges = c.self.inside.purges; records = records } in
    ap with_records (copied_records c.self.inside.homes.items c.in_ok-clone.field-0.items c.in_ok-clone.ensures.cases.0) ∙ ap view_of c.self.view_is
