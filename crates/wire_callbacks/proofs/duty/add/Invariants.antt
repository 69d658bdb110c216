use Rattle.std.proofs.Common.{◌≡◌, ◌++◌, drop, filter_map}
use Rattle.state_replica.specs.Replicas.{view_of}
use Rattle.wire_callbacks.specs.ViewDuties.{duty_by}
use Rattle.wire_callbacks.proofs.duty.add.Given as goal

-- together with the duties of the participants that are left, these are all
abbrev pub invariant-loop-due : goal.invariant-loop-due
invariant-loop-due l =
    let made = duty_by (view_of l.replica) l.errand in
    l.duties.items ++ filter_map made (drop l.due-index l.dues) ≡ l.initial.duties.items ++ filter_map made l.dues
