use Rattle.std.proofs.Common.{◌≡◌}
use Rattle.serde_json.specs.View.{members_view}
use Rattle.wire_api.specs.BodyFaults.{unknown_in}
use Rattle.wire_api.proofs.body_faults.unknown_in.Given as goal

abbrev pub invariant-loop-name : goal.invariant-loop-name
invariant-loop-name l = unknown_in l.form (members_view l.name-iterator) ≡ unknown_in l.form (members_view l.members.entries)
