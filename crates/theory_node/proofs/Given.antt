-- What was given stays known.
use Rattle.std.proofs.Common.{◌≡◌, ◌<◌, ℕ, true, List, Option, arith, length}
use Rattle.std.specs.Prelude.{◌&&◌}
use Rattle.std.specs.declared.time.Duration.{Duration}
use Rattle.std.proofs.lemmas.Bool.{and_parts, ltb-true}
use Rattle.state_ids.specs.Fronts.{IsBelow, count}
use Rattle.node_inbox.specs.Tellings.{Told}
use Rattle.node_replication.specs.Followers.{wants_any}
use Rattle.node_core.specs.Calls.{Admitted, IsSettled}
use Rattle.node_core.specs.Pulls.{casts_doubt, is_newer_than}
use Rattle.node_core.specs.declared.calls.CallResult.{CallResult}
use Rattle.node_core.specs.declared.calls.ReplyKind.TheVariants.{Gave}
use Rattle.node_core.specs.declared.node_state.NodeState.{NodeState}
use Rattle.theory_node.specs.Steps.{AreSteps}
use Rattle.theory_node.proofs.PullsPass.{HeardStays}
use Rattle.theory_node.proofs.StepsPass.{steps_pass}
use Rattle.theory_node.proofs.TurnsPass.{LookStays}

-- each frame that was given is known
abbrev pub GivenIsKnown : Type 0
GivenIsKnown =
    (a : Admitted) → (came : CallResult) → (now : Duration) → (old new : NodeState) → (ticket : Option ℕ) → (front : List ℕ) → came.kind ≡ Gave front
    → length front ≡ length old.mail.known.front → IsSettled a came now old new ticket → IsBelow front new.mail.known.front

pub grows : HeardStays → LookStays → (old new : NodeState) → AreSteps old new → IsBelow old.mail.known.front new.mail.known.front
grows heard looks old new steps = (steps_pass heard looks old new steps).keeps.known

pub known : HeardStays → LookStays → GivenIsKnown → (a : Admitted) (came : CallResult) (now : Duration) (old new later : NodeState) (ticket : Option ℕ) (front : List ℕ)
    → came.kind ≡ Gave front → length front ≡ length old.mail.known.front → IsSettled a came now old new ticket → AreSteps new later → IsBelow front later.mail.known.front
known heard looks given a came now old new later ticket front gave long is steps =
    λ node. omega (arith, given a came now old new ticket front gave long is node, grows heard looks new later steps node)

is_newer : (told : Told) (n : NodeState) → casts_doubt told n ≡ true → count n.mail.known.front n.me < count told.frame.front n.me
is_newer told n casts =
    let parts = and_parts (wants_any n.followers && n.has_entered) (is_newer_than told n && n.mail.opening.is_open) casts in
    ltb-true (count n.mail.known.front n.me) (count told.frame.front n.me) (and_parts (is_newer_than told n) n.mail.opening.is_open parts.1).0

pub newer : HeardStays → LookStays → GivenIsKnown → (a : Admitted) (came : CallResult) (now : Duration) (old new later : NodeState) (ticket : Option ℕ) (front : List ℕ) (told : Told)
    → came.kind ≡ Gave front → length front ≡ length old.mail.known.front → IsSettled a came now old new ticket → AreSteps new later → casts_doubt told later ≡ true
    → count front later.me < count told.frame.front later.me
newer heard looks given a came now old new later ticket front told gave long is steps casts =
    omega (arith, known heard looks given a came now old new later ticket front gave long is steps later.me, is_newer told later casts)
