-- The diagram of an LRA: the standard's statuses and edges, and the edges that this project adds.
use Rattle.std.specs.Prelude.{◌≡◌, ◌⊎◌, ◌&&◌, ◌||◌, ℕ, Bool, true, false, List, [], ◌∷◌, Ok}
use Rattle.state_ids.specs.Ids.{Id}
use Rattle.state_ids.specs.declared.status.LraStatus.{LraStatus}
use Rattle.state_ids.specs.declared.status.LraStatus.TheVariants.{Active, Cancelled, Cancelling, Closed, Closing, FailedToCancel, FailedToClose}
use Rattle.state_ids.specs.declared.outcome.Verdict.{Verdict}
use Rattle.state_ids.specs.declared.outcome.Verdict.TheVariants.{Cancel, Close}
use Rattle.state_facts.specs.declared.command.Command.{Command}
use Rattle.state_facts.specs.declared.command.Command.TheVariants.{Decide, Report}
use Rattle.script_world.specs.declared.event.Event.{Event}
use Rattle.script_world.specs.declared.event.Event.TheVariants.{Act, Deliver, Restart, Send, Tick}
use Rattle.script_world.specs.declared.event.EventReply.{EventReply}
use Rattle.script_world.specs.Headline.{IsNode, shown_at}
use Rattle.script_world.specs.Worlds.{Runs, State, Steps, start}

-- the edges of the standard's diagram
abbrev pub is_standard : LraStatus → LraStatus → Bool
is_standard Active Closing = true
is_standard Active Cancelling = true
is_standard Closing Closed = true
is_standard Closing FailedToClose = true
is_standard Cancelling Cancelled = true
is_standard Cancelling FailedToCancel = true
is_standard _ _ = false

-- a failure is heard after the end was shown (this project's profile)
abbrev pub is_late_failure : LraStatus → LraStatus → Bool
is_late_failure Closed FailedToClose = true
is_late_failure Cancelled FailedToCancel = true
is_late_failure _ _ = false

-- an LRA that was closed is cancelled together with an LRA above it
abbrev pub is_cancelled_above : LraStatus → LraStatus → Bool
is_cancelled_above Closing Cancelling = true
is_cancelled_above Closed Cancelling = true
is_cancelled_above FailedToClose Cancelling = true
is_cancelled_above _ _ = false

-- the edges of an LRA that nothing above it affects
abbrev pub is_own_edge : LraStatus → LraStatus → Bool
is_own_edge a b = is_standard a b || is_late_failure a b

-- all edges
abbrev pub is_edge : LraStatus → LraStatus → Bool
is_edge a b = is_own_edge a b || is_cancelled_above a b

-- edges lead from the first status to these, one after another, and then to the last
abbrev pub LeadsBy : (LraStatus → LraStatus → Bool) → LraStatus → List LraStatus → LraStatus → Type 0
LeadsBy edge a [] b = a ≡ b
LeadsBy edge a (c ∷ cs) b = (edge a c ≡ true) × LeadsBy edge c cs b

-- a path of such edges, of any length, including none
abbrev pub IsPath : (LraStatus → LraStatus → Bool) → LraStatus → LraStatus → Type 0
IsPath edge a b = (steps : List LraStatus) × LeadsBy edge a steps b

-- the edges that an end crosses: to the end of the branch, or the late failure
abbrev pub is_heard_edge : LraStatus → LraStatus → Bool
is_heard_edge Closing Closed = true
is_heard_edge Closing FailedToClose = true
is_heard_edge Cancelling Cancelled = true
is_heard_edge Cancelling FailedToCancel = true
is_heard_edge a b = is_late_failure a b

-- where a decision leads first
abbrev pub decided_to : Verdict → LraStatus
decided_to Close = Closing
decided_to Cancel = Cancelling

-- a decision crosses none, or an edge of its own, and then one more at most, to an end
abbrev pub ByDecision : Verdict → LraStatus → LraStatus → Type 0
ByDecision verdict a b =
    (a ≡ b) ⊎ ((is_edge a (decided_to verdict) ≡ true) × ((decided_to verdict ≡ b) ⊎ (is_heard_edge (decided_to verdict) b ≡ true)))

-- a report crosses one edge at most, and the commands that neither report nor decide cross none
abbrev pub ByCommand : Command → LraStatus → LraStatus → Type 0
ByCommand (Report l m act outcome) a b = (a ≡ b) ⊎ (is_heard_edge a b ≡ true)
ByCommand (Decide l verdict) a b = ByDecision verdict a b
ByCommand _ a b = a ≡ b

-- the edges that one event may cross: only a frame that is taken may bring several decisions
abbrev pub ByEvent : Event → LraStatus → LraStatus → Type 0
ByEvent (Act node c) a b = ByCommand c a b
ByEvent (Tick node now) a b = ByDecision Cancel a b
ByEvent (Deliver number node kept) a b = IsPath is_edge a b
ByEvent _ a b = a ≡ b

-- the node at which an event happens
abbrev pub node_of : Event → ℕ
node_of (Act node c) = node
node_of (Send node base version) = node
node_of (Deliver frame node kept) = node
node_of (Restart node) = node
node_of (Tick node now) = node

-- the branch of closing
abbrev pub is_to_close : LraStatus → Bool
is_to_close Closing = true
is_to_close Closed = true
is_to_close FailedToClose = true
is_to_close _ = false

-- the branch of cancelling
abbrev pub is_to_cancel : LraStatus → Bool
is_to_cancel Cancelling = true
is_to_cancel Cancelled = true
is_to_cancel FailedToCancel = true
is_to_cancel _ = false

-- the two statuses are on different branches
abbrev pub are_parted : LraStatus → LraStatus → Bool
are_parted a b = (is_to_close a && is_to_cancel b) || (is_to_cancel a && is_to_close b)

-- events lead from the start to a state in which a node shows the first status of an LRA, and one
-- more event to a state in which it shows the second
pub record IsCrossed (a b : LraStatus) : Type 0 where
  pub nodes : ℕ
  pub node : ℕ
  pub l : Id
  pub s : State
  pub t : State
  pub events : List Event
  pub replies : List EventReply
  pub event : Event
  pub reply : EventReply
  pub there : IsNode s node
  pub runs : Runs (start nodes) events replies s
  pub steps : Steps s event reply t
  pub before : shown_at s node l ≡ Ok a
  pub after : shown_at t node l ≡ Ok b
