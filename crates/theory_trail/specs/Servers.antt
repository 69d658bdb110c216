-- A server at each node of the world: nothing happens except for their calls.
use Rattle.std.specs.Prelude.{◌≡◌, ◌⊎◌, ◌==◌, ℕ, List, [], ◌∷◌, if◌then◌else◌}
use Rattle.state_ids.specs.Ids.{Id}
use Rattle.state_ids.specs.declared.status.LraStatus.{LraStatus}
use Rattle.state_ids.specs.declared.status.LraStatus.TheVariants.{Cancelled, Cancelling, Closed, Closing, FailedToCancel, FailedToClose}
use Rattle.theory_history.specs.Views.{View}
use Rattle.script_world.specs.declared.event.Event.{Event}
use Rattle.script_world.specs.declared.event.EventReply.{EventReply}
use Rattle.script_world.specs.Headline.{Converges, IsAncestorCancelled, IsNode, TookTheSame}
use Rattle.script_world.specs.Worlds.{IsWorld, Runs, State}
use Rattle.state_book.specs.declared.calls.Call.TheVariants.{Status}
use Rattle.state_book.specs.declared.calls.Entry.{Entry}
use Rattle.state_book.specs.declared.calls.Reply.TheVariants.{Shown}
use Rattle.state_book.specs.Next.{IsNext}
use Rattle.state_book.specs.Trails.{LeadsTo}
use Rattle.theory_trail.specs.NodeTrails.{Arrival, Follows, IsServed, Leaves, WasSent, event_of, with_event}

-- what happens next: the next entry of a node's trail, with the frame that arrived if it takes one
pub record Turn : Type 0 where
  pub node : ℕ
  pub entry : Entry
  pub frame : Arrival

-- the trail of a node
abbrev pub trail_at : ℕ → List Turn → List Entry
trail_at node [] = []
trail_at node (turn ∷ turns) = if turn.node == node then turn.entry ∷ trail_at node turns else trail_at node turns

-- all events that happen in the world
abbrev pub events_in : List Turn → List Event
events_in [] = []
events_in (turn ∷ turns) = with_event (event_of turn.node turn.frame turn.entry) (events_in turns)

-- the turns come one after another from state s, and lead to state t; each belongs to a node of the
-- world
abbrev pub TakeTurns : State → List Turn → State → Type 0
TakeTurns s [] t = t ≡ s
TakeTurns s (turn ∷ turns) t =
    IsNode s turn.node × WasSent s turn.frame turn.entry.call turn.entry.reply
    × ((mid : State) × Follows s (event_of turn.node turn.frame turn.entry) mid × TakeTurns mid turns t)

-- the replies of the world are those of the entries
abbrev pub AreTurnReplies : State → List Turn → List EventReply → Type 0
AreTurnReplies t [] replies = replies ≡ []
AreTurnReplies t (turn ∷ turns) replies =
    (left : List EventReply) × Leaves (event_of turn.node turn.frame turn.entry) t turn.entry.reply replies left × AreTurnReplies t turns left

-- each node has the view of what it holds
abbrev pub AreServed : State → (views : ℕ → View) → Type 0
AreServed s views = (node : ℕ) → IsNode s node → IsServed node s (views node)

-- each node's trail is legal from its view, and leads to its view at the end; all of them together
-- lead from state s to state t
pub record AreTrails (s : State) (views : ℕ → View) (turns : List Turn) (t : State) (ends : ℕ → View) : Type 0 where
  pub world : IsWorld s
  pub served : AreServed s views
  pub legal : (node : ℕ) → IsNode s node → LeadsTo node (views node) (trail_at node turns) (ends node)
  pub taken : TakeTurns s turns t

-- The turns are one run of the world, and each replay is the view of what its node holds at the end
pub record AreOneRun (s : State) (turns : List Turn) (t : State) (ends : ℕ → View) : Type 0 where
  pub replies : List EventReply
  pub runs : Runs s (events_in turns) replies t
  pub same : AreTurnReplies t turns replies
  pub served : AreServed t ends
  pub converges : Converges s t

-- What servers answer

-- a node answers, by its view, that an LRA has this status
abbrev pub Answers : (node : ℕ) → View → Id → LraStatus → Type 0
Answers node a l status = (now : ℕ) × ((b : View) × IsNext node a (Status l) now (Shown l status) b)

-- a node answers that the LRA is closing, closed, or failed to close
abbrev pub AnswersClose : (node : ℕ) → View → Id → Type 0
AnswersClose node a l = Answers node a l Closing ⊎ Answers node a l Closed ⊎ Answers node a l FailedToClose

-- a node answers that the LRA is cancelling, cancelled, or failed to cancel
abbrev pub AnswersCancel : (node : ℕ) → View → Id → Type 0
AnswersCancel node a l = Answers node a l Cancelling ⊎ Answers node a l Cancelled ⊎ Answers node a l FailedToCancel

-- What holds of the servers' answers, whatever was called between these views and those at the end.
-- Two nodes that took the same facts have equal views, so they answer the same. If one node answers
-- that an LRA closes, and a node answers that it is cancelled, one before and the other after, an
-- LRA above it was cancelled
pub record AnswersConverge (s : State) (views : ℕ → View) (t : State) (ends : ℕ → View) : Type 0 where
  pub equal : (one other : ℕ) → TookTheSame t one other → ends one ≡ ends other
  pub cancelled_late : (one other : ℕ) (l : Id) → IsNode s one → IsNode t other →
      AnswersClose one (views one) l → AnswersCancel other (ends other) l → IsAncestorCancelled t l
  pub closed_late : (one other : ℕ) (l : Id) → IsNode s one → IsNode t other →
      AnswersCancel one (views one) l → AnswersClose other (ends other) l → IsAncestorCancelled t l
