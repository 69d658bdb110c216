-- A round in the world: each node takes a frame of each other node.
use Rattle.std.specs.Prelude.{◌≡◌, ◌⊎◌, ℕ, Bool, true, false, List, ◌∷◌, length, map, replicate}
use Rattle.theory_history.specs.Histories.{Entry, History}
use Rattle.theory_history.specs.Views.{View}
use Rattle.wire_frames.specs.Frames.{frame_of}
use Rattle.wire_frames.specs.Typed.{IsTyped}
use Rattle.wire_frames.specs.declared.version.Version.{Version}
use Rattle.script_world.specs.declared.event.Event.{Event}
use Rattle.script_world.specs.declared.event.Event.TheVariants.{Act, Deliver, Send, Tick}
use Rattle.script_world.specs.declared.event.EventReply.{EventReply}
use Rattle.script_world.specs.declared.event.EventReply.TheVariants.{Sent, Took}
use Rattle.script_world.specs.Headline.{IsNode}
use Rattle.script_world.specs.Worlds.{IsViewOf, Runs, State, front_of, nodes_of}

-- the event is one of these, with this reply
abbrev pub Occurs : Event → EventReply → List Event → List EventReply → Type 0
Occurs event reply (e ∷ events) (r ∷ replies) = ((e ≡ event) × (r ≡ reply)) ⊎ Occurs event reply events replies
Occurs event reply _ _ = ⊥

-- one node sends a frame in these events, and the other takes it
pub record HearsOf (from to : ℕ) (events : List Event) (replies : List EventReply) : Type 0 where
  pub base : List ℕ
  pub version : Version
  pub number : ℕ
  pub kept : ℕ
  pub sends : Occurs (Send from base version) (Sent number) events replies
  pub takes : Occurs (Deliver number to kept) Took events replies

-- in these events each node sends a frame to each other node, which takes it
abbrev pub IsRound : State → List Event → List EventReply → Type 0
IsRound s events replies = (from to : ℕ) → IsNode s from → IsNode s to → (from ≡ to → ⊥) → HearsOf from to events replies

-- each node's numbers and texts fit into a frame since nothing
abbrev pub CanTell : State → Type 0
CanTell s = (node : ℕ) → IsNode s node → (view : View) × IsViewOf s.history (front_of s node) view × IsTyped (frame_of view (replicate (nodes_of s) 0))

-- such a round leads on from this state, and enters nothing
pub record HasRound (s : State) : Type 0 where
  pub state : State
  pub events : List Event
  pub replies : List EventReply
  pub runs : Runs s events replies state
  pub round : IsRound s events replies
  pub still : state.history ≡ s.history

-- only such an event may enter something
abbrev pub may_enter : Event → Bool
may_enter (Act node c) = true
may_enter (Tick node now) = true
may_enter _ = false

-- the front that counts everything that was ever entered
abbrev pub all_counted : History → List ℕ
all_counted h = map (λ (entries : List Entry). length entries) h
