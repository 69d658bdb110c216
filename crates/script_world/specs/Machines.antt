-- What a world keeps in memory, and when that stands for a state.
use Rattle.std.specs.Prelude.{◌≡◌, ◌⊎◌, ◌≤◌, ◌<◌, ◌-◌, ℕ, Option, Some, None, List, length, slice_get, map, slice_set, take, Err, Vec}
use Rattle.std.specs.declared.alloc.Global.{Global}
use Rattle.state_ids.specs.Fronts.{IsBelow, join_fronts}
use Rattle.state_ids.specs.Ids.{Id}
use Rattle.state_facts.specs.declared.fact.Fact.{Fact}
use Rattle.state_facts.specs.declared.refusal.Refusal.TheVariants.{BadFrame, BadText, Gap}
use Rattle.state_facts.specs.declared.command.Command.{Command}
use Rattle.state_facts.specs.declared.command.CommandReply.{CommandReply}
use Rattle.theory_history.specs.Growth.{IsMore}
use Rattle.theory_history.specs.Histories.{History, IsClosed, IsLawful, facts}
use Rattle.theory_history.specs.Changes.{Change, patched, raised}
use Rattle.state_replica.specs.Replicas.{ReplicaState, view_of}
use Rattle.theory_history.specs.Views.{empty_view, StandsFor, View}
use Rattle.theory_history.specs.Replies.{Judgement, Denied, AlreadyKnown, Accepted, judge, next_fact, reply_of}
use Rattle.wire_frames.specs.declared.input.Stop.TheVariants.{Fault}
use Rattle.wire_frames.specs.Frames.{Frame, IsFrame}
use Rattle.wire_frames.specs.Reading.{frame_in}
use Rattle.wire_frames.specs.Rules.{IsDeltaAs}
use Rattle.wire_frames.specs.Encoding.{encoding_as}
use Rattle.wire_frames.specs.declared.version.Version.{Version}
use Rattle.script_world.specs.declared.event.Event.{Event}
use Rattle.script_world.specs.declared.event.EventReply.{EventReply}
use Rattle.script_world.specs.declared.event.EventReply.TheVariants.{Refused, Took}
use Rattle.script_world.specs.Headline.{Converges}
use Rattle.script_world.specs.Worlds.{SentFrame, IsEncoded, IsViewOf, IsWorld, Expires, Runs, State, Steps, front_of, nodes_of}

-- a replica for each node, and the bytes of each frame that was sent
pub record Machine : Type 0 where
  pub replicas : List ReplicaState
  pub sent : List (List ℕ)

-- each replica counts the facts of as many nodes as there are
pub record IsMachine (m : Machine) : Type 0 where
  pub fronts : (place : ℕ) (kept : ReplicaState) → slice_get m.replicas place ≡ Some kept → length kept.front ≡ length m.replicas

-- The machine stands for the state: each node's replica is the view of what the node holds, and the
-- bytes encode the frames
pub record IsWorldOf (s : State) (m : Machine) : Type 0 where
  pub world : IsWorld s
  pub nodes : length m.replicas ≡ nodes_of s
  pub views : (node : ℕ) (kept : ReplicaState) → 1 ≤ node → slice_get m.replicas (node - 1) ≡ Some kept →
      IsViewOf s.history (front_of s node) (view_of kept)
  pub count : length m.sent ≡ length s.sent
  pub frames : (place : ℕ) (frame : SentFrame) (bytes : List ℕ) → slice_get s.sent place ≡ Some frame →
      slice_get m.sent place ≡ Some bytes → IsEncoded s.history frame bytes

-- the node's replica is changed as So says, and nothing else is changed
pub record IsChanged (old new : Machine) (node : ℕ) (So : ReplicaState → ReplicaState → Type 0) : Type 0 where
  pub was : ReplicaState
  pub now : ReplicaState
  pub at : slice_get old.replicas (node - 1) ≡ Some was
  pub replicas : new.replicas ≡ slice_set old.replicas (node - 1) now
  pub sent : new.sent ≡ old.sent
  pub so : So was now

-- Commands

-- only an accepted command changes a view, which then stands for the set with the command's fact
abbrev pub Becomes : Judgement → List Fact → View → ℕ → Command → View → Type 0
Becomes (Denied r) S old me c new = new ≡ old
Becomes AlreadyKnown S old me c new = new ≡ old
Becomes Accepted S old me c new =
    (new.front ≡ raised old.front me) × ((T : List Fact) → IsMore (next_fact S old.front me c) S T → StandsFor T new)

-- how a node handles a command, over a set that its view stands for
abbrev pub IsActed : List Fact → View → ℕ → Command → CommandReply → View → Type 0
IsActed S old me c reply new = (reply ≡ reply_of S old.front me c) × Becomes (judge S old.front me c) S old me c new

-- Frames

-- In a lawful history a frame comes to the view of one closed set from a node that held another
pub record IsFrom (h : History) (v w : List ℕ) (old : View) (frame : Frame) : Type 0 where
  pub lawful : IsLawful h
  pub receiver : IsClosed h v
  pub sender : IsClosed h w
  pub own : IsViewOf h v old
  pub told : IsFrame (facts h w) frame.base frame
  pub counts : frame.front ≡ w

-- This holds whatever the history is. The frame is taken if the view counts its base, and the view
-- is then that of the union. Otherwise the reply is a gap, and nothing changes
abbrev pub TakesFrame : View → Frame → EventReply → View → Type 0
TakesFrame old frame reply new =
    (h : History) (v w : List ℕ) → IsFrom h v w old frame →
    (IsBelow frame.base v → (reply ≡ Took) × IsViewOf h (join_fronts v w) new)
    × ((IsBelow frame.base v → ⊥) → (reply ≡ Refused (Gap v)) × (new ≡ old))

-- this many bytes of a frame arrive: more than there are, or some that encode no frame, or some
-- that encode one, in any version
abbrev pub TakesBytes : View → List ℕ → ℕ → EventReply → View → Type 0
TakesBytes old bytes kept reply new =
    ((length bytes < kept) × (reply ≡ Refused BadText) × (new ≡ old))
    ⊎ ((kept ≤ length bytes) × ((place : ℕ) × (frame_in (take kept bytes) ≡ Err (Fault place)) × (reply ≡ Refused (BadFrame place)) × (new ≡ old)))
    ⊎ ((kept ≤ length bytes) × ((frame : Frame) × ((version : Version) × IsDeltaAs version frame × (take kept bytes ≡ encoding_as version frame)) × TakesFrame old frame reply new))

-- What happens

-- the event may happen in state s with this reply, and the world stands for the state after it
abbrev pub Happens : State → Event → EventReply → Machine → Type 0
Happens s event reply m = (t : State) × Steps s event reply t × IsWorldOf t m

-- the bytes of each frame
abbrev pub bytes_of : List (Vec ℕ Global) → List (List ℕ)
bytes_of = map (λ (bytes : Vec ℕ Global). bytes.items)

-- the LRA is cancelled in state s, and the world stands for the state after it
abbrev pub IsExpired : State → ℕ → Id → EventReply → Machine → Type 0
IsExpired s node l reply m = (t : State) × Expires s node (Some l) reply t × IsWorldOf t m

-- A step from state s: the event happens, and the world stands for the state after it. The headline
-- holds from `first`, which is an earlier state or s itself, to that state
pub record StepsTo (first s : State) (event : Event) (reply : EventReply) (m : Machine) : Type 0 where
  pub state : State
  pub steps : Steps s event reply state
  pub stands : IsWorldOf state m
  pub converges : Converges first state

-- A run: the events happen from state s and lead to a state that the world stands for. The headline
-- holds from s to that state
pub record LeadsTo (s : State) (events : List Event) (replies : List EventReply) (m : Machine) : Type 0 where
  pub state : State
  pub runs : Runs s events replies state
  pub stands : IsWorldOf state m
  pub converges : Converges s state

-- A run that stopped at an event: the events before it happened with these replies, and neither it
-- nor a later one has happened
pub record StopsIn (s : State) (events : List Event) (replies : List EventReply) (m : Machine) : Type 0 where
  pub left : length replies < length events
  pub leads : LeadsTo s (take (length replies) events) replies m

-- this many replicas, each of which is a view of no facts of these nodes
pub record AreEmpty (nodes count : ℕ) (replicas : List ReplicaState) : Type 0 where
  pub many : length replicas ≡ count
  pub views : (place : ℕ) (kept : ReplicaState) → slice_get replicas place ≡ Some kept → view_of kept ≡ empty_view nodes
