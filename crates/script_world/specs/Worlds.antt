-- The world: what all nodes entered, what each of them counts, and the frames that were sent; which
-- events may happen next, and their replies. It speaks of records in only two places: where a frame
-- needs version 2, and where a frame arrives, whose bytes encode records.
use Rattle.std.specs.Prelude.{◌≡◌, ◌⊎◌, ◌≤◌, ◌<◌, ◌+◌, ◌-◌, ◌==◌, ◌&&◌, ℕ, Bool, true, false, Option, Some, None, List, [], ◌∷◌, ◌++◌, Err, get_or, if◌then◌else◌, length, nat_le, replicate, slice_get, slice_set, take}
use Rattle.state_ids.specs.Fronts.{IsBelow, join_fronts}
use Rattle.state_ids.specs.Ids.{Id}
use Rattle.state_ids.specs.declared.outcome.Verdict.TheVariants.{Cancel}
use Rattle.state_facts.specs.declared.fact.Fact.{Fact}
use Rattle.state_facts.specs.declared.refusal.Refusal.TheVariants.{BadFrame, BadText, Gap, NeedsVersion2}
use Rattle.state_facts.specs.Lists.{In}
use Rattle.state_forest.specs.Overdue.{IsLeastOverdue}
use Rattle.state_facts.specs.declared.command.Command.{Command}
use Rattle.state_facts.specs.declared.command.Command.TheVariants.{Decide}
use Rattle.state_facts.specs.declared.command.CommandReply.{CommandReply}
use Rattle.state_facts.specs.declared.command.CommandReply.TheVariants.{Refused as NotEntered}
use Rattle.theory_history.specs.Histories.{History, IsClosed, IsLawful, facts, with_entry}
use Rattle.theory_history.specs.NodeViews.{IsCurrent, entry_for}
use Rattle.theory_history.specs.Changes.{raised}
use Rattle.theory_history.specs.Replies.{Judgement, Accepted, judge, reply_of}
use Rattle.theory_history.specs.Views.{StandsFor, View}
use Rattle.wire_frames.specs.declared.input.Stop.TheVariants.{Fault}
use Rattle.wire_frames.specs.Frames.{Frame, frame_of}
use Rattle.wire_frames.specs.Reading.{frame_in}
use Rattle.wire_frames.specs.Rules.{IsDeltaAs}
use Rattle.wire_frames.specs.Encoding.{encoding_as}
use Rattle.wire_frames.specs.Versions.{needs_two}
use Rattle.wire_frames.specs.declared.version.Version.{Version}
use Rattle.wire_frames.specs.declared.version.Version.TheVariants.{One, Two}
use Rattle.script_world.specs.declared.event.Event.{Event}
use Rattle.script_world.specs.declared.event.Event.TheVariants.{Act, Deliver, Restart, Send, Tick}
use Rattle.script_world.specs.declared.event.EventReply.{EventReply}
use Rattle.script_world.specs.declared.event.EventReply.TheVariants.{Answered, Expired, Quiet, Refused, Restarted, Sent, Took}

-- States

-- a frame that was sent: the version in which it is written, the base since which it counts, and
-- its sender's front at that time
pub record SentFrame : Type 0 where
  pub version : Version
  pub base : List ℕ
  pub front : List ℕ

-- what all nodes entered, the front of each node, and the frames that were sent, the first one first
pub record State : Type 0 where
  pub history : History
  pub fronts : List (List ℕ)
  pub sent : List SentFrame

abbrev pub nodes_of : State → ℕ
nodes_of s = length s.history

abbrev pub is_node : State → ℕ → Bool
is_node s node = nat_le 1 node && nat_le node (nodes_of s)

-- the front of a node
abbrev pub front_of : State → ℕ → List ℕ
front_of s node = get_or s.fronts (node - 1) []

-- the facts that a node holds: those that its front counts
abbrev pub set_of : State → ℕ → List Fact
set_of s node = facts s.history (front_of s node)

-- the frame with this number, where frames are numbered from 1
abbrev pub frame_at : State → ℕ → Option SentFrame
frame_at s number = if number == 0 then None else slice_get s.sent (number - 1)

-- the state in which nothing was entered and nothing was sent
abbrev pub start : ℕ → State
start nodes = record { history = replicate nodes []; fronts = replicate nodes (replicate nodes 0); sent = [] }

-- the sender's front was closed, and counted the base
pub record IsSent (h : History) (frame : SentFrame) : Type 0 where
  pub closed : IsClosed h frame.front
  pub below : IsBelow frame.base frame.front
  pub nodes : length frame.base ≡ length h

-- The invariant of all states: the history is lawful, and each node holds a closed set with
-- everything that the node entered
pub record IsWorld (s : State) : Type 0 where
  pub lawful : IsLawful s.history
  pub nodes : length s.fronts ≡ nodes_of s
  pub current : (node : ℕ) → 1 ≤ node → node ≤ nodes_of s → IsCurrent s.history node (front_of s node)
  pub sent : (frame : SentFrame) → In frame s.sent → IsSent s.history frame

-- Frames as bytes

-- the view of what a node with this front holds
pub record IsViewOf (h : History) (front : List ℕ) (view : View) : Type 0 where
  pub stands : StandsFor (facts h front) view
  pub counts : view.front ≡ front

-- the bytes encode the frame since its base, in its version, of the view of what its sender held
pub record IsEncoded (h : History) (frame : SentFrame) (bytes : List ℕ) : Type 0 where
  pub view : View
  pub sender : IsViewOf h frame.front view
  pub rules : IsDeltaAs frame.version (frame_of view frame.base)
  pub encodes : bytes ≡ encoding_as frame.version (frame_of view frame.base)

-- What happens

-- nothing happens except for a reply
abbrev pub Stays : State → EventReply → EventReply → State → Type 0
Stays s is reply t = (reply ≡ is) × (t ≡ s)

-- the state in which the node has this front
abbrev pub with_front : State → ℕ → List ℕ → State
with_front s node front = record s { fronts = slice_set s.fronts (node - 1) front }

-- the state with one more frame sent: what the node holds since a base
abbrev pub with_frame : State → Version → ℕ → List ℕ → State
with_frame s version node base =
    record s { sent = s.sent ++ record { version = version; base = base; front = front_of s node } ∷ [] }

-- the state in which the command is the node's next entry, with the node's front, which counts that
-- entry from then on
abbrev pub with_command : State → ℕ → Command → State
with_command s node c =
    record {
      history = with_entry s.history node (entry_for s.history (front_of s node) c);
      fronts = slice_set s.fronts (node - 1) (raised (front_of s node) node);
      sent = s.sent;
    }

-- only an accepted command enters something
abbrev pub if_taken : Judgement → (before after : State) → State
if_taken Accepted before after = after
if_taken _ before after = before

-- A node's reply to a command
abbrev pub reply_at : State → ℕ → Command → CommandReply
reply_at s node c = reply_of (set_of s node) (front_of s node) node c

-- the state after a command
abbrev pub after_command : State → ℕ → Command → State
after_command s node c = if_taken (judge (set_of s node) (front_of s node) node c) s (with_command s node c)

-- a node is asked to carry out a command
abbrev pub Acts : State → ℕ → Command → EventReply → State → Type 0
Acts s node c reply t = (reply ≡ Answered (reply_at s node c)) × (t ≡ after_command s node c)

-- the frame needs a later version: version 1 has no link for the end
abbrev pub needs_later : Version → Frame → Bool
needs_later One frame = needs_two frame
needs_later Two frame = false

-- the frame of what the node holds since the base needs a later version
abbrev pub NeedsLater : State → ℕ → List ℕ → Version → Type 0
NeedsLater s node base version = (view : View) × IsViewOf s.history (front_of s node) view × (needs_later version (frame_of view base) ≡ true)

-- a node sends a frame in a version that can express it; its base counts as many nodes, and no more
-- than the node does
abbrev pub Sends : State → ℕ → List ℕ → Version → EventReply → State → Type 0
Sends s node base version reply t =
    ((length base ≡ nodes_of s → ⊥) × Stays s (Refused BadText) reply t)
    ⊎ ((length base ≡ nodes_of s) × (IsBelow base (front_of s node) → ⊥) × Stays s (Refused (Gap (front_of s node))) reply t)
    ⊎ ((length base ≡ nodes_of s) × IsBelow base (front_of s node) × NeedsLater s node base version × Stays s (Refused NeedsVersion2) reply t)
    ⊎ ((length base ≡ nodes_of s) × IsBelow base (front_of s node) × (NeedsLater s node base version → ⊥) × (reply ≡ Sent (length s.sent + 1))
    × (t ≡ with_frame s version node base))

-- The first bytes, this many, of a frame that is encoded by these arrive at a node: more than there
-- are, or fewer, or all. If they are all there and the node counts the base, the frame is taken,
-- and the node then holds what it held and what the sender held
abbrev pub Takes : State → ℕ → SentFrame → List ℕ → ℕ → EventReply → State → Type 0
Takes s node frame bytes kept reply t =
    ((length bytes < kept) × Stays s (Refused BadText) reply t)
    ⊎ ((kept < length bytes) × ((place : ℕ) × (frame_in (take kept bytes) ≡ Err (Fault place)) × Stays s (Refused (BadFrame place)) reply t))
    ⊎ ((kept ≡ length bytes) × (IsBelow frame.base (front_of s node) → ⊥) × Stays s (Refused (Gap (front_of s node))) reply t)
    ⊎ ((kept ≡ length bytes) × IsBelow frame.base (front_of s node) × (reply ≡ Took)
    × (t ≡ with_front s node (join_fronts (front_of s node) frame.front)))

-- a frame arrives at a node
abbrev pub Comes : State → ℕ → Option SentFrame → ℕ → EventReply → State → Type 0
Comes s node None kept reply t = Stays s (Refused BadText) reply t
Comes s node (Some frame) kept reply t = (bytes : List ℕ) × IsEncoded s.history frame bytes × Takes s node frame bytes kept reply t

-- an LRA was cancelled because its deadline had passed, or that was refused
abbrev pub expired : Id → CommandReply → EventReply
expired l (NotEntered r) = Refused r
expired l _ = Expired l

-- a node is told the time, and this LRA is overdue, or none is
abbrev pub Expires : State → ℕ → Option Id → EventReply → State → Type 0
Expires s node None reply t = Stays s Quiet reply t
Expires s node (Some l) reply t = (reply ≡ expired l (reply_at s node (Decide l Cancel))) × (t ≡ after_command s node (Decide l Cancel))

-- the LRA with the least number among the node's overdue LRAs is cancelled
abbrev pub Ticks : State → ℕ → ℕ → EventReply → State → Type 0
Ticks s node now reply t = (found : Option Id) × IsLeastOverdue (set_of s node) node now found × Expires s node found reply t

-- if the node exists, this happens, otherwise nothing does
abbrev pub IfNode : Bool → State → Type 0 → EventReply → State → Type 0
IfNode true s happens reply t = happens
IfNode false s happens reply t = Stays s (Refused BadText) reply t

-- One step: in state s the event gets this reply, and leads to state t
abbrev pub Steps : State → Event → EventReply → State → Type 0
Steps s (Act node c) reply t = IfNode (is_node s node) s (Acts s node c reply t) reply t
Steps s (Send node base version) reply t = IfNode (is_node s node) s (Sends s node base version reply t) reply t
Steps s (Deliver number node kept) reply t = IfNode (is_node s node) s (Comes s node (frame_at s number) kept reply t) reply t
Steps s (Restart node) reply t = IfNode (is_node s node) s (Stays s Restarted reply t) reply t
Steps s (Tick node now) reply t = IfNode (is_node s node) s (Ticks s node now reply t) reply t

-- A run: from state s the events get these replies, one after another, and lead to state t
abbrev pub Runs : State → List Event → List EventReply → State → Type 0
Runs s [] [] t = t ≡ s
Runs s (event ∷ events) (reply ∷ replies) t = (mid : State) × Steps s event reply mid × Runs mid events replies t
Runs s _ _ t = ⊥

-- a run leads from state s, which is one of a world, to state t
pub record Leads (s t : State) : Type 0 where
  pub world : IsWorld s
  pub events : List Event
  pub replies : List EventReply
  pub runs : Runs s events replies t
