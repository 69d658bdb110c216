-- The trail of a node's calls, together with what happens at the other nodes, as a run of the
-- world.
use Rattle.std.specs.Prelude.{◌≡◌, ℕ, Bool, true, false, Option, Some, None, List, [], ◌∷◌, if◌then◌else◌, length}
use Rattle.state_facts.specs.declared.command.Command.TheVariants.{Purge}
use Rattle.state_facts.specs.declared.command.CommandReply.{CommandReply}
use Rattle.state_facts.specs.declared.command.CommandReply.TheVariants.{Known, Refused as NotEntered}
use Rattle.theory_history.specs.Views.{View}
use Rattle.wire_frames.specs.Frames.{Frame, frame_of}
use Rattle.wire_frames.specs.Rules.{IsDeltaAs}
use Rattle.wire_frames.specs.Encoding.{encoding_as}
use Rattle.wire_frames.specs.declared.version.Version.{Version}
use Rattle.wire_frames.specs.declared.version.Version.TheVariants.{Two}
use Rattle.script_world.specs.declared.event.Event.{Event}
use Rattle.script_world.specs.declared.event.Event.TheVariants.{Act, Deliver, Send, Tick}
use Rattle.script_world.specs.declared.event.EventReply.{EventReply}
use Rattle.script_world.specs.declared.event.EventReply.TheVariants.{Answered, Sent, Expired as DidExpire, Took as DidTake}
use Rattle.script_world.specs.Headline.{Converges, IsNode}
use Rattle.script_world.specs.Worlds.{IsViewOf, IsWorld, Runs, SentFrame, State, Steps, frame_at, front_of}
use Rattle.state_book.specs.declared.calls.Call.{Call}
use Rattle.state_book.specs.declared.calls.Call.TheVariants.{Command as Enter, Take, Pull, Expire, Sweep}
use Rattle.state_book.specs.declared.calls.Entry.{Entry}
use Rattle.state_book.specs.declared.calls.Reply.{Reply as BookReply}
use Rattle.state_book.specs.declared.calls.Reply.TheVariants.{Command as Entered, Took, Gave, Expired}
use Rattle.state_book.specs.Next.{IsNext}
use Rattle.state_book.specs.Trails.{LeadsTo, entry}
use Rattle.theory_progress.specs.Diagram.{node_of}

-- a frame that arrives at a node: its number among those that were sent, and the version in which
-- it was sent
pub record Arrival : Type 0 where
  pub number : ℕ
  pub version : Version

-- What happens next: an event at another node with its reply, or the next entry of the node's
-- trail. For an entry that takes a frame, `frame` says which one arrived; for any other entry it
-- says nothing
pub data Item : Type 0 where
  Elsewhere : Event → EventReply → Item
  Here : Entry → (frame : Arrival) → Item

-- the node's own entries, which are its trail
abbrev pub trail_of : List Item → List Entry
trail_of [] = []
trail_of (Elsewhere event reply ∷ items) = trail_of items
trail_of (Here entry frame ∷ items) = entry ∷ trail_of items

-- Entries as events

-- something was entered for a command
abbrev pub is_accepted : CommandReply → Bool
is_accepted Known = false
is_accepted (NotEntered refusal) = false
is_accepted _ = true

-- The event that a call of the node me with its reply is in the world, if it is one. An accepted
-- command is an act, and so is a sweep whose purge is accepted. An LRA that expired is a tick. A
-- frame that is given is sent, since the same base and in version 2. A frame that is taken is
-- delivered whole, in the version in which it was sent. Every other call is no event
abbrev pub event_by : (me : ℕ) (frame : Arrival) (now : ℕ) → Call → BookReply → Option Event
event_by me frame now (Enter c) (Entered reply) = if is_accepted reply then Some (Act me c) else None
event_by me frame now (Take delta) Took = Some (Deliver frame.number me (length (encoding_as frame.version delta)))
event_by me frame now (Pull body) (Gave delta) = Some (Send me delta.base Two)
event_by me frame now Expire (Expired l) = Some (Tick me now)
event_by me frame now (Sweep l seen) (Entered reply) = if is_accepted reply then Some (Act me (Purge l)) else None
event_by me frame now call reply = None

abbrev pub event_of : (me : ℕ) (frame : Arrival) → Entry → Option Event
event_of me frame entry = event_by me frame entry.moment entry.call entry.reply

abbrev pub with_event : Option Event → List Event → List Event
with_event None events = events
with_event (Some event) events = event ∷ events

-- all events that happen in the world
abbrev pub events_of : (me : ℕ) → List Item → List Event
events_of me [] = []
events_of me (Elsewhere event reply ∷ items) = event ∷ events_of me items
events_of me (Here entry frame ∷ items) = with_event (event_of me frame entry) (events_of me items)

-- Frames

-- the frame of this number was sent in this version, and tells this: what its sender held, since
-- its base
pub record IsToldAs (v : Version) (s : State) (number : ℕ) (delta : Frame) : Type 0 where
  pub sent : SentFrame
  pub numbered : frame_at s number ≡ Some sent
  pub version : sent.version ≡ v
  pub view : View
  pub sender : IsViewOf s.history sent.front view
  pub told : delta ≡ frame_of view sent.base

-- so in version 2, in which nodes write
abbrev pub IsTold : State → (number : ℕ) → Frame → Type 0
IsTold s number delta = IsToldAs Two s number delta

-- a frame that is taken was sent before, in the version in which it arrived, and has an encoding of
-- that version
abbrev pub WasSent : State → (frame : Arrival) → Call → BookReply → Type 0
WasSent s frame (Take delta) Took = IsToldAs frame.version s frame.number delta × IsDeltaAs frame.version delta
WasSent s frame call reply = Unit {0}

-- Running

-- the event gets some reply in the world; without an event nothing changes
abbrev pub Follows : State → Option Event → State → Type 0
Follows s None t = t ≡ s
Follows s (Some event) t = (reply : EventReply) × Steps s event reply t

-- From state s the items happen one after another and lead to state t: each event elsewhere is at
-- another node than me and gets the reply of its item, and each entry is the event that it is in
-- the world, if it is one
abbrev pub Happen : (me : ℕ) → State → List Item → State → Type 0
Happen me s [] t = t ≡ s
Happen me s (Elsewhere event reply ∷ items) t = (node_of event ≡ me → ⊥) × ((mid : State) × Steps s event reply mid × Happen me mid items t)
Happen me s (Here entry frame ∷ items) t =
    WasSent s frame entry.call entry.reply × ((mid : State) × Follows s (event_of me frame entry) mid × Happen me mid items t)

-- What the world replies

-- The world replies to an event as the entry does. Its reply to a frame that is given is the number
-- under which that frame is sent, in version 2
abbrev pub Says : State → BookReply → EventReply → Type 0
Says t (Entered reply) is = is ≡ Answered reply
Says t (Expired l) is = is ≡ DidExpire l
Says t Took is = is ≡ DidTake
Says t (Gave delta) is = (number : ℕ) × (is ≡ Sent number) × IsTold t number delta
Says t reply is = ⊥

-- if the entry is an event, the first of the replies is the entry's, and these are left; otherwise
-- all are left
abbrev pub Leaves : Option Event → State → BookReply → (replies left : List EventReply) → Type 0
Leaves None t reply replies left = replies ≡ left
Leaves (Some event) t reply replies left = (is : EventReply) × (replies ≡ is ∷ left) × Says t reply is

-- the replies of the world are those of the items
abbrev pub AreReplies : (me : ℕ) → State → List Item → List EventReply → Type 0
AreReplies me t [] replies = replies ≡ []
AreReplies me t (Elsewhere event reply ∷ items) replies = (left : List EventReply) × (replies ≡ reply ∷ left) × AreReplies me t items left
AreReplies me t (Here entry frame ∷ items) replies =
    (left : List EventReply) × Leaves (event_of me frame entry) t entry.reply replies left × AreReplies me t items left

-- A node of a world, and the view of what it holds
pub record IsServed (me : ℕ) (s : State) (a : View) : Type 0 where
  pub world : IsWorld s
  pub node : IsNode s me
  pub holds : IsViewOf s.history (front_of s me) a

-- the call gets a reply that leads to the view that was found, and the event of its entry leads to
-- state t
abbrev pub IsReplied : (me : ℕ) → State → (a : View) → Call → (now : ℕ) → (frame : Arrival) → (found : View) → State → Type 0
IsReplied me s a asked now frame found t = (reply : BookReply) × IsNext me a asked now reply found × Follows s (event_of me frame (entry asked now reply)) t

-- The node's trail is legal from the view a of what it holds in state s, and leads to b. Together
-- with what happens elsewhere it leads to state t
pub record IsPlayed (me : ℕ) (s : State) (a : View) (items : List Item) (t : State) (b : View) : Type 0 where
  pub served : IsServed me s a
  pub legal : LeadsTo me a (trail_of items) b
  pub happen : Happen me s items t

-- It is a run of the world, whose replies are those of the items, whatever the world might have
-- replied. The trail's replay is the view of what the node holds at the end, and what holds of
-- every run holds of this one
pub record IsRun (me : ℕ) (s : State) (items : List Item) (t : State) (b : View) : Type 0 where
  pub replies : List EventReply
  pub runs : Runs s (events_of me items) replies t
  pub same : AreReplies me t items replies
  pub only : (others : List EventReply) (u : State) → Runs s (events_of me items) others u → (others ≡ replies) × (u ≡ t)
  pub served : IsServed me t b
  pub converges : Converges s t
