-- Servers that are killed: in addition to their turns there are calls whose answers are lost.
use Rattle.std.specs.Prelude.{◌≡◌, ◌⊎◌, ◌==◌, ℕ, List, [], ◌∷◌, if◌then◌else◌}
use Rattle.theory_history.specs.Views.{View}
use Rattle.script_world.specs.Headline.{IsNode}
use Rattle.script_world.specs.Worlds.{IsWorld, State}
use Rattle.state_book.specs.declared.calls.Call.{Call}
use Rattle.state_book.specs.declared.calls.Reply.{Reply}
use Rattle.state_book.specs.Next.{IsFoundBehind, IsNext}
use Rattle.state_book.specs.Trails.{entry}
use Rattle.theory_trail.specs.NodeTrails.{Arrival, Follows, IsReplied, IsServed, WasSent, event_of}
use Rattle.theory_trail.specs.Servers.{AreServed, Turn}

-- a call whose answer nobody receives because its node stops in it: what was asked, the frame that
-- came if it takes one, and the view that the node's next start finds
pub record LostCall : Type 0 where
  pub node : ℕ
  pub asked : Call
  pub moment : ℕ
  pub frame : Arrival
  pub found : View

abbrev pub lost_call : (node : ℕ) → Call → (now : ℕ) → (frame : Arrival) → (found : View) → LostCall
lost_call node asked now frame found = record { node = node; asked = asked; moment = now; frame = frame; found = found }

-- what happens next: a turn, or a lost call
pub data Happening : Type 0 where
  Heard : Turn → Happening
  Lost : LostCall → Happening

-- A lost call can come next at a node with the view a: the node's start finds a, or the view after
-- a reply, and if the call takes a frame, that was sent. A law of state_book says that a start finds
-- nothing else
pub record CanBeLost (s : State) (a : View) (lost : LostCall) : Type 0 where
  pub node : IsNode s lost.node
  pub behind : IsFoundBehind lost.node a lost.asked lost.moment lost.found
  pub sent : (reply : Reply) → IsNext lost.node a lost.asked lost.moment reply lost.found → WasSent s lost.frame lost.asked reply

-- the world goes on as before the call, or as the event of its entry leaves it, and the node is
-- served by what was found
pub record GoesOn (s : State) (a : View) (lost : LostCall) (t : State) : Type 0 where
  pub moved : (t ≡ s) ⊎ IsReplied lost.node s a lost.asked lost.moment lost.frame lost.found t
  pub served : IsServed lost.node t lost.found

-- an entry can come next at a node with the view a, and leads to the view b
pub record CanBeHeard (s : State) (a : View) (turn : Turn) (b : View) : Type 0 where
  pub node : IsNode s turn.node
  pub next : IsNext turn.node a turn.entry.call turn.entry.moment turn.entry.reply b
  pub sent : WasSent s turn.frame turn.entry.call turn.entry.reply

-- the node at which it happens
abbrev pub place_of : Happening → ℕ
place_of (Heard turn) = turn.node
place_of (Lost lost) = lost.node

-- what happens leads, at its node, from state s and the view a to state t and the view b
abbrev pub Happens : State → (a : View) → Happening → State → (b : View) → Type 0
Happens s a (Heard turn) t b = CanBeHeard s a turn b × Follows s (event_of turn.node turn.frame turn.entry) t
Happens s a (Lost lost) t b = CanBeLost s a lost × GoesOn s a lost t × (b ≡ lost.found)

-- the views in which one node has this view
abbrev pub with_view : (views : ℕ → View) → ℕ → View → (ℕ → View)
with_view views node next k = if node == k then next else views k

-- all this happens from state s and these views on, and leads to state t, in which the nodes have
-- the views `ends`
abbrev pub HappenAll : State → (views : ℕ → View) → List Happening → State → (ends : ℕ → View) → Type 0
HappenAll s views [] t ends = (t ≡ s) × ((node : ℕ) → IsNode s node → ends node ≡ views node)
HappenAll s views (first ∷ rest) t ends =
    (mid : State) × ((next : View) × Happens s (views (place_of first)) first mid next
    × HappenAll mid (with_view views (place_of first) next) rest t ends)

-- a server at each node of the world, any of which may be killed at any time
pub record AreTrailsWithCrashes (s : State) (views : ℕ → View) (happened : List Happening) (t : State) (ends : ℕ → View) : Type 0 where
  pub world : IsWorld s
  pub served : AreServed s views
  pub happen : HappenAll s views happened t ends

-- the lost call as a turn, as if it had been answered with this reply
abbrev pub turn_of : LostCall → Reply → Turn
turn_of lost reply = record { node = lost.node; entry = entry lost.asked lost.moment reply; frame = lost.frame }

-- the turns are those that were answered, in their order; each lost call is either not among them,
-- or is there with some reply
abbrev pub Keeps : List Happening → (turns : List Turn) → Type 0
Keeps [] turns = turns ≡ []
Keeps (Heard turn ∷ happened) turns = (rest : List Turn) × (turns ≡ turn ∷ rest) × Keeps happened rest
Keeps (Lost lost ∷ happened) turns =
    Keeps happened turns ⊎ ((reply : Reply) × ((rest : List Turn) × (turns ≡ turn_of lost reply ∷ rest) × Keeps happened rest))
