-- A round of servers: each node takes what each other node gave.
use Rattle.std.specs.Prelude.{◌≡◌, ◌⊎◌, ℕ, List, replicate}
use Rattle.state_ids.specs.Fronts.{IsBelow}
use Rattle.state_facts.specs.Lists.{In}
use Rattle.theory_history.specs.Views.{View}
use Rattle.wire_frames.specs.Frames.{Frame, frame_of}
use Rattle.wire_frames.specs.Typed.{IsTyped}
use Rattle.script_world.specs.Headline.{IsNode}
use Rattle.script_world.specs.Worlds.{State, nodes_of}
use Rattle.state_book.specs.declared.calls.Call.{Call}
use Rattle.state_book.specs.declared.calls.Call.TheVariants.{Pull, Take}
use Rattle.state_book.specs.declared.calls.Entry.{Entry}
use Rattle.state_book.specs.declared.calls.Reply.{Reply}
use Rattle.state_book.specs.declared.calls.Reply.TheVariants.{Gave, Took}
use Rattle.state_book.specs.Trails.{entry}
use Rattle.theory_trail.specs.Servers.{AreTrails, Turn, trail_at}

-- the trail has such a call, with this reply
abbrev pub HasCall : List Entry → Call → Reply → Type 0
HasCall trail call reply = (now : ℕ) × In (entry call now reply) trail

-- In these turns one node gave a frame, and the other took it or counts at the end everything that
-- the frame counts: a server leaves out a frame that brings it nothing new. This speaks of the
-- frame and not of its number, so the proof reads two trails and no run of the world
pub record Tells (from to : ℕ) (turns : List Turn) (end : View) : Type 0 where
  pub frame : Frame
  pub asked : List ℕ
  pub gave : HasCall (trail_at from turns) (Pull asked) (Gave frame)
  pub heard : HasCall (trail_at to turns) (Take frame) Took ⊎ IsBelow frame.front end.front

-- in these turns each node gave each other node a frame, and the other took it or has its contents
abbrev pub IsServerRound : State → List Turn → (ends : ℕ → View) → Type 0
IsServerRound s turns ends = (from to : ℕ) → IsNode s from → IsNode s to → (from ≡ to → ⊥) → Tells from to turns (ends to)

-- each node's numbers and texts fit into a frame since nothing
abbrev pub FitIntoFrames : State → (views : ℕ → View) → Type 0
FitIntoFrames s views = (node : ℕ) → IsNode s node → IsTyped (frame_of (views node) (replicate (nodes_of s) 0))

-- such turns lead on from this state, and enter nothing
pub record HasServerRound (s : State) (views : ℕ → View) : Type 0 where
  pub turns : List Turn
  pub state : State
  pub ends : ℕ → View
  pub trails : AreTrails s views turns state ends
  pub round : IsServerRound s turns ends
  pub still : state.history ≡ s.history
