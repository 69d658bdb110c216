-- What a world shows, and what holds of it whatever happened.
use Rattle.std.specs.Prelude.{◌≡◌, ◌⊎◌, ◌≤◌, ℕ, true, List, Result, Ok}
use Rattle.state_ids.specs.Fronts.{is_covered}
use Rattle.state_ids.specs.Ids.{Id}
use Rattle.state_ids.specs.declared.status.LraStatus.{LraStatus}
use Rattle.state_ids.specs.declared.status.LraStatus.TheVariants.{Cancelled, Cancelling, Closed, Closing, FailedToCancel, FailedToClose}
use Rattle.state_ids.specs.declared.status.MemberStatus.{MemberStatus}
use Rattle.state_facts.specs.declared.refusal.Refusal.{Refusal}
use Rattle.state_facts.specs.Lists.{IsInside}
use Rattle.state_facts.specs.Sets.{is_root}
use Rattle.theory_history.specs.Histories.{IsClosed}
use Rattle.theory_history.specs.Replies.{member_shown, shown_of}
use Rattle.theory_history.specs.Rising.{IsCancelledAbove, rank_in}
use Rattle.theory_history.specs.Views.{View}
use Rattle.script_world.specs.Worlds.{IsViewOf, IsWorld, State, front_of, nodes_of, set_of}

-- the node exists
pub record IsNode (s : State) (node : ℕ) : Type 0 where
  pub some : 1 ≤ node
  pub there : node ≤ nodes_of s

-- what a node shows of an LRA, or why it shows nothing
abbrev pub shown_at : State → ℕ → Id → Result LraStatus Refusal
shown_at s node l = shown_of (set_of s node) (front_of s node) l

-- what a node shows of a participant, or why it shows nothing
abbrev pub member_at : State → ℕ → Id → ℕ → Result MemberStatus Refusal
member_at s node l m = member_shown (set_of s node) (front_of s node) l m

-- two nodes took the same facts
pub record TookTheSame (s : State) (one other : ℕ) : Type 0 where
  pub one_node : IsNode s one
  pub other_node : IsNode s other
  pub forth : IsInside (set_of s one) (set_of s other)
  pub back : IsInside (set_of s other) (set_of s one)

-- two nodes agree: they have the same front and equal views, and show the same of every LRA and
-- every participant
pub record Agree (s : State) (one other : ℕ) : Type 0 where
  pub front : front_of s one ≡ front_of s other
  pub view : (a b : View) → IsViewOf s.history (front_of s one) a → IsViewOf s.history (front_of s other) b → a ≡ b
  pub shown : (l : Id) → shown_at s one l ≡ shown_at s other l
  pub member : (l : Id) (m : ℕ) → member_at s one l m ≡ member_at s other l m

-- a node shows that l is closing, closed, or failed to close
abbrev pub ShowsClose : State → ℕ → Id → Type 0
ShowsClose s node l = (shown_at s node l ≡ Ok Closing) ⊎ (shown_at s node l ≡ Ok Closed) ⊎ (shown_at s node l ≡ Ok FailedToClose)

-- a node shows that l is cancelling, cancelled, or failed to cancel
abbrev pub ShowsCancel : State → ℕ → Id → Type 0
ShowsCancel s node l = (shown_at s node l ≡ Ok Cancelling) ⊎ (shown_at s node l ≡ Ok Cancelled) ⊎ (shown_at s node l ≡ Ok FailedToCancel)

-- an LRA above l was cancelled: the history has that decision, and so has a closed set
pub record IsAncestorCancelled (s : State) (l : Id) : Type 0 where
  pub front : List ℕ
  pub closed : IsClosed s.history front
  pub cancelled : IsCancelledAbove s.history front l

-- If one node shows in state s that an LRA closes, and a node shows in the later state t that it is
-- cancelled, or the other way round, an LRA above it was cancelled. This never happens to a root.
-- So no root is shown Closed by one node and Cancelled by another
pub record NoSplit (s t : State) : Type 0 where
  pub cancelled_late : (one other : ℕ) (l : Id) → IsNode s one → IsNode t other →
      ShowsClose s one l → ShowsCancel t other l → IsAncestorCancelled t l
  pub closed_late : (one other : ℕ) (l : Id) → IsNode s one → IsNode t other →
      ShowsCancel s one l → ShowsClose t other l → IsAncestorCancelled t l
  pub root_cancelled_late : (one other : ℕ) (l : Id) → IsNode s one → IsNode t other → is_root (set_of s one) l ≡ true →
      ShowsClose s one l → ShowsCancel t other l → ⊥
  pub root_closed_late : (one other : ℕ) (l : Id) → IsNode s one → IsNode t other → is_root (set_of t other) l ≡ true →
      ShowsCancel s one l → ShowsClose t other l → ⊥

-- At no node the status of an LRA falls: if the node's front covers the LRA in state s, its rank in
-- the later state t is no less. The last rank is that of an LRA that is not held, so an LRA that
-- was purged does not come back
abbrev pub StatusesRise : State → State → Type 0
StatusesRise s t =
    (node : ℕ) (l : Id) → IsNode s node → is_covered (front_of s node) l ≡ true → rank_in (set_of s node) l ≤ rank_in (set_of t node) l

-- What holds of a run from state s to state t, whatever happened
pub record Converges (s t : State) : Type 0 where
  pub world : IsWorld t
  pub agree : (one other : ℕ) → TookTheSame t one other → Agree t one other
  pub whole : NoSplit s t
  pub rising : StatusesRise s t
