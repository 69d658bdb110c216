-- What the tree of an LRA shows: the LRA with everything nested in it.
use Rattle.std.specs.Prelude.{ℕ, Bool, Option, List, if◌then◌else◌}
use Rattle.state_ids.specs.Ids.{Id}
use Rattle.state_ids.specs.States.{same_member_status}
use Rattle.state_ids.specs.declared.status.LraStatus.{LraStatus}
use Rattle.state_ids.specs.declared.status.LraStatus.TheVariants.{Closed, FailedToClose}
use Rattle.state_ids.specs.declared.status.MemberStatus.TheVariants.{FailedToCompensate}
use Rattle.state_facts.specs.declared.fact.Fact.{Fact}
use Rattle.state_facts.specs.Sets.{shows_now, some_shows}
use Rattle.state_forest.specs.declared.record.Record.{Record}
use Rattle.state_forest.specs.Said.{shown_at, some_shows_at}

-- A tree shows what its root shows, with one exception. An LRA is Closed even if an LRA nested in
-- it was cancelled alone and a participant of that failed to compensate. In that case its tree
-- shows FailedToClose
abbrev pub tree_status : LraStatus → (uncompensated : Bool) → LraStatus
tree_status Closed uncompensated = if uncompensated then FailedToClose else Closed
tree_status status uncompensated = status

-- what the tree shows, by the records of a home
abbrev pub tree_shown_at : (ℕ → Option Record) → ℕ → LraStatus
tree_shown_at at num = tree_status (shown_at at num) (some_shows_at (same_member_status FailedToCompensate) at num)

-- what the tree shows, by a set of facts
abbrev pub tree_shows : List Fact → Id → LraStatus
tree_shows S l = tree_status (shows_now S l) (some_shows (same_member_status FailedToCompensate) S l)
