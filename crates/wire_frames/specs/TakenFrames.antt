-- The view that results from taking a frame.
use Rattle.std.specs.Prelude.{◌≡◌, ◌≤◌, ◌⊎◌, ℕ, Option, find, length}
use Rattle.state_ids.specs.Ids.{Id}
use Rattle.state_ids.specs.Fronts.{IsBelow, count, is_covered, join_fronts}
use Rattle.state_facts.specs.declared.refusal.Refusal.{Refusal}
use Rattle.state_facts.specs.declared.refusal.Refusal.TheVariants.{BadFrame, Gap, NoMemory}
use Rattle.state_forest.specs.declared.record.Record.{Record}
use Rattle.state_forest.specs.Forests.{AreOf, is_of}
use Rattle.state_forest.specs.RecordMerges.{is_gone, absorbed}
use Rattle.theory_history.specs.ViewShape.{HasShape}
use Rattle.theory_history.specs.Views.{View, record_at, records_at}
use Rattle.wire_frames.specs.Frames.{Frame, live_at}

-- the record of an LRA once a view has taken the frame
abbrev pub taken_from : View → Frame → Id → Option Record
taken_from a frame l =
    absorbed (is_covered a.front l) (is_gone (count frame.front l.home) (live_at frame.live l.home) l.num)
    (record_at a l) (find (is_of l) (records_at frame.records l.home))

-- c is the view a once the frame is taken, from a node that counts the same nodes: it has the
-- greater counts and purges, and of each LRA what is taken
pub record IsTaken (a : View) (frame : Frame) (c : View) : Type 0 where
  pub nodes : length a.front ≡ length frame.front
  pub front : c.front ≡ join_fronts a.front frame.front
  pub purges : c.purges ≡ join_fronts a.purges frame.purges
  pub homes : length c.records ≡ length c.front
  pub order : (home : ℕ) → 1 ≤ home → home ≤ length c.front → AreOf home (records_at c.records home)
  pub records : (l : Id) → 1 ≤ l.home → l.home ≤ length c.front → record_at c l ≡ taken_from a frame l

-- The reason why the frame is not taken: memory runs out; it counts another number of nodes; the
-- view's front doesn't count everything that the base counts; or no view that takes the frame has
-- the shape
abbrev pub RefusesTaking : View → Frame → Refusal → Type 0
RefusesTaking a frame refusal =
    (refusal ≡ NoMemory)
    ⊎ (((refusal ≡ BadFrame 9) × (length frame.front ≡ length a.front → ⊥))
    ⊎ (((refusal ≡ Gap a.front) × (length frame.front ≡ length a.front) × (IsBelow frame.base a.front → ⊥))
    ⊎ ((refusal ≡ BadFrame 0) × ((c : View) → IsTaken a frame c → HasShape c → ⊥))))
