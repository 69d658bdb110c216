-- A node's reply to a call, and what it holds afterwards, by its view alone.
use Rattle.std.specs.Prelude.{◌≡◌, ◌⊎◌, ℕ, Bool, true, false, Option, Some, None, List, Result, Ok, Err, length}
use Rattle.state_ids.specs.Fronts.{IsBelow, meet_fronts}
use Rattle.state_ids.specs.Ids.{Id}
use Rattle.state_ids.specs.declared.outcome.Verdict.TheVariants.{Cancel}
use Rattle.state_ids.specs.declared.status.LraStatus.{LraStatus}
use Rattle.state_ids.specs.declared.status.MemberStatus.{MemberStatus}
use Rattle.state_ids.specs.contracts.status.LraStatusPartialEq.TheImpl as of_statuses
use Rattle.state_facts.specs.declared.refusal.Refusal.{Refusal}
use Rattle.state_facts.specs.declared.refusal.Refusal.TheVariants.{BadFrame, Gap, NotHeld}
use Rattle.state_forest.specs.declared.record.Record.{Record}
use Rattle.state_facts.specs.declared.command.Command.TheVariants.{Decide, Purge}
use Rattle.state_facts.specs.declared.command.CommandReply.{CommandReply}
use Rattle.state_facts.specs.declared.command.CommandReply.TheVariants.{Refused as NotEntered}
use Rattle.theory_history.specs.Next.{member_shown_on, next_view, overdue_on, reply_on, shown_on}
use Rattle.theory_history.specs.Readings.{by_view}
use Rattle.theory_history.specs.ViewShape.{HasShape}
use Rattle.theory_history.specs.Views.{View, record_at}
use Rattle.state_replica.specs.Pages.{IsPage, PageRows}
use Rattle.wire_frames.specs.Frames.{Frame, frame_of}
use Rattle.wire_frames.specs.TakenFrames.{IsTaken}
use Rattle.wire_pulls.specs.PullBodies.{asked}
use Rattle.wire_callbacks.specs.ViewDuties.{duties_of}
use Rattle.state_book.specs.Holdings.{holding_of, survey_of}
use Rattle.state_book.specs.Trees.{tree_on, tree_shown_on}
use Rattle.state_book.specs.declared.calls.Call.{Call}
use Rattle.state_book.specs.declared.calls.Call.TheVariants.{Command as Enter, Take, Pull, Status, Member, Page, Record as Show, Survey, Duties, Expire, Sweep}
use Rattle.state_book.specs.declared.calls.Reply.{Reply}
use Rattle.state_book.specs.declared.calls.Reply.TheVariants.{Command as Entered, Took, Gave, Shown, ShownMember, Listed, Held, Surveyed, Due, Expired, Quiet, Refused}

-- the call moves a frame
abbrev pub is_move : Call → Bool
is_move (Take frame) = true
is_move (Pull body) = true
is_move _ = false

-- Frames

-- b is the view a once the frame is taken: a counts what the frame's base counts, and b has its
-- shape
pub record Takes (a : View) (frame : Frame) (b : View) : Type 0 where
  pub reached : IsBelow frame.base a.front
  pub taken : IsTaken a frame b
  pub shape : HasShape b

-- The reason why a frame is not taken, which is the first of these: it counts another number of
-- nodes; the view doesn't count what the frame's base counts; or no view that takes it has the
-- shape
abbrev pub RefusesFrame : View → Frame → Refusal → Type 0
RefusesFrame a frame refusal =
    ((refusal ≡ BadFrame 9) × (length frame.front ≡ length a.front → ⊥))
    ⊎ (((refusal ≡ Gap a.front) × (length frame.front ≡ length a.front) × (IsBelow frame.base a.front → ⊥))
    ⊎ ((refusal ≡ BadFrame 0) × (length frame.front ≡ length a.front) × IsBelow frame.base a.front × ((b : View) → IsTaken a frame b → HasShape b → ⊥)))

-- the frame is taken, or it is refused and nothing changes
abbrev pub IsTakeReply : View → Frame → Reply → View → Type 0
IsTakeReply a frame reply b =
    ((reply ≡ Took) × Takes a frame b)
    ⊎ ((refusal : Refusal) × (reply ≡ Refused refusal) × RefusesFrame a frame refusal × (b ≡ a))

-- the frame since what both fronts count, or the fault of the pull's body
abbrev pub pull_reply : View → Result (List ℕ) Refusal → Reply
pull_reply a (Ok front) = Gave (frame_of a (meet_fronts front a.front))
pull_reply a (Err refusal) = Refused refusal

-- Questions

abbrev pub status_reply : Id → Result LraStatus Refusal → Reply
status_reply l (Ok status) = Shown l status
status_reply l (Err refusal) = Refused refusal

abbrev pub member_reply : Id → ℕ → Result MemberStatus Refusal → Reply
member_reply l m (Ok status) = ShownMember l m status
member_reply l m (Err refusal) = Refused refusal

-- the LRAs that are held beyond one
abbrev pub IsListing : View → Option Id → Reply → Type 0
IsListing a after reply = (page : PageRows) × (reply ≡ Listed page) × IsPage (by_view a) after page

-- all that is held of an LRA that has this status, or nothing if it has no record
abbrev pub held_reply : Id → LraStatus → (ℕ → Result MemberStatus Refusal) → (on_purge : CommandReply) → Option Record → Reply
held_reply l status shown on_purge (Some r) = Held (holding_of l status r shown on_purge)
held_reply l status shown on_purge None = Refused NotHeld

-- the same for an LRA with its status in the view, or the refusal to show it
abbrev pub record_reply : View → (me : ℕ) → Id → Result LraStatus Refusal → Reply
record_reply a me l (Ok status) = held_reply l status (member_shown_on a l) (reply_on a me (Purge l)) (record_at a l)
record_reply a me l (Err refusal) = Refused refusal

-- the LRAs that are held beyond one, each as a summary
abbrev pub IsSurvey : View → Option Id → Reply → Type 0
IsSurvey a after reply = (page : PageRows) × (reply ≡ Surveyed (survey_of (tree_on a) (record_at a) page)) × IsPage (by_view a) after page

-- Deadlines

-- an LRA was cancelled because its deadline had passed, or that was refused
abbrev pub expired : Id → CommandReply → Reply
expired l (NotEntered refusal) = Refused refusal
expired l _ = Expired l

-- the overdue LRA is cancelled, if there is one
abbrev pub expire_reply : View → ℕ → Option Id → Reply
expire_reply a me None = Quiet
expire_reply a me (Some l) = expired l (reply_on a me (Decide l Cancel))

abbrev pub view_expired : View → ℕ → Option Id → View
view_expired a me None = a
view_expired a me (Some l) = next_view a me (Decide l Cancel)

-- Sweeping

-- the tree shows what was seen
abbrev pub shows_so : (seen : LraStatus) → Result LraStatus Refusal → Bool
shows_so seen (Ok status) = of_statuses.ghosts.eq status seen
shows_so seen (Err refusal) = false

-- the tree of the root is purged if it shows what was seen; otherwise the reply is what the root
-- shows
abbrev pub sweep_reply : View → ℕ → Id → (shows_so : Bool) → Reply
sweep_reply a me l true = Entered (reply_on a me (Purge l))
sweep_reply a me l false = status_reply l (shown_on a l)

abbrev pub view_swept : View → ℕ → Id → (shows_so : Bool) → View
view_swept a me l true = next_view a me (Purge l)
view_swept a me l false = a

-- The node me, whose view is a, gives this reply to the call at the moment now, and its view is b
-- afterwards. Commands, frames that it takes, deadlines and sweeps may change the view; questions
-- don't
abbrev pub IsNext : (me : ℕ) → (a : View) → Call → (now : ℕ) → Reply → (b : View) → Type 0
IsNext me a (Enter c) now reply b = (reply ≡ Entered (reply_on a me c)) × (b ≡ next_view a me c)
IsNext me a (Take frame) now reply b = IsTakeReply a frame reply b
IsNext me a (Pull body) now reply b = (reply ≡ pull_reply a (asked (length a.front) body)) × (b ≡ a)
IsNext me a (Status l) now reply b = (reply ≡ status_reply l (shown_on a l)) × (b ≡ a)
IsNext me a (Member l m) now reply b = (reply ≡ member_reply l m (member_shown_on a l m)) × (b ≡ a)
IsNext me a (Page after) now reply b = IsListing a after reply × (b ≡ a)
IsNext me a (Show l) now reply b = (reply ≡ record_reply a me l (shown_on a l)) × (b ≡ a)
IsNext me a (Survey after) now reply b = IsSurvey a after reply × (b ≡ a)
IsNext me a Duties now reply b = (reply ≡ Due (duties_of a me)) × (b ≡ a)
IsNext me a Expire now reply b = (reply ≡ expire_reply a me (overdue_on a me now)) × (b ≡ view_expired a me (overdue_on a me now))
IsNext me a (Sweep l seen) now reply b =
    (reply ≡ sweep_reply a me l (shows_so seen (tree_shown_on a l))) × (b ≡ view_swept a me l (shows_so seen (tree_shown_on a l)))

-- what a start after a call finds: the view before it, or a next one
abbrev pub IsFoundBehind : (me : ℕ) → (a : View) → Call → (now : ℕ) → (found : View) → Type 0
IsFoundBehind me a asked now found = (found ≡ a) ⊎ ((reply : Reply) × IsNext me a asked now reply found)
