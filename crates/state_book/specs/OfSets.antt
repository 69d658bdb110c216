-- The definitions' reply to a call, over the set of facts that the node holds.
use Rattle.std.specs.Prelude.{◌≡◌, ℕ, Bool, true, false, Option, Some, None, List, Result, Ok, Err, length}
use Rattle.state_ids.specs.Fronts.{IsBelow, join_fronts, meet_fronts}
use Rattle.state_ids.specs.Ids.{Id}
use Rattle.state_ids.specs.declared.outcome.Verdict.TheVariants.{Cancel}
use Rattle.state_ids.specs.declared.status.LraStatus.{LraStatus}
use Rattle.state_facts.specs.declared.fact.Fact.{Fact}
use Rattle.state_facts.specs.declared.refusal.Refusal.{Refusal}
use Rattle.state_facts.specs.declared.refusal.Refusal.TheVariants.{Gap}
use Rattle.state_forest.specs.Dues.{AreAll}
use Rattle.state_forest.specs.Overdue.{IsLeastOverdue}
use Rattle.state_forest.specs.Records.{record_of}
use Rattle.state_forest.specs.Trees.{tree_shows}
use Rattle.state_facts.specs.declared.command.Command.TheVariants.{Decide, Purge}
use Rattle.theory_history.specs.Histories.{History, IsClosed, IsLawful, facts}
use Rattle.theory_history.specs.Replies.{after, by_facts, member_shown, reply_of, shown_of}
use Rattle.theory_history.specs.Views.{StandsFor, View}
use Rattle.state_replica.specs.Pages.{IsPage, PageRows}
use Rattle.wire_frames.specs.Frames.{Frame, IsFrame}
use Rattle.wire_pulls.specs.PullBodies.{asked}
use Rattle.wire_callbacks.specs.declared.duty.Duty.{Duty}
use Rattle.wire_callbacks.specs.CallDuties.{IsDuty, comes_first}
use Rattle.state_book.specs.declared.calls.Call.{Call}
use Rattle.state_book.specs.declared.calls.Call.TheVariants.{Command as Enter, Take, Pull, Status, Member, Page, Record as Show, Survey, Duties, Expire, Sweep}
use Rattle.state_book.specs.declared.calls.Reply.{Reply}
use Rattle.state_book.specs.declared.calls.Reply.TheVariants.{Command as Entered, Took, Gave, Listed, Held, Surveyed, Due, Quiet, Refused}
use Rattle.state_book.specs.Holdings.{holding_of, survey_of}
use Rattle.state_book.specs.Next.{expired, member_reply, shows_so, status_reply}
use Rattle.state_book.specs.Trees.{tree_shown_of}

-- all that is held of an LRA with this status, or the refusal to show it
abbrev pub record_reply_of : List Fact → (front : List ℕ) → (me : ℕ) → Id → Result LraStatus Refusal → Reply
record_reply_of S front me l (Ok status) =
    Held (holding_of l status (record_of (length front) S l) (member_shown S front l) (reply_of S front me (Purge l)))
record_reply_of S front me l (Err refusal) = Refused refusal

-- the LRAs that the set holds beyond one, each as a summary
abbrev pub IsSurveyOf : List Fact → (front : List ℕ) → Option Id → Reply → Type 0
IsSurveyOf S front after reply =
    (page : PageRows) × (reply ≡ Surveyed (survey_of (tree_shows S) (λ l. Some (record_of (length front) S l)) page)) × IsPage (by_facts S) after page

-- the overdue LRA is cancelled, if there is one
abbrev pub expire_reply_of : List Fact → List ℕ → ℕ → Option Id → Reply
expire_reply_of S front me None = Quiet
expire_reply_of S front me (Some l) = expired l (reply_of S front me (Decide l Cancel))

abbrev pub after_expiry : List Fact → List ℕ → ℕ → Option Id → List Fact
after_expiry S front me None = S
after_expiry S front me (Some l) = after S front me (Decide l Cancel)

-- the tree of the root is purged if it shows what was seen; otherwise the reply is what the root
-- shows
abbrev pub sweep_reply_of : List Fact → List ℕ → ℕ → Id → (shows_so : Bool) → Reply
sweep_reply_of S front me l true = Entered (reply_of S front me (Purge l))
sweep_reply_of S front me l false = status_reply l (shown_of S front l)

abbrev pub after_sweep : List Fact → List ℕ → ℕ → Id → (shows_so : Bool) → List Fact
after_sweep S front me l true = after S front me (Purge l)
after_sweep S front me l false = S

-- A node me that holds the facts S, which its front counts, gives this reply to a call other than a
-- frame to take. Afterwards b is the view of the facts that it holds then
abbrev pub IsReplyOf : List Fact → (front : List ℕ) → (me : ℕ) → Call → (now : ℕ) → Reply → (b : View) → Type 0
IsReplyOf S front me (Enter c) now reply b = (reply ≡ Entered (reply_of S front me c)) × StandsFor (after S front me c) b
IsReplyOf S front me (Take frame) now reply b = Unit {0}
IsReplyOf S front me (Pull body) now reply b =
    ((asker : List ℕ) → asked (length front) body ≡ Ok asker → (frame : Frame) × (reply ≡ Gave frame) × IsFrame S (meet_fronts asker front) frame) × StandsFor S b
IsReplyOf S front me (Status l) now reply b = (reply ≡ status_reply l (shown_of S front l)) × StandsFor S b
IsReplyOf S front me (Member l m) now reply b = (reply ≡ member_reply l m (member_shown S front l m)) × StandsFor S b
IsReplyOf S front me (Page after) now reply b = ((page : PageRows) × (reply ≡ Listed page) × IsPage (by_facts S) after page) × StandsFor S b
IsReplyOf S front me (Show l) now reply b = (reply ≡ record_reply_of S front me l (shown_of S front l)) × StandsFor S b
IsReplyOf S front me (Survey after) now reply b = IsSurveyOf S front after reply × StandsFor S b
IsReplyOf S front me Duties now reply b = ((duties : List Duty) × (reply ≡ Due duties) × AreAll (IsDuty me S) (comes_first S) duties) × StandsFor S b
IsReplyOf S front me Expire now reply b =
    (late : Option Id) × IsLeastOverdue S me now late × (reply ≡ expire_reply_of S front me late) × StandsFor (after_expiry S front me late) b
IsReplyOf S front me (Sweep l seen) now reply b =
    (reply ≡ sweep_reply_of S front me l (shows_so seen (tree_shown_of S front l))) × StandsFor (after_sweep S front me l (shows_so seen (tree_shown_of S front l))) b

-- In a lawful history a frame comes to the view of one closed set from a node that held another
pub record IsFrom (h : History) (v w : List ℕ) (a : View) (frame : Frame) : Type 0 where
  pub lawful : IsLawful h
  pub receiver : IsClosed h v
  pub sender : IsClosed h w
  pub own : StandsFor (facts h v) a
  pub told : IsFrame (facts h w) frame.base frame
  pub nodes : length frame.front ≡ length a.front

-- the view is then that of the union, or the reply is a gap, which means that the view doesn't
-- count the base
abbrev pub IsUnionOrGap : History → (v w : List ℕ) → (a : View) → Frame → Reply → (b : View) → Type 0
IsUnionOrGap h v w a frame reply b =
    (IsBelow frame.base a.front → (reply ≡ Took) × StandsFor (facts h (join_fronts v w)) b)
    × ((IsBelow frame.base a.front → ⊥) → (reply ≡ Refused (Gap a.front)) × (b ≡ a))
