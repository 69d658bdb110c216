-- What a view replies is what its set replies.
use Rattle.std.proofs.Common.{◌≡◌, ◌≤◌, ◌∙◌, ℕ, Bool, true, false, List, Option, Some, None, Result, Ok, sym, ap, subst, length}
use Rattle.state_ids.specs.Ids.{Id}
use Rattle.state_ids.specs.Fronts.{meet_fronts}
use Rattle.state_ids.specs.declared.outcome.Verdict.TheVariants.{Cancel}
use Rattle.state_ids.specs.declared.status.LraStatus.{LraStatus}
use Rattle.state_facts.specs.declared.fact.Fact.{Fact}
use Rattle.state_facts.specs.declared.refusal.Refusal.{Refusal}
use Rattle.state_facts.specs.Sets.{IsNumbered}
use Rattle.state_forest.specs.Overdue.{IsLeastOverdue}
use Rattle.state_forest.proofs.Bools.{all_from}
use Rattle.state_forest.proofs.Overdue.{overdue_said}
use Rattle.state_facts.specs.declared.command.Command.TheVariants.{Decide, Purge}
use Rattle.theory_history.specs.Growth.{IsSettled}
use Rattle.theory_history.specs.Next.{overdue_on}
use Rattle.theory_history.specs.Replies.{after}
use Rattle.theory_history.specs.Views.{StandsFor, View, records_at}
use Rattle.theory_history.proofs.Covered.{nested_settled}
use Rattle.theory_history.proofs.ViewReplies.{view_law}
use Rattle.wire_frames.specs.Frames.{Frame, IsFrame, frame_of}
use Rattle.wire_frames.proofs.OfSets.{frame_stands}
use Rattle.wire_pulls.specs.PullBodies.{asked}
use Rattle.wire_callbacks.specs.ViewDuties.{duties_of}
use Rattle.wire_callbacks.proofs.Viewed.{all_of_view}
use Rattle.state_replica.proofs.Paging.{page_alike}
use Rattle.state_replica.proofs.PreparedReplies.{member_settled, shown_settled}
use Rattle.state_book.specs.declared.calls.Call.{Call}
use Rattle.state_book.specs.declared.calls.Call.TheVariants.{Command as Enter, Take, Pull, Status, Member, Page, Record as Show, Survey, Duties, Expire, Sweep}
use Rattle.state_book.specs.declared.calls.Reply.{Reply}
use Rattle.state_book.specs.declared.calls.Reply.TheVariants.{Command as Entered, Gave, Surveyed}
use Rattle.state_book.specs.declared.holdings.Summary.{Summary}
use Rattle.state_book.proofs.HoldingsOfSets.{record_of_set, rows_of_set}
use Rattle.state_book.proofs.TreesOfSets.{tree_settled}
use Rattle.state_book.specs.Next.{IsNext, expire_reply, expired, member_reply, pull_reply, shows_so, status_reply, sweep_reply, view_expired, view_swept}
use Rattle.state_book.specs.OfSets.{IsReplyOf, after_expiry, after_sweep, expire_reply_of, sweep_reply_of}
use Rattle.state_book.specs.Trees.{tree_shown_on}

-- the view as it was stands for the set as it was
same_stands : (S : List Fact) (a b : View) → StandsFor S a → b ≡ a → StandsFor S b
same_stands S a b stands same = subst (StandsFor S) (sym same) stands

overdue_of : (S : List Fact) (a : View) (me now : ℕ) → IsSettled S → StandsFor S a → 1 ≤ me → me ≤ length a.front → IsLeastOverdue S me now (overdue_on a me now)
overdue_of S a me now settled stands some there =
    let own = stands.records me some there in
    overdue_said (length a.front) me S (records_at a.records me) now own.order settled.whole (nested_settled S settled) (all_from IsNumbered S settled.numbered) own.stands

gave : (S : List Fact) (a : View) (asker : List ℕ) (o : Result (List ℕ) Refusal) (reply : Reply) → StandsFor S a → reply ≡ pull_reply a o → o ≡ Ok asker
    → (frame : Frame) × (reply ≡ Gave frame) × IsFrame S (meet_fronts asker a.front) frame
gave S a asker o reply stands is asks =
    let base = meet_fronts asker a.front in
    (frame_of a base, is ∙ ap (pull_reply a) asks, frame_stands S a base stands)

expires : (S : List Fact) (a b : View) (me : ℕ) (late : Option Id) (reply : Reply) → IsSettled S → StandsFor S a → 1 ≤ me → me ≤ length a.front
    → reply ≡ expire_reply a me late → b ≡ view_expired a me late → (reply ≡ expire_reply_of S a.front me late) × StandsFor (after_expiry S a.front me late) b
expires S a b me None reply settled stands some there is next = (is, same_stands S a b stands next)
expires S a b me (Some l) reply settled stands some there is next =
    let same = view_law S a me (Decide l Cancel) some there settled stands in
    (is ∙ ap (expired l) same.0, subst (StandsFor (after S a.front me (Decide l Cancel))) (sym next) same.1)

sweeps : (S : List Fact) (a b : View) (me : ℕ) (l : Id) (shows : Bool) (reply : Reply) → IsSettled S → StandsFor S a → 1 ≤ me → me ≤ length a.front
    → reply ≡ sweep_reply a me l shows → b ≡ view_swept a me l shows → (reply ≡ sweep_reply_of S a.front me l shows) × StandsFor (after_sweep S a.front me l shows) b
sweeps S a b me l true reply settled stands some there is next =
    let same = view_law S a me (Purge l) some there settled stands in
    (is ∙ ap (λ r. Entered r) same.0, subst (StandsFor (after S a.front me (Purge l))) (sym next) same.1)
sweeps S a b me l false reply settled stands some there is next = (is ∙ ap (status_reply l) (shown_settled S a l settled stands), same_stands S a b stands next)

pub reply_of_set : (S : List Fact) (me now : ℕ) (a b : View) (call : Call) (reply : Reply) → IsSettled S → StandsFor S a → 1 ≤ me → me ≤ length a.front
    → IsNext me a call now reply b → IsReplyOf S a.front me call now reply b
reply_of_set S me now a b (Enter c) reply settled stands some there (is, next) =
    let same = view_law S a me c some there settled stands in
    (is ∙ ap (λ r. Entered r) same.0, subst (StandsFor (after S a.front me c)) (sym next) same.1)
reply_of_set S me now a b (Take frame) reply settled stands some there next = tt
reply_of_set S me now a b (Pull body) reply settled stands some there (is, next) =
    (λ asker asks. gave S a asker (asked (length a.front) body) reply stands is asks, same_stands S a b stands next)
reply_of_set S me now a b (Status l) reply settled stands some there (is, next) =
    (is ∙ ap (status_reply l) (shown_settled S a l settled stands), same_stands S a b stands next)
reply_of_set S me now a b (Member l m) reply settled stands some there (is, next) =
    (is ∙ ap (member_reply l m) (member_settled S a l m settled stands), same_stands S a b stands next)
reply_of_set S me now a b (Page from) reply settled stands some there ((page, is, rows), next) =
    ((page, is, page_alike S a from page settled stands rows), same_stands S a b stands next)
reply_of_set S me now a b (Show l) reply settled stands some there (is, next) =
    (is ∙ record_of_set S a me l settled stands some there, same_stands S a b stands next)
reply_of_set S me now a b (Survey from) reply settled stands some there ((page, is, rows), next) =
    let same = ap (λ (xs : List Summary). Surveyed (record { rows = xs; more = page.more })) (rows_of_set S a from page.rows settled stands rows.rows) in
    ((page, is ∙ same, page_alike S a from page settled stands rows), same_stands S a b stands next)
reply_of_set S me now a b Duties reply settled stands some there (is, next) =
    ((duties_of a me, is, all_of_view S a me settled stands some there), same_stands S a b stands next)
reply_of_set S me now a b Expire reply settled stands some there (is, next) =
    let late = overdue_on a me now in
    let expiry = expires S a b me late reply settled stands some there is next in
    (late, overdue_of S a me now settled stands some there, expiry.0, expiry.1)
reply_of_set S me now a b (Sweep l seen) reply settled stands some there (is, next) =
    subst (λ (o : Result LraStatus Refusal). (reply ≡ sweep_reply_of S a.front me l (shows_so seen o)) × StandsFor (after_sweep S a.front me l (shows_so seen o)) b) (tree_settled S a l settled stands)
    (sweeps S a b me l (shows_so seen (tree_shown_on a l)) reply settled stands some there is next)
