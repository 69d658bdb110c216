-- Calls that compare as the same are equal, and so are replies.
use Rattle.std.proofs.Common.{◌≡◌, ◌&&◌, ◌==◌, ◌∙◌, ℕ, List, [], ◌∷◌, Bool, true, Option, refl, sym, ap, subst}
use mathlib.Core.Bool.{true≢false}
use Rattle.std.specs.Bool.{Decides, beq}
use Rattle.std.specs.Cmp.Lexicographic.{pointwise}
use Rattle.std.specs.Option.{option_eq}
use Rattle.std.specs.Str.{bytes_eq}
use Rattle.state_ids.specs.Ids.{Id}
use Rattle.state_ids.specs.contracts.front.FrontPartialEq.TheImpl as of_fronts
use Rattle.state_ids.specs.declared.outcome.Act.TheVariants.{Complete, Compensate}
use Rattle.state_ids.specs.declared.status.LraStatus.{LraStatus}
use Rattle.state_ids.specs.declared.status.LraStatus.TheVariants as lra
use Rattle.state_ids.specs.declared.status.MemberStatus.{MemberStatus}
use Rattle.state_ids.specs.declared.status.MemberStatus.TheVariants as member
use Rattle.state_ids.specs.contracts.outcome.ActPartialEq.TheImpl as of_acts
use Rattle.state_ids.specs.contracts.outcome.OutcomePartialEq.TheImpl as of_outcomes
use Rattle.state_ids.specs.contracts.outcome.VerdictPartialEq.TheImpl as of_verdicts
use Rattle.state_ids.specs.contracts.status.LraStatusPartialEq.TheImpl as of_statuses
use Rattle.state_ids.specs.contracts.status.MemberStatusPartialEq.TheImpl as of_member_statuses
use Rattle.state_facts.specs.contracts.links.LinksPartialEq.TheImpl as of_links
use Rattle.state_facts.specs.declared.refusal.Refusal.TheVariants as cause
use Rattle.state_facts.specs.contracts.refusal.RefusalPartialEq.TheImpl as of_refusals
use Rattle.state_forest.specs.contracts.record.RecordPartialEq.TheImpl as of_records
use Rattle.state_forest.specs.declared.record.Record.{Record}
use Rattle.state_forest.proofs.Bools.{and_left, and_right}
use Rattle.state_forest.proofs.EqualRecords.{Same, bool_same, front_same, links_same, number_same, option_same, outcome_same, record_decides, records_decide, text_same, verdict_same}
use Rattle.state_facts.specs.contracts.command.CommandPartialEq.TheImpl as of_commands
use Rattle.state_facts.specs.declared.command.Command.TheVariants.{Begin, Join, Leave, Decide, Report, Forgot, Told, Purge}
use Rattle.state_facts.specs.declared.command.CommandReply.{CommandReply}
use Rattle.state_facts.specs.declared.command.CommandReply.TheVariants as answer
use Rattle.state_facts.specs.contracts.command.CommandReplyPartialEq.TheImpl as of_command_replies
use Rattle.state_replica.specs.declared.page.Row.{Row}
use Rattle.state_replica.specs.contracts.page.RowPartialEq.TheImpl as of_rows
use Rattle.wire_frames.specs.SameFrames.{same_frame, same_lives}
use Rattle.wire_callbacks.specs.declared.answer.Kind.TheVariants as kind
use Rattle.wire_callbacks.specs.contracts.answer.KindPartialEq.TheImpl as of_kinds
use Rattle.wire_callbacks.specs.declared.duty.Duty.{Duty}
use Rattle.wire_callbacks.specs.contracts.duty.DutyPartialEq.TheImpl as of_duties
use Rattle.state_book.specs.declared.holdings.Summary.{Summary}
use Rattle.state_book.specs.contracts.holdings.SummaryPartialEq.TheImpl as of_summaries
use Rattle.state_book.specs.declared.calls.Call.{Call}
use Rattle.state_book.specs.declared.calls.Call.TheVariants.{Command as Enter, Take, Pull, Status, Member, Page, Record as Show, Survey, Duties, Expire, Sweep}
use Rattle.state_book.specs.declared.calls.Reply.{Reply}
use Rattle.state_book.specs.declared.calls.Reply.TheVariants.{Command as Entered, Took, Gave, Shown, ShownMember, Listed, Held, Surveyed, Due, Expired, Quiet, Refused}
use Rattle.state_book.specs.Sameness.{same_call, same_holding, same_id, same_page, same_reply, same_survey}
use Rattle.state_book.proofs.SameAsItself.{call_own, reply_own}

list_same : {X : Type 0} (test : X → X → Bool) → Same test → Same (pointwise test)
list_same test same [] [] e = refl
list_same test same [] (y ∷ ys) e = absurd cc
list_same test same (x ∷ xs) [] e = absurd cc
list_same test same (x ∷ xs) (y ∷ ys) e =
    ap (λ z. z ∷ xs) (same x y (and_left (test x y) (pointwise test xs ys) e)) ∙ ap (λ zs. y ∷ zs) (list_same test same xs ys (and_right (test x y) (pointwise test xs ys) e))

id_is : (a b : Id) → same_id a b ≡ ((a.home == b.home) && (a.num == b.num))
id_is a b = refl

id_same : Same same_id
id_same a b e =
    let is = sym (id_is a b) ∙ e in
    let home = number_same a.home b.home (and_left (a.home == b.home) _ is) in
    let num = number_same a.num b.num (and_right (a.home == b.home) _ is) in
    ap (λ (x : ℕ). record { home = x; num = a.num }) home ∙ ap (λ (x : ℕ). record { home = b.home; num = x }) num

act_same : Same of_acts.ghosts.eq
act_same Complete Complete e = refl
act_same Compensate Compensate e = refl
act_same _ _ e = absurd (true≢false (sym e))

kind_same : Same of_kinds.ghosts.eq
kind_same kind.Complete kind.Complete e = refl
kind_same kind.Compensate kind.Compensate e = refl
kind_same kind.Status kind.Status e = refl
kind_same kind.Forget kind.Forget e = refl
kind_same kind.After kind.After e = refl
kind_same _ _ e = absurd (true≢false (sym e))

status_same : Same of_statuses.ghosts.eq
status_same lra.Active lra.Active e = refl
status_same lra.Closing lra.Closing e = refl
status_same lra.Closed lra.Closed e = refl
status_same lra.FailedToClose lra.FailedToClose e = refl
status_same lra.Cancelling lra.Cancelling e = refl
status_same lra.Cancelled lra.Cancelled e = refl
status_same lra.FailedToCancel lra.FailedToCancel e = refl
status_same _ _ e = absurd (true≢false (sym e))

member_status_same : Same of_member_statuses.ghosts.eq
member_status_same member.Active member.Active e = refl
member_status_same member.Completing member.Completing e = refl
member_status_same member.Completed member.Completed e = refl
member_status_same member.FailedToComplete member.FailedToComplete e = refl
member_status_same member.Compensating member.Compensating e = refl
member_status_same member.Compensated member.Compensated e = refl
member_status_same member.FailedToCompensate member.FailedToCompensate e = refl
member_status_same _ _ e = absurd (true≢false (sym e))

-- two fields, and what is made of both
pair_same : {X Y Z : Type 0} (f : X → Y → Z) (s : X → X → Bool) (t : Y → Y → Bool) → Same s → Same t → (a b : X) (x y : Y) → (s a b && t x y) ≡ true → f a x ≡ f b y
pair_same f s t one other a b x y e = ap (λ z. f z x) (one a b (and_left (s a b) (t x y) e)) ∙ ap (f b) (other x y (and_right (s a b) (t x y) e))

-- refusals
refusal_same : Same of_refusals.ghosts.eq
refusal_same cause.BadText cause.BadText e = refl
refusal_same cause.UnknownLra cause.UnknownLra e = refl
refusal_same cause.NotHeld cause.NotHeld e = refl
refusal_same cause.UnknownMember cause.UnknownMember e = refl
refusal_same cause.NotRoot cause.NotRoot e = refl
refusal_same cause.MembersFull cause.MembersFull e = refl
refusal_same cause.DepthFull cause.DepthFull e = refl
refusal_same cause.LrasFull cause.LrasFull e = refl
refusal_same cause.NumbersSpent cause.NumbersSpent e = refl
refusal_same cause.NoMemory cause.NoMemory e = refl
refusal_same cause.JournalFailed cause.JournalFailed e = refl
refusal_same cause.Stopped cause.Stopped e = refl
refusal_same cause.RunFull cause.RunFull e = refl
refusal_same cause.NeedsVersion2 cause.NeedsVersion2 e = refl
refusal_same (cause.NotHome m) (cause.NotHome n) e = ap (λ x. cause.NotHome x) (number_same m n e)
refusal_same (cause.BadFrame m) (cause.BadFrame n) e = ap (λ x. cause.BadFrame x) (number_same m n e)
refusal_same (cause.TrailLost m) (cause.TrailLost n) e = ap (λ x. cause.TrailLost x) (number_same m n e)
refusal_same (cause.Strange m) (cause.Strange n) e = ap (λ x. cause.Strange x) (number_same m n e)
refusal_same (cause.NotActive s) (cause.NotActive t) e = ap (λ x. cause.NotActive x) (status_same s t e)
refusal_same (cause.NotDue s) (cause.NotDue t) e = ap (λ x. cause.NotDue x) (status_same s t e)
refusal_same (cause.NotEnded s) (cause.NotEnded t) e = ap (λ x. cause.NotEnded x) (status_same s t e)
refusal_same (cause.Gap v) (cause.Gap w) e = ap (λ x. cause.Gap x) (front_same v w e)
refusal_same (cause.StillToForget l m) (cause.StillToForget k n) e = pair_same (λ x y. cause.StillToForget x y) same_id ◌==◌ id_same number_same l k m n e
refusal_same (cause.StillToTell l m) (cause.StillToTell k n) e = pair_same (λ x y. cause.StillToTell x y) same_id ◌==◌ id_same number_same l k m n e
refusal_same _ _ e = absurd (true≢false (sym e))

answer_same : Same of_command_replies.ghosts.eq
answer_same answer.Left answer.Left e = refl
answer_same answer.Reported answer.Reported e = refl
answer_same answer.Known answer.Known e = refl
answer_same answer.Forgotten answer.Forgotten e = refl
answer_same answer.Told answer.Told e = refl
answer_same answer.Purged answer.Purged e = refl
answer_same (answer.Began l m) (answer.Began k n) e = pair_same (λ x y. answer.Began x y) same_id ◌==◌ id_same number_same l k m n e
answer_same (answer.Joined l m) (answer.Joined k n) e = pair_same (λ x y. answer.Joined x y) same_id ◌==◌ id_same number_same l k m n e
answer_same (answer.Decided l s) (answer.Decided k t) e = pair_same (λ x y. answer.Decided x y) same_id of_statuses.ghosts.eq id_same status_same l k s t e
answer_same (answer.Refused r) (answer.Refused s) e = ap (λ x. answer.Refused x) (refusal_same r s e)
answer_same _ _ e = absurd (true≢false (sym e))

command_same : Same of_commands.ghosts.eq
command_same (Begin p d) (Begin q e) is = pair_same (λ x y. Begin x y) (option_eq same_id) ◌==◌ (option_same same_id id_same) number_same p q d e is
command_same (Join l links) (Join k others) e = pair_same (λ x y. Join x y) same_id of_links.ghosts.eq id_same links_same l k links others e
command_same (Leave l m) (Leave k n) e = pair_same (λ x y. Leave x y) same_id ◌==◌ id_same number_same l k m n e
command_same (Decide l v) (Decide k w) e = pair_same (λ x y. Decide x y) same_id of_verdicts.ghosts.eq id_same verdict_same l k v w e
command_same (Report l m act heard) (Report k n other told) e =
    let last = and_right (same_id l k) _ e in
    let acts = and_right (m == n) _ last in
    ap (λ x. Report x m act heard) (id_same l k (and_left (same_id l k) _ e))
    ∙ ap (λ x. Report k x act heard) (number_same m n (and_left (m == n) _ last))
    ∙ pair_same (λ x y. Report k n x y) of_acts.ghosts.eq of_outcomes.ghosts.eq act_same outcome_same act other heard told acts
command_same (Forgot l m) (Forgot k n) e = pair_same (λ x y. Forgot x y) same_id ◌==◌ id_same number_same l k m n e
command_same (Told l m) (Told k n) e = pair_same (λ x y. Told x y) same_id ◌==◌ id_same number_same l k m n e
command_same (Purge l) (Purge k) e = ap (λ x. Purge x) (id_same l k e)
command_same _ _ e = absurd (true≢false (sym e))

lists_same : Same (pointwise of_records.ghosts.eq)
lists_same a b e = (records_decide a b).0 e

frame_same : Same same_frame
frame_same a b e =
    let second = and_right (of_fronts.ghosts.eq a.base b.base) _ e in
    let third = and_right (of_fronts.ghosts.eq a.front b.front) _ second in
    let fourth = and_right (of_fronts.ghosts.eq a.purges b.purges) _ third in
    let base = front_same a.base b.base (and_left (of_fronts.ghosts.eq a.base b.base) _ e) in
    let front = front_same a.front b.front (and_left (of_fronts.ghosts.eq a.front b.front) _ second) in
    let purges = front_same a.purges b.purges (and_left (of_fronts.ghosts.eq a.purges b.purges) _ third) in
    let live = list_same (option_eq bytes_eq) (option_same bytes_eq text_same) a.live b.live (and_left (same_lives a.live b.live) _ fourth) in
    let told = list_same (pointwise of_records.ghosts.eq) lists_same a.records b.records (and_right (same_lives a.live b.live) _ fourth) in
    ap (λ (x : List ℕ). record { base = x; front = a.front; purges = a.purges; live = a.live; records = a.records }) base
    ∙ ap (λ (x : List ℕ). record { base = b.base; front = x; purges = a.purges; live = a.live; records = a.records }) front
    ∙ ap (λ (x : List ℕ). record { base = b.base; front = b.front; purges = x; live = a.live; records = a.records }) purges
    ∙ ap (λ (x : List (Option (List ℕ))). record { base = b.base; front = b.front; purges = b.purges; live = x; records = a.records }) live
    ∙ ap (λ (x : List (List Record)). record { base = b.base; front = b.front; purges = b.purges; live = b.live; records = x }) told

row_is : (a b : Row) → of_rows.ghosts.eq a b ≡ (same_id a.id b.id && of_statuses.ghosts.eq a.status b.status)
row_is a b = refl

row_same : Same of_rows.ghosts.eq
row_same a b e = pair_same (λ x y. record { id = x; status = y }) same_id of_statuses.ghosts.eq id_same status_same a.id b.id a.status b.status (sym (row_is a b) ∙ e)

page_same : Same same_page
page_same a b e = pair_same (λ x y. record { rows = x; more = y }) (pointwise of_rows.ghosts.eq) beq (list_same of_rows.ghosts.eq row_same) bool_same a.rows b.rows a.more b.more e

duty_is : (a b : Duty) → of_duties.ghosts.eq a b ≡ (of_kinds.ghosts.eq a.kind b.kind && (of_acts.ghosts.eq a.act b.act && (same_id a.id b.id && ((a.member == b.member) && (bytes_eq a.link b.link && (option_eq same_id a.parent b.parent && option_eq of_statuses.ghosts.eq a.shows b.shows))))))
duty_is a b = refl

duty_same : Same of_duties.ghosts.eq
duty_same a b e =
    let is = sym (duty_is a b) ∙ e in
    let second = and_right (of_kinds.ghosts.eq a.kind b.kind) _ is in
    let third = and_right (of_acts.ghosts.eq a.act b.act) _ second in
    let fourth = and_right (same_id a.id b.id) _ third in
    let fifth = and_right (a.member == b.member) _ fourth in
    let sixth = and_right (bytes_eq a.link b.link) _ fifth in
    let first : ◌≡◌ {A = Duty} (record { kind = a.kind; act = a.act; id = a.id; member = a.member; link = a.link; parent = a.parent; shows = a.shows }) (record { kind = b.kind; act = a.act; id = a.id; member = a.member; link = a.link; parent = a.parent; shows = a.shows }) = ap (λ x. record { kind = x; act = a.act; id = a.id; member = a.member; link = a.link; parent = a.parent; shows = a.shows }) (kind_same a.kind b.kind (and_left (of_kinds.ghosts.eq a.kind b.kind) _ is)) in
    first
    ∙ ap (λ x. record { kind = b.kind; act = x; id = a.id; member = a.member; link = a.link; parent = a.parent; shows = a.shows }) (act_same a.act b.act (and_left (of_acts.ghosts.eq a.act b.act) _ second))
    ∙ ap (λ x. record { kind = b.kind; act = b.act; id = x; member = a.member; link = a.link; parent = a.parent; shows = a.shows }) (id_same a.id b.id (and_left (same_id a.id b.id) _ third))
    ∙ ap (λ x. record { kind = b.kind; act = b.act; id = b.id; member = x; link = a.link; parent = a.parent; shows = a.shows }) (number_same a.member b.member (and_left (a.member == b.member) _ fourth))
    ∙ ap (λ x. record { kind = b.kind; act = b.act; id = b.id; member = b.member; link = x; parent = a.parent; shows = a.shows }) (text_same a.link b.link (and_left (bytes_eq a.link b.link) _ fifth))
    ∙ pair_same (λ x y. record { kind = b.kind; act = b.act; id = b.id; member = b.member; link = b.link; parent = x; shows = y }) (option_eq same_id) (option_eq of_statuses.ghosts.eq) (option_same same_id id_same) (option_same of_statuses.ghosts.eq status_same) a.parent b.parent a.shows b.shows sixth

holding_same : Same same_holding
holding_same a b e =
    let second = and_right (same_id a.id b.id) _ e in
    let third = and_right (of_statuses.ghosts.eq a.status b.status) _ second in
    let fourth = and_right (of_records.ghosts.eq a.record b.record) _ third in
    ap (λ (x : Id). record { id = x; status = a.status; «record» = a.record; members = a.members; purge = a.purge }) (id_same a.id b.id (and_left (same_id a.id b.id) _ e))
    ∙ ap (λ (x : LraStatus). record { id = b.id; status = x; «record» = a.record; members = a.members; purge = a.purge }) (status_same a.status b.status (and_left (of_statuses.ghosts.eq a.status b.status) _ second))
    ∙ ap (λ (x : Record). record { id = b.id; status = b.status; «record» = x; members = a.members; purge = a.purge }) ((record_decides a.record b.record).0 (and_left (of_records.ghosts.eq a.record b.record) _ third))
    ∙ pair_same (λ (x : List (Option MemberStatus)) (y : CommandReply). record { id = b.id; status = b.status; «record» = b.record; members = x; purge = y })
    (pointwise (option_eq of_member_statuses.ghosts.eq)) of_command_replies.ghosts.eq
    (list_same (option_eq of_member_statuses.ghosts.eq) (option_same of_member_statuses.ghosts.eq member_status_same)) answer_same a.members b.members a.purge b.purge fourth

summary_is : (a b : Summary) → of_summaries.ghosts.eq a b ≡ (same_id a.id b.id && (of_statuses.ghosts.eq a.status b.status && (of_statuses.ghosts.eq a.tree b.tree && (option_eq ◌==◌ a.parent b.parent && ((a.members == b.members) && (a.deadline == b.deadline))))))
summary_is a b = refl

summary_same : Same of_summaries.ghosts.eq
summary_same a b e =
    let is = sym (summary_is a b) ∙ e in
    let second = and_right (same_id a.id b.id) _ is in
    let third = and_right (of_statuses.ghosts.eq a.status b.status) _ second in
    let fourth = and_right (of_statuses.ghosts.eq a.tree b.tree) _ third in
    let fifth = and_right (option_eq ◌==◌ a.parent b.parent) _ fourth in
    ap (λ (x : Id). record { id = x; status = a.status; tree = a.tree; parent = a.parent; members = a.members; deadline = a.deadline }) (id_same a.id b.id (and_left (same_id a.id b.id) _ is))
    ∙ ap (λ (x : LraStatus). record { id = b.id; status = x; tree = a.tree; parent = a.parent; members = a.members; deadline = a.deadline }) (status_same a.status b.status (and_left (of_statuses.ghosts.eq a.status b.status) _ second))
    ∙ ap (λ (x : LraStatus). record { id = b.id; status = b.status; tree = x; parent = a.parent; members = a.members; deadline = a.deadline }) (status_same a.tree b.tree (and_left (of_statuses.ghosts.eq a.tree b.tree) _ third))
    ∙ ap (λ (x : Option ℕ). record { id = b.id; status = b.status; tree = b.tree; parent = x; members = a.members; deadline = a.deadline }) (option_same ◌==◌ number_same a.parent b.parent (and_left (option_eq ◌==◌ a.parent b.parent) _ fourth))
    ∙ pair_same (λ (x y : ℕ). record { id = b.id; status = b.status; tree = b.tree; parent = b.parent; members = x; deadline = y }) ◌==◌ ◌==◌ number_same number_same a.members b.members a.deadline b.deadline fifth

survey_same : Same same_survey
survey_same a b e = pair_same (λ x y. record { rows = x; more = y }) (pointwise of_summaries.ghosts.eq) beq (list_same of_summaries.ghosts.eq summary_same) bool_same a.rows b.rows a.more b.more e

call_same : Same same_call
call_same (Enter c) (Enter d) e = ap (λ x. Enter x) (command_same c d e)
call_same (Take f) (Take g) e = ap (λ x. Take x) (frame_same f g e)
call_same (Pull b) (Pull c) e = ap (λ x. Pull x) (text_same b c e)
call_same (Status l) (Status k) e = ap (λ x. Status x) (id_same l k e)
call_same (Member l m) (Member k n) e = pair_same (λ x y. Member x y) same_id ◌==◌ id_same number_same l k m n e
call_same (Page l) (Page k) e = ap (λ x. Page x) (option_same same_id id_same l k e)
call_same (Show l) (Show k) e = ap (λ x. Show x) (id_same l k e)
call_same (Survey l) (Survey k) e = ap (λ x. Survey x) (option_same same_id id_same l k e)
call_same Duties Duties e = refl
call_same Expire Expire e = refl
call_same (Sweep l s) (Sweep k t) e = pair_same (λ x y. Sweep x y) same_id of_statuses.ghosts.eq id_same status_same l k s t e
call_same _ _ e = absurd (true≢false (sym e))

reply_same : Same same_reply
reply_same (Entered r) (Entered s) e = ap (λ x. Entered x) (answer_same r s e)
reply_same Took Took e = refl
reply_same (Gave f) (Gave g) e = ap (λ x. Gave x) (frame_same f g e)
reply_same (Shown l s) (Shown k t) e = pair_same (λ x y. Shown x y) same_id of_statuses.ghosts.eq id_same status_same l k s t e
reply_same (ShownMember l m s) (ShownMember k n t) e =
    ap (λ x. ShownMember x m s) (id_same l k (and_left (same_id l k) _ e))
    ∙ pair_same (λ x y. ShownMember k x y) ◌==◌ of_member_statuses.ghosts.eq number_same member_status_same m n s t (and_right (same_id l k) _ e)
reply_same (Listed p) (Listed q) e = ap (λ x. Listed x) (page_same p q e)
reply_same (Held a) (Held b) e = ap (λ x. Held x) (holding_same a b e)
reply_same (Surveyed a) (Surveyed b) e = ap (λ x. Surveyed x) (survey_same a b e)
reply_same (Due a) (Due b) e = ap (λ x. Due x) (list_same of_duties.ghosts.eq duty_same a b e)
reply_same (Expired l) (Expired k) e = ap (λ x. Expired x) (id_same l k e)
reply_same Quiet Quiet e = refl
reply_same (Refused r) (Refused s) e = ap (λ x. Refused x) (refusal_same r s e)
reply_same _ _ e = absurd (true≢false (sym e))

-- calls compare as the same exactly if they are equal
pub call_decides : (a b : Call) → Decides (same_call a b) (a ≡ b)
call_decides a b = (call_same a b, λ e. subst (λ x. same_call a x ≡ true) e (call_own a))

pub reply_decides : (a b : Reply) → Decides (same_reply a b) (a ≡ b)
reply_decides a b = (reply_same a b, λ e. subst (λ x. same_reply a x ≡ true) e (reply_own a))
