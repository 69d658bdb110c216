-- A call compares as the same as itself, and so does a reply.
use Rattle.std.proofs.Common.{◌≡◌, ◌&&◌, ◌==◌, ◌∙◌, [], ◌∷◌, Bool, true, refl}
use Rattle.std.specs.Bool.{beq}
use Rattle.std.specs.Cmp.Lexicographic.{pointwise}
use Rattle.std.specs.Option.{option_eq}
use Rattle.std.specs.Str.{bytes_eq}
use Rattle.state_ids.specs.contracts.outcome.ActEq.TheImpl.Laws as acts
use Rattle.state_ids.specs.contracts.outcome.OutcomeEq.TheImpl.Laws as outcomes
use Rattle.state_ids.specs.contracts.outcome.VerdictEq.TheImpl.Laws as verdicts
use Rattle.state_ids.specs.contracts.status.LraStatusEq.TheImpl.Laws as statuses
use Rattle.state_ids.specs.contracts.status.MemberStatusEq.TheImpl.Laws as member_statuses
use Rattle.state_ids.specs.contracts.status.LraStatusPartialEq.TheImpl as of_statuses
use Rattle.state_ids.specs.contracts.status.MemberStatusPartialEq.TheImpl as of_member_statuses
use Rattle.state_ids.specs.contracts.lra.LraIdEq.TheImpl.Laws as ids
use Rattle.state_facts.specs.contracts.refusal.RefusalEq.TheImpl.Laws as refusals
use Rattle.state_forest.specs.contracts.record.RecordPartialEq.TheImpl as of_records
use Rattle.state_forest.proofs.EqualRecords.{Own, all_true, bool_own, front_own, links_own, number_own, option_own, record_decides, records_decide, text_own}
use Rattle.state_facts.specs.contracts.command.CommandPartialEq.TheImpl as of_commands
use Rattle.state_facts.specs.declared.command.Command.TheVariants.{Begin, Join, Leave, Decide, Report, Forgot, Told, Purge}
use Rattle.state_facts.specs.contracts.command.CommandReplyEq.TheImpl.Laws as command_replies
use Rattle.state_replica.specs.contracts.page.RowPartialEq.TheImpl as of_rows
use Rattle.state_replica.specs.contracts.page.RowEq.TheImpl.Laws as rows
use Rattle.wire_frames.specs.SameFrames.{same_frame, same_lives, same_records}
use Rattle.wire_callbacks.specs.declared.duty.Duty.{Duty}
use Rattle.wire_callbacks.specs.contracts.answer.KindEq.TheImpl.Laws as kinds
use Rattle.wire_callbacks.specs.contracts.answer.KindPartialEq.TheImpl as of_kinds
use Rattle.state_ids.specs.contracts.outcome.ActPartialEq.TheImpl as of_acts
use Rattle.wire_callbacks.specs.contracts.duty.DutyPartialEq.TheImpl as of_duties
use Rattle.state_book.specs.contracts.holdings.SummaryPartialEq.TheImpl as of_summaries
use Rattle.state_book.specs.contracts.holdings.SummaryEq.TheImpl.Laws as summaries
use Rattle.state_book.specs.declared.calls.Call.{Call}
use Rattle.state_book.specs.declared.calls.Call.TheVariants.{Command as Enter, Take, Pull, Status, Member, Page, Record as Show, Survey, Duties, Expire, Sweep}
use Rattle.state_book.specs.declared.calls.Reply.{Reply}
use Rattle.state_book.specs.declared.calls.Reply.TheVariants.{Command as Entered, Took, Gave, Shown, ShownMember, Listed, Held, Surveyed, Due, Expired, Quiet, Refused}
use Rattle.state_book.specs.Sameness.{same_call, same_holding, same_id, same_reply}

list_own : {X : Type 0} (test : X → X → Bool) → Own test → Own (pointwise test)
list_own test own [] = refl
list_own test own (x ∷ xs) = all_true (test x x) (pointwise test xs xs) (own x) (list_own test own xs)

id_own : Own same_id
id_own l = ids.laws-law.refl l

frame_own : Own same_frame
frame_own f =
    let lives : same_lives f.live f.live ≡ true = list_own (option_eq bytes_eq) (option_own bytes_eq text_own) f.live in
    let told : same_records f.records f.records ≡ true = list_own (pointwise of_records.ghosts.eq) (λ rs. (records_decide rs rs).1 refl) f.records in
    all_true _ _ (front_own f.base) (all_true _ _ (front_own f.front) (all_true _ _ (front_own f.purges) (all_true (same_lives f.live f.live) (same_records f.records f.records) lives told)))

duty_is : (a b : Duty) → of_duties.ghosts.eq a b ≡ (of_kinds.ghosts.eq a.kind b.kind && (of_acts.ghosts.eq a.act b.act && (same_id a.id b.id && ((a.member == b.member) && (bytes_eq a.link b.link && (option_eq same_id a.parent b.parent && option_eq of_statuses.ghosts.eq a.shows b.shows))))))
duty_is a b = refl

duty_own : Own of_duties.ghosts.eq
duty_own a =
    duty_is a a
    ∙ all_true (of_kinds.ghosts.eq a.kind a.kind) _ (kinds.laws-law.refl a.kind)
    (all_true (of_acts.ghosts.eq a.act a.act) _ (acts.laws-law.refl a.act)
    (all_true (same_id a.id a.id) _ (id_own a.id)
    (all_true (a.member == a.member) _ (number_own a.member) (all_true (bytes_eq a.link a.link) _ (text_own a.link)
    (all_true (option_eq same_id a.parent a.parent) _ (option_own same_id id_own a.parent) (option_own of_statuses.ghosts.eq (λ s. statuses.laws-law.refl s) a.shows))))))

holding_own : Own same_holding
holding_own a =
    all_true (same_id a.id a.id) _ (id_own a.id)
    (all_true (of_statuses.ghosts.eq a.status a.status) _ (statuses.laws-law.refl a.status)
    (all_true (of_records.ghosts.eq a.record a.record) _ ((record_decides a.record a.record).1 refl)
    (all_true (pointwise (option_eq of_member_statuses.ghosts.eq) a.members a.members) _
    (list_own (option_eq of_member_statuses.ghosts.eq) (option_own of_member_statuses.ghosts.eq (λ s. member_statuses.laws-law.refl s)) a.members)
    (command_replies.laws-law.refl a.purge))))

command_own : Own of_commands.ghosts.eq
command_own (Begin p d) = all_true (option_eq same_id p p) (d == d) (option_own same_id id_own p) (number_own d)
command_own (Join l links) = all_true (same_id l l) _ (id_own l) (links_own links)
command_own (Leave l m) = all_true (same_id l l) (m == m) (id_own l) (number_own m)
command_own (Decide l v) = all_true (same_id l l) _ (id_own l) (verdicts.laws-law.refl v)
command_own (Report l m act heard) = all_true (same_id l l) _ (id_own l) (all_true (m == m) _ (number_own m) (all_true _ _ (acts.laws-law.refl act) (outcomes.laws-law.refl heard)))
command_own (Forgot l m) = all_true (same_id l l) (m == m) (id_own l) (number_own m)
command_own (Told l m) = all_true (same_id l l) (m == m) (id_own l) (number_own m)
command_own (Purge l) = id_own l

pub call_own : (c : Call) → same_call c c ≡ true
call_own (Enter c) = command_own c
call_own (Take f) = frame_own f
call_own (Pull b) = text_own b
call_own (Status l) = id_own l
call_own (Member l m) = all_true (same_id l l) (m == m) (id_own l) (number_own m)
call_own (Page l) = option_own same_id id_own l
call_own (Show l) = id_own l
call_own (Survey l) = option_own same_id id_own l
call_own Duties = refl
call_own Expire = refl
call_own (Sweep l s) = all_true (same_id l l) _ (id_own l) (statuses.laws-law.refl s)

pub reply_own : (r : Reply) → same_reply r r ≡ true
reply_own (Entered r) = command_replies.laws-law.refl r
reply_own Took = refl
reply_own (Gave f) = frame_own f
reply_own (Shown l s) = all_true (same_id l l) _ (id_own l) (statuses.laws-law.refl s)
reply_own (ShownMember l m s) = all_true (same_id l l) _ (id_own l) (all_true (m == m) _ (number_own m) (member_statuses.laws-law.refl s))
reply_own (Listed p) = all_true (pointwise of_rows.ghosts.eq p.rows p.rows) (beq p.more p.more) (list_own of_rows.ghosts.eq (λ r. rows.laws-law.refl r) p.rows) (bool_own p.more)
reply_own (Held h) = holding_own h
reply_own (Surveyed s) =
    all_true (pointwise of_summaries.ghosts.eq s.rows s.rows) (beq s.more s.more) (list_own of_summaries.ghosts.eq (λ r. summaries.laws-law.refl r) s.rows) (bool_own s.more)
reply_own (Due ds) = list_own of_duties.ghosts.eq duty_own ds
reply_own (Expired l) = id_own l
reply_own Quiet = refl
reply_own (Refused r) = refusals.laws-law.refl r
