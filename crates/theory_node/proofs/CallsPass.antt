-- The start and the calls at the desk pass.
use Rattle.std.proofs.Common.{◌≡◌, ◌∙◌, ℕ, Bool, true, false, List, Option, None, Some, ap, arith, if◌then◌else◌, length, refl, subst, sym}
use Rattle.std.specs.Prelude.{◌==◌, nat_lt, not}
use Rattle.std.specs.declared.time.Duration.{Duration}
use Rattle.std.proofs.lemmas.Bool.{eqb-true}
use Rattle.state_ids.specs.Fronts.{IsBelow, count, join_fronts}
use Rattle.state_ids.proofs.Pairs.{join_above}
use Rattle.theory_history.proofs.JoinedFronts.{length_join}
use Rattle.node_replication.specs.Followers.{wants_any}
use Rattle.node_agenda.specs.Mail.{Mail, learnt, with_since, with_sweeps}
use Rattle.node_agenda.specs.Noted.{Notes, with_news}
use Rattle.node_agenda.specs.declared.effects.NewlyDue.{NewlyDue}
use Rattle.node_agenda.specs.declared.effects.NewlyDue.TheVariants.{Nobody, OfCompletion, Others}
use Rattle.node_agenda.specs.declared.effects.Effects.{Effects}
use Rattle.node_core.specs.Calls.{Admitted, Admits, IsSettled, after_refusal, after_reply, after_step, answer_of, begun_at, begun_by, counted_by, ended_at, failed_if, given_up, is_admitted, step_of, ticket_of, with_answer}
use Rattle.node_core.specs.Nodes.{as_empty, as_looked, as_stored, shown, started, with_count, with_mail}
use Rattle.node_core.specs.declared.calls.AskedCall.{AskedCall}
use Rattle.node_core.specs.declared.calls.Caller.{Caller}
use Rattle.node_core.specs.declared.calls.Caller.TheVariants.{Worker, Writer}
use Rattle.node_core.specs.declared.calls.CallResult.{CallResult}
use Rattle.node_core.specs.declared.calls.CallStep.{CallStep}
use Rattle.node_core.specs.declared.calls.CallStep.TheVariants.{Asks, Enters, Other}
use Rattle.node_core.specs.declared.calls.ReplyKind.{ReplyKind}
use Rattle.node_core.specs.declared.calls.ReplyKind.TheVariants.{Gave, Stored, Other as OtherReply}
use Rattle.node_core.specs.declared.node_state.NodeState.{NodeState}
use Rattle.theory_node.proofs.Passing.{MailSame, Passes, and_then, either, known_passes, mail_moved, mail_passes, moved, opening_passes, same, untouched}

-- ---- a start
started_by : (wants is_empty : Bool) (n : NodeState) → Passes n (if not wants then n else if is_empty then as_empty n else as_stored n)
started_by false is_empty n = same n
started_by true true n = opening_passes n (as_empty n) refl refl refl refl (λ barred few. barred)
started_by true false n = untouched n (as_stored n) (record { opening = refl; known = refl; doubted = refl })

pub starting : (front : List ℕ) (n : NodeState) → Passes n (started front n)
starting front n =
    let counted : NodeState = with_count (count front n.me) n in
    and_then n counted (started front n) (untouched n counted (record { opening = refl; known = refl; doubted = refl }))
    (started_by (wants_any n.followers) (count front n.me == 0) counted)

-- ---- calls at the desk
begins : (step : CallStep) (n : NodeState) → Passes n (begun_by step n)
begins Enters n = untouched n (begun_by Enters n) (record { opening = refl; known = refl; doubted = refl })
begins (Asks ticket) n = untouched n (begun_by (Asks ticket) n) (record { opening = refl; known = refl; doubted = refl })
begins Other n = same n

pub admitting : (caller : Caller) (asked : AskedCall) (place : ℕ) (now : Duration) (old new : NodeState) (result : Option Admitted) → Admits caller asked place now old new result → Passes old new
admitting caller asked place now old new result is =
    let begun : NodeState = begun_by (step_of caller asked old) old in
    either (is_admitted caller asked now old) (result ≡ Some (record { caller = caller; place = place; step = step_of caller asked old })) (result ≡ None) old
    (begun_at place now begun) old new
    (and_then old begun (begun_at place now begun) (begins (step_of caller asked old) old) (untouched begun (begun_at place now begun) (record { opening = refl; known = refl; doubted = refl })))
    (same old) is

ends : (step : CallStep) (kind : ReplyKind) (now : Duration) (n : NodeState) → Passes n (after_step step kind now n)
ends Enters kind now n = untouched n (after_step Enters kind now n) (record { opening = refl; known = refl; doubted = refl })
ends (Asks ticket) Stored now n = same n
ends (Asks ticket) (Gave front) now n = untouched n (after_step (Asks ticket) (Gave front) now n) (record { opening = refl; known = refl; doubted = refl })
ends (Asks ticket) OtherReply now n = same n
ends Other kind now n = same n

pub answering : (n : NodeState) → Passes n (with_answer (shown n) (as_looked n))
answering n = untouched n (with_answer (shown n) (as_looked n)) (record { opening = refl; known = refl; doubted = refl })

answers : (caller : Caller) (step : CallStep) (ticket : ℕ) (old new : NodeState) (result : Option ℕ) → answer_of caller step ticket old new result → Passes old new
answers Writer step ticket old new result is = moved old old new is.1 (same old)
answers Worker Enters ticket old new result is =
    either (nat_lt 0 ticket) (result ≡ Some ticket) (result ≡ Some (shown old)) old old (with_answer (shown old) (as_looked old)) new (same old) (answering old) is
answers Worker (Asks asked) ticket old new result is = moved old old new is.1 (same old)
answers Worker Other ticket old new result is =
    either (nat_lt 0 ticket) (result ≡ Some ticket) (result ≡ Some (shown old)) old old (with_answer (shown old) (as_looked old)) new (same old) (answering old) is

grows : (known front : List ℕ) (here : Bool) → IsBelow known (if here then join_fronts known front else known)
grows known front true = (join_above known front).0
grows known front false = λ node. omega arith

sized : (known front : List ℕ) (here : Bool) → (length known == length front) ≡ here → length (if here then join_fronts known front else known) ≡ length known
sized known front true is = length_join known front (eqb-true (length known) (length front) is)
sized known front false is = refl

pub learns : (front : List ℕ) (old new : NodeState) → new.mail.opening ≡ old.mail.opening → new.followers.is_doubted ≡ old.followers.is_doubted
    → new.mail.known.front ≡ (learnt front old.mail.known).front → Passes old new
learns front old new opening doubted is =
    let known : List ℕ = old.mail.known.front in
    known_passes old new opening doubted
    (ap (λ (f : List ℕ). length f) is ∙ sized known front (length known == length front) refl)
    (subst (λ (f : List ℕ). IsBelow known f) (sym is) (grows known front (length known == length front)))

replies : (kind : ReplyKind) (n : NodeState) → Passes n (after_reply kind n)
replies Stored n = untouched n (after_reply Stored n) (record { opening = refl; known = refl; doubted = refl })
replies (Gave front) n = learns front n (after_reply (Gave front) n) refl refl refl
replies OtherReply n = same n

news_same : (news : NewlyDue) (m : Mail) → MailSame m (with_news news m)
news_same Nobody m = (refl, refl)
news_same OfCompletion m = (refl, refl)
news_same Others m = (refl, refl)

notes : (noted : Effects) (now : Duration) (old new : Mail) → Notes noted now old new → MailSame old new
notes noted now old new is = mail_moved old (with_since new.since (with_sweeps new.sweeps (with_news noted.news old))) new is.rest (news_same noted.news old)

pub settling : (a : Admitted) (came : CallResult) (now : Duration) (old new : NodeState) (ticket : Option ℕ) → IsSettled a came now old new ticket → Passes old new
settling a came now old new ticket is =
    let left : NodeState = ended_at a.place old in
    let ended : NodeState = after_step a.step came.kind now left in
    let counted : NodeState = counted_by came is.answered in
    let replied : NodeState = after_reply came.kind counted in
    let to_left : Passes old left = untouched old left (record { opening = refl; known = refl; doubted = refl }) in
    let to_ended : Passes old ended = and_then old left ended to_left (ends a.step came.kind now left) in
    let to_answered : Passes old is.answered =
    and_then old ended is.answered to_ended (answers a.caller a.step (ticket_of a.step came.kind old) ended is.answered ticket is.answer) in
    let to_counted : Passes old counted = and_then old is.answered counted to_answered (untouched is.answered counted (record { opening = refl; known = refl; doubted = refl })) in
    let to_replied : Passes old replied = and_then old counted replied to_counted (replies came.kind counted) in
    and_then old replied new to_replied
    (moved replied (with_mail new.mail replied) new is.rest (mail_passes replied (with_mail new.mail replied) (notes came.effects now replied.mail new.mail is.noted) refl))

refused : (step : CallStep) (has_failed : Bool) (n : NodeState) → Passes n (after_refusal step has_failed n)
refused Enters has_failed n = untouched n (after_refusal Enters has_failed n) (record { opening = refl; known = refl; doubted = refl })
refused (Asks ticket) has_failed n = same n
refused Other has_failed n = same n

fails : (has_failed : Bool) (n : NodeState) → Passes n (failed_if has_failed n)
fails true n = untouched n (failed_if true n) (record { opening = refl; known = refl; doubted = refl })
fails false n = same n

pub giving_up : (a : Admitted) (has_failed : Bool) (n : NodeState) → Passes n (given_up a has_failed n)
giving_up a has_failed n =
    let left : NodeState = ended_at a.place n in
    let over : NodeState = after_refusal a.step has_failed left in
    and_then n left (given_up a has_failed n) (untouched n left (record { opening = refl; known = refl; doubted = refl }))
    (and_then left over (given_up a has_failed n) (refused a.step has_failed left) (fails has_failed over))
