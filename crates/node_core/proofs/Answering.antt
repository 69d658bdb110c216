-- What an answer waits for, what is known once a frame is given, and how long a pull is held.
use Rattle.std.proofs.Common.{◌≡◌, ◌≢◌, ◌≤◌, ◌+◌, ◌∙◌, ℕ, Bool, true, false, List, Option, Some, ap, arith, if◌then◌else◌, length, refl, subst, sym}
use Rattle.std.specs.Prelude.{◌==◌, MatchBool, min, nat_lt}
use Rattle.std.specs.Duration.{as_nanos}
use Rattle.std.specs.declared.time.Duration.{Duration}
use Rattle.std.proofs.lemmas.Bool.{eq-eqb, lt-ltb}
use Rattle.state_ids.specs.Fronts.{IsBelow, count, join_fronts}
use Rattle.state_ids.proofs.Pairs.{join_above}
use Rattle.node_replication.specs.Followers.{promised, since_or, wants_any}
use Rattle.node_replication.specs.Spreads.{has_news, last_ticket, next_ticket}
use Rattle.node_replication.specs.declared.standing.PullDecision.{PullDecision}
use Rattle.node_replication.specs.declared.standing.PullDecision.TheVariants.{Later, Serve}
use Rattle.node_replication.specs.Paces.{asked_at}
use Rattle.node_replication.proofs.Waiting.{pulls}
use Rattle.node_agenda.specs.Mail.{Mail, learnt}
use Rattle.node_agenda.specs.Noted.{Notes, with_news}
use Rattle.node_agenda.specs.declared.effects.Effects.{Effects}
use Rattle.node_agenda.specs.declared.known_fronts.KnownFronts.{KnownFronts}
use Rattle.node_agenda.specs.declared.effects.NewlyDue.{NewlyDue}
use Rattle.node_agenda.specs.declared.effects.NewlyDue.TheVariants.{Nobody, OfCompletion, Others}
use Rattle.node_core.specs.Calls.{Admitted, IsSettled, after_reply, after_step, answer_of, counted_by, ended_at, ticket_of, with_answer}
use Rattle.node_core.specs.Nodes.{as_looked, shown}
use Rattle.node_core.specs.Pulls.{IsJudged, IsWeighed, owes}
use Rattle.node_core.specs.declared.calls.Caller.{Caller}
use Rattle.node_core.specs.declared.calls.Caller.TheVariants.{Worker, Writer}
use Rattle.node_core.specs.declared.calls.CallResult.{CallResult}
use Rattle.node_core.specs.declared.calls.CallStep.{CallStep}
use Rattle.node_core.specs.declared.calls.CallStep.TheVariants.{Asks, Enters, Other}
use Rattle.node_core.specs.declared.calls.ReplyKind.{ReplyKind}
use Rattle.node_core.specs.declared.calls.ReplyKind.TheVariants.{Gave, Stored, Other as OtherReply}
use Rattle.node_core.specs.declared.node_state.NodeState.{NodeState}
use Rattle.node_core.specs.declared.pulling.AskedPull.{AskedPull}

-- ---- what an answer waits for
-- a ticket that is drawn is greater than 0
some_ticket : (n : ℕ) → nat_lt 0 (min (n + 1) last_ticket) ≡ true
some_ticket n = lt-ltb 0 (min (n + 1) last_ticket) (omega arith)

promised_is : (wants : Bool) (ticket : ℕ) → wants ≡ true → (if wants then ticket else 0) ≡ ticket
promised_is true ticket e = refl
promised_is false ticket e = absurd cc

waits_is : (some : Bool) (ticket shown : ℕ) (old new after : NodeState) (result : Option ℕ) → some ≡ true
    → MatchBool some ((result ≡ Some ticket) × (new ≡ old)) ((result ≡ Some shown) × (new ≡ after)) → result ≡ Some ticket
waits_is true ticket shown old new after result e is = is.0
waits_is false ticket shown old new after result e is = absurd cc

stored_waits : (caller : Caller) (step : CallStep) (kind : ReplyKind) (n after answered : NodeState) (ticket : Option ℕ) → caller ≡ Worker → step ≡ Enters → kind ≡ Stored
    → wants_any n.followers ≡ true → answer_of caller step (ticket_of step kind n) after answered ticket → ticket ≡ Some (next_ticket n.followers.spread)
stored_waits Worker Enters Stored n after answered ticket a b c wants is =
    let drawn : promised true n.followers ≡ next_ticket n.followers.spread = promised_is (wants_any n.followers) (next_ticket n.followers.spread) wants in
    let some : nat_lt 0 (promised true n.followers) ≡ true = rw drawn (some_ticket n.followers.spread.drawn) in
    waits_is (nat_lt 0 (promised true n.followers)) (promised true n.followers) (shown after) after answered (with_answer (shown after) (as_looked after)) ticket some is
    ∙ ap (λ (t : ℕ). Some t) drawn
stored_waits Worker Enters (Gave front) n after answered ticket a b c wants is = absurd cc
stored_waits Worker Enters OtherReply n after answered ticket a b c wants is = absurd cc
stored_waits Worker (Asks asked) kind n after answered ticket a b c wants is = absurd cc
stored_waits Worker Other kind n after answered ticket a b c wants is = absurd cc
stored_waits Writer step kind n after answered ticket a b c wants is = absurd cc

pub waits : (a : Admitted) (came : CallResult) (now : Duration) (old new : NodeState) (ticket : Option ℕ) → a.caller ≡ Worker → a.step ≡ Enters → came.kind ≡ Stored
    → wants_any old.followers ≡ true → IsSettled a came now old new ticket → ticket ≡ Some (next_ticket old.followers.spread)
waits a came now old new ticket worker enters stored wants is =
    stored_waits a.caller a.step came.kind old (after_step a.step came.kind now (ended_at a.place old)) is.answered ticket worker enters stored wants is.answer

-- ---- what is known once a frame is given
waits_mail : (some : Bool) (ticket shown : ℕ) (old new after : NodeState) (result : Option ℕ) → after.mail ≡ old.mail
    → MatchBool some ((result ≡ Some ticket) × (new ≡ old)) ((result ≡ Some shown) × (new ≡ after)) → new.mail ≡ old.mail
waits_mail true ticket shown old new after result same is = ap (λ (n : NodeState). n.mail) is.1
waits_mail false ticket shown old new after result same is = ap (λ (n : NodeState). n.mail) is.1 ∙ same

answer_mail : (caller : Caller) (step : CallStep) (ticket : ℕ) (old new : NodeState) (result : Option ℕ) → answer_of caller step ticket old new result → new.mail ≡ old.mail
answer_mail Writer step ticket old new result is = ap (λ (n : NodeState). n.mail) is.1
answer_mail Worker Enters ticket old new result is = waits_mail (nat_lt 0 ticket) ticket (shown old) old new (with_answer (shown old) (as_looked old)) result refl is
answer_mail Worker (Asks asked) ticket old new result is = ap (λ (n : NodeState). n.mail) is.1
answer_mail Worker Other ticket old new result is = waits_mail (nat_lt 0 ticket) ticket (shown old) old new (with_answer (shown old) (as_looked old)) result refl is

step_mail : (step : CallStep) (kind : ReplyKind) (now : Duration) (n : NodeState) → (after_step step kind now n).mail ≡ n.mail
step_mail Enters kind now n = refl
step_mail (Asks ticket) Stored now n = refl
step_mail (Asks ticket) (Gave front) now n = refl
step_mail (Asks ticket) OtherReply now n = refl
step_mail Other kind now n = refl

news_known : (news : NewlyDue) (m : Mail) → (with_news news m).known ≡ m.known
news_known Nobody m = refl
news_known OfCompletion m = refl
news_known Others m = refl

noted_known : (noted : Effects) (now : Duration) (old new : Mail) → Notes noted now old new → new.known ≡ old.known
noted_known noted now old new is = ap (λ (m : Mail). m.known) is.rest ∙ news_known noted.news old

given_known : (kind : ReplyKind) (front : List ℕ) (n : NodeState) → kind ≡ Gave front → (after_reply kind n).mail.known.front ≡ (learnt front n.mail.known).front
given_known kind front n is = subst (λ (k : ReplyKind). (after_reply k n).mail.known.front ≡ (learnt front n.mail.known).front) (sym is) refl

learnt_above : (front known : List ℕ) (same : Bool) → same ≡ true → IsBelow front (if same then join_fronts known front else known)
learnt_above front known true e = (join_above known front).1
learnt_above front known false e = absurd cc

pub known : (a : Admitted) (came : CallResult) (now : Duration) (old new : NodeState) (ticket : Option ℕ) (front : List ℕ) → came.kind ≡ Gave front
    → length front ≡ length old.mail.known.front → IsSettled a came now old new ticket → IsBelow front new.mail.known.front
known a came now old new ticket front gave long is =
    let started : NodeState = after_step a.step came.kind now (ended_at a.place old) in
    let before : is.answered.mail ≡ old.mail = answer_mail a.caller a.step (ticket_of a.step came.kind old) started is.answered ticket is.answer ∙ step_mail a.step came.kind now (ended_at a.place old) in
    let after : new.mail.known ≡ (after_reply came.kind (counted_by came is.answered)).mail.known = noted_known came.effects now (after_reply came.kind (counted_by came is.answered)).mail new.mail is.noted in
    let front_is : new.mail.known.front ≡ (learnt front old.mail.known).front =
    ap (λ (k : KnownFronts). k.front) after ∙ given_known came.kind front (counted_by came is.answered) gave ∙ ap (λ (m : Mail). (learnt front m.known).front) before in
    subst (IsBelow front) (sym front_is)
    (learnt_above front old.mail.known.front (length old.mail.known.front == length front) (eq-eqb (length old.mail.known.front) (length front) (sym long)))

-- ---- how long a pull is held
serve_not : Serve ≡ Later → ⊥
serve_not e = absurd cc

weighed : (pull : AskedPull) (since now : Duration) (old new : NodeState) (decision : PullDecision) → pull.since ≡ Some since
    → as_nanos since + 4_000_000_000 ≤ as_nanos now → IsWeighed pull now old new decision → decision ≢ Later
weighed pull since now old new decision held late is = λ later.
    pulls old.followers.node.nodes pull.from (since_or pull.since now) now (has_news (count pull.front old.me) old.followers.spread) is.lacks (asked_at pull.from now old.followers.pace)
    (subst (λ (s : Option Duration). as_nanos (since_or s now) + 4_000_000_000 ≤ as_nanos now) (sym held) late)
    (sym is.decided ∙ later)

judged_of : (owed waits : Bool) (pull : AskedPull) (since now : Duration) (old new : NodeState) (decision : PullDecision) → owed ≡ false → pull.since ≡ Some since
    → as_nanos since + 4_000_000_000 ≤ as_nanos now
    → MatchBool owed ((decision ≡ Later) × (new ≡ old)) (MatchBool waits (IsWeighed pull now old new decision) ((decision ≡ Serve) × (new ≡ old))) → decision ≢ Later
judged_of true waits pull since now old new decision e held late is = absurd cc
judged_of false true pull since now old new decision e held late is = weighed pull since now old new decision held late is
judged_of false false pull since now old new decision e held late is = λ later. serve_not (sym is.0 ∙ later)

pub held : (pull : AskedPull) (since now : Duration) (old new : NodeState) (decision : PullDecision) → owes pull old ≡ false → pull.since ≡ Some since
    → as_nanos since + 4_000_000_000 ≤ as_nanos now → IsJudged pull now old new decision → decision ≢ Later
held pull since now old new decision owed is_held late is = judged_of (owes pull old) pull.waits pull since now old new decision owed is_held late is
