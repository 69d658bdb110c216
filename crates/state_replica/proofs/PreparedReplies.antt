-- What a prepare answers from its view alone, and that this is what the definitions give for each
-- set that the view stands for
use Rattle.std.proofs.Common.{◌≡◌, ◌⊎◌, inl, inr, ◌≤◌, ◌<◌, ◌+◌, ◌-◌, ℕ, zero, suc, List, [], ◌∷◌, refl, sym, ap, subst, ◌∙◌, Bool, true, false, arith, Option, Some, None, Result, Ok, Err, IfOk, is_some, length}
use Rattle.std.specs.Option.{option_map_or}
use Rattle.state_ids.specs.Ids.{Id}
use Rattle.state_ids.specs.Fronts.{count}
use Rattle.state_ids.specs.declared.outcome.Verdict.{Verdict}
use Rattle.state_ids.specs.declared.status.LraStatus.{LraStatus}
use Rattle.state_ids.specs.declared.status.MemberStatus.{MemberStatus}
use Rattle.state_facts.specs.declared.fact.Fact.{Fact}
use Rattle.state_facts.specs.declared.refusal.Refusal.{Refusal}
use Rattle.state_facts.specs.declared.refusal.Refusal.TheVariants.{NoMemory, NotHeld, UnknownMember}
use Rattle.state_facts.specs.Refusals.{unless, first, unknown, spent}
use Rattle.state_facts.specs.Sets.{is_held, member_status, shows_now}
use Rattle.state_forest.specs.declared.record.Member.{Member}
use Rattle.state_forest.specs.declared.record.Record.{Record}
use Rattle.state_forest.specs.Forests.{id_of}
use Rattle.state_forest.specs.MembersByNumber.{numbered}
use Rattle.state_forest.specs.Participants.{participant_at}
use Rattle.state_forest.specs.Places.{put_record}
use Rattle.state_forest.specs.Said.{members_at, shown_at}
use Rattle.state_forest.specs.Shape.{found_at}
use Rattle.state_facts.specs.declared.command.Command.{Command}
use Rattle.state_facts.specs.declared.command.Command.TheVariants.{Begin, Join, Leave, Decide, Report, Forgot, Told, Purge}
use Rattle.state_facts.specs.declared.command.CommandReply.{CommandReply}
use Rattle.state_facts.specs.declared.command.CommandReply.TheVariants.{Decided}
use Rattle.theory_history.specs.Growth.{IsSettled, member_changed, forgetting, hearing, record_after}
use Rattle.theory_history.specs.Next.{accepted_on, change_on, change_record, changed, judge_on, next_fact_on, member_shown_on, no_change, shown_on}
use Rattle.theory_history.specs.Changes.{with_stamp, Change, one_change, patched}
use Rattle.theory_history.specs.Replies.{member_shown, shown_of, refusal_by, Denied, Judgement, AlreadyKnown, Accepted, accepted, judge, reply_by}
use Rattle.theory_history.specs.Readings.{at_home, by_view}
use Rattle.theory_history.specs.Views.{StandsFor, View, record_at, records_at}
use Rattle.theory_history.proofs.SameReadings.{IsPlain, forgot_passed, judge_view, told_passed, view_alike}
use Rattle.theory_history.proofs.ReplyOrRefusal.{reply_denied, reply_accepted}
use Rattle.theory_history.proofs.ViewReplies.{accepted_open, decide_passed, found_id, found_there, changed_records, nest_passed, numbers_on, is_added}
use Rattle.state_replica.specs.declared.commands.notices.Notice.{Notice}
use Rattle.state_replica.specs.declared.commands.notices.Notice.TheVariants.{ToForget, OfTheEnd}
use Rattle.state_replica.specs.declared.patch.Prepared.{Prepared}
use Rattle.state_replica.specs.Notices.{command_for, noted, reply_to}
use Rattle.state_replica.specs.Prepared.{IsAnswer, IsNext, IsReadyNext, IsPrepared}

-- Answers

pub answer_accepted : (j : Judgement) (reply given : CommandReply) (change made : Change) → j ≡ Accepted → given ≡ reply → made ≡ change → IsAnswer j reply change (Ok (record { reply = given; patch = Some made }))
answer_accepted j reply given change made e same is =
    subst (λ (k : Judgement). IsAnswer k reply change (Ok (record { reply = given; patch = Some made }))) (sym e)
    (inr (ap (λ (x : CommandReply). Ok (record { reply = x; patch = Some made })) same ∙ ap (λ (x : Change). Ok (record { reply = reply; patch = Some x })) is))

-- A leave

-- a participant that is found has a number from 1 on
some_number : (at : ℕ → Option Record) (num m : ℕ) → is_some (participant_at (numbered (members_at at num) m)) ≡ true → 1 ≤ m
some_number at num zero e = absurd cc
some_number at num (suc m) e = omega arith

-- a command that changes one member of an LRA changes its record in that member
pub member_next : (view : View) (me : ℕ) (c : Command) (l : Id) (m : ℕ) (f : Member → Member) (reply : CommandReply) (copy : Record) (members : List Member) (change : Change)
    → (judge_on view me c ≡ Accepted → 1 ≤ m) → reply ≡ accepted_on view me c → change_record view me c l ≡ change_on view me c
    → ((old : Record) → record (with_stamp me (count view.front me + 1) old) { members = member_changed f (m - 1) old.members } ≡ record_after (next_fact_on view me c) old)
    → IsReadyNext view me c l (Ok copy) → (1 ≤ m → members ≡ member_changed f (m - 1) copy.members) → change ≡ one_change view me (record copy { members = members })
    → IsNext view me c (Ok (record { reply = reply; patch = Some change }))
member_next view me c l m f reply copy members change some replied changes after ready is change_is =
    let old = ready.1.0 in
    let same : copy.members ≡ old.members = ap (λ (r : Record). r.members) ready.1.2 in
    let next : record copy { members = members } ≡ record_after (next_fact_on view me c) old =
    ap (λ (r : Record). record r { members = members }) ready.1.2
    ∙ ap (λ (ms : List Member). record (with_stamp me (count view.front me + 1) old) { members = ms }) (is (some ready.0) ∙ ap (member_changed f (m - 1)) same)
    ∙ after old in
    answer_accepted (judge_on view me c) (accepted_on view me c) reply (change_on view me c) change ready.0 replied
    (change_is ∙ ap (one_change view me) next ∙ ap (λ (o : Option Record). option_map_or (λ (r : Record). one_change view me (record_after (next_fact_on view me c) r)) o (no_change view)) (sym ready.1.1) ∙ changes)

record_next : (view : View) (me : ℕ) (l : Id) (verdict : Verdict) (copy old : Record) → copy ≡ with_stamp me (count view.front me + 1) old → record copy { decision = Some verdict } ≡ record_after (next_fact_on view me (Decide l verdict)) old
record_next view me l verdict copy old is = ap (λ (r : Record). record r { decision = Some verdict }) is

decided_change : (view : View) (me : ℕ) (l : Id) (verdict : Verdict) (copy : Record) → (ready : IsReadyNext view me (Decide l verdict) l (Ok copy)) → one_change view me (record copy { decision = Some verdict }) ≡ change_on view me (Decide l verdict)
decided_change view me l verdict copy ready =
    let c : Command = Decide l verdict in
    ap (one_change view me) (record_next view me l verdict copy ready.1.0 ready.1.2)
    ∙ ap (λ (o : Option Record). option_map_or (λ (r : Record). one_change view me (record_after (next_fact_on view me c) r)) o (no_change view)) (sym ready.1.1)

-- what is shown with the decided record in place is what the changed view tells
pub decided_shows : (view : View) (me : ℕ) (l : Id) (verdict : Verdict) (copy : Record) (shown : Result LraStatus Refusal) → 1 ≤ me → IsReadyNext view me (Decide l verdict) l (Ok copy)
    → (is_some (record_at view (id_of copy)) ≡ true → shown ≡ Ok (shown_at (found_at copy.home (put_record (record copy { decision = Some verdict }) (records_at view.records copy.home))) copy.num))
    → shown ≡ Ok ((by_view (changed view me (Decide l verdict))).shows l)
decided_shows view me l verdict copy shown some ready says =
    let c : Command = Decide l verdict in
    let old = ready.1.0 in
    let at = ready.1.1 in
    let is = found_id view l old at in
    let own = decide_passed view me l verdict ready.0 in
    let home : copy.home ≡ l.home = ap (λ (r : Record). r.home) ready.1.2 ∙ is.0 in
    let num : copy.num ≡ l.num = ap (λ (r : Record). r.num) ready.1.2 ∙ is.1 in
    let id : id_of copy ≡ l = ap (λ (h : ℕ). record { home = h; num = copy.num }) home ∙ ap (λ (n : ℕ). record { home = l.home; num = n }) num in
    let one : 1 ≤ l.home = omega (arith, some, own.1) in
    let next : Record = record copy { decision = Some verdict } in
    let records = changed_records view me next l.home home one (found_there view l old at one) in
    let after : records_at (changed view me c).records l.home ≡ put_record next (records_at view.records l.home) =
    ap (λ (k : Change). records_at (patched k view).records l.home) (sym (decided_change view me l verdict copy ready)) ∙ records in
    says (ap (λ (k : Id). is_some (record_at view k)) id ∙ own.0)
    ∙ ap (λ (k : Id). Ok (shown_at (found_at k.home (put_record next (records_at view.records k.home))) k.num)) id
    ∙ ap (λ (rs : List Record). Ok (shown_at (found_at l.home rs) l.num)) (sym after)

pub decide_next : (view : View) (me : ℕ) (l : Id) (verdict : Verdict) (copy : Record) (status : LraStatus) (change : Change) → IsReadyNext view me (Decide l verdict) l (Ok copy)
    → status ≡ (by_view (changed view me (Decide l verdict))).shows l → change ≡ one_change view me (record copy { decision = Some verdict })
    → IsNext view me (Decide l verdict) (Ok (record { reply = Decided l status; patch = Some change }))
decide_next view me l verdict copy status change ready is change_is =
    let c : Command = Decide l verdict in
    answer_accepted (judge_on view me c) (accepted_on view me c) (Decided l status) (change_on view me c) change ready.0 (ap (λ (s : LraStatus). Decided l s) is) (change_is ∙ decided_change view me l verdict copy ready)

-- Questions

pub shown_settled : (S : List Fact) (view : View) (l : Id) → IsSettled S → StandsFor S view → shown_on view l ≡ shown_of S view.front l
shown_settled S view l settled stands =
    let alike = view_alike S view settled stands in
    ap (λ (b : Bool). option_map_or (λ r. Err r) (first (unknown view.front l ∷ unless b NotHeld ∷ [])) (Ok ((by_view view).shows l))) (alike.held l)
    ∙ by (unknown view.front l) (is_held S l) (alike.shows l)
  where
    by : (o : Option Refusal) (b : Bool) → (b ≡ true → (by_view view).shows l ≡ shows_now S l) → option_map_or (λ r. Err r) (first (o ∷ unless b NotHeld ∷ [])) (Ok ((by_view view).shows l)) ≡ option_map_or (λ r. Err r) (first (o ∷ unless b NotHeld ∷ [])) (Ok (shows_now S l))
    by (Some r) b same = refl
    by None true same = ap (λ s. Ok s) (same refl)
    by None false same = refl

pub member_settled : (S : List Fact) (view : View) (l : Id) (m : ℕ) → IsSettled S → StandsFor S view → member_shown_on view l m ≡ member_shown S view.front l m
member_settled S view l m settled stands =
    let alike = view_alike S view settled stands in
    ap (λ (b : Bool). answered_member (unknown view.front l) b ((by_view view).member l m)) (alike.held l)
    ∙ by (unknown view.front l) (is_held S l) (alike.member l m)
  where
    answered_member : Option Refusal → Bool → Option MemberStatus → Result MemberStatus Refusal
    answered_member o b s = option_map_or (λ r. Err r) (first (o ∷ unless b NotHeld ∷ [])) (option_map_or (λ x. Ok x) s (Err UnknownMember))

    by : (o : Option Refusal) (b : Bool) → (b ≡ true → (by_view view).member l m ≡ member_status S l m) → answered_member o b ((by_view view).member l m) ≡ answered_member o b (member_status S l m)
    by (Some r) b same = refl
    by None true same = ap (answered_member None true) (same refl)
    by None false same = refl

pub nest_few : (view : View) (me : ℕ) (p : Id) (deadline : ℕ) (copy : Record) → judge_on view me (Begin (Some p) deadline) ≡ Accepted → ((old : Record) × (record_at view p ≡ Some old) × (copy ≡ with_stamp me (count view.front me + 1) old)) → (copy.home ≡ me) × (length copy.members < 32)
nest_few view me p deadline copy taken found =
    let own = nest_passed view me p deadline taken in (
      ap (λ (r : Record). r.home) found.2 ∙ (found_id view p found.0 found.1).0 ∙ own.1,
      omega (arith, own.2, numbers_on view p found.0 found.1, ap (λ (r : Record). length r.members) found.2),
    )

-- Notices that a participant was told to forget or told of the end

forgot_some : (view : View) (me : ℕ) (l : Id) (m : ℕ) → judge_on view me (Forgot l m) ≡ Accepted → 1 ≤ m
forgot_some view me l m taken =
    let t = by_view view in
    let none = accepted_open (refusal_by t view.front me (Forgot l m)) (t.forgot l m) (spent view.front me) taken in
    some_number (at_home view l.home) l.num m (forgot_passed t view.front me l m none).1

told_some : (view : View) (me : ℕ) (l : Id) (m : ℕ) → judge_on view me (Told l m) ≡ Accepted → 1 ≤ m
told_some view me l m taken =
    let t = by_view view in
    let none = accepted_open (refusal_by t view.front me (Told l m)) (t.told l m) (spent view.front me) taken in
    some_number (at_home view l.home) l.num m (told_passed t view.front me l m none).1

-- (two functions of one shape are one over an enum, so one lemma by cases serves both)
pub notice_next : (notice : Notice) (view : View) (me : ℕ) (l : Id) (m : ℕ) (reply : CommandReply) (copy : Record) (members : List Member) (change : Change) → reply ≡ reply_to notice → IsReadyNext view me (command_for notice l m) l (Ok copy)
    → (1 ≤ m → members ≡ member_changed (noted notice) (m - 1) copy.members) → change ≡ one_change view me (record copy { members = members })
    → IsNext view me (command_for notice l m) (Ok (record { reply = reply; patch = Some change }))
notice_next ToForget view me l m reply copy members change replied =
    member_next view me (Forgot l m) l m forgetting reply copy members change (forgot_some view me l m) replied refl (λ old. refl)
notice_next OfTheEnd view me l m reply copy members change replied =
    member_next view me (Told l m) l m hearing reply copy members change (told_some view me l m) replied refl (λ old. refl)

-- so what a prepare answers is what the definitions give
prepared_settled : (S : List Fact) (view : View) (me : ℕ) (c : Command) (result : Result Prepared Refusal) → IsPlain (length view.front) me c → me ≤ length view.front → IsSettled S → StandsFor S view
    → IfOk result (λ _. judge_on view me c ≡ Accepted → 1 ≤ me) → IsNext view me c result → IsPrepared S view me c result
prepared_settled S view me c result plain there settled stands some next = by (judge_on view me c) refl (sym (judge_view S view me c plain settled stands)) next
  where
    taken : judge_on view me c ≡ Accepted → judge S view.front me c ≡ Accepted → (r : Result Prepared Refusal) → IfOk r (λ _. judge_on view me c ≡ Accepted → 1 ≤ me)
        → (r ≡ Err NoMemory) ⊎ (r ≡ Ok (record { reply = accepted_on view me c; patch = Some (change_on view me c) })) → IsPrepared S view me c r
    taken here e (Err refusal) one (inl memory) = inl (cc, e)
    taken here e (Err refusal) one (inr wrong) = absurd cc
    taken here e (Ok prepared) one (inl wrong) = absurd cc
    taken here e (Ok prepared) one (inr is) =
        let adds = is_added S view me c plain (one here) there settled stands e in
        subst (λ (r : Result Prepared Refusal). IsPrepared S view me c r) (sym is) (adds.0 ∙ sym (reply_accepted S view.front me c e), adds.1)

    by : (j : Judgement) → judge_on view me c ≡ j → judge S view.front me c ≡ j → IsAnswer j (accepted_on view me c) (change_on view me c) result → IsPrepared S view me c result
    by (Denied r) here e is = subst (λ (x : Result Prepared Refusal). IsPrepared S view me c x) (sym is) (inr (reply_denied S view.front me c r e))
    by AlreadyKnown here e is = subst (λ (x : Result Prepared Refusal). IsPrepared S view me c x) (sym is) (sym (ap (λ (j : Judgement). reply_by j (accepted S view.front me c)) e), e)
    by Accepted here e is = taken here e result some is

-- every command is plain for one of the nodes
plain_at : (nodes me : ℕ) (c : Command) → 1 ≤ me → me ≤ nodes → IsPlain nodes me c
plain_at nodes me (Begin parent deadline) some there = (some, there)
plain_at nodes me (Join l links) some there = tt
plain_at nodes me (Leave l m) some there = tt
plain_at nodes me (Decide l verdict) some there = tt
plain_at nodes me (Report l m act outcome) some there = tt
plain_at nodes me (Forgot l m) some there = tt
plain_at nodes me (Told l m) some there = tt
plain_at nodes me (Purge root) some there = tt

-- so it is for each node and each settled set
pub prepared_of_set : (S : List Fact) (view : View) (me : ℕ) (c : Command) (result : Result Prepared Refusal) → 1 ≤ me → me ≤ length view.front → IsSettled S → StandsFor S view → IsNext view me c result → IsPrepared S view me c result
prepared_of_set S view me c result some there settled stands next =
    prepared_settled S view me c result (plain_at (length view.front) me c some there) there settled stands (some_if_ok result) next
  where
    some_if_ok : (r : Result Prepared Refusal) → IfOk r (λ _. judge_on view me c ≡ Accepted → 1 ≤ me)
    some_if_ok (Ok prepared) = λ taken. some
    some_if_ok (Err refusal) = tt
