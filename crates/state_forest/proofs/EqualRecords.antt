-- `==` of records is true of equal records, and of no others
use Rattle.std.proofs.Common.{◌≡◌, ◌&&◌, ◌==◌, ◌++◌, ◌-◌, ◌∷◌, [], ℕ, List, refl, sym, ap, subst, ◌∙◌, Bool, true, false, Option, Some, None, length, replicate}
use Rattle.std.specs.Bool.{Decides, beq}
use Rattle.std.specs.Option.{option_eq}
use Rattle.std.specs.Cmp.Lexicographic.{pointwise, pointwise_decides, bytes_decides}
use Rattle.std.specs.Str.{bytes_eq}
use Rattle.std.proofs.lemmas.Bool.Decides.{Decides-eqb}
use Rattle.state_ids.specs.contracts.front.FrontPartialEq.TheImpl as of_fronts
use Rattle.state_ids.specs.declared.outcome.Outcome.{Outcome}
use Rattle.state_ids.specs.declared.outcome.Outcome.TheVariants.{Busy, Done, Failed}
use Rattle.state_ids.specs.declared.outcome.Verdict.{Verdict}
use Rattle.state_ids.specs.declared.outcome.Verdict.TheVariants.{Close, Cancel}
use Rattle.state_ids.specs.contracts.outcome.OutcomePartialEq.TheImpl as of_outcomes
use Rattle.state_ids.specs.contracts.outcome.VerdictPartialEq.TheImpl as of_verdicts
use Rattle.state_facts.specs.Links.{Links}
use Rattle.state_facts.specs.contracts.links.LinksPartialEq.TheImpl as of_links
use Rattle.state_forest.specs.declared.record.Place.{Place}
use Rattle.state_forest.specs.declared.record.Participant.{Participant as ParticipantRecord}
use Rattle.state_forest.specs.declared.record.Record.{Record}
use Rattle.state_forest.specs.declared.record.Member.{Member}
use Rattle.state_forest.specs.declared.record.Member.TheVariants.{Nested, Participant, Left}
use Rattle.state_forest.specs.contracts.record.PlacePartialEq.TheImpl as of_places
use Rattle.state_forest.specs.contracts.record.ParticipantPartialEq.TheImpl as of_participants
use Rattle.state_forest.specs.contracts.record.MemberPartialEq.TheImpl as of_members
use Rattle.state_forest.specs.contracts.record.RecordPartialEq.TheImpl as of_records
use Rattle.state_forest.proofs.Bools.{and_left, and_right}
use Rattle.state_forest.proofs.MembersAndStamps.{same_record}

-- the test is true only of equal values
abbrev pub Same : {X : Type 0} → (X → X → Bool) → Type 0
Same {X} test = (a b : X) → test a b ≡ true → a ≡ b

-- the test is true of each value and itself
abbrev pub Own : {X : Type 0} → (X → X → Bool) → Type 0
Own {X} test = (a : X) → test a a ≡ true

decided : {X : Type 0} (test : X → X → Bool) → Same test → Own test → (a b : X) → Decides (test a b) (a ≡ b)
decided test same own a b = (same a b, λ e. subst (λ x. test a x ≡ true) e (own a))

pub all_true : (a b : Bool) → a ≡ true → b ≡ true → (a && b) ≡ true
all_true a b e f = rw (e, f) refl

pub number_same : (a b : ℕ) → (a == b) ≡ true → a ≡ b
number_same a b e = (Decides-eqb a b).0 e

pub number_own : (a : ℕ) → (a == a) ≡ true
number_own a = (Decides-eqb a a).1 refl

pub text_same : (a b : List ℕ) → bytes_eq a b ≡ true → a ≡ b
text_same a b e = (bytes_decides a b).0 e

pub text_own : (a : List ℕ) → bytes_eq a a ≡ true
text_own a = (bytes_decides a a).1 refl

pub option_same : {X : Type 0} (test : X → X → Bool) → Same test → Same (option_eq test)
option_same test same None None e = refl
option_same test same None (Some b) e = absurd cc
option_same test same (Some a) None e = absurd cc
option_same test same (Some a) (Some b) e = ap (λ x. Some x) (same a b e)

pub option_own : {X : Type 0} (test : X → X → Bool) → Own test → Own (option_eq test)
option_own test own None = refl
option_own test own (Some a) = own a

pub bool_same : Same beq
bool_same true true e = refl
bool_same false false e = refl
bool_same true false e = absurd cc
bool_same false true e = absurd cc

pub bool_own : Own beq
bool_own true = refl
bool_own false = refl

pub verdict_same : Same of_verdicts.ghosts.eq
verdict_same Close Close e = refl
verdict_same Cancel Cancel e = refl
verdict_same Close Cancel e = absurd cc
verdict_same Cancel Close e = absurd cc

verdict_own : Own of_verdicts.ghosts.eq
verdict_own Close = refl
verdict_own Cancel = refl

pub outcome_same : Same of_outcomes.ghosts.eq
outcome_same Busy Busy e = refl
outcome_same Done Done e = refl
outcome_same Failed Failed e = refl
outcome_same Busy Done e = absurd cc
outcome_same Busy Failed e = absurd cc
outcome_same Done Busy e = absurd cc
outcome_same Done Failed e = absurd cc
outcome_same Failed Busy e = absurd cc
outcome_same Failed Done e = absurd cc

outcome_own : Own of_outcomes.ghosts.eq
outcome_own Busy = refl
outcome_own Done = refl
outcome_own Failed = refl

prefix_same : (xs ys zs ws : List ℕ) → length xs ≡ length ys → xs ++ zs ≡ ys ++ ws → xs ≡ ys
prefix_same [] [] zs ws e s = refl
prefix_same [] (y ∷ ys) zs ws e s = absurd cc
prefix_same (x ∷ xs) [] zs ws e s = absurd cc
prefix_same (x ∷ xs) (y ∷ ys) zs ws e s =
    let first : x ≡ y = cc in
    let rest : xs ++ zs ≡ ys ++ ws = cc in
    let long : length xs ≡ length ys = cc in
    ap (λ z. z ∷ xs) first ∙ ap (λ zs. y ∷ zs) (prefix_same xs ys zs ws long rest)

-- `==` of two fronts compares them as they are kept, filled up with zeros to 8 counts
front_is : (a b : List ℕ) → of_fronts.ghosts.eq a b ≡ ((length a == length b) && bytes_eq (a ++ replicate (8 - length a) 0) (b ++ replicate (8 - length b) 0))
front_is a b = refl

pub front_same : Same of_fronts.ghosts.eq
front_same a b e =
    let is = sym (front_is a b) ∙ e in
    prefix_same a b (replicate (8 - length a) 0) (replicate (8 - length b) 0) (number_same (length a) (length b) (and_left (length a == length b) _ is))
    (text_same _ _ (and_right (length a == length b) _ is))

pub front_own : Own of_fronts.ghosts.eq
front_own a = front_is a a ∙ all_true (length a == length a) _ (number_own (length a)) (text_own (a ++ replicate (8 - length a) 0))

place_is : (a b : Place) → of_places.ghosts.eq a b ≡ ((a.number == b.number) && (a.slot == b.slot))
place_is a b = refl

place_same : Same of_places.ghosts.eq
place_same a b e =
    let is = sym (place_is a b) ∙ e in
    let number = number_same a.number b.number (and_left (a.number == b.number) _ is) in
    let slot = number_same a.slot b.slot (and_right (a.number == b.number) _ is) in
    let first : ◌≡◌ {A = Place} (record { number = a.number; slot = a.slot }) (record { number = b.number; slot = a.slot }) = ap (λ (x : ℕ). record { number = x; slot = a.slot }) number in
    first ∙ ap (λ (x : ℕ). record { number = b.number; slot = x }) slot

place_own : Own of_places.ghosts.eq
place_own a = place_is a a ∙ all_true (a.number == a.number) (a.slot == a.slot) (number_own a.number) (number_own a.slot)

abbrev same_link : Option (List ℕ) → Option (List ℕ) → Bool
same_link = option_eq bytes_eq

links_is : (a b : Links) → of_links.ghosts.eq a b ≡ (same_link a.complete b.complete && (same_link a.compensate b.compensate && (same_link a.status b.status && (same_link a.forget b.forget && same_link a.after b.after))))
links_is a b = refl

pub links_same : Same of_links.ghosts.eq
links_same a b e =
    let same = option_same bytes_eq text_same in
    let is = sym (links_is a b) ∙ e in
    let second = and_right (same_link a.complete b.complete) _ is in
    let third = and_right (same_link a.compensate b.compensate) _ second in
    let fourth = and_right (same_link a.status b.status) _ third in
    let complete = same a.complete b.complete (and_left (same_link a.complete b.complete) _ is) in
    let compensate = same a.compensate b.compensate (and_left (same_link a.compensate b.compensate) _ second) in
    let status = same a.status b.status (and_left (same_link a.status b.status) _ third) in
    let forget = same a.forget b.forget (and_left (same_link a.forget b.forget) _ fourth) in
    let after = same a.after b.after (and_right (same_link a.forget b.forget) _ fourth) in
    let all : ◌≡◌ {A = Links} (record { complete = a.complete; compensate = a.compensate; status = a.status; forget = a.forget; after = a.after }) (record { complete = b.complete; compensate = b.compensate; status = b.status; forget = b.forget; after = b.after }) = rw (complete, compensate, status, forget, after) refl in
    all

pub links_own : Own of_links.ghosts.eq
links_own a =
    let given = option_own bytes_eq text_own in
    links_is a a
    ∙ all_true (same_link a.complete a.complete) _ (given a.complete)
    (all_true (same_link a.compensate a.compensate) _ (given a.compensate)
    (all_true (same_link a.status a.status) _ (given a.status) (all_true (same_link a.forget a.forget) _ (given a.forget) (given a.after))))

abbrev same_heard : Option Outcome → Option Outcome → Bool
same_heard = option_eq of_outcomes.ghosts.eq

participant_is : (a b : ParticipantRecord) → of_participants.ghosts.eq a b ≡ (of_links.ghosts.eq a.links b.links && (same_heard a.completed b.completed && (same_heard a.compensated b.compensated && (beq a.forgotten b.forgotten && beq a.told b.told))))
participant_is a b = refl

participant_same : Same of_participants.ghosts.eq
participant_same a b e =
    let is = sym (participant_is a b) ∙ e in
    let second = and_right (of_links.ghosts.eq a.links b.links) _ is in
    let third = and_right (same_heard a.completed b.completed) _ second in
    let fourth = and_right (same_heard a.compensated b.compensated) _ third in
    let links = links_same a.links b.links (and_left (of_links.ghosts.eq a.links b.links) _ is) in
    let completed = option_same of_outcomes.ghosts.eq outcome_same a.completed b.completed (and_left (same_heard a.completed b.completed) _ second) in
    let compensated = option_same of_outcomes.ghosts.eq outcome_same a.compensated b.compensated (and_left (same_heard a.compensated b.compensated) _ third) in
    let forgotten = bool_same a.forgotten b.forgotten (and_left (beq a.forgotten b.forgotten) _ fourth) in
    let told = bool_same a.told b.told (and_right (beq a.forgotten b.forgotten) _ fourth) in
    let all : ◌≡◌ {A = ParticipantRecord} (record { links = a.links; completed = a.completed; compensated = a.compensated; forgotten = a.forgotten; told = a.told }) (record { links = b.links; completed = b.completed; compensated = b.compensated; forgotten = b.forgotten; told = b.told }) = rw (links, completed, compensated, forgotten, told) refl in
    all

participant_own : Own of_participants.ghosts.eq
participant_own a =
    let known = option_own of_outcomes.ghosts.eq outcome_own in
    participant_is a a
    ∙ all_true (of_links.ghosts.eq a.links a.links) _ (links_own a.links)
    (all_true (same_heard a.completed a.completed) _ (known a.completed)
    (all_true (same_heard a.compensated a.compensated) _ (known a.compensated) (all_true (beq a.forgotten a.forgotten) _ (bool_own a.forgotten) (bool_own a.told))))

both_participants : (a b : ParticipantRecord) → of_members.ghosts.eq (Participant a) (Participant b) ≡ of_participants.ghosts.eq a b
both_participants a b = refl

member_same : Same of_members.ghosts.eq
member_same (Nested m) (Nested n) e = ap (λ x. Nested x) (number_same m n e)
member_same (Participant p) (Participant q) e = ap (λ x. Participant x) (participant_same p q (sym (both_participants p q) ∙ e))
member_same Left Left e = refl
member_same (Nested m) (Participant q) e = absurd cc
member_same (Nested m) Left e = absurd cc
member_same (Participant p) (Nested n) e = absurd cc
member_same (Participant p) Left e = absurd cc
member_same Left (Nested n) e = absurd cc
member_same Left (Participant q) e = absurd cc

member_own : Own of_members.ghosts.eq
member_own (Nested m) = number_own m
member_own (Participant p) = both_participants p p ∙ participant_own p
member_own Left = refl

members_decide : (a b : List Member) → Decides (pointwise of_members.ghosts.eq a b) (a ≡ b)
members_decide a b = pointwise_decides (decided of_members.ghosts.eq member_same member_own) a b

abbrev same_place : Option Place → Option Place → Bool
same_place = option_eq of_places.ghosts.eq

abbrev same_decision : Option Verdict → Option Verdict → Bool
same_decision = option_eq of_verdicts.ghosts.eq

record_is : (a b : Record) → of_records.ghosts.eq a b ≡ ((a.home == b.home) && ((a.num == b.num) && (same_place a.parent b.parent && ((a.deadline == b.deadline) && (same_decision a.decision b.decision && (of_fronts.ghosts.eq a.stamps b.stamps && pointwise of_members.ghosts.eq a.members b.members))))))
record_is a b = refl

record_same : Same of_records.ghosts.eq
record_same a b e =
    let is = sym (record_is a b) ∙ e in
    let from_num = and_right (a.home == b.home) _ is in
    let from_parent = and_right (a.num == b.num) _ from_num in
    let from_deadline = and_right (same_place a.parent b.parent) _ from_parent in
    let from_decision = and_right (a.deadline == b.deadline) _ from_deadline in
    let from_stamps = and_right (same_decision a.decision b.decision) _ from_decision in
    same_record a b (number_same a.home b.home (and_left (a.home == b.home) _ is)) (number_same a.num b.num (and_left (a.num == b.num) _ from_num))
    (option_same of_places.ghosts.eq place_same a.parent b.parent (and_left (same_place a.parent b.parent) _ from_parent))
    (number_same a.deadline b.deadline (and_left (a.deadline == b.deadline) _ from_deadline))
    (option_same of_verdicts.ghosts.eq verdict_same a.decision b.decision (and_left (same_decision a.decision b.decision) _ from_decision))
    (front_same a.stamps b.stamps (and_left (of_fronts.ghosts.eq a.stamps b.stamps) _ from_stamps))
    ((members_decide a.members b.members).0 (and_right (of_fronts.ghosts.eq a.stamps b.stamps) _ from_stamps))

record_own : Own of_records.ghosts.eq
record_own a =
    record_is a a
    ∙ all_true (a.home == a.home) _ (number_own a.home)
    (all_true (a.num == a.num) _ (number_own a.num)
    (all_true (same_place a.parent a.parent) _ (option_own of_places.ghosts.eq place_own a.parent)
    (all_true (a.deadline == a.deadline) _ (number_own a.deadline)
    (all_true (same_decision a.decision a.decision) _ (option_own of_verdicts.ghosts.eq verdict_own a.decision)
    (all_true (of_fronts.ghosts.eq a.stamps a.stamps) _ (front_own a.stamps) ((members_decide a.members a.members).1 refl))))))

-- `==` of two records decides whether they are equal
pub record_decides : (a b : Record) → Decides (of_records.ghosts.eq a b) (a ≡ b)
record_decides a b = decided of_records.ghosts.eq record_same record_own a b

-- `==` of two lists of records decides whether they are equal
pub records_decide : (a b : List Record) → Decides (pointwise of_records.ghosts.eq a b) (a ≡ b)
records_decide a b = pointwise_decides (decided of_records.ghosts.eq record_same record_own) a b
