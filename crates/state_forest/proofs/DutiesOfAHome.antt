-- what the records of a home owe, one record after the other, is exactly what is due at their seats
use Rattle.std.proofs.Common.{◌≡◌, ◌<◌, ◌≤◌, ◌&&◌, ◌+◌, ◌++◌, ℕ, zero, suc, List, [], ◌∷◌, inl, inr, refl, sym, ap, ◌∙◌, Bool, true, false, cond, arith, Option, Some, None, filter, flat_map, get_or, length, map, slice_get, subst, take}
use Rattle.std.specs.List.{AllByRecursion, range_with_len}
use Rattle.std.specs.Option.{option_map_or}
use Rattle.std.proofs.lemmas.List.{append-nil, take_all, take_more}
use Rattle.std.proofs.lemmas.List.Concat.{flat_map-append}
use Rattle.std.proofs.lemmas.List.Elements.{filter-append}
use Rattle.state_ids.specs.Ids.{Id, is_fact_number}
use Rattle.state_ids.specs.declared.outcome.Act.TheVariants.{Complete as CompleteAct}
use Rattle.state_facts.specs.declared.fact.Fact.{Fact}
use Rattle.state_facts.specs.Lists.{In}
use Rattle.state_facts.specs.Duties.{is_after_duty, is_forget_duty, is_pending}
use Rattle.state_facts.specs.Sets.{demands, IsNumbered}
use Rattle.state_forest.specs.declared.duties.Due.{Due}
use Rattle.state_forest.specs.declared.duties.DutyKind.{DutyKind}
use Rattle.state_forest.specs.declared.duties.DutyKind.TheVariants.{Complete, Forget, Tell}
use Rattle.state_forest.specs.declared.duties.Owing.{Owing}
use Rattle.state_forest.specs.declared.record.Member.{Member}
use Rattle.state_forest.specs.declared.record.Member.TheVariants.{Nested, Participant, Left}
use Rattle.state_forest.specs.declared.record.Participant.{Participant as ParticipantRecord}
use Rattle.state_forest.specs.declared.record.Record.{Record}
use Rattle.state_forest.specs.Dues.{AreAll, IsDueAt, is_before, is_complete_duty}
use Rattle.state_forest.specs.Forests.{AreOf, id_of}
use Rattle.state_forest.specs.MembersByNumber.{numbered}
use Rattle.state_forest.specs.Owings.{duty_of, owed_by, owed_of, owes, owes_at, owing_at, owing_of}
use Rattle.state_forest.specs.Participants.{participant_at}
use Rattle.state_forest.specs.RecordDues.{due_to_complete, due_to_forget, due_to_hear, is_to_complete_at, seats, seats_of}
use Rattle.state_forest.specs.Said.{is_owed, is_owed_at, is_to_hear, is_to_hear_at, participant_of, want_at}
use Rattle.state_forest.specs.Shape.{found_at}
use Rattle.state_forest.specs.Standing.{IsNested, IsSeated, IsWhole, Stands}
use Rattle.state_forest.proofs.Bools.{all_in}
use Rattle.state_forest.proofs.ToldByChains.{hears_owes, owed_owes, owing_said}
use Rattle.state_forest.proofs.DueByRecord.{AreDoneSoFar, complete_owes, errand_more, errand_whole, record_number}
use Rattle.state_forest.proofs.NumberedMembers.{numbered_at}
use Rattle.state_forest.proofs.Overdue.{at, find_at, found_in, number_passes}

-- The seats of one record

-- the members numbered from k that owe something are those at seats that pass the test, if both
-- tests agree
seated : (test : Due → Bool) (owing : Owing) (l : Id) (k : ℕ) (ms : List Member) → ((j : ℕ) (m : Member) → slice_get ms j ≡ Some m → test (record { lra = l; member = k + j }) ≡ owes_at owing m)
    → owed_by owing l k ms ≡ filter test (map (λ i. record { lra = l; member = i }) (range_with_len k (length ms)))
seated test owing l k [] same = refl
seated test owing l k (m ∷ ms) same = ap (λ (b : Bool). cond b (record { lra = l; member = k } ∷ owed_by owing l (k + 1) ms) (owed_by owing l (k + 1) ms)) (sym here) ∙ ap (λ (ds : List Due). cond (test (record { lra = l; member = k })) (record { lra = l; member = k } ∷ ds) ds) (seated test owing l (k + 1) ms behind)
  where
    here : test (record { lra = l; member = k }) ≡ owes_at owing m
    here = let first : k ≡ k + 0 = omega arith in ap (λ (i : ℕ). test (record { lra = l; member = i })) first ∙ same 0 m refl

    behind : (j : ℕ) (x : Member) → slice_get ms j ≡ Some x → test (record { lra = l; member = k + 1 + j }) ≡ owes_at owing x
    behind j x e = let next : k + 1 + j ≡ k + suc j = omega arith in ap (λ (i : ℕ). test (record { lra = l; member = i })) next ∙ same (suc j) x e

-- the errand is due of the participant at a seat
abbrev pub is_due_by : DutyKind → (ℕ → Option Record) → Due → Bool
is_due_by Complete at d = is_to_complete_at at d.lra.num d.member
is_due_by Forget at d = is_owed_at at d.lra.num d.member
is_due_by Tell at d = is_to_hear_at at d.lra.num d.member

-- the errand is due there, if the member with this number is m
due_if : (errand : DutyKind) (at : ℕ → Option Record) (r : Record) (i : ℕ) (m : Member) → at r.num ≡ Some r → numbered r.members i ≡ Some m → is_due_by errand at (record { lra = id_of r; member = i }) ≡ owes_at (owing_at errand at r) m
due_if errand at r i m found there = by errand m joined
  where
    joined : participant_of at r.num i ≡ participant_at (Some m)
    joined = ap (λ (o : Option Record). participant_at (numbered (option_map_or (λ (q : Record). q.members) o []) i)) found ∙ ap participant_at there

    forget : (o : Option ParticipantRecord) → participant_of at r.num i ≡ o → is_owed_at at r.num i ≡ option_map_or (is_owed at r) o false
    forget o e =
        ap (λ (q : Option Record). option_map_or (λ (x : Record). option_map_or (is_owed at x) (participant_of at r.num i) false) q false) found
        ∙ ap (λ (q : Option ParticipantRecord). option_map_or (is_owed at r) q false) e

    hear : (o : Option ParticipantRecord) → participant_of at r.num i ≡ o → is_to_hear_at at r.num i ≡ option_map_or (is_to_hear at r) o false
    hear o e =
        ap (λ (q : Option Record). option_map_or (λ (x : Record). option_map_or (is_to_hear at x) (participant_of at r.num i) false) q false) found
        ∙ ap (λ (q : Option ParticipantRecord). option_map_or (is_to_hear at r) q false) e

    complete : (o : Option ParticipantRecord) → participant_of at r.num i ≡ o → is_to_complete_at at r.num i ≡ option_map_or (λ (p : ParticipantRecord). owes (owing_at Complete at r) p) o false
    complete None e = ap (λ (q : Option ParticipantRecord). option_map_or (λ (p : ParticipantRecord). demands (want_at at r.num) p.links CompleteAct && is_pending p.completed) q false) e
    complete (Some p) e = ap (λ (q : Option ParticipantRecord). option_map_or (λ (p : ParticipantRecord). demands (want_at at r.num) p.links CompleteAct && is_pending p.completed) q false) e ∙ complete_owes (want_at at r.num) p

    by : (e : DutyKind) (x : Member) → participant_of at r.num i ≡ participant_at (Some x) → is_due_by e at (record { lra = id_of r; member = i }) ≡ owes_at (owing_at e at r) x
    by Complete (Nested n) e = complete None e
    by Complete Left e = complete None e
    by Complete (Participant p) e = complete (Some p) e
    by Forget (Nested n) e = forget None e
    by Forget Left e = forget None e
    by Forget (Participant p) e = forget (Some p) e ∙ owed_owes at r p
    by Tell (Nested n) e = hear None e
    by Tell Left e = hear None e
    by Tell (Participant p) e = hear (Some p) e ∙ hears_owes at r p

seats_owe : (errand : DutyKind) (home : ℕ) (at : ℕ → Option Record) (r : Record) → r.home ≡ home → at r.num ≡ Some r → owed_by (owing_at errand at r) (record { home = home; num = r.num }) 1 r.members ≡ filter (is_due_by errand at) (seats_of r)
seats_owe errand home at r own found =
    ap (λ (h : ℕ). owed_by (owing_at errand at r) (record { home = h; num = r.num }) 1 r.members) (sym own)
    ∙ seated (is_due_by errand at) (owing_at errand at r) (id_of r) 1 r.members (λ j m e. due_if errand at r (1 + j) m found (numbered_at r.members j (1 + j) m (omega arith) e))

-- The seats of all records

each_owes : (errand : DutyKind) (home : ℕ) (at : ℕ → Option Record) (rs : List Record) → ((r : Record) → In r rs → (r.home ≡ home) × (at r.num ≡ Some r)) → flat_map (owed_of errand home at) rs ≡ filter (is_due_by errand at) (seats rs)
each_owes errand home at [] known = refl
each_owes errand home at (r ∷ rs) known = by (is_fact_number r.num) (each_owes errand home at rs (λ q i. known q (inr i)))
  where
    own : (r.home ≡ home) × (at r.num ≡ Some r)
    own = known r (inl refl)

    by : (b : Bool) → flat_map (owed_of errand home at) rs ≡ filter (is_due_by errand at) (seats rs)
        → cond b (owed_by (owing_at errand at r) (record { home = home; num = r.num }) 1 r.members) [] ++ flat_map (owed_of errand home at) rs
        ≡ filter (is_due_by errand at) (flat_map seats_of (cond b (r ∷ filter (λ (q : Record). is_fact_number q.num) rs) (filter (λ (q : Record). is_fact_number q.num) rs)))
    by true rest =
        ap (λ (ds : List Due). ds ++ flat_map (owed_of errand home at) rs) (seats_owe errand home at r own.0 own.1)
        ∙ ap (λ (ds : List Due). filter (is_due_by errand at) (seats_of r) ++ ds) rest
        ∙ sym (filter-append (is_due_by errand at) (seats_of r) (seats rs))
    by false rest = rest

pub owed_at_seats : (errand : DutyKind) (home : ℕ) (records : List Record) → AreOf home records → flat_map (owed_of errand home (found_at home records)) records ≡ filter (is_due_by errand (found_at home records)) (seats records)
owed_at_seats errand home records order = each_owes errand home (found_at home records) records (λ r i. (all_in (λ (q : Record). q.home ≡ home) records order.homes r i, found_in home records r order i))

-- What a set has due

pub some_at : (rs : List Record) (i : ℕ) → i < length rs → (r : Record) × (r ≡ get_or rs i r)
some_at [] i less = absurd (omega (arith, less))
some_at (r ∷ rs) zero less = (r, refl)
some_at (r ∷ rs) (suc i) less = some_at rs i (omega (arith, less))

so_far : (errand : DutyKind) (nodes home : ℕ) (S : List Fact) (records : List Record) → IsWhole S → IsSeated S → IsNested S → AllByRecursion IsNumbered S → AreOf home records → Stands nodes home S records → (i : ℕ) → i ≤ length records → AreDoneSoFar errand home S (take i records) (flat_map (owed_of errand home (found_at home records)) (take i records))
so_far errand nodes home S records whole seated nest numbered order stands zero less = record { all = λ x p. absurd p.1.1; only = λ x inside. absurd inside; order = tt }
so_far errand nodes home S records whole seated nest numbered order stands (suc i) less =
    let there = some_at records i (omega (arith, less)) in
    let r = there.0 in
    let f = owed_of errand home (found_at home records) in
    let found = find_at home records i r order (omega (arith, less)) there.1 in
    let passes = number_passes r.num (record_number nodes home S records r numbered stands found) in
    let one : flat_map f (r ∷ []) ≡ owed_by (owing_of errand S (at home r.num)) (at home r.num) 1 r.members =
    append-nil (f r)
    ∙ ap (λ (b : Bool). cond b (owed_by (owing_at errand (found_at home records) r) (at home r.num) 1 r.members) []) passes
    ∙ ap (λ (owing : Owing). owed_by owing (at home r.num) 1 r.members) (owing_said errand nodes home S records r whole nest stands found) in
    let next : take (i + 1) records ≡ take i records ++ r ∷ [] = take_more records i r (omega (arith, less)) ∙ ap (λ (q : Record). take i records ++ q ∷ []) (sym there.1) in
    let added = ap (flat_map f) next ∙ flat_map-append f (take i records) (r ∷ []) ∙ ap (λ (ds : List Due). flat_map f (take i records) ++ ds) one in
    let more : suc i ≡ i + 1 = omega arith in
    subst (λ (k : ℕ). AreDoneSoFar errand home S (take k records) (flat_map f (take k records))) (sym more)
    (errand_more errand nodes home S records i r (flat_map f (take i records)) (flat_map f (take (i + 1) records)) seated order stands (omega (arith, less)) there.1 found added
    (so_far errand nodes home S records whole seated nest numbered order stands i (omega (arith, less))))

owed_settled : (errand : DutyKind) (nodes home : ℕ) (S : List Fact) (records : List Record) → IsWhole S → IsSeated S → IsNested S → AllByRecursion IsNumbered S → AreOf home records → Stands nodes home S records → AreAll (IsDueAt home S (duty_of errand)) is_before (flat_map (owed_of errand home (found_at home records)) records)
owed_settled errand nodes home S records whole seated nest numbered order stands =
    errand_whole errand nodes home S records (flat_map (owed_of errand home (found_at home records)) records) stands
    (subst (λ (rs : List Record). AreDoneSoFar errand home S rs (flat_map (owed_of errand home (found_at home records)) rs)) (take_all (length records) records (omega arith))
    (so_far errand nodes home S records whole seated nest numbered order stands (length records) (omega arith)))

-- For callers that know a set

pub completions_settled : (nodes home : ℕ) (S : List Fact) (records : List Record) → IsWhole S → IsSeated S → IsNested S → AllByRecursion IsNumbered S → AreOf home records → Stands nodes home S records → AreAll (IsDueAt home S is_complete_duty) is_before (due_to_complete (found_at home records) records)
completions_settled nodes home S records whole seated nest numbered order stands =
    subst (λ (ds : List Due). AreAll (IsDueAt home S is_complete_duty) is_before ds) (owed_at_seats Complete home records order) (owed_settled Complete nodes home S records whole seated nest numbered order stands)

pub forgets_settled : (nodes home : ℕ) (S : List Fact) (records : List Record) → IsWhole S → IsSeated S → IsNested S → AllByRecursion IsNumbered S → AreOf home records → Stands nodes home S records → AreAll (IsDueAt home S is_forget_duty) is_before (due_to_forget (found_at home records) records)
forgets_settled nodes home S records whole seated nest numbered order stands =
    subst (λ (ds : List Due). AreAll (IsDueAt home S is_forget_duty) is_before ds) (owed_at_seats Forget home records order) (owed_settled Forget nodes home S records whole seated nest numbered order stands)

pub hearings_settled : (nodes home : ℕ) (S : List Fact) (records : List Record) → IsWhole S → IsSeated S → IsNested S → AllByRecursion IsNumbered S → AreOf home records → Stands nodes home S records → AreAll (IsDueAt home S is_after_duty) is_before (due_to_hear (found_at home records) records)
hearings_settled nodes home S records whole seated nest numbered order stands =
    subst (λ (ds : List Due). AreAll (IsDueAt home S is_after_duty) is_before ds) (owed_at_seats Tell home records order) (owed_settled Tell nodes home S records whole seated nest numbered order stands)
