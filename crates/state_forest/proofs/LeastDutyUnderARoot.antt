-- the least of what is due under a root
use Rattle.std.proofs.Common.{◌≡◌, ◌⊎◌, inl, inr, ◌&&◌, ◌<◌, ℕ, suc, List, [], ◌∷◌, refl, sym, ap, subst, ◌∙◌, Bool, true, false, cond, arith, Option, Some, None, find, is_some, slice_get}
use Rattle.std.specs.List.{AllByRecursion}
use Rattle.std.proofs.lemmas.Bool.Decides.{nat_tests}
use Rattle.std.specs.Option.{option_map_or}
use Rattle.state_ids.specs.Ids.{Id}
use Rattle.state_facts.specs.declared.fact.Body.{Body}
use Rattle.state_facts.specs.declared.fact.Body.TheVariants.{Begin, Join, Leave, Decide, Report, Forgot, Told, Purge}
use Rattle.state_facts.specs.declared.fact.Fact.{Fact}
use Rattle.state_facts.specs.Links.{Links}
use Rattle.state_facts.specs.Duties.{is_forget_duty, is_untold}
use Rattle.state_facts.specs.Lists.{In}
use Rattle.state_facts.specs.Sets.{is_held, is_participant, is_under, links_of, IsNumbered, NamesEarlier}
use Rattle.state_forest.specs.declared.duties.Due.{Due}
use Rattle.state_forest.specs.declared.duties.DutyKind.TheVariants.{Forget}
use Rattle.state_forest.specs.declared.record.Record.{Record}
use Rattle.state_forest.specs.declared.duties.Owing.{Owing}
use Rattle.state_forest.specs.declared.duties.Owing.TheVariants.{Hearing}
use Rattle.state_forest.specs.declared.record.Participant.{Participant as ParticipantRecord}
use Rattle.state_forest.specs.MembersByNumber.{numbered}
use Rattle.state_forest.specs.Participants.{participant_at}
use Rattle.state_forest.specs.Dues.{AreAll, IsDueAt, IsDueBelow, IsFirst, due_by, is_before, least_due, least_forget, least_untold, lesser_due}
use Rattle.state_forest.specs.Forests.{AreOf, IsAscending, id_of, is_of}
use Rattle.state_forest.specs.Owings.{owed_by, owes, owing_of}
use Rattle.state_forest.specs.Records.{members_of, record_of}
use Rattle.state_forest.specs.Said.{first_below, first_member, is_below, is_owed, is_unheard, least_below, least_owed_of, least_unheard_of}
use Rattle.state_forest.specs.Shape.{found_at}
use Rattle.state_forest.specs.Standing.{IsNested, IsSeated, IsWhole, Stands}
use Rattle.state_forest.proofs.Bools.{all_in, and_left, and_right}
use Rattle.state_forest.proofs.ToldByChains.{Agrees, below_said, first_member_is, owed_owes, owing_said}
use Rattle.state_forest.proofs.DueByRecord.{due_none, due_owes, untold_none, untold_unheard}
use Rattle.state_forest.proofs.MembersAndStamps.{find_in}
use Rattle.state_forest.proofs.Overdue.{at, found_in}
use Rattle.state_forest.proofs.OwedMembers.{owed_all}
use Rattle.state_forest.proofs.Paths.{under_home}
use Rattle.state_forest.proofs.NumberedMembers.{join_found}
use Rattle.state_forest.proofs.CompensationUnderAnLra.{held_below}
use Rattle.state_forest.proofs.RecordsOfASet.{found_is, held_if_found, stands_at}

-- The order

pub before_self : (d : Due) → is_before d d ≡ false
before_self d = grind (arith, nat_tests)

pub before_asymmetric : (a b : Due) → is_before a b ≡ true → is_before b a ≡ false
before_asymmetric a b e = grind (arith, nat_tests, e)

pub not_before : (a b c : Due) → is_before b a ≡ false → is_before c b ≡ false → is_before c a ≡ false
not_before a b c e f = grind (arith, nat_tests, e, f)

pub same_due : (a b : Due) → a.lra.home ≡ b.lra.home → is_before a b ≡ false → is_before b a ≡ false → a ≡ b
same_due a b home e f =
    let num : a.lra.num ≡ b.lra.num = grind (arith, nat_tests, e, f) in
    let member : a.member ≡ b.member = grind (arith, nat_tests, e, f) in
    ap (λ (k : ℕ). record { lra = at k a.lra.num; member = a.member }) home
    ∙ ap (λ (k : ℕ). record { lra = at b.lra.home k; member = a.member }) num
    ∙ ap (λ (k : ℕ). record { lra = b.lra; member = k }) member

-- The first

first_of_all : (P : Due → Type 0) (xs : List Due) → AreAll P is_before xs → IsFirst P is_before (slice_get xs 0)
first_of_all P [] h = λ x p. h.all x p
first_of_all P (y ∷ ys) h = (h.only y (inl refl), λ x p. elim (h.all x p) [ inl same ↦ ap (λ z. is_before z y) same ∙ before_self y | inr inside ↦ before_asymmetric y x (all_in (λ z. is_before y z ≡ true) ys h.order.0 x inside) ])

first_alike : (P Q : Due → Type 0) (o : Option Due) → ((x : Due) → P x → Q x) → ((x : Due) → Q x → P x) → IsFirst P is_before o → IsFirst Q is_before o
first_alike P Q None there back h = λ x q. h x (back x q)
first_alike P Q (Some y) there back h = (there y h.0, λ x q. h.1 x (back x q))

-- two answers that are each the first are the same
one_first : (P : Due → Type 0) (o p : Option Due) → ((x y : Due) → P x → P y → x.lra.home ≡ y.lra.home) → IsFirst P is_before o → IsFirst P is_before p → o ≡ p
one_first P None None home h k = refl
one_first P None (Some y) home h k = absurd (h y k.0)
one_first P (Some x) None home h k = absurd (k x h.0)
one_first P (Some x) (Some y) home h k = ap (λ z. Some z) (same_due x y (home x y h.0 k.0) (k.1 x h.0) (h.1 y k.0))

-- The facts

abbrev pub TellsOf : (List Fact → Id → ℕ → Bool) → List Fact → Id → List Fact → Due → Type 0
TellsOf due S l facts d = (f : Fact) × In f facts × (due_by due S l f.body ≡ Some d)

pub least_first : (due : List Fact → Id → ℕ → Bool) (S : List Fact) (l : Id) (facts : List Fact) → IsFirst (TellsOf due S l facts) is_before (least_due due S facts l)
least_first due S l [] = λ x p. p.1
least_first due S l (f ∷ facts) = by (due_by due S l f.body) refl (least_due due S facts l) (least_first due S l facts)
  where
    later : (d : Due) → TellsOf due S l facts d → TellsOf due S l (f ∷ facts) d
    later d p = (p.0, inr p.1, p.2)

    told : (d : Due) → TellsOf due S l (f ∷ facts) d → (due_by due S l f.body ≡ Some d) ⊎ TellsOf due S l facts d
    told d p = elim p.1 [ inl same ↦ inl (ap (λ (g : Fact). due_by due S l g.body) (sym same) ∙ p.2) | inr inside ↦ inr (p.0, inside, p.2) ]

    same_some : (x y : Due) → Some x ≡ Some y → y ≡ x
    same_some x y e = cc

    lesser : (x y : Due) → due_by due S l f.body ≡ Some x → IsFirst (TellsOf due S l facts) is_before (Some y) → (b : Bool) → is_before y x ≡ b → IsFirst (TellsOf due S l (f ∷ facts)) is_before (cond b (Some y) (Some x))
    lesser x y e h true t = (
      later y h.0,
      λ d p. elim (told d p) [ inl here ↦ ap (λ z. is_before z y) (same_some x d (sym e ∙ here)) ∙ before_asymmetric y x t | inr there ↦ h.1 d there ],
    )
    lesser x y e h false t = (
      (f, inl refl, e),
      λ d p. elim (told d p) [ inl here ↦ ap (λ z. is_before z x) (same_some x d (sym e ∙ here)) ∙ before_self x | inr there ↦ not_before x y d t (h.1 d there) ],
    )

    by : (o : Option Due) → due_by due S l f.body ≡ o → (rest : Option Due) → IsFirst (TellsOf due S l facts) is_before rest → IsFirst (TellsOf due S l (f ∷ facts)) is_before (lesser_due o rest)
    by None e None h = λ d p. elim (told d p) [ inl here ↦ (let wrong : None ≡ Some d = sym e ∙ here in cc) | inr there ↦ h d there ]
    by None e (Some y) h = (later y h.0, λ d p. elim (told d p) [ inl here ↦ absurd (let wrong : None ≡ Some d = sym e ∙ here in cc) | inr there ↦ h.1 d there ])
    by (Some x) e None h = (
      (f, inl refl, e),
      λ d p. elim (told d p) [ inl here ↦ ap (λ z. is_before z x) (same_some x d (sym e ∙ here)) ∙ before_self x | inr there ↦ absurd (h d there) ],
    )
    by (Some x) e (Some y) h = lesser x y e h (is_before y x) refl

-- d is under l, and this is due of it
pub record IsDueBeneath (due : List Fact → Id → ℕ → Bool) (S : List Fact) (l : Id) (d : Due) : Type 0 where
  pub under : is_under S l d.lra ≡ true
  pub owed : due S d.lra d.member ≡ true

-- the errand is due of participants only
abbrev pub IsOfParticipants : (List Fact → Id → ℕ → Bool) → List Fact → Type 0
IsOfParticipants due S = (l : Id) (m : ℕ) → due S l m ≡ true → is_participant S l m ≡ true

pub told_is : (due : List Fact → Id → ℕ → Bool) (S : List Fact) (l : Id) (body : Body) (d : Due) → due_by due S l body ≡ Some d → IsDueBeneath due S l d
told_is due S l (Join k m links) d e = by (is_under S l k && due S k m) refl e
  where
    by : (b : Bool) → (is_under S l k && due S k m) ≡ b → cond b (Some (record { lra = k; member = m })) None ≡ Some d → IsDueBeneath due S l d
    by false t e = absurd cc
    by true t e =
        let same : record { lra = k; member = m } ≡ d = cc in
        subst (IsDueBeneath due S l) same (record { under = and_left (is_under S l k) _ t; owed = and_right (is_under S l k) _ t })
told_is due S l (Begin parent deadline) d e = absurd cc
told_is due S l (Leave id m) d e = absurd cc
told_is due S l (Decide id verdict) d e = absurd cc
told_is due S l (Report id m act outcome) d e = absurd cc
told_is due S l (Forgot id m) d e = absurd cc
told_is due S l (Told id m) d e = absurd cc
told_is due S l (Purge root) d e = absurd cc

tells : (due : List Fact → Id → ℕ → Bool) (S : List Fact) (l : Id) (d : Due) → IsOfParticipants due S → IsDueBeneath due S l d → TellsOf due S l S d
tells due S l d known h = joined (links_of S d.lra d.member) refl (and_left (is_some (links_of S d.lra d.member)) _ (known d.lra d.member h.owed))
  where
    joined : (o : Option Links) → links_of S d.lra d.member ≡ o → is_some o ≡ true → TellsOf due S l S d
    joined None e some = absurd cc
    joined (Some links) e some =
        let f = join_found S d.lra d.member links e in
        let own : due_by due S l (Join d.lra d.member links) ≡ Some d = rw (h.under, h.owed) refl in
        (f.0, f.1, ap (due_by due S l) f.2 ∙ own)

-- the first participant of which this is due is the least by the facts
pub least_is : (due : List Fact → Id → ℕ → Bool) (S : List Fact) → AllByRecursion NamesEarlier S → IsOfParticipants due S → (l : Id) (o : Option Due) → IsFirst (IsDueBeneath due S l) is_before o → o ≡ least_due due S S l
least_is due S nested known l o h =
    one_first (IsDueBeneath due S l) o (least_due due S S l) home h
    (first_alike (TellsOf due S l S) (IsDueBeneath due S l) (least_due due S S l) (λ d p. told_is due S l p.0.body d p.2) (λ d p. tells due S l d known p) (least_first due S l S))
  where
    home : (x y : Due) → IsDueBeneath due S l x → IsDueBeneath due S l y → x.lra.home ≡ y.lra.home
    home x y p q = under_home S nested l (suc x.lra.num) x.lra (omega arith) p.under ∙ sym (under_home S nested l (suc y.lra.num) y.lra (omega arith) q.under)

-- One record

-- the first of its members that is to be told: the record tells of each participant what the set
-- has due of it
pub record Tells (due : List Fact → Id → ℕ → Bool) (passes : ParticipantRecord → Bool) (S : List Fact) (l : Id) : Type 0 where
  pub owing : Owing
  pub passing : Agrees passes owing
  pub owed : (m : ℕ) (p : ParticipantRecord) → participant_at (numbered (members_of S l) m) ≡ Some p → due S l m ≡ owes owing p
  pub none : (m : ℕ) → participant_at (numbered (members_of S l) m) ≡ None → due S l m ≡ false

first_told : (due : List Fact → Id → ℕ → Bool) (passes : ParticipantRecord → Bool) (nodes : ℕ) (S : List Fact) (home : ℕ) (records : List Record) (root : Id) (r : Record) → Tells due passes S (at home r.num) → IsWhole S → Stands nodes home S records → find (is_of (at home r.num)) records ≡ Some r → root.home ≡ home
    → is_under S root (at home r.num) ≡ true → IsFirst (IsDueBelow due S root r.num) is_before (first_member passes (id_of r) 1 r.members)
first_told due passes nodes S home records root r tells whole stands found own under =
    subst (IsFirst (IsDueBelow due S root r.num) is_before) (sym first)
    (first_alike (λ d. IsDueAt home S due d × (d.lra.num ≡ r.num)) (IsDueBelow due S root r.num) (slice_get (owed_by tells.owing l 1 (members_of S l)) 0) there back (first_of_all _ _ share))
  where
    l : Id
    l = at home r.num

    held : is_held S (at home r.num) ≡ true
    held = held_if_found nodes S records (at home r.num) r stands found

    kept : r ≡ record_of nodes S (at home r.num)
    kept = found_is nodes S records (at home r.num) r stands held found

    first : first_member passes (id_of r) 1 r.members ≡ slice_get (owed_by tells.owing (at home r.num) 1 (members_of S (at home r.num))) 0
    first =
        first_member_is passes tells.owing tells.passing (id_of r) 1 r.members
        ∙ ap (λ (q : Record). slice_get (owed_by tells.owing (id_of q) 1 q.members) 0) kept

    share : AreAll (λ d. IsDueAt home S due d × (d.lra.num ≡ r.num)) is_before (owed_by tells.owing l 1 (members_of S l))
    share = owed_all tells.owing home r.num S due held tells.owed tells.none

    there : (d : Due) → IsDueAt home S due d × (d.lra.num ≡ r.num) → IsDueBelow due S root r.num d
    there d p =
        let same : d.lra ≡ l = ap (λ (k : ℕ). at k d.lra.num) p.0.own ∙ ap (at home) p.1 in
        record { number = p.1; under = ap (is_under S root) same ∙ under; owed = p.0.owed }

    back : (d : Due) → IsDueBelow due S root r.num d → IsDueAt home S due d × (d.lra.num ≡ r.num)
    back d h =
        let here = under_home S whole.nested root (suc d.lra.num) d.lra (omega arith) h.under ∙ own in
        let same : d.lra ≡ l = ap (λ (k : ℕ). at k d.lra.num) here ∙ ap (at home) h.number in
        (record { own = here; held = ap (is_held S) same ∙ held; owed = h.owed }, h.number)

one_below : (due : List Fact → Id → ℕ → Bool) (passes : Record → ParticipantRecord → Bool) (nodes : ℕ) (S : List Fact) (home : ℕ) (records : List Record) (root : Id) (r : Record) → Tells due (passes r) S (at home r.num) → IsWhole S → IsNested S → AllByRecursion IsNumbered S → Stands nodes home S records → find (is_of (at home r.num)) records ≡ Some r → root.home ≡ home
    → IsFirst (IsDueBelow due S root r.num) is_before (first_below passes (found_at home records) root.num r)
one_below due passes nodes S home records root r tells whole nest numbers stands found own = by (is_below (found_at home records) root.num r) (below_said nodes home S records root.num r whole nest numbers stands found ∙ ap (λ (k : ℕ). is_under S (at k root.num) (at home r.num)) (sym own))
  where
    by : (b : Bool) → b ≡ is_under S root (at home r.num) → IsFirst (IsDueBelow due S root r.num) is_before (cond b (first_member (passes r) (id_of r) 1 r.members) None)
    by true e = first_told due (passes r) nodes S home records root r tells whole stands found own (sym e)
    by false e = λ d h.
        let here = under_home S whole.nested root (suc d.lra.num) d.lra (omega arith) h.under ∙ own in
        let same : d.lra ≡ at home r.num = ap (λ (k : ℕ). at k d.lra.num) here ∙ ap (at home) h.number in
        let wrong : false ≡ true = e ∙ ap (is_under S root) (sym same) ∙ h.under in
        cc

-- All records

-- the participant belongs to one of these records and is to be told
abbrev IsAmong : (List Fact → Id → ℕ → Bool) → List Fact → Id → List Record → Due → Type 0
IsAmong due S root rs d = (q : Record) × In q rs × IsDueBelow due S root q.num d

first_more : (due : List Fact → Id → ℕ → Bool) (S : List Fact) (root : Id) (r : Record) (rs : List Record) (o rest : Option Due) → ((q : Record) → In q rs → r.num < q.num) → IsFirst (IsDueBelow due S root r.num) is_before o → IsFirst (IsAmong due S root rs) is_before rest
    → IsFirst (IsAmong due S root (r ∷ rs)) is_before (option_map_or (λ due. Some due) o rest)
first_more due S root r rs o rest after = by o rest
  where
    split : (d : Due) → IsAmong due S root (r ∷ rs) d → IsDueBelow due S root r.num d ⊎ IsAmong due S root rs d
    split d p = elim p.1 [ inl same ↦ inl (subst (λ (q : Record). IsDueBelow due S root q.num d) same p.2) | inr inside ↦ inr (p.0, inside, p.2) ]

    later : (d : Due) → IsAmong due S root rs d → IsAmong due S root (r ∷ rs) d
    later d p = (p.0, inr p.1, p.2)

    by : (o rest : Option Due) → IsFirst (IsDueBelow due S root r.num) is_before o → IsFirst (IsAmong due S root rs) is_before rest → IsFirst (IsAmong due S root (r ∷ rs)) is_before (option_map_or (λ due. Some due) o rest)
    by None None h k = λ d p. elim (split d p) [ inl here ↦ h d here | inr there ↦ k d there ]
    by None (Some y) h k = (later y k.0, λ d p. elim (split d p) [ inl here ↦ absurd (h d here) | inr there ↦ k.1 d there ])
    by (Some x) rest h k = (
      (r, inl refl, h.0),
      λ d p. elim (split d p) [
        | inl here ↦ h.1 d here
        | inr there ↦ let more = after there.0 there.1 in let a = there.2.number in let b = h.0.number in grind (arith, nat_tests, more, a, b)
      ],
    )

-- each record tells what is due, for any list of records
abbrev pub EachTells : (List Fact → Id → ℕ → Bool) → (Record → ParticipantRecord → Bool) → List Fact → ℕ → List Record → Type 0
EachTells due passes S home records = (r : Record) → find (is_of (at home r.num)) records ≡ Some r → Tells due (passes r) S (at home r.num)

firsts : (due : List Fact → Id → ℕ → Bool) (passes : Record → ParticipantRecord → Bool) (nodes : ℕ) (S : List Fact) (home : ℕ) (records : List Record) (root : Id) → EachTells due passes S home records → IsWhole S → IsNested S → AllByRecursion IsNumbered S → Stands nodes home S records → root.home ≡ home
    → (rs : List Record) → IsAscending rs → ((q : Record) → In q rs → find (is_of (at home q.num)) records ≡ Some q) → IsFirst (IsAmong due S root rs) is_before (least_below passes (found_at home records) root.num rs)
firsts due passes nodes S home records root tells whole nest numbers stands own [] order found = λ d p. p.1
firsts due passes nodes S home records root tells whole nest numbers stands own (r ∷ rs) order found =
    first_more due S root r rs (first_below passes (found_at home records) root.num r) (least_below passes (found_at home records) root.num rs) (λ q i. all_in (λ x. r.num < x.num) rs order.0 q i)
    (one_below due passes nodes S home records root r (tells r (found r (inl refl))) whole nest numbers stands (found r (inl refl)) own)
    (firsts due passes nodes S home records root tells whole nest numbers stands own rs order.1 (λ q i. found q (inr i)))

-- the first duty of the records in order is the least by the facts
least_of_all : (due : List Fact → Id → ℕ → Bool) (passes : Record → ParticipantRecord → Bool) (nodes home : ℕ) (S : List Fact) (records : List Record) (root : Id) → EachTells due passes S home records → IsOfParticipants due S → IsWhole S → IsNested S → AllByRecursion IsNumbered S → AreOf home records → Stands nodes home S records → root.home ≡ home → is_held S root ≡ true
    → least_below passes (found_at home records) root.num records ≡ least_due due S S root
least_of_all due passes nodes home S records root tells known whole nest numbers order stands own held =
    least_is due S whole.nested known root (least_below passes (found_at home records) root.num records)
    (first_alike (IsAmong due S root records) (IsDueBeneath due S root) (least_below passes (found_at home records) root.num records) (λ d p. record { under = p.2.under; owed = p.2.owed }) back
    (firsts due passes nodes S home records root tells whole nest numbers stands own records order.ascending (λ q i. found_in home records q order i)))
  where
    back : (d : Due) → IsDueBeneath due S root d → IsAmong due S root records d
    back d h =
        let here = under_home S whole.nested root (suc d.lra.num) d.lra (omega arith) h.under ∙ own in
        let kept = held_below S whole root held (suc d.lra.num) d.lra (omega arith) h.under in
        let found = stands_at nodes home S records d.lra stands here kept in
        let inside = find_in (is_of d.lra) records (record_of nodes S d.lra) found in
        (record_of nodes S d.lra, inside.0, record { number = refl; under = h.under; owed = h.owed })

-- the least participant that is to be told to forget is the same by the records and by the set
pub least_said : (nodes home : ℕ) (S : List Fact) (records : List Record) (root : Id) → IsWhole S → IsNested S → IsSeated S → AllByRecursion IsNumbered S → AreOf home records → Stands nodes home S records → root.home ≡ home → is_held S root ≡ true
    → least_owed_of (found_at home records) root.num records ≡ least_forget S root
least_said nodes home S records root whole nest seated numbers order stands own held =
    least_of_all is_forget_duty (is_owed (found_at home records)) nodes home S records root tells (λ l m e. and_left (is_participant S l m) _ e) whole nest numbers order stands own held
  where
    tells : EachTells is_forget_duty (is_owed (found_at home records)) S home records
    tells r found =
        record {
          owing = owing_of Forget S (at home r.num);
          passing = λ p. owed_owes (found_at home records) r p ∙ ap (λ (owing : Owing). owes owing p) (owing_said Forget nodes home S records r whole nest stands found);
          owed = λ m p there. due_owes Forget S (at home r.num) m p seated there;
          none = λ m none. due_none Forget S (at home r.num) m seated none;
        }

-- the least participant that is to be told of the end of its LRA, now or later, is the same by the
-- records and by the set
pub least_untold_said : (nodes home : ℕ) (S : List Fact) (records : List Record) (root : Id) → IsWhole S → IsNested S → IsSeated S → AllByRecursion IsNumbered S → AreOf home records → Stands nodes home S records → root.home ≡ home → is_held S root ≡ true
    → least_unheard_of (found_at home records) root.num records ≡ least_untold S root
least_untold_said nodes home S records root whole nest seated numbers order stands own held =
    least_of_all is_untold (λ r p. is_unheard p) nodes home S records root tells (λ l m e. and_left (is_participant S l m) _ e) whole nest numbers order stands own held
  where
    tells : EachTells is_untold (λ r p. is_unheard p) S home records
    tells r found =
        record {
          owing = Hearing;
          passing = λ p. refl;
          owed = λ m p there. untold_unheard S (at home r.num) m p seated there;
          none = λ m none. untold_none S (at home r.num) m seated none;
        }
