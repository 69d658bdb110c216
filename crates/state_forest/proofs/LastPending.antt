-- the walk through the members of an LRA finds the last participant under it whose compensation is pending
use Rattle.std.proofs.Common.{◌≡◌, ◌⊎◌, inl, inr, ◌<◌, ◌≤◌, ◌+◌, ◌-◌, ◌++◌, ℕ, zero, suc, List, [], ◌∷◌, refl, sym, ap, subst, ◌∙◌, Bool, true, false, cond, arith, Option, Some, None, length, slice_get}
use Rattle.state_ids.specs.Ids.{Id}
use Rattle.state_facts.specs.declared.fact.Body.{Body}
use Rattle.state_facts.specs.declared.fact.Body.TheVariants.{Begin, Join, Leave, Decide, Report, Forgot, Told, Purge}
use Rattle.state_facts.specs.declared.fact.Fact.{Fact}
use Rattle.state_facts.specs.Duties.{has_to_compensate, is_later, is_uncompensated}
use Rattle.state_facts.specs.Sets.{depth, has_left, is_held, is_participant, is_under, member_number, parent_of}
use Rattle.state_forest.specs.declared.record.Member.{Member}
use Rattle.state_forest.specs.declared.record.Member.TheVariants.{Nested, Participant, Left}
use Rattle.state_forest.specs.declared.record.Participant.{Participant as ParticipantRecord}
use Rattle.state_forest.specs.declared.record.Place.{Place}
use Rattle.state_forest.specs.Forests.{HomeRecords}
use Rattle.state_forest.specs.MembersByNumber.{numbered}
use Rattle.state_forest.specs.Participants.{participant_at}
use Rattle.state_forest.specs.Records.{givers, member_by, members_of, record_of}
use Rattle.state_forest.specs.Shape.{found_at}
use Rattle.state_forest.specs.Standing.{IsNested, IsSeated, IsWhole, Stands}
use Rattle.state_forest.specs.Walks.{last_of, pending_within}
use Rattle.state_forest.proofs.ParticipantAnswers.{known_is, uncompensated_is, unknown_is}
use Rattle.state_forest.proofs.Begins.{begin_gives, parent_begin}
use Rattle.state_forest.proofs.ParentsAndChains.{begins_at, parent_home}
use Rattle.state_forest.proofs.ShownByMembers.{depth_up, held_child, not_deeper}
use Rattle.state_forest.proofs.GiversOfNumbers.{get_in, givers_ascend, number_is, place_is}
use Rattle.state_forest.proofs.GreatestByPath.{Headed, HeadedFrom, IsGreatest, greatest_alike, greatest_last}
use Rattle.state_forest.proofs.LastInAWalk.{within_left, within_nested, within_pending, within_settled}
use Rattle.state_forest.proofs.LaterPaths.{head_of, same_head}
use Rattle.state_forest.proofs.Paths.{path_down, slots_from, slots_here}
use Rattle.state_forest.proofs.NumberedMembers.{get_map, map_get, numbered_at, numbered_from, seat_of}
use Rattle.state_forest.proofs.RecordsOfASet.{child_at}
use Rattle.state_forest.proofs.UnderAnLra.{Below, begin_member, below, child_under, nested_at, nested_child, under_self}

-- a participant that is under l, and whose compensation is pending
pub record IsPendingUnder (S : List Fact) (l : Id) (x : Place) : Type 0 where
  pub under : is_under S l (nested_at l x.number) ≡ true
  pub known : is_participant S (nested_at l x.number) x.slot ≡ true
  pub pending : is_uncompensated S (nested_at l x.number) x.slot ≡ true

-- the path of the participant from l
abbrev pub path_under : List Fact → Id → Place → List ℕ
path_under S l x = slots_from S l (nested_at l x.number) ++ x.slot ∷ []

-- an LRA that is nested in l is the member of l with its number
child_member : (S : List Fact) (l c : Id) → IsSeated S → parent_of S c ≡ Some l → numbered (members_of S l) (member_number S l c.num) ≡ Some (Nested c.num)
child_member S l c seated up =
    let begin = parent_begin S c l up in
    let f = begin.0 in
    let number = (begins_at c f begin.2).1 in
    let seat = seat_of S l f seated begin.1 (begin_gives l f.body begin.3) in
    let member = get_map (λ (g : Fact). member_by S l g.num g.body) (givers S l) seat.0 f seat.1 in
    ap (λ n. numbered (members_of S l) (member_number S l n)) (sym number)
    ∙ numbered_at (members_of S l) seat.0 (member_number S l f.num) (member_by S l f.num f.body) seat.2 member
    ∙ ap (λ m. Some m) (begin_member S l f.num f.body l begin.3)
    ∙ ap (λ n. Some (Nested n)) number

joined : (n : ℕ) (p : ParticipantRecord) (left : Bool) → Nested n ≡ cond left Left (Participant p) → ⊥
joined n p true e = cc
joined n p false e = cc

nested_number : (S : List Fact) (l : Id) (n num : ℕ) (body : Body) → Nested n ≡ member_by S l num body → n ≡ num
nested_number S l n num (Join d m links) e = absurd (joined n _ (has_left S l m) e)
nested_number S l n num (Begin parent deadline) e = cc
nested_number S l n num (Leave id m) e = cc
nested_number S l n num (Decide id verdict) e = cc
nested_number S l n num (Report id m act outcome) e = cc
nested_number S l n num (Forgot id m) e = cc
nested_number S l n num (Told id m) e = cc
nested_number S l n num (Purge root) e = cc

-- a nested LRA has l as its parent, and its member number is its place
pub record IsChildAt (S : List Fact) (l : Id) (k n : ℕ) : Type 0 where
  pub up : parent_of S (nested_at l n) ≡ Some l
  pub number : member_number S l n ≡ k

member_child : (S : List Fact) (l : Id) (k n : ℕ) → IsWhole S → IsSeated S → numbered (members_of S l) k ≡ Some (Nested n) → IsChildAt S l k n
member_child S l k n whole seated found =
    let place = numbered_from (members_of S l) k (Nested n) found in
    let giver = map_get (λ (g : Fact). member_by S l g.num g.body) (givers S l) place.0 (Nested n) place.2 in
    let f = giver.0 in
    let number : n ≡ f.num = nested_number S l n f.num f.body giver.2 in
    let at = place_is (givers S l) place.0 f (givers_ascend S l seated) giver.1 in
    record {
      up = nested_child S l n whole seated.once (get_in (members_of S l) place.0 (Nested n) place.2);
      number = ap (member_number S l) number ∙ number_is S l f.num ∙ ap (λ k. k + 1) at ∙ sym place.1;
    }

-- what the member k of l can be, where a participant's path from l begins with k: that participant, or an LRA that has it
-- under it
pub record IsBelow (S : List Fact) (l : Id) (k : ℕ) (x : Place) (n : ℕ) : Type 0 where
  pub there : numbered (members_of S l) k ≡ Some (Nested n)
  pub under : is_under S (nested_at l n) (nested_at l x.number) ≡ true
  pub path : path_under S l x ≡ k ∷ path_under S (nested_at l n) x

place_is_at : (x : Place) (n k : ℕ) → x.number ≡ n → x.slot ≡ k → x ≡ record { number = n; slot = k }
place_is_at x n k a b = ap (λ i. record { number = i; slot = x.slot }) a ∙ ap (λ i. record { number = n; slot = i }) b

spot : (S : List Fact) (l : Id) (k : ℕ) (x : Place) → IsWhole S → IsSeated S → is_under S l (nested_at l x.number) ≡ true → head_of (path_under S l x) ≡ k → (x ≡ record { number = l.num; slot = k }) ⊎ ((n : ℕ) × IsBelow S l k x n)
spot S l k x whole seated under head = by (below S whole.nested l (suc x.number) (nested_at l x.number) (omega arith) under)
  where
    d : Id
    d = nested_at l x.number

    by : Below S l (nested_at l x.number) → (x ≡ record { number = l.num; slot = k }) ⊎ ((n : ℕ) × IsBelow S l k x n)
    by (inl same) =
        let path : path_under S l x ≡ x.slot ∷ [] = ap (λ (y : Id). slots_from S l y ++ x.slot ∷ []) (sym same) ∙ ap (λ p. p ++ x.slot ∷ []) (slots_here S whole.nested l) in
        inl (place_is_at x l.num k (sym (ap (λ (y : Id). y.num) same)) (sym (ap head_of path) ∙ head))
    by (inr child) =
        let c = child.0 in
        let here : nested_at l c.num ≡ c = ap (λ (h : ℕ). record { home = h; num = c.num }) (parent_home S c l whole.nested child.1) in
        let under : is_under S (nested_at l c.num) (nested_at l x.number) ≡ true = ap (λ (y : Id). is_under S y (nested_at l x.number)) here ∙ child.2 in
        let up : parent_of S (nested_at l c.num) ≡ Some l = ap (parent_of S) here ∙ child.1 in
        let path : path_under S l x ≡ member_number S l c.num ∷ path_under S (nested_at l c.num) x =
        ap (λ p. p ++ x.slot ∷ []) (path_down S whole.nested l (nested_at l c.num) up (suc x.number) (nested_at l x.number) (omega arith) under) in
        let number : member_number S l c.num ≡ k = sym (ap head_of path) ∙ head in
        inr (
          c.num,
          record {
            there = ap (numbered (members_of S l)) (sym number) ∙ child_member S l c seated child.1;
            under = under;
            path = path ∙ ap (λ i. i ∷ path_under S (nested_at l c.num) x) number;
          },
        )

member_same : (m n : Member) → Some m ≡ Some n → m ≡ n
member_same m n e = cc

nested_same : (m n : ℕ) → Some (Nested m) ≡ Some (Nested n) → m ≡ n
nested_same m n e = cc

-- below an LRA that is nested in l, the same participants come in the same order
pub below_alike : (S : List Fact) (l : Id) (k n : ℕ) (o : Option Place) → IsWhole S → IsSeated S → numbered (members_of S l) k ≡ Some (Nested n) → IsGreatest (IsPendingUnder S (nested_at l n)) (path_under S (nested_at l n)) o → IsGreatest (Headed (IsPendingUnder S l) (path_under S l) k) (path_under S l) o
below_alike S l k n o whole seated found = greatest_alike (IsPendingUnder S c) (Headed (IsPendingUnder S l) (path_under S l) k) (path_under S c) (path_under S l) o there back later
  where
    c : Id
    c = nested_at l n

    at : IsChildAt S l k n
    at = member_child S l k n whole seated found

    path : (x : Place) → is_under S c (nested_at l x.number) ≡ true → path_under S l x ≡ k ∷ path_under S c x
    path x under =
        ap (λ p. p ++ x.slot ∷ []) (path_down S whole.nested l c at.up (suc x.number) (nested_at l x.number) (omega arith) under)
        ∙ ap (λ i. i ∷ path_under S c x) at.number

    there : (x : Place) → IsPendingUnder S c x → Headed (IsPendingUnder S l) (path_under S l) k x
    there x p = (
      record { under = child_under S whole.nested l c at.up (suc x.number) (nested_at l x.number) (omega arith) p.under; known = p.known; pending = p.pending },
      ap head_of (path x p.under),
    )

    back : (x : Place) → Headed (IsPendingUnder S l) (path_under S l) k x → IsPendingUnder S c x
    back x p = elim (spot S l k x whole seated p.0.under p.1) [ inl here ↦ absurd (not_here here) | inr lower ↦ record { under = which lower.0 lower.1; known = p.0.known; pending = p.0.pending } ]
      where
        not_here : x ≡ record { number = l.num; slot = k } → ⊥
        not_here here =
            let none : is_participant S l k ≡ false = unknown_is S l k seated (ap participant_at found) in
            let some : is_participant S l k ≡ true = sym (ap (λ (y : Place). is_participant S (nested_at l y.number) y.slot) here) ∙ p.0.known in
            cc

        which : (m : ℕ) → IsBelow S l k x m → is_under S c (nested_at l x.number) ≡ true
        which m lower =
            let same : m ≡ n = nested_same m n (sym lower.there ∙ found) in
            ap (λ i. is_under S (nested_at l i) (nested_at l x.number)) (sym same) ∙ lower.under

    later : (x y : Place) → IsPendingUnder S c x → IsPendingUnder S c y → is_later (path_under S c y) (path_under S c x) ≡ true → is_later (path_under S l y) (path_under S l x) ≡ true
    later x y p q e =
        ap (λ way. is_later way (path_under S l x)) (path y q.under)
        ∙ ap (is_later (k ∷ path_under S c y)) (path x p.under)
        ∙ same_head k (path_under S c y) (path_under S c x)
        ∙ e

-- if the member k of l is no nested LRA, only that member itself can be such a participant
alone : (S : List Fact) (l : Id) (k : ℕ) (m : Member) → IsWhole S → IsSeated S → numbered (members_of S l) k ≡ Some m → ((n : ℕ) → m ≡ Nested n → ⊥) → (x : Place) → Headed (IsPendingUnder S l) (path_under S l) k x → x ≡ record { number = l.num; slot = k }
alone S l k m whole seated found other x p = elim (spot S l k x whole seated p.0.under p.1) [ inl here ↦ here | inr lower ↦ absurd (other lower.0 (member_same m (Nested lower.0) (sym found ∙ lower.1.there))) ]

no_participant : (S : List Fact) (l : Id) (k : ℕ) (x : Place) → IsPendingUnder S l x → x ≡ record { number = l.num; slot = k } → is_participant S l k ≡ false → ⊥
no_participant S l k x p here none =
    let some : is_participant S l k ≡ true = sym (ap (λ (y : Place). is_participant S (nested_at l y.number) y.slot) here) ∙ p.known in
    cc

pub left_none : (S : List Fact) (l : Id) (k : ℕ) → IsWhole S → IsSeated S → numbered (members_of S l) k ≡ Some Left → IsGreatest (Headed (IsPendingUnder S l) (path_under S l) k) (path_under S l) None
left_none S l k whole seated found = λ x p. no_participant S l k x p.0 (alone S l k Left whole seated found (λ n e. cc) x p) (unknown_is S l k seated (ap participant_at found))

pub settled_none : (S : List Fact) (l : Id) (k : ℕ) (q : ParticipantRecord) → IsWhole S → IsSeated S → numbered (members_of S l) k ≡ Some (Participant q) → has_to_compensate q.links q.compensated ≡ false → IsGreatest (Headed (IsPendingUnder S l) (path_under S l) k) (path_under S l) None
settled_none S l k q whole seated found settled = λ x p. wrong x p.0 (alone S l k (Participant q) whole seated found (λ n e. cc) x p)
  where
    wrong : (x : Place) → IsPendingUnder S l x → x ≡ record { number = l.num; slot = k } → ⊥
    wrong x p here =
        let known = known_is S l k q seated (ap participant_at found) in
        let no : is_uncompensated S l k ≡ false = uncompensated_is S l k q known ∙ settled in
        let yes : is_uncompensated S l k ≡ true = sym (ap (λ (y : Place). is_uncompensated S (nested_at l y.number) y.slot) here) ∙ p.pending in
        cc

pub pending_some : (S : List Fact) (l : Id) (k : ℕ) (q : ParticipantRecord) → IsWhole S → IsSeated S → numbered (members_of S l) k ≡ Some (Participant q) → has_to_compensate q.links q.compensated ≡ true → IsGreatest (Headed (IsPendingUnder S l) (path_under S l) k) (path_under S l) (Some (record { number = l.num; slot = k }))
pending_some S l k q whole seated found pending =
    let known = known_is S l k q seated (ap participant_at found) in (
      (
        record { under = under_self S whole.nested l; known = known.known; pending = uncompensated_is S l k q known ∙ pending },
        ap head_of (ap (λ p. p ++ k ∷ []) (slots_here S whole.nested l)),
      ),
      λ x p. inl (alone S l k (Participant q) whole seated found (λ n e. cc) x p),
    )

-- the walk from an LRA, with this many levels below it, finds the last pending participant under it
abbrev pub IsWalked : ℕ → List Fact → HomeRecords → Id → Type 0
IsWalked levels S h l = IsGreatest (IsPendingUnder S l) (path_under S l) (last_of (pending_within levels (found_at h.home h.records) l.num) 1 (members_of S l))

-- a member finds the greatest of those whose path begins with its number, if the LRAs that are nested in l do
member_finds : (nodes : ℕ) (S : List Fact) (h : HomeRecords) → IsWhole S → IsSeated S → IsNested S → Stands nodes h.home S h.records → (levels : ℕ) (l : Id) → l.home ≡ h.home → is_held S l ≡ true → 8 ≤ levels + depth S l → ((less : ℕ) → levels ≡ suc less → (c : Id) → c.home ≡ h.home → is_held S c ≡ true → 8 ≤ less + depth S c → IsWalked less S h c) → (k : ℕ) (m : Member) → numbered (members_of S l) k ≡ Some m → IsGreatest (Headed (IsPendingUnder S l) (path_under S l) k) (path_under S l) (pending_within levels (found_at h.home h.records) l.num k m)
member_finds nodes S h whole seated nest stands levels l at held deep rest k Left found =
    subst (IsGreatest (Headed (IsPendingUnder S l) (path_under S l) k) (path_under S l)) (sym (within_left levels (found_at h.home h.records) l.num k)) (left_none S l k whole seated found)
member_finds nodes S h whole seated nest stands levels l at held deep rest k (Participant q) found = by (has_to_compensate q.links q.compensated) refl
  where
    by : (b : Bool) → has_to_compensate q.links q.compensated ≡ b → IsGreatest (Headed (IsPendingUnder S l) (path_under S l) k) (path_under S l) (pending_within levels (found_at h.home h.records) l.num k (Participant q))
    by true e = subst (IsGreatest (Headed (IsPendingUnder S l) (path_under S l) k) (path_under S l)) (sym (within_pending levels (found_at h.home h.records) l.num k q e)) (pending_some S l k q whole seated found e)
    by false e = subst (IsGreatest (Headed (IsPendingUnder S l) (path_under S l) k) (path_under S l)) (sym (within_settled levels (found_at h.home h.records) l.num k q e)) (settled_none S l k q whole seated found e)
member_finds nodes S h whole seated nest stands zero l at held deep rest k (Nested n) found =
    absurd (omega (arith, deep, not_deeper S l (nested_at l n) whole nest (member_child S l k n whole seated found).up))
member_finds nodes S h whole seated nest stands (suc less) l at held deep rest k (Nested n) found =
    let c = nested_at l n in
    let up = (member_child S l k n whole seated found).up in
    let child = held_child S l c whole up held in
    let record_found = child_at nodes h.home S h.records l c stands at up child in
    let walked = rest less refl c at child (omega (arith, deep, depth_up S l c whole up)) in
    subst (IsGreatest (Headed (IsPendingUnder S l) (path_under S l) k) (path_under S l)) (sym (within_nested (suc less) less (found_at h.home h.records) l.num k n (record_of nodes S c) refl record_found))
    (below_alike S l k n (last_of (pending_within less (found_at h.home h.records) n) 1 (members_of S c)) whole seated found walked)

-- paths begin with a member number that was given
head_bounds : (S : List Fact) (l : Id) (x : Place) → IsWhole S → IsSeated S → IsPendingUnder S l x → (1 ≤ head_of (path_under S l x)) × (head_of (path_under S l x) < length (members_of S l) + 1)
head_bounds S l x whole seated p = elim (spot S l (head_of (path_under S l x)) x whole seated p.under refl) [ inl here ↦ own here | inr lower ↦ given (Nested lower.0) lower.1.there ]
  where
    within : {X : Type 0} (xs : List X) (i : ℕ) (y : X) → slice_get xs i ≡ Some y → i < length xs
    within [] i y e = absurd cc
    within (z ∷ xs) zero y e = omega arith
    within (z ∷ xs) (suc i) y e = omega (arith, within xs i y e)

    given : (m : Member) → numbered (members_of S l) (head_of (path_under S l x)) ≡ Some m → (1 ≤ head_of (path_under S l x)) × (head_of (path_under S l x) < length (members_of S l) + 1)
    given m there =
        let place = numbered_from (members_of S l) (head_of (path_under S l x)) m there in
        let inside = within (members_of S l) place.0 m place.2 in
        (omega (arith, place.1), omega (arith, place.1, inside))

    own : x ≡ record { number = l.num; slot = head_of (path_under S l x) } → (1 ≤ head_of (path_under S l x)) × (head_of (path_under S l x) < length (members_of S l) + 1)
    own here = by (numbered (members_of S l) (head_of (path_under S l x))) refl
      where
        by : (o : Option Member) → numbered (members_of S l) (head_of (path_under S l x)) ≡ o → (1 ≤ head_of (path_under S l x)) × (head_of (path_under S l x) < length (members_of S l) + 1)
        by (Some m) e = given m e
        by None e = absurd (no_participant S l (head_of (path_under S l x)) x p here (unknown_is S l (head_of (path_under S l x)) seated (ap participant_at e)))

list_finds : (nodes : ℕ) (S : List Fact) (h : HomeRecords) → IsWhole S → IsSeated S → IsNested S → Stands nodes h.home S h.records → (levels : ℕ) (l : Id) → l.home ≡ h.home → is_held S l ≡ true → 8 ≤ levels + depth S l → ((less : ℕ) → levels ≡ suc less → (c : Id) → c.home ≡ h.home → is_held S c ≡ true → 8 ≤ less + depth S c → IsWalked less S h c) → IsWalked levels S h l
list_finds nodes S h whole seated nest stands levels l at held deep rest =
    greatest_alike (HeadedFrom (IsPendingUnder S l) (path_under S l) 1) (IsPendingUnder S l) (path_under S l) (path_under S l) (last_of (pending_within levels (found_at h.home h.records) l.num) 1 (members_of S l)) (λ x p. p.0) (λ x p. (p, (head_bounds S l x whole seated p).0)) (λ x y p q e. e)
    (greatest_last (IsPendingUnder S l) (path_under S l) (pending_within levels (found_at h.home h.records) l.num) 1 (members_of S l)
    (λ k m some e. member_finds nodes S h whole seated nest stands levels l at held deep rest k m (numbered_at (members_of S l) (k - 1) k m (omega (arith, some)) e))
    (λ x p. (head_bounds S l x whole seated p).1))

-- this many levels down from an LRA, the walk finds the last of all that is pending under it
pub walked : (nodes : ℕ) (S : List Fact) (h : HomeRecords) → IsWhole S → IsSeated S → IsNested S → Stands nodes h.home S h.records → (levels : ℕ) (l : Id) → l.home ≡ h.home → is_held S l ≡ true → 8 ≤ levels + depth S l → IsWalked levels S h l
walked nodes S h whole seated nest stands zero l at held deep = list_finds nodes S h whole seated nest stands zero l at held deep (λ less e c home kept far. absurd (omega (arith, e)))
walked nodes S h whole seated nest stands (suc k) l at held deep =
    list_finds nodes S h whole seated nest stands (suc k) l at held deep
    (λ less e c home kept far.
    let same : k ≡ less = omega (arith, e) in
    subst (λ n. IsWalked n S h c) same (walked nodes S h whole seated nest stands k c home kept (omega (arith, far, same))))
