-- the members of an LRA that owe something
use Rattle.std.proofs.Common.{◌≡◌, ◌⊎◌, inl, inr, ◌≤◌, ◌+◌, ◌-◌, ℕ, suc, List, [], ◌∷◌, refl, sym, ap, ◌∙◌, Bool, true, false, cond, arith, Option, Some, None, slice_get}
use Rattle.std.proofs.lemmas.Bool.Decides.{nat_tests}
use Rattle.state_ids.specs.Ids.{Id}
use Rattle.state_facts.specs.declared.fact.Fact.{Fact}
use Rattle.state_facts.specs.Lists.{In}
use Rattle.state_facts.specs.Sets.{is_held}
use Rattle.state_forest.specs.declared.duties.Due.{Due}
use Rattle.state_forest.specs.declared.duties.Owing.{Owing}
use Rattle.state_forest.specs.declared.record.Member.{Member}
use Rattle.state_forest.specs.declared.record.Member.TheVariants.{Nested, Participant, Left}
use Rattle.state_forest.specs.declared.record.Participant.{Participant as ParticipantRecord}
use Rattle.state_forest.specs.Dues.{AreAll, IsDueAt, IsOrdered, is_before}
use Rattle.state_forest.specs.MembersByNumber.{numbered}
use Rattle.state_forest.specs.Owings.{owed_by, owes, owes_at}
use Rattle.state_forest.specs.Participants.{participant_at}
use Rattle.state_forest.specs.Records.{members_of}
use Rattle.state_forest.proofs.Bools.{all_from}
use Rattle.state_forest.proofs.NumberedMembers.{numbered_at, numbered_from}

-- the participant with the number in d is one of these members and owes it
pub record IsOwedOf (owing : Owing) (l : Id) (i : ℕ) (ms : List Member) (d : Due) : Type 0 where
  pub named : d.lra ≡ l
  pub from : i ≤ d.member
  pub p : ParticipantRecord
  pub there : slice_get ms (d.member - i) ≡ Some (Participant p)
  pub owed : owes owing p ≡ true

participant_of : (owing : Owing) (m : Member) → owes_at owing m ≡ true → (p : ParticipantRecord) × (m ≡ Participant p) × (owes owing p ≡ true)
participant_of owing (Nested n) e = absurd cc
participant_of owing Left e = absurd cc
participant_of owing (Participant p) e = (p, refl, e)

pub owed_only : (owing : Owing) (l : Id) (i : ℕ) (ms : List Member) (d : Due) → In d (owed_by owing l i ms) → IsOwedOf owing l i ms d
owed_only owing l i [] d inside = absurd inside
owed_only owing l i (m ∷ ms) d inside = by (owes_at owing m) refl inside (owed_only owing l (i + 1) ms d)
  where
    further : IsOwedOf owing l (i + 1) ms d → IsOwedOf owing l i (m ∷ ms) d
    further h =
        let some = h.from in
        let place : d.member - i ≡ suc (d.member - (i + 1)) = omega (arith, some) in
        record { named = h.named; from = omega (arith, some); p = h.p; there = rw place h.there; owed = h.owed }

    here : owes_at owing m ≡ true → d ≡ record { lra = l; member = i } → IsOwedOf owing l i (m ∷ ms) d
    here t same =
        let found = participant_of owing m t in
        let number : d.member ≡ i = ap (λ (x : Due). x.member) same in
        let place : d.member - i ≡ 0 = omega (arith, number) in
        record { named = ap (λ (x : Due). x.lra) same; from = omega (arith, number); p = found.0; there = rw place (ap (λ x. Some x) found.1); owed = found.2 }

    by : (b : Bool) → owes_at owing m ≡ b → In d (cond b (record { lra = l; member = i } ∷ owed_by owing l (i + 1) ms) (owed_by owing l (i + 1) ms)) → (In d (owed_by owing l (i + 1) ms) → IsOwedOf owing l (i + 1) ms d) → IsOwedOf owing l i (m ∷ ms) d
    by true t (inl same) rest = here t same
    by true t (inr later) rest = further (rest later)
    by false t later rest = further (rest later)

pub owed_in : (owing : Owing) (l : Id) (i : ℕ) (ms : List Member) (d : Due) → IsOwedOf owing l i ms d → In d (owed_by owing l i ms)
owed_in owing l i [] d h = absurd (let none = h.there in cc)
owed_in owing l i (m ∷ ms) d h = elim (split i d.member h.from) [ inl at ↦ here at (owes_at owing m) refl | inr more ↦ later more (owes_at owing m) refl (owed_in owing l (i + 1) ms d (further more)) ]
  where
    split : (a b : ℕ) → a ≤ b → (b ≡ a) ⊎ (a + 1 ≤ b)
    split a b e = grind (arith, e)

    here : d.member ≡ i → (b : Bool) → owes_at owing m ≡ b → In d (cond b (record { lra = l; member = i } ∷ owed_by owing l (i + 1) ms) (owed_by owing l (i + 1) ms))
    here at true t = inl (ap (λ (x : Id). record { lra = x; member = d.member }) h.named ∙ ap (λ (k : ℕ). record { lra = l; member = k }) at)
    here at false t =
        let place : d.member - i ≡ 0 = omega (arith, at) in
        let first : Some m ≡ Some (Participant h.p) = sym (ap (slice_get (m ∷ ms)) place) ∙ h.there in
        let same : m ≡ Participant h.p = cc in
        let owed : owes_at owing m ≡ true = ap (owes_at owing) same ∙ h.owed in
        absurd (let wrong : true ≡ false = sym owed ∙ t in cc)

    further : i + 1 ≤ d.member → IsOwedOf owing l (i + 1) ms d
    further more =
        let place : d.member - i ≡ suc (d.member - (i + 1)) = omega (arith, more) in
        record { named = h.named; from = more; p = h.p; there = sym (ap (slice_get (m ∷ ms)) place) ∙ h.there; owed = h.owed }

    later : i + 1 ≤ d.member → (b : Bool) → owes_at owing m ≡ b → In d (owed_by owing l (i + 1) ms) → In d (cond b (record { lra = l; member = i } ∷ owed_by owing l (i + 1) ms) (owed_by owing l (i + 1) ms))
    later more true t inside = inr inside
    later more false t inside = inside

pub owed_ordered : (owing : Owing) (l : Id) (i : ℕ) (ms : List Member) → IsOrdered is_before (owed_by owing l i ms)
owed_ordered owing l i [] = tt
owed_ordered owing l i (m ∷ ms) = by (owes_at owing m) (owed_ordered owing l (i + 1) ms)
  where
    first : (d : Due) → In d (owed_by owing l (i + 1) ms) → is_before (record { lra = l; member = i }) d ≡ true
    first d inside =
        let h = owed_only owing l (i + 1) ms d inside in
        let number = ap (λ (x : Id). x.num) h.named in
        let more = h.from in
        grind (arith, nat_tests, number, more)

    by : (b : Bool) → IsOrdered is_before (owed_by owing l (i + 1) ms) → IsOrdered is_before (cond b (record { lra = l; member = i } ∷ owed_by owing l (i + 1) ms) (owed_by owing l (i + 1) ms))
    by true rest = (all_from (λ y. is_before (record { lra = l; member = i }) y ≡ true) (owed_by owing l (i + 1) ms) first, rest)
    by false rest = rest

-- the list of what the participants of one LRA owe is what is due of them, if the two tests agree
pub owed_all : (owing : Owing) (home num : ℕ) (S : List Fact) (due : List Fact → Id → ℕ → Bool) → is_held S (record { home = home; num = num }) ≡ true → ((m : ℕ) (p : ParticipantRecord) → participant_at (numbered (members_of S (record { home = home; num = num })) m) ≡ Some p → due S (record { home = home; num = num }) m ≡ owes owing p) → ((m : ℕ) → participant_at (numbered (members_of S (record { home = home; num = num })) m) ≡ None → due S (record { home = home; num = num }) m ≡ false) → AreAll (λ d. IsDueAt home S due d × (d.lra.num ≡ num)) is_before (owed_by owing (record { home = home; num = num }) 1 (members_of S (record { home = home; num = num })))
owed_all owing home num S due held known unknown = record { all = all; only = only; order = owed_ordered owing l 1 (members_of S l) }
  where
    l : Id
    l = record { home = home; num = num }

    named : (d : Due) → IsDueAt home S due d → d.lra.num ≡ num → d.lra ≡ l
    named d h n = ap (λ (k : ℕ). record { home = k; num = d.lra.num }) h.own ∙ ap (λ (k : ℕ). record { home = home; num = k }) n

    all : (d : Due) → IsDueAt home S due d × (d.lra.num ≡ num) → In d (owed_by owing l 1 (members_of S l))
    all d h = owed_in owing l 1 (members_of S l) d (by (participant_at (numbered (members_of S l) d.member)) refl)
      where
        is : d.lra ≡ l
        is = named d h.0 h.1

        here : due S l d.member ≡ true
        here = sym (ap (λ (x : Id). due S x d.member) is) ∙ h.0.owed

        by : (o : Option ParticipantRecord) → participant_at (numbered (members_of S l) d.member) ≡ o → IsOwedOf owing l 1 (members_of S l) d
        by None none = absurd (let wrong : true ≡ false = sym here ∙ unknown d.member none in cc)
        by (Some p) found = at (numbered (members_of S l) d.member) refl found
          where
            at : (o : Option Member) → numbered (members_of S l) d.member ≡ o → participant_at o ≡ Some p → IsOwedOf owing l 1 (members_of S l) d
            at None t e = absurd cc
            at (Some (Nested n)) t e = absurd cc
            at (Some Left) t e = absurd cc
            at (Some (Participant q)) t e =
                let same : q ≡ p = cc in
                let place = numbered_from (members_of S l) d.member (Participant q) t in
                let number = place.1 in
                let index : d.member - 1 ≡ place.0 = omega (arith, number) in
                record {
                  named = is;
                  from = omega (arith, number);
                  p = p;
                  there = ap (slice_get (members_of S l)) index ∙ place.2 ∙ ap (λ x. Some (Participant x)) same;
                  owed = sym (known d.member p found) ∙ here;
                }

    only : (d : Due) → In d (owed_by owing l 1 (members_of S l)) → IsDueAt home S due d × (d.lra.num ≡ num)
    only d inside =
        let h = owed_only owing l 1 (members_of S l) d inside in
        let some = h.from in
        let found : participant_at (numbered (members_of S l) d.member) ≡ Some h.p = ap participant_at (numbered_at (members_of S l) (d.member - 1) d.member (Participant h.p) (omega (arith, some)) h.there) in (
          record {
            own = ap (λ (x : Id). x.home) h.named;
            held = ap (is_held S) h.named ∙ held;
            owed = ap (λ (x : Id). due S x d.member) h.named ∙ known d.member h.p found ∙ h.owed;
          },
          ap (λ (x : Id). x.num) h.named,
        )
