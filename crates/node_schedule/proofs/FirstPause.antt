-- When the first pause is over, of one slip after another.
use Rattle.std.proofs.Common.{◌≡◌, ◌≤◌, ◌<◌, ◌+◌, ◌∙◌, ℕ, Bool, true, false, List, MatchBool, Option, Some, None, IfSome, ap, arith, inl, inr, not, refl, subst, sym}
use Rattle.std.proofs.lemmas.Bool.{ltb-false, ltb-true}
use Rattle.std.proofs.lemmas.Bool.Decides.{eqb_tells}
use Rattle.std.specs.Duration.{as_nanos}
use Rattle.std.specs.Prelude.{if◌then◌else◌, nat_lt}
use Rattle.std.specs.declared.time.Duration.{Duration}
use Rattle.node_schedule.specs.Pausing.{earlier, slip_at}
use Rattle.node_schedule.specs.Resuming.{EntersKept, IsFirstPause, IsFirstPauseAt, ResumesOne, sooner}
use Rattle.node_schedule.specs.Slips.{is_over, is_over_in, pauses, pauses_in, until_in}
use Rattle.node_schedule.specs.Turns.{Turns}
use Rattle.node_schedule.specs.declared.slip.Slip.{Slip}
use Rattle.node_schedule.specs.declared.slip.SlipState.{SlipState}
use Rattle.node_schedule.specs.declared.slip.SlipState.TheVariants.{IsCalled, Pauses, Waits}

true_false : true ≡ false → ⊥
true_false e = cc

weaker : (P Q : Duration → Type 0) → ((x : Duration) → P x → Q x) → (o : Option Duration) → IfSome o P → IfSome o Q
weaker P Q h None p = p
weaker P Q h (Some x) p = h x p

over_not_on : (now : Duration) (stand : SlipState) → is_over_in now stand ≡ true → pauses_in now stand ≡ false
over_not_on now Waits e = refl
over_not_on now IsCalled e = refl
over_not_on now (Pauses until) e = ap not e

not_over_on : (now : Duration) (stand : SlipState) (until : Duration) → until_in stand ≡ Some until → is_over_in now stand ≡ false → pauses_in now stand ≡ true
not_over_on now Waits until u e = absurd cc
not_over_on now IsCalled until u e = absurd cc
not_over_on now (Pauses moment) until u e = ap not e

none_not_on : (now : Duration) (stand : SlipState) → until_in stand ≡ None → pauses_in now stand ≡ false
none_not_on now Waits u = refl
none_not_on now IsCalled u = refl
none_not_on now (Pauses moment) u = absurd cc

-- a slip that doesn't pause any longer changes nothing
passed : (now : Duration) (place : ℕ) (slips : List Slip) (next : Option Duration) → pauses now (slip_at slips place) ≡ false → IsFirstPause now place slips next → IsFirstPause now (place + 1) slips next
passed now place slips None off h = λ k e.
    elim (eqb_tells k place) as (λ _. pauses now (slip_at slips k) ≡ false) [
      | inl same ↦ subst (λ (k : ℕ). pauses now (slip_at slips k) ≡ false) (sym same.1) off
      | inr other ↦ h k (omega (arith, other.1))
    ]
passed now place slips (Some at) off h = record {
  place = h.place;
  within = omega (arith, h.within);
  is = h.is;
  goes_on = h.goes_on;
  first = λ k e on.
      elim (eqb_tells k place) as (λ _. IfSome (until_in (slip_at slips k).stand) (λ (until : Duration). as_nanos at ≤ as_nanos until)) [
        | inl same ↦ absurd (true_false (sym on ∙ subst (λ (k : ℕ). pauses now (slip_at slips k) ≡ false) (sym same.1) off))
        | inr other ↦ h.first k (omega (arith, other.1)) on
      ];
}

-- a slip that pauses may be the first
here : (now : Duration) (place : ℕ) (slips : List Slip) (at until : Duration) → until_in (slip_at slips place).stand ≡ Some until → as_nanos at ≤ as_nanos until
    → ((k : ℕ) → k < place → pauses now (slip_at slips k) ≡ true → IfSome (until_in (slip_at slips k).stand) (λ (u : Duration). as_nanos at ≤ as_nanos u))
    → (k : ℕ) → k < place + 1 → pauses now (slip_at slips k) ≡ true → IfSome (until_in (slip_at slips k).stand) (λ (u : Duration). as_nanos at ≤ as_nanos u)
here now place slips at until is le so k e on =
    elim (eqb_tells k place) as (λ _. IfSome (until_in (slip_at slips k).stand) (λ (u : Duration). as_nanos at ≤ as_nanos u)) [
      | inl same ↦ subst (λ (k : ℕ). IfSome (until_in (slip_at slips k).stand) (λ (u : Duration). as_nanos at ≤ as_nanos u)) (sym same.1)
          (subst (λ (o : Option Duration). IfSome o (λ (u : Duration). as_nanos at ≤ as_nanos u)) (sym is) le)
      | inr other ↦ so k (omega (arith, other.1)) on
    ]

added_at : (now : Duration) (place : ℕ) (slips : List Slip) (at until : Duration) (is_before : Bool) → nat_lt (as_nanos until) (as_nanos at) ≡ is_before → until_in (slip_at slips place).stand ≡ Some until
    → pauses now (slip_at slips place) ≡ true → IsFirstPauseAt now place slips at → IsFirstPauseAt now (place + 1) slips (if is_before then until else at)
added_at now place slips at until true b is on h =
    let less : as_nanos until < as_nanos at = ltb-true (as_nanos until) (as_nanos at) b in
    record {
      place = place;
      within = omega arith;
      is = is;
      goes_on = on;
      first = here now place slips until until is (omega arith) (λ k e p. weaker (λ (u : Duration). as_nanos at ≤ as_nanos u) (λ (u : Duration). as_nanos until ≤ as_nanos u) (λ u le. omega arith) (until_in (slip_at slips k).stand) (h.first k e p));
    }
added_at now place slips at until false b is on h =
    let le : as_nanos at ≤ as_nanos until = ltb-false (as_nanos until) (as_nanos at) b in
    record {
      place = h.place;
      within = omega (arith, h.within);
      is = h.is;
      goes_on = h.goes_on;
      first = here now place slips at until is le h.first;
    }

added : (now : Duration) (place : ℕ) (slips : List Slip) (next : Option Duration) (until : Duration) → until_in (slip_at slips place).stand ≡ Some until → pauses now (slip_at slips place) ≡ true
    → IsFirstPause now place slips next → IsFirstPauseAt now (place + 1) slips (earlier next until)
added now place slips None until is on h = record {
  place = place;
  within = omega arith;
  is = is;
  goes_on = on;
  first = here now place slips until until is (omega arith) (λ k e p. absurd (true_false (sym p ∙ h k e)));
}
added now place slips (Some at) until is on h = added_at now place slips at until (nat_lt (as_nanos until) (as_nanos at)) refl is on h

on_next : (now : Duration) (place : ℕ) (slips : List Slip) (next result until : Option Duration) → until_in (slip_at slips place).stand ≡ until → is_over now (slip_at slips place) ≡ false
    → result ≡ sooner next until → IsFirstPause now place slips next → IsFirstPause now (place + 1) slips result
on_next now place slips next result None u off is h =
    subst (IsFirstPause now (place + 1) slips) (sym is) (passed now place slips next (none_not_on now (slip_at slips place).stand u) h)
on_next now place slips next result (Some until) u off is h =
    subst (IsFirstPause now (place + 1) slips) (sym is) (added now place slips next until u (not_over_on now (slip_at slips place).stand until u off) h)

next_at : (now : Duration) (place : ℕ) (slips : List Slip) (new : Slip) (before after : Turns) (next result : Option Duration) (over : Bool) → is_over now (slip_at slips place) ≡ over
    → MatchBool over (EntersKept now (slip_at slips place).kept (slip_at slips place) new before after × (result ≡ next))
    ((new ≡ slip_at slips place) × (after ≡ before) × (result ≡ sooner next (until_in (slip_at slips place).stand)))
    → IsFirstPause now place slips next → IsFirstPause now (place + 1) slips result
next_at now place slips new before after next result true e h first =
    subst (IsFirstPause now (place + 1) slips) (sym h.1) (passed now place slips next (over_not_on now (slip_at slips place).stand e) first)
next_at now place slips new before after next result false e h first =
    on_next now place slips next result (until_in (slip_at slips place).stand) refl e h.2 first

pub pause_next : (now : Duration) (place : ℕ) (slips : List Slip) (new : Slip) (before after : Turns) (next result : Option Duration)
    → ResumesOne now (slip_at slips place) new before after next result → IsFirstPause now place slips next → IsFirstPause now (place + 1) slips result
pause_next now place slips new before after next result h first = next_at now place slips new before after next result (is_over now (slip_at slips place)) refl h first
