-- The result of a duty of a list, in numbers.
use Rattle.std.proofs.Common.{◌≡◌, ◌≤◌, ◌+◌, ◌∷◌, [], ◌&&◌, ◌∙◌, ℕ, Bool, true, false, List, Option, Some, None, ap, arith, cond, is_none, not, refl, sym}
use Rattle.std.proofs.lemmas.Bool.{and_left, and_right}
use Rattle.std.proofs.lemmas.List.Sums.{sum_by-cons, sum_by-set, sum_by_push}
use Rattle.std.specs.Prelude.{MatchBool}
use Rattle.std.specs.declared.time.Duration.{Duration}
use Rattle.wire_callbacks.specs.declared.duty.Duty.{Duty}
use Rattle.node_schedule.specs.Entering.{IsEntered, IsMadeToWait, keeping, noted}
use Rattle.node_schedule.specs.Once.{dues_of, duties_for, is_current, is_for, is_stray, spare_of}
use Rattle.node_schedule.specs.Slips.{called_of, is_called, is_called_in, is_over, is_over_in, pauses, pauses_in, waits, waits_in}
use Rattle.node_schedule.specs.Turns.{AtHost, IsPut, IsPutAt, Turns, changed_at, host_at, is_host_of, listed, newcomer, next_turn, nowhere, with_due}
use Rattle.node_schedule.specs.Turns.{place_of as host_place}
use Rattle.node_schedule.specs.declared.slip.Called.{Called}
use Rattle.node_schedule.specs.declared.slip.Slip.{Slip}
use Rattle.node_schedule.specs.declared.slip.SlipState.{SlipState}
use Rattle.node_schedule.specs.declared.slip.SlipState.TheVariants.{IsCalled, Pauses, Waits}
use Rattle.node_schedule.proofs.Counts.{found_in}
use Rattle.node_schedule.proofs.Once.{bit, not_stray, none_stray}

-- duties at hosts after a host is noted, and after one more is put
dues_noted : (who : Called) (duty : Duty) (hosts : List AtHost) (at : Option ℕ) → host_place duty hosts ≡ at → dues_of who (changed_at at listed hosts) ≡ dues_of who hosts
dues_noted who duty hosts None e = refl
dues_noted who duty hosts (Some place) e =
    let f = found_in (is_host_of duty) 0 place hosts nowhere e in
    omega (arith, f.is, f.within, sum_by-set (λ (host : AtHost). duties_for who host.due) hosts place (listed (host_at hosts place)) nowhere (omega (arith, f.is, f.within)))

dues_put : (who : Called) (duty : Duty) (old new : Turns) (at : Option ℕ) (is_put : Bool) → host_place duty old.hosts ≡ at → IsPutAt at duty old new is_put
    → dues_of who new.hosts ≡ dues_of who old.hosts + cond is_put (duties_for who (duty ∷ [])) 0
dues_put who duty old new None true e is =
    omega (arith, ap (λ (t : Turns). dues_of who t.hosts) is, sum_by_push (λ (host : AtHost). duties_for who host.due) old.hosts (newcomer duty (next_turn old.turns)), sum_by-cons (λ (d : Duty). bit (is_for who d)) duty [])
dues_put who duty old new None false e is = omega (arith, ap (λ (t : Turns). dues_of who t.hosts) is)
dues_put who duty old new (Some place) true e is =
    let f = found_in (is_host_of duty) 0 place old.hosts nowhere e in
    omega (
      arith,
      f.is,
      f.within,
      ap (λ (t : Turns). dues_of who t.hosts) is,
      sum_by_push (λ (d : Duty). bit (is_for who d)) (host_at old.hosts place).due duty,
      sum_by-cons (λ (d : Duty). bit (is_for who d)) duty [],
      sum_by-set (λ (host : AtHost). duties_for who host.due) old.hosts place (with_due duty (host_at old.hosts place)) nowhere (omega (arith, f.is, f.within)),
    )
dues_put who duty old new (Some place) false e is =
    omega (arith, ap (λ (t : Turns). dues_of who t.hosts) is, dues_noted who duty old.hosts (Some place) e)

-- a host that is changed is on the list
spare_changed : (who : Called) (duty : Duty) (change : AtHost → AtHost) → ((host : AtHost) → (change host).is_listed ≡ true) → (hosts : List AtHost) (at : Option ℕ) → host_place duty hosts ≡ at
    → spare_of who (changed_at at change hosts) ≤ spare_of who hosts
spare_changed who duty change each hosts None e = omega arith
spare_changed who duty change each hosts (Some place) e =
    let f = found_in (is_host_of duty) 0 place hosts nowhere e in
    omega (
      arith,
      f.is,
      f.within,
      sum_by-set (λ (host : AtHost). cond host.is_listed 0 (duties_for who host.due)) hosts place (change (host_at hosts place)) nowhere (omega (arith, f.is, f.within)),
      ap {B = ℕ} (λ (b : Bool). cond b 0 (duties_for who (change (host_at hosts place)).due)) (each (host_at hosts place)),
    )

spare_noted : (who : Called) (duty : Duty) (before after : Turns) → after ≡ noted duty before → spare_of who after.hosts ≤ spare_of who before.hosts
spare_noted who duty before after is =
    omega (arith, ap (λ (t : Turns). spare_of who t.hosts) is, spare_changed who duty listed (λ host. refl) before.hosts (host_place duty before.hosts) refl)

spare_put : (who : Called) (duty : Duty) (old new : Turns) (at : Option ℕ) (is_put : Bool) → host_place duty old.hosts ≡ at → IsPutAt at duty old new is_put
    → spare_of who new.hosts ≤ spare_of who old.hosts
spare_put who duty old new None true e is =
    omega (arith, ap (λ (t : Turns). spare_of who t.hosts) is, sum_by_push (λ (host : AtHost). cond host.is_listed 0 (duties_for who host.due)) old.hosts (newcomer duty (next_turn old.turns)))
spare_put who duty old new None false e is = omega (arith, ap (λ (t : Turns). spare_of who t.hosts) is)
spare_put who duty old new (Some place) true e is =
    omega (arith, ap (λ (t : Turns). spare_of who t.hosts) is, spare_changed who duty (with_due duty) (λ host. refl) old.hosts (Some place) e)
spare_put who duty old new (Some place) false e is =
    omega (arith, ap (λ (t : Turns). spare_of who t.hosts) is, spare_changed who duty listed (λ host. refl) old.hosts (Some place) e)

true_false : true ≡ false → ⊥
true_false e = cc

not_no : (b : Bool) → not b ≡ false → b ≡ true
not_no true e = refl
not_no false e = sym e

free_is_over : (now : Duration) (stand : SlipState) → waits_in stand ≡ false → is_called_in stand ≡ false → pauses_in now stand ≡ false → is_over_in now stand ≡ true
free_is_over now Waits w c q = absurd cc
free_is_over now IsCalled w c q = absurd cc
free_is_over now (Pauses until) w c q = not_no (is_over_in now (Pauses until)) q

over_waits : (now : Duration) (stand : SlipState) → is_over_in now stand ≡ true → waits_in stand ≡ false
over_waits now Waits e = absurd cc
over_waits now IsCalled e = refl
over_waits now (Pauses until) e = refl

over_called : (now : Duration) (stand : SlipState) → is_over_in now stand ≡ true → is_called_in stand ≡ false
over_called now Waits e = refl
over_called now IsCalled e = absurd cc
over_called now (Pauses until) e = refl

-- a participant that isn't called, or for which a list has brought something, isn't called for what
-- the list has
idle_not_current : (slip : Slip) → is_called slip ≡ false → is_current slip ≡ false
idle_not_current slip e = and_left (is_called slip) (slip.is_listed && is_none slip.kept) e

kept_not_current : (duty : Duty) (slip : Slip) → slip.kept ≡ Some duty → is_current slip ≡ false
kept_not_current duty slip e =
    and_right (is_called slip) (slip.is_listed && is_none slip.kept) (and_right slip.is_listed (is_none slip.kept) (ap (λ (k : Option Duty). is_none k) e))

-- what is recorded for a slip of the participant that the duty is for, in numbers
pub record Enters (now : Duration) (duty : Duty) (old new : Slip) (before after : Turns) (is_put : Bool) : Type 0 where
  pub whose : new.who ≡ old.who
  pub calls : is_called new ≡ is_called old
  pub paused : bit (pauses now new) ≤ bit (pauses now old)
  pub on_list : new.is_listed ≡ true
  pub current : is_current new ≡ false
  pub strays : bit (is_stray new) ≤ bit (is_stray old)
  pub dues : (who : Called) → dues_of who after.hosts + cond (waits old) (duties_for who (duty ∷ [])) 0 ≡ dues_of who before.hosts + cond (waits new) (duties_for who (duty ∷ [])) 0
  pub more : (who : Called) → dues_of who before.hosts ≤ dues_of who after.hosts
  pub spare : (who : Called) → spare_of who after.hosts ≤ spare_of who before.hosts
  pub put : is_put ≡ true → waits old ≡ false → is_called old ≡ false → pauses now old ≡ false → waits new ≡ true

kept_enters : (now : Duration) (duty : Duty) (old new : Slip) (before after : Turns) (is_put : Bool) → old.who ≡ called_of duty → is_over now old ≡ false
    → new ≡ keeping duty old → after ≡ noted duty before → Enters now duty old new before after is_put
kept_enters now duty old new before after is_put its over is noted = record {
  whose = ap (λ (s : Slip). s.who) is;
  calls = ap is_called is;
  paused = omega (arith, ap {B = ℕ} (λ (s : Slip). bit (pauses now s)) is);
  on_list = ap (λ (s : Slip). s.is_listed) is;
  current = kept_not_current duty new (ap (λ (s : Slip). s.kept) is);
  strays = omega (arith, ap {B = ℕ} bit (not_stray duty new (ap (λ (s : Slip). s.kept) is) (ap (λ (s : Slip). s.who) is ∙ its)));
  dues = λ who. omega (
    arith,
    ap (λ (t : Turns). dues_of who t.hosts) noted,
    dues_noted who duty before.hosts (host_place duty before.hosts) refl,
    ap {B = ℕ} (λ (s : Slip). cond (waits s) (duties_for who (duty ∷ [])) 0) is,
  );
  more = λ who. omega (arith, ap (λ (t : Turns). dues_of who t.hosts) noted, dues_noted who duty before.hosts (host_place duty before.hosts) refl);
  spare = λ who. spare_noted who duty before after noted;
  put = λ p w c q. absurd (true_false (sym (free_is_over now old.stand w c q) ∙ over));
}

waits_enters : (now : Duration) (duty : Duty) (old new : Slip) (before after : Turns) (is_put : Bool) → is_over now old ≡ true
    → IsPut duty before after is_put → IsMadeToWait is_put old new → Enters now duty old new before after is_put
waits_enters now duty old new before after is_put over put made = record {
  whose = made.who;
  calls = made.not_called ∙ sym (over_called now old.stand over);
  paused = omega (arith, ap {B = ℕ} bit (made.not_paused now));
  on_list = made.listed;
  current = idle_not_current new made.not_called;
  strays = omega (arith, ap {B = ℕ} bit (none_stray new made.kept));
  dues = λ who. omega (
    arith,
    dues_put who duty before after (host_place duty before.hosts) is_put refl put,
    ap {B = ℕ} (λ (b : Bool). cond b (duties_for who (duty ∷ [])) 0) made.waits,
    ap {B = ℕ} (λ (b : Bool). cond b (duties_for who (duty ∷ [])) 0) (over_waits now old.stand over),
  );
  more = λ who. omega (arith, dues_put who duty before after (host_place duty before.hosts) is_put refl put);
  spare = λ who. spare_put who duty before after (host_place duty before.hosts) is_put refl put;
  put = λ p w c q. made.waits ∙ p;
}

-- by the test
enters_at : (now : Duration) (duty : Duty) (old new : Slip) (before after : Turns) (is_put over : Bool) → is_over now old ≡ over → old.who ≡ called_of duty
    → MatchBool over (IsPut duty before after is_put × IsMadeToWait is_put old new) ((new ≡ keeping duty old) × (after ≡ noted duty before) × (is_put ≡ true))
    → Enters now duty old new before after is_put
enters_at now duty old new before after is_put true o its h = waits_enters now duty old new before after is_put o h.0 h.1
enters_at now duty old new before after is_put false o its h = kept_enters now duty old new before after is_put its o h.0 h.1

pub enters : (now : Duration) (duty : Duty) (old new : Slip) (before after : Turns) (is_put : Bool) → old.who ≡ called_of duty → IsEntered now duty old new before after is_put
    → Enters now duty old new before after is_put
enters now duty old new before after is_put its h = enters_at now duty old new before after is_put (is_over now old) refl its h
