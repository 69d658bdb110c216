-- One duty of a list, put at a place, in numbers.
use Rattle.std.proofs.Common.{◌≡◌, ◌≤◌, ◌<◌, ◌+◌, ◌∷◌, [], ◌⊎◌, ◌&&◌, ◌∙◌, inl, inr, ℕ, Bool, true, false, List, IsTrue, ap, arith, cond, length, max, min, not, refl, suc, zero, slice_set, subst, sym, take}
use Rattle.std.proofs.lemmas.Bool.{and_right as and_none, le-leb}
use Rattle.std.proofs.lemmas.Bool.Decides.{leb_tells}
use Rattle.std.proofs.lemmas.List.{get_or-set_same, length-set, take-set-le}
use Rattle.std.proofs.lemmas.List.Sums.{sum_by-cons, sum_by_more, sum_by_more_le}
use Rattle.std.specs.List.{count_by}
use Rattle.std.specs.Duration.{as_nanos}
use Rattle.std.specs.declared.time.Duration.{Duration}
use Rattle.wire_callbacks.specs.declared.duty.Duty.{Duty}
use Rattle.node_schedule.specs.Calling.{Calling}
use Rattle.node_schedule.specs.Listing.{IsBrought, PutsOne, PutsSome}
use Rattle.node_schedule.specs.Once.{calls_of, dues_of, duties_for, is_current, is_for, is_of, is_stray, pauses_of, slips_of, spare_of, waits_of}
use Rattle.node_schedule.specs.Pausing.{nobody, slip_at}
use Rattle.node_schedule.specs.Slips.{called_of, fresh, is_called, pauses, same_called, waits}
use Rattle.node_schedule.specs.Turns.{Turns}
use Rattle.node_schedule.specs.declared.slip.Called.{Called}
use Rattle.node_schedule.specs.declared.slip.Slip.{Slip}
use Rattle.node_schedule.proofs.Counts.{called_is}
use Rattle.node_schedule.proofs.Entered.{Enters}
use Rattle.node_schedule.proofs.Once.{bit, set_counts}

pub false_true : false ≡ true → ⊥
false_true e = cc

pub fresh_paused : (now : Duration) (who : Called) → pauses now (fresh who) ≡ false
fresh_paused now who = ap not (le-leb 0 (as_nanos now) (omega arith))

pub both_below : (a b c : Bool) → bit b ≤ bit c → bit (a && b) ≤ bit (a && c)
both_below true b c h = h
both_below false b c h = omega arith

both_left : (a b : Bool) → bit (a && b) ≤ bit a
both_left true true = omega arith
both_left true false = omega arith
both_left false b = omega arith

both_cond : (a b : Bool) → bit (a && b) ≡ cond b (bit a) 0
both_cond true true = refl
both_cond true false = refl
both_cond false true = refl
both_cond false false = refl

both_hidden : (a b c : Bool) → c ≡ true → bit (a && (b && not c)) ≡ 0
both_hidden true true c e = ap {B = ℕ} (λ (c : Bool). bit (not c)) e
both_hidden true false c e = refl
both_hidden false b c e = refl

right_false : (a b : Bool) → 0 < bit a → bit (a && b) ≤ 0 → b ≡ false
right_false true true h e = absurd (omega arith)
right_false true false h e = refl
right_false false b h e = absurd (omega arith)

-- the duty counts as one for its participant
one_for : (who : Called) (duty : Duty) → duties_for who (duty ∷ []) ≡ bit (is_for who duty)
one_for who duty = omega (arith, sum_by-cons (λ (d : Duty). bit (is_for who d)) duty [])

same_at : (who : Called) (g : Slip → Bool) (place : ℕ) (duty : Duty) (old mid : List Slip) → g (fresh (called_of duty)) ≡ false → ((test : Slip → Bool) → count_by test mid ≡ count_by test old)
    ⊎ (((test : Slip → Bool) → count_by test mid ≡ count_by test old + cond (test (fresh (called_of duty))) 1 0) × (slips_of (called_of duty) (take place old) ≡ slips_of (called_of duty) old))
    → count_by (λ (slip : Slip). is_of who slip && g slip) mid ≡ count_by (λ (slip : Slip). is_of who slip && g slip) old
same_at who g place duty old mid none (inl same) = same (λ (slip : Slip). is_of who slip && g slip)
same_at who g place duty old mid none (inr more) = omega (arith, more.0 (λ (slip : Slip). is_of who slip && g slip), ap {B = ℕ} bit (and_none (is_of who (fresh (called_of duty))) (g (fresh (called_of duty))) none))

brought_same : (who : Called) (g : Slip → Bool) (place : ℕ) (duty : Duty) (old mid : List Slip) (r : Bool) → g (fresh (called_of duty)) ≡ false → IsBrought place (called_of duty) old mid r
    → count_by (λ (slip : Slip). is_of who slip && g slip) mid ≡ count_by (λ (slip : Slip). is_of who slip && g slip) old
brought_same who g place duty old mid r none brought = same_at who g place duty old mid none brought.all

stray_at : (place : ℕ) (duty : Duty) (old mid : List Slip) → ((test : Slip → Bool) → count_by test mid ≡ count_by test old)
    ⊎ (((test : Slip → Bool) → count_by test mid ≡ count_by test old + cond (test (fresh (called_of duty))) 1 0) × (slips_of (called_of duty) (take place old) ≡ slips_of (called_of duty) old))
    → count_by is_stray mid ≡ count_by is_stray old
stray_at place duty old mid (inl same) = same is_stray
stray_at place duty old mid (inr more) = omega (arith, more.0 is_stray)

brought_stray : (place : ℕ) (duty : Duty) (old mid : List Slip) (r : Bool) → IsBrought place (called_of duty) old mid r → count_by is_stray mid ≡ count_by is_stray old
brought_stray place duty old mid r brought = stray_at place duty old mid brought.all

one_more : (who : Called) (place : ℕ) (duty : Duty) (old mid : List Slip) (b : Bool) → is_for who duty ≡ b → slips_of who mid ≡ slips_of who old + bit (is_for who duty)
    → slips_of (called_of duty) (take place old) ≡ slips_of (called_of duty) old → slips_of who mid ≤ max (slips_of who old) (slips_of who (take place old) + duties_for who (duty ∷ []))
one_more who place duty old mid true e more first =
    let here : slips_of who (take place old) ≡ slips_of who old = subst (λ (w : Called). slips_of w (take place old) ≡ slips_of w old) (called_is (called_of duty) who e) first in
    omega (arith, here, more, one_for who duty)
one_more who place duty old mid false e more first = omega (arith, more, ap {B = ℕ} bit e)

slips_at : (who : Called) (place : ℕ) (duty : Duty) (old mid : List Slip) → ((test : Slip → Bool) → count_by test mid ≡ count_by test old)
    ⊎ (((test : Slip → Bool) → count_by test mid ≡ count_by test old + cond (test (fresh (called_of duty))) 1 0) × (slips_of (called_of duty) (take place old) ≡ slips_of (called_of duty) old))
    → slips_of who mid ≤ max (slips_of who old) (slips_of who (take place old) + duties_for who (duty ∷ []))
slips_at who place duty old mid (inl same) = omega (arith, same (is_of who))
slips_at who place duty old mid (inr more) = one_more who place duty old mid (is_for who duty) refl (more.0 (is_of who)) more.1

brought_slips : (who : Called) (place : ℕ) (duty : Duty) (old mid : List Slip) (r : Bool) → IsBrought place (called_of duty) old mid r
    → slips_of who mid ≤ max (slips_of who old) (slips_of who (take place old) + duties_for who (duty ∷ []))
brought_slips who place duty old mid r brought = slips_at who place duty old mid brought.all

first_same : (who : Called) (place : ℕ) (new : List Slip) → slips_of who (take (place + 0) new) ≡ slips_of who (take place new)
first_same who place new = let e : place + 0 ≡ place = omega arith in ap (λ k. slips_of who (take k new)) e

-- no participant's slip came to the place
pub puts_none : (now : Duration) (duty : Duty) (place : ℕ) (who : Called) (old new : Calling) → place ≤ length old.slips → new.now ≡ old.now → IsBrought place (called_of duty) old.slips new.slips false
    → PutsOne now duty place who old new false
puts_none now duty place who old new room hosts brought =
    let dues : dues_of who new.now.hosts ≡ dues_of who old.now.hosts = ap (λ (t : Turns). dues_of who t.hosts) hosts in
    let waits_same : waits_of who new.slips ≡ waits_of who old.slips = brought_same who waits place duty old.slips new.slips false refl brought in
    record {
      slips = brought_slips who place duty old.slips new.slips false brought;
      first = omega (arith, first_same who place new.slips, brought.first (is_of who) room);
      room = omega (arith, brought.room, room);
      calls = brought_same who is_called place duty old.slips new.slips false refl brought;
      pauses = omega (arith, brought_same who (pauses now) place duty old.slips new.slips false (fresh_paused now (called_of duty)) brought);
      listed = omega (arith, brought_same who (λ (slip : Slip). slip.is_listed) place duty old.slips new.slips false refl brought);
      hidden = omega (arith, brought_same who (λ (slip : Slip). waits slip && not slip.is_listed) place duty old.slips new.slips false refl brought);
      current = omega (arith, brought_same who is_current place duty old.slips new.slips false refl brought);
      stray = omega (arith, brought_stray place duty old.slips new.slips false brought);
      waits = omega (arith, waits_same);
      dues = omega (arith, waits_same, dues);
      more = omega (arith, dues);
      spare = omega (arith, ap (λ (t : Turns). spare_of who t.hosts) hosts);
      put = λ p d w c q. absurd (false_true p);
    }

-- a slip that is read is counted
pub read_counts : (f : Slip → Bool) (slips : List Slip) (place : ℕ) → place < length slips → bit (f (slip_at slips place)) ≤ count_by f slips
read_counts f slips place within = omega (arith, sum_by_more_le (λ (slip : Slip). bit (f slip)) slips place nobody within)

-- a duty is recorded at a place
pub record EntersAt (now : Duration) (duty : Duty) (place : ℕ) (old new : Calling) (mid : List Slip) (slip : Slip) (is_put : Bool) : Type 0 where
  pub brought : IsBrought place (called_of duty) old.slips mid true
  pub is : new.slips ≡ slice_set mid place slip
  pub enters : Enters now duty (slip_at mid place) slip old.now new.now is_put

its_old : (who : Called) (now : Duration) (duty : Duty) (place : ℕ) (old new : Calling) (mid : List Slip) (slip : Slip) (r : Bool) → EntersAt now duty place old new mid slip r
    → is_of who (slip_at mid place) ≡ is_for who duty
its_old who now duty place old new mid slip r e = ap (λ (w : Called). same_called w who) (e.brought.there refl).1

its_new : (who : Called) (now : Duration) (duty : Duty) (place : ℕ) (old new : Calling) (mid : List Slip) (slip : Slip) (r : Bool) → EntersAt now duty place old new mid slip r
    → is_of who slip ≡ is_for who duty
its_new who now duty place old new mid slip r e = ap (λ (w : Called). same_called w who) (e.enters.whose ∙ (e.brought.there refl).1)

entered_counts : (f : Slip → Bool) (now : Duration) (duty : Duty) (place : ℕ) (old new : Calling) (mid : List Slip) (slip : Slip) (r : Bool) → EntersAt now duty place old new mid slip r
    → count_by f new.slips + bit (f (slip_at mid place)) ≡ count_by f mid + bit (f slip)
entered_counts f now duty place old new mid slip r e = set_counts f mid new.slips place slip (e.brought.there refl).0 e.is

entered_first : (who : Called) (now : Duration) (duty : Duty) (place : ℕ) (old new : Calling) (mid : List Slip) (slip : Slip) (r : Bool) → place ≤ length old.slips → EntersAt now duty place old new mid slip r
    → slips_of who (take (place + cond r 1 0) new.slips) ≤ slips_of who (take place old.slips) + duties_for who (duty ∷ [])
entered_first who now duty place old new mid slip false room e =
    omega (arith, first_same who place new.slips, ap (λ (s : List Slip). slips_of who (take place s)) e.is, ap (slips_of who) (take-set-le place mid place slip (omega arith)), e.brought.first (is_of who) room)
entered_first who now duty place old new mid slip true room e =
    let within : place < length mid = (e.brought.there refl).0 in
    let there : slip_at new.slips place ≡ slip = ap (λ (s : List Slip). slip_at s place) e.is ∙ get_or-set_same mid place slip nobody within in
    let same : length new.slips ≡ length mid = ap length e.is ∙ length-set mid place slip in
    omega (
      arith,
      sum_by_more (λ (s : Slip). bit (is_of who s)) new.slips place nobody (omega arith),
      ap (λ (s : List Slip). slips_of who (take place s)) e.is,
      ap (slips_of who) (take-set-le place mid place slip (omega arith)),
      e.brought.first (is_of who) room,
      ap {B = ℕ} (λ (s : Slip). bit (is_of who s)) there,
      ap {B = ℕ} bit (its_new who now duty place old new mid slip true e),
      one_for who duty,
    )

entered_room : (now : Duration) (duty : Duty) (place : ℕ) (old new : Calling) (mid : List Slip) (slip : Slip) (r : Bool) → EntersAt now duty place old new mid slip r → place + cond r 1 0 ≤ length new.slips
entered_room now duty place old new mid slip false e = omega (arith, (e.brought.there refl).0, ap length e.is, length-set mid place slip)
entered_room now duty place old new mid slip true e = omega (arith, (e.brought.there refl).0, ap length e.is, length-set mid place slip)

entered_put : (now : Duration) (duty : Duty) (place : ℕ) (who : Called) (old new : Calling) (mid : List Slip) (slip : Slip) (r : Bool) → EntersAt now duty place old new mid slip r
    → IsTrue r → 0 < duties_for who (duty ∷ []) → waits_of who old.slips ≡ 0 → calls_of who old.slips ≡ 0 → pauses_of now who old.slips ≡ 0
    → dues_of who old.now.hosts < dues_of who new.now.hosts
entered_put now duty place who old new mid slip false e p d w c q = absurd (false_true p)
entered_put now duty place who old new mid slip true e p d w c q =
    let s = slip_at mid place in
    let within : place < length mid = (e.brought.there refl).0 in
    let its : 0 < bit (is_of who s) = omega (arith, one_for who duty, d, ap {B = ℕ} bit (its_old who now duty place old new mid slip true e)) in
    let waits_no : waits s ≡ false = right_false (is_of who s) (waits s) its (omega (arith, w, brought_same who waits place duty old.slips mid true refl e.brought, read_counts (λ (slip : Slip). is_of who slip && waits slip) mid place within)) in
    let called_no : is_called s ≡ false = right_false (is_of who s) (is_called s) its (omega (arith, c, brought_same who is_called place duty old.slips mid true refl e.brought, read_counts (λ (slip : Slip). is_of who slip && is_called slip) mid place within)) in
    let pauses_no : pauses now s ≡ false = right_false (is_of who s) (pauses now s) its (omega (arith, q, brought_same who (pauses now) place duty old.slips mid true (fresh_paused now (called_of duty)) e.brought, read_counts (λ (slip : Slip). is_of who slip && pauses now slip) mid place within)) in
    omega (
      arith,
      d,
      e.enters.dues who,
      ap {B = ℕ} (λ (b : Bool). cond b (duties_for who (duty ∷ [])) 0) waits_no,
      ap {B = ℕ} (λ (b : Bool). cond b (duties_for who (duty ∷ [])) 0) (e.enters.put refl waits_no called_no pauses_no),
    )

pub cond_for : (who : Called) (duty : Duty) (a b : Bool) → a ≡ is_for who duty → bit (a && b) ≡ cond b (duties_for who (duty ∷ [])) 0
cond_for who duty a true e = omega (arith, both_cond a true, one_for who duty, ap {B = ℕ} bit e)
cond_for who duty a false e = both_cond a false

pub puts_one : (now : Duration) (duty : Duty) (place : ℕ) (who : Called) (old new : Calling) (mid : List Slip) (slip : Slip) (r : Bool) → place ≤ length old.slips → EntersAt now duty place old new mid slip r
    → PutsOne now duty place who old new r
puts_one now duty place who old new mid slip r room e =
    let s = slip_at mid place in
    let was = its_old who now duty place old new mid slip r e in
    let is = its_new who now duty place old new mid slip r e in
    let same : is_of who slip ≡ is_of who s = is ∙ sym was in
    let change = λ (f : Slip → Bool). entered_counts f now duty place old new mid slip r e in
    let one : duties_for who (duty ∷ []) ≡ bit (is_of who slip) = one_for who duty ∙ ap {B = ℕ} bit (sym is) in
    let waits_same = brought_same who waits place duty old.slips mid true refl e.brought in
    record {
      slips = omega (arith, brought_slips who place duty old.slips mid true e.brought, change (is_of who), ap {B = ℕ} bit same);
      first = entered_first who now duty place old new mid slip r room e;
      room = entered_room now duty place old new mid slip r e;
      calls = omega (
        arith,
        brought_same who is_called place duty old.slips mid true refl e.brought,
        change (λ (slip : Slip). is_of who slip && is_called slip),
        ap {B = ℕ} (λ (b : Bool). bit (b && is_called slip)) same,
        ap {B = ℕ} (λ (b : Bool). bit (is_of who s && b)) e.enters.calls,
      );
      pauses = omega (
        arith,
        brought_same who (pauses now) place duty old.slips mid true (fresh_paused now (called_of duty)) e.brought,
        change (λ (slip : Slip). is_of who slip && pauses now slip),
        ap {B = ℕ} (λ (b : Bool). bit (b && pauses now slip)) same,
        both_below (is_of who s) (pauses now slip) (pauses now s) e.enters.paused,
      );
      listed = omega (
        arith,
        brought_same who (λ (slip : Slip). slip.is_listed) place duty old.slips mid true refl e.brought,
        change (λ (slip : Slip). is_of who slip && slip.is_listed),
        both_left (is_of who slip) slip.is_listed,
        one,
      );
      hidden = omega (
        arith,
        brought_same who (λ (slip : Slip). waits slip && not slip.is_listed) place duty old.slips mid true refl e.brought,
        change (λ (slip : Slip). is_of who slip && (waits slip && not slip.is_listed)),
        both_hidden (is_of who slip) (waits slip) slip.is_listed e.enters.on_list,
      );
      current = omega (
        arith,
        brought_same who is_current place duty old.slips mid true refl e.brought,
        change (λ (slip : Slip). is_of who slip && is_current slip),
        ap {B = ℕ} bit (and_none (is_of who slip) (is_current slip) e.enters.current),
      );
      stray = omega (arith, brought_stray place duty old.slips mid true e.brought, change is_stray, e.enters.strays);
      waits = omega (arith, waits_same, change (λ (slip : Slip). is_of who slip && waits slip), both_left (is_of who slip) (waits slip), one);
      dues = omega (
        arith,
        waits_same,
        change (λ (slip : Slip). is_of who slip && waits slip),
        e.enters.dues who,
        cond_for who duty (is_of who slip) (waits slip) is,
        cond_for who duty (is_of who s) (waits s) was,
      );
      more = e.enters.more who;
      spare = e.enters.spare who;
      put = entered_put now duty place who old new mid slip r e;
    }

-- the number of a participant's slips among the first ones, together with its duties that are left,
-- is at most the number of its duties
abbrev pub IsFirstFew : Called → (all left place : ℕ) → List Slip → Type 0
IsFirstFew who all left place slips = slips_of who (take place slips) + left ≤ all

put_by_now : (now : Duration) (who : Called) (all : ℕ) (duty : Duty) (left rest place : ℕ) (old mid new : Calling) (was_whole is_put : Bool) (count : ℕ) → duties_for who (duty ∷ []) ≡ count
    → left ≡ count + rest → PutsSome now who all left old mid was_whole → PutsOne now duty place who mid new is_put → was_whole ≡ true → is_put ≡ true → all ≤ 1 → rest < all
    → waits_of who old.slips ≡ 0 → calls_of who old.slips ≡ 0 → pauses_of now who old.slips ≡ 0 → dues_of who old.now.hosts < dues_of who new.now.hosts
put_by_now now who all duty left rest place old mid new was_whole is_put zero e split so one p r a l w c q =
    omega (arith, so.put p a (omega arith) w c q, one.more)
put_by_now now who all duty left rest place old mid new was_whole is_put (suc n) e split so one p r a l w c q =
    omega (arith, so.more, one.put r (omega arith) (omega (arith, so.waits, w, split, a, l, so.few)) (omega (arith, so.calls, c)) (omega (arith, so.pauses, q)))

put_next_one : (now : Duration) (who : Called) (all : ℕ) (duty : Duty) (left rest place : ℕ) (old mid new : Calling) (was_whole is_put : Bool)
    → left ≡ duties_for who (duty ∷ []) + rest → PutsSome now who all left old mid was_whole → PutsOne now duty place who mid new is_put → was_whole ≡ true → is_put ≡ true → all ≤ 1 → rest < all
    → waits_of who old.slips ≡ 0 → calls_of who old.slips ≡ 0 → pauses_of now who old.slips ≡ 0 → dues_of who old.now.hosts < dues_of who new.now.hosts
put_next_one now who all duty left rest place old mid new was_whole is_put split so one p r a l w c q =
    put_by_now now who all duty left rest place old mid new was_whole is_put (duties_for who (duty ∷ [])) refl split so one p r a l w c q

pub puts_next : (now : Duration) (who : Called) (all place : ℕ) (left rest : List Duty) (duty : Duty) (old mid new : Calling) (was_whole is_whole is_put : Bool) → left ≡ duty ∷ rest
    → PutsSome now who all (duties_for who left) old mid was_whole → IsFirstFew who all (duties_for who left) place mid.slips → PutsOne now duty place who mid new is_put
    → (is_whole ≡ true → (was_whole ≡ true) × (is_put ≡ true)) → PutsSome now who all (duties_for who rest) old new is_whole
puts_next now who all place left rest duty old mid new was_whole is_whole is_put is so first one whole =
    let split : duties_for who left ≡ duties_for who (duty ∷ []) + duties_for who rest =
    omega (arith, ap (duties_for who) is, sum_by-cons (λ (d : Duty). bit (is_for who d)) duty rest, one_for who duty) in
    record {
      few = omega (arith, so.few, split);
      slips = λ a h. omega (arith, one.slips, so.slips a h, first, split, a);
      calls = one.calls ∙ so.calls;
      pauses = omega (arith, one.pauses, so.pauses);
      listed = omega (arith, one.listed, so.listed, split);
      hidden = omega (arith, one.hidden, so.hidden);
      current = omega (arith, one.current, so.current);
      stray = omega (arith, one.stray, so.stray);
      waits = omega (arith, one.waits, so.waits, split);
      dues = omega (arith, one.dues, so.dues);
      more = omega (arith, one.more, so.more);
      spare = omega (arith, one.spare, so.spare);
      put = λ p a l w c q. put_next_one now who all duty (duties_for who left) (duties_for who rest) place old mid new was_whole is_put split so one (whole p).0 (whole p).1 a l w c q;
    }

pub first_next : (now : Duration) (who : Called) (all place : ℕ) (left rest : List Duty) (duty : Duty) (mid new : Calling) (is_put : Bool) → left ≡ duty ∷ rest
    → IsFirstFew who all (duties_for who left) place mid.slips → PutsOne now duty place who mid new is_put → IsFirstFew who all (duties_for who rest) (place + cond is_put 1 0) new.slips
first_next now who all place left rest duty mid new is_put is first one =
    omega (arith, first, one.first, ap (duties_for who) is, sum_by-cons (λ (d : Duty). bit (is_for who d)) duty rest, one_for who duty)

-- a place that is counted up to the greatest number
pub first_capped : (who : Called) (all left place top next : ℕ) (slips : List Slip) → next ≡ min (place + 1) top → place ≤ top → place + 1 ≤ length slips
    → IsFirstFew who all left (place + 1) slips → IsFirstFew who all left next slips
first_capped who all left place top next slips is below room first =
    elim (leb_tells (place + 1) top) as (λ _. IsFirstFew who all left next slips) [
      | inl h ↦ let e : next ≡ place + 1 = omega (arith, is, h.1) in omega (arith, first, ap (λ (k : ℕ). slips_of who (take k slips)) e)
      | inr h ↦ let e : next ≡ place = omega (arith, is, h.1) in omega (arith, first, ap (λ (k : ℕ). slips_of who (take k slips)) e, sum_by_more (λ (s : Slip). bit (is_of who s)) slips place nobody (omega arith))
    ]

pub first_zero : (who : Called) (all left place : ℕ) (slips : List Slip) → IsFirstFew who all left (place + 0) slips → IsFirstFew who all left place slips
first_zero who all left place slips first = omega (arith, first, first_same who place slips)
