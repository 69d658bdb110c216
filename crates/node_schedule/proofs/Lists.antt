-- A whole list of duties, in numbers.
use Rattle.std.proofs.Common.{◌≡◌, ◌≤◌, ◌<◌, ◌+◌, ◌&&◌, ◌∙◌, ℕ, Bool, true, false, List, IsTrue, ap, arith, cond, filter, map, not, refl, sym}
use Rattle.std.proofs.lemmas.Bool.{and_right as and_none}
use Rattle.std.proofs.lemmas.List.Filters.{sum_by-filter_both}
use Rattle.std.specs.List.{count_by}
use Rattle.std.specs.Prelude.{if◌then◌else◌, nat_lt}
use Rattle.std.specs.declared.time.Duration.{Duration}
use Rattle.wire_callbacks.specs.declared.duty.Duty.{Duty}
use Rattle.node_schedule.specs.Calling.{Calling}
use Rattle.node_schedule.specs.Listing.{PutsSome, recalled_all, remembered}
use Rattle.node_schedule.specs.Once.{HasEachOnce, MayBeCalled, NamesNobodyTwice, calls_of, current_of, dues_of, duties_for, hidden_of, is_current, is_of, is_stray, listed_of, pauses_of, slips_of, spare_of, waits_of}
use Rattle.node_schedule.specs.Slips.{back, is_called, is_called_in, is_remembered, pauses, pauses_in, taken_back, waits, waits_in}
use Rattle.node_schedule.specs.Turns.{AtHost, is_kept, recalled}
use Rattle.node_schedule.specs.declared.slip.Called.{Called}
use Rattle.node_schedule.specs.declared.slip.Slip.{Slip}
use Rattle.node_schedule.specs.declared.slip.SlipState.{SlipState}
use Rattle.node_schedule.specs.declared.slip.SlipState.TheVariants.{IsCalled, Pauses, Waits}
use Rattle.node_schedule.proofs.Counts.{counts_mapped, filter_below, filter_keeps, filter_leaves, filter_within, none_counts, none_summed, sums_mapped}
use Rattle.node_schedule.proofs.Once.{bit}
use Rattle.node_schedule.proofs.Puts.{fresh_paused}

back_called : (stand : SlipState) → is_called_in (back stand) ≡ is_called_in stand
back_called Waits = refl
back_called IsCalled = refl
back_called (Pauses until) = refl

back_waits : (stand : SlipState) → waits_in (back stand) ≡ false
back_waits Waits = refl
back_waits IsCalled = refl
back_waits (Pauses until) = refl

back_pauses : (now : Duration) (who : Called) (stand : SlipState) → pauses_in now (back stand) ≡ pauses_in now stand
back_pauses now who Waits = fresh_paused now who
back_pauses now who IsCalled = refl
back_pauses now who (Pauses until) = refl

-- what is taken back, for a given participant
record TakesBack (now : Duration) (who : Called) (old : Calling) : Type 0 where
  calls : calls_of who (map taken_back old.slips) ≡ calls_of who old.slips
  pauses : pauses_of now who (map taken_back old.slips) ≡ pauses_of now who old.slips
  slips : slips_of who (map taken_back old.slips) ≡ slips_of who old.slips
  waits : waits_of who (map taken_back old.slips) ≡ 0
  listed : listed_of who (map taken_back old.slips) ≡ 0
  hidden : hidden_of who (map taken_back old.slips) ≡ 0
  current : current_of who (map taken_back old.slips) ≡ 0
  stray : count_by is_stray (map taken_back old.slips) ≡ 0
  dues : dues_of who (map recalled old.now.hosts) ≡ 0
  spare : spare_of who (map recalled old.now.hosts) ≡ 0

none_mapped : (f : Slip → Bool) → ((slip : Slip) → f (taken_back slip) ≡ false) → (slips : List Slip) → count_by f (map taken_back slips) ≡ 0
none_mapped f each slips = sums_mapped (λ (slip : Slip). bit (f slip)) taken_back slips ∙ none_counts (λ (slip : Slip). f (taken_back slip)) each slips

takes_back : (now : Duration) (who : Called) (old : Calling) → TakesBack now who old
takes_back now who old = record {
  calls = counts_mapped (λ (slip : Slip). is_of who slip && is_called slip) taken_back (λ slip. ap (λ (b : Bool). is_of who slip && b) (back_called slip.stand)) old.slips;
  pauses = counts_mapped (λ (slip : Slip). is_of who slip && pauses now slip) taken_back (λ slip. ap (λ (b : Bool). is_of who slip && b) (back_pauses now who slip.stand)) old.slips;
  slips = counts_mapped (is_of who) taken_back (λ slip. refl) old.slips;
  waits = none_mapped (λ (slip : Slip). is_of who slip && waits slip) (λ slip. and_none (is_of who slip) (waits (taken_back slip)) (back_waits slip.stand)) old.slips;
  listed = none_mapped (λ (slip : Slip). is_of who slip && slip.is_listed) (λ slip. and_none (is_of who slip) false refl) old.slips;
  hidden = none_mapped (λ (slip : Slip). is_of who slip && (waits slip && not slip.is_listed))
      (λ slip. and_none (is_of who slip) (waits (taken_back slip) && true) (ap (λ (b : Bool). b && true) (back_waits slip.stand))) old.slips;
  current = none_mapped (λ (slip : Slip). is_of who slip && is_current slip)
      (λ slip. and_none (is_of who slip) (is_current (taken_back slip)) (and_none (is_called (taken_back slip)) false refl)) old.slips;
  stray = none_mapped is_stray (λ slip. refl) old.slips;
  dues = sums_mapped (λ (host : AtHost). duties_for who host.due) recalled old.now.hosts ∙ none_summed (λ (host : AtHost). 0) (λ host. refl) old.now.hosts;
  spare = sums_mapped (λ (host : AtHost). cond host.is_listed 0 (duties_for who host.due)) recalled old.now.hosts ∙ none_summed (λ (host : AtHost). 0) (λ host. refl) old.now.hosts;
}

true_no : true ≡ false → ⊥
true_no e = cc

and_true : (a : Bool) → bit (a && true) ≡ bit a
and_true true = refl
and_true false = refl

still : (a b c : Bool) → c ≡ false → bit (a && b) ≤ bit (a && (b && not c))
still true true c e = omega (arith, ap {B = ℕ} (λ (c : Bool). bit (not c)) e)
still true false c e = omega arith
still false b c e = omega arith

-- a participant that isn't remembered is neither on the list nor called
not_listed : (slip : Slip) (b : Bool) → slip.is_listed ≡ b → is_remembered slip ≡ false → b ≡ false
not_listed slip true e r = ap (λ (b : Bool). if b then true else is_called slip) (sym e) ∙ r
not_listed slip false e r = refl

not_called : (slip : Slip) (b : Bool) → slip.is_listed ≡ b → is_remembered slip ≡ false → is_called slip ≡ false
not_called slip true e r = absurd (true_no (ap (λ (b : Bool). if b then true else is_called slip) (sym e) ∙ r))
not_called slip false e r = ap (λ (b : Bool). if b then true else is_called slip) (sym e) ∙ r

one_is : (a : Bool) (slip : Slip) (b c : Bool) → slip.is_listed ≡ b → is_called slip ≡ c → is_remembered slip ≡ true → bit a ≤ bit (a && slip.is_listed) + bit (a && is_called slip)
one_is a slip true c e h r = omega (arith, ap {B = ℕ} (λ (b : Bool). bit (a && b)) e, and_true a)
one_is a slip false true e h r = omega (arith, ap {B = ℕ} (λ (b : Bool). bit (a && b)) h, and_true a)
one_is a slip false false e h r = absurd (true_no (sym r ∙ ap (λ (b : Bool). if b then true else is_called slip) e ∙ h))

left_calls : (who : Called) (slips : List Slip) → calls_of who (filter is_remembered slips) ≡ calls_of who slips
left_calls who slips =
    filter_keeps (λ (slip : Slip). is_of who slip && is_called slip) is_remembered
    (λ slip dropped. and_none (is_of who slip) (is_called slip) (not_called slip slip.is_listed refl dropped)) slips

left_waits : (who : Called) (slips : List Slip) → waits_of who slips ≤ waits_of who (filter is_remembered slips) + hidden_of who slips
left_waits who slips =
    filter_leaves (λ (slip : Slip). bit (is_of who slip && waits slip)) (λ (slip : Slip). bit (is_of who slip && (waits slip && not slip.is_listed))) is_remembered
    (λ slip dropped. still (is_of who slip) (waits slip) slip.is_listed (not_listed slip slip.is_listed refl dropped)) slips

left_slips : (who : Called) (slips : List Slip) → slips_of who (filter is_remembered slips) ≤ listed_of who slips + calls_of who slips
left_slips who slips =
    filter_within (λ (slip : Slip). bit (is_of who slip)) (λ (slip : Slip). bit (is_of who slip && slip.is_listed)) (λ (slip : Slip). bit (is_of who slip && is_called slip)) is_remembered
    (λ slip kept. one_is (is_of who slip) slip slip.is_listed (is_called slip) refl refl kept) slips

-- a host that isn't kept isn't on the list
unkept : (who : Called) (host : AtHost) (b : Bool) → host.is_listed ≡ b → is_kept host ≡ false → duties_for who host.due ≤ cond host.is_listed 0 (duties_for who host.due)
unkept who host true e r = absurd (true_no (ap (λ (b : Bool). if b then true else nat_lt 0 host.calls) (sym e) ∙ r))
unkept who host false e r = omega (arith, ap {B = ℕ} (λ (b : Bool). cond b 0 (duties_for who host.due)) e)

left_dues : (who : Called) (hosts : List AtHost) → dues_of who hosts ≤ dues_of who (filter is_kept hosts) + spare_of who hosts
left_dues who hosts =
    filter_leaves (λ (host : AtHost). duties_for who host.due) (λ (host : AtHost). cond host.is_listed 0 (duties_for who host.due)) is_kept
    (λ host dropped. unkept who host host.is_listed refl dropped) hosts

fewer_dues : (who : Called) (hosts : List AtHost) → dues_of who (filter is_kept hosts) ≤ dues_of who hosts
fewer_dues who hosts = omega (arith, sum_by-filter_both is_kept (λ (host : AtHost). not (is_kept host)) (λ host. refl) (λ (host : AtHost). duties_for who host.due) hosts)

-- a list of duties: all are taken back, those on the list are put, and the others forgotten
pub record Lists (now : Duration) (duties : List Duty) (old mid : Calling) (is_whole : Bool) : Type 0 where
  pub puts : (who : Called) → PutsSome now who (duties_for who duties) 0 (recalled_all old) mid is_whole

pub lists_once : (now : Duration) (duties : List Duty) (old mid : Calling) (is_whole : Bool) → Lists now duties old mid is_whole → NamesNobodyTwice duties → HasEachOnce old → HasEachOnce (remembered mid)
lists_once now duties old mid is_whole lists single once = record {
  slips = λ who.
      let b = takes_back now who old in let p = lists.puts who in
      omega (arith, filter_below (is_of who) is_remembered mid.slips, p.slips (single who) (omega (arith, b.slips, once.slips who)));
  waits = λ who.
      let b = takes_back now who old in let p = lists.puts who in
      omega (arith, fewer_dues who mid.now.hosts, p.dues, b.dues, b.waits, left_waits who mid.slips, p.hidden, b.hidden);
  kept =
      let p = lists.puts (record { id = record { home = 0; num = 0 }; member = 0; of_end = false }) in
      let b = takes_back now (record { id = record { home = 0; num = 0 }; member = 0; of_end = false }) old in
      omega (arith, filter_below is_stray is_remembered mid.slips, p.stray, b.stray);
}

pub lists_called : (now : Duration) (duties : List Duty) (old mid : Calling) (is_whole : Bool) → Lists now duties old mid is_whole → (who : Called) → calls_of who (remembered mid).slips ≡ calls_of who old.slips
lists_called now duties old mid is_whole lists who =
    let b = takes_back now who old in let p = lists.puts who in
    omega (arith, left_calls who mid.slips, p.calls, b.calls)

pub lists_put : (now : Duration) (duties : List Duty) (old mid : Calling) (is_whole : Bool) → Lists now duties old mid is_whole → IsTrue is_whole → NamesNobodyTwice duties → (who : Called)
    → 0 < duties_for who duties → MayBeCalled now who old → 0 < dues_of who (remembered mid).now.hosts
lists_put now duties old mid is_whole lists whole single who named may =
    let b = takes_back now who old in let p = lists.puts who in
    let put : dues_of who (recalled_all old).now.hosts < dues_of who mid.now.hosts =
    p.put whole (single who) named b.waits (omega (arith, b.calls, may.not_called)) (omega (arith, b.pauses, may.not_paused)) in
    omega (arith, put, left_dues who mid.now.hosts, p.spare, b.spare)

pub lists_forgotten : (now : Duration) (duties : List Duty) (old mid : Calling) (is_whole : Bool) → Lists now duties old mid is_whole → (who : Called)
    → duties_for who duties ≡ 0 → calls_of who old.slips ≡ 0 → slips_of who (remembered mid).slips ≡ 0
lists_forgotten now duties old mid is_whole lists who none free =
    let b = takes_back now who old in let p = lists.puts who in
    omega (arith, left_slips who mid.slips, p.listed, b.listed, none, p.calls, b.calls, free)

pub lists_current : (now : Duration) (duties : List Duty) (old mid : Calling) (is_whole : Bool) → Lists now duties old mid is_whole → (who : Called) → current_of who (remembered mid).slips ≡ 0
lists_current now duties old mid is_whole lists who =
    let b = takes_back now who old in let p = lists.puts who in
    omega (arith, filter_below (λ (slip : Slip). is_of who slip && is_current slip) is_remembered mid.slips, p.current, b.current)
