-- Between two lists, only what the first list names is called.
use Rattle.std.proofs.Common.{◌≡◌, ◌≤◌, ◌<◌, ◌+◌, ◌∷◌, [], ◌∙◌, inl, inr, ℕ, Bool, IfSome, List, Option, Some, None, ap, arith, refl, slice_set, subst, sym, suc, zero}
use Rattle.std.proofs.lemmas.List.Elements.{All-cons, All-contains, All-nil, All-set}
use Rattle.std.specs.List.{All, Contains}
use Rattle.std.specs.declared.time.Duration.{Duration}
use Rattle.wire_callbacks.specs.declared.duty.Duty.{Duty}
use Rattle.node_schedule.specs.Calling.{Calling, ended, forgotten}
use Rattle.node_schedule.specs.Latest.{Begins, Ends, Event, Forgets, Happen, Happens, Hears, Misses, Pauses, Resumes, begun_after, begun_in}
use Rattle.node_schedule.specs.Named.{AllDue, AllKept, AllNamed, AllWaiting, IsKept, NamesOnly, Passes}
use Rattle.node_schedule.specs.Once.{HasEachOnce, IsBeingCalled, current_of}
use Rattle.node_schedule.specs.Pausing.{IsBusyAt, IsFound, IsMissed, found, nobody, slip_at}
use Rattle.node_schedule.specs.Slips.{called_of, place_of}
use Rattle.node_schedule.specs.Turns.{AtHost, Turns, changed_at, host_at, is_host_of, nowhere, with_end}
use Rattle.node_schedule.specs.Turns.{place_of as host_place}
use Rattle.node_schedule.specs.declared.pace.Pace.{Pace}
use Rattle.node_schedule.specs.declared.plight.CallFailure.{CallFailure}
use Rattle.node_schedule.specs.declared.plight.Plight.{Plight}
use Rattle.node_schedule.specs.declared.slip.Called.{Called}
use Rattle.node_schedule.specs.declared.slip.Slip.{Slip}
use Rattle.node_schedule.proofs.Counts.{found_in}
use Rattle.node_schedule.proofs.Latest.{forgotten_names, missed_before, missed_behind, paused_names}
use Rattle.node_schedule.proofs.Named.{taken}
use Rattle.node_schedule.proofs.Once.{busy_once, busy_pauses, found_once, found_slip, missed_once, once_ended, once_forgotten, once_taken}
use Rattle.node_schedule.proofs.Resumed.{resumed_once}

-- what stays between two lists
record Stays (test : Duty → Bool) (begun : List Duty) (calling : Calling) : Type 0 where
  once : HasEachOnce calling
  named : AllNamed test calling
  pass : All (Passes test) begun

ended_waits : (test : Duty → Bool) (duty : Duty) (pace : Pace) (hosts : List AtHost) (at : Option ℕ) → host_place duty hosts ≡ at → AllWaiting test hosts → AllWaiting test (changed_at at (with_end pace) hosts)
ended_waits test duty pace hosts None e waiting = waiting
ended_waits test duty pace hosts (Some place) e waiting =
    let f = found_in (is_host_of duty) 0 place hosts nowhere e in
    All-set (AllDue test) hosts place (with_end pace (host_at hosts place)) (waiting place nowhere (omega (arith, f.is, f.within))) waiting

ended_names : (test : Duty → Bool) (duty : Duty) (pace : Pace) (calling : Calling) → AllNamed test calling → AllNamed test (ended duty pace calling)
ended_names test duty pace calling named = record {
  waiting = ended_waits test duty pace calling.now.hosts (host_place duty calling.now.hosts) refl named.waiting;
  kept = named.kept;
}

found_names : (test : Duty → Bool) (duty : Duty) (now : Duration) (old new : Calling) (plight : Option Plight) (at : Option ℕ) → place_of (called_of duty) old.slips ≡ at → IsFound at duty now old new plight
    → AllNamed test old → AllNamed test new
found_names test duty now old new plight None e p named = subst (AllNamed test) (sym p.0) named
found_names test duty now old new plight (Some place) e p named =
    subst (AllNamed test) (sym p.changes) (record {
      waiting = named.waiting;
      kept = All-set (IsKept test) old.slips place (found (slip_at old.slips place)) (named.kept place nobody (found_slip (called_of duty) place old.slips e).0) named.kept;
    })

busy_names : (test : Duty → Bool) (who : Called) (now : Duration) (old new : Calling) (at : Option ℕ) → place_of who old.slips ≡ at → IsBusyAt at now old new → AllNamed test old → AllNamed test new
busy_names test who now old new None e same named = subst (AllNamed test) (sym same) named
busy_names test who now old new (Some place) e p named =
    paused_names test who place old new (busy_pauses who now place old new e p) (subst (λ (k : Option Duty). IfSome k (Passes test)) (sym p.paused.kept) tt) p.others named

missed_names : (test : Duty → Bool) (begun : List Duty) (duty : Duty) (came : CallFailure) (now : Duration) (old new : Calling) (plight : Option Plight) (current : ℕ) → current_of (called_of duty) old.slips ≡ current
    → IsMissed (place_of (called_of duty) old.slips) duty came now old new plight → IsBeingCalled (called_of duty) old → (0 < current → Contains begun duty) → Stays test begun old → AllNamed test new
missed_names test begun duty came now old new plight zero e p called its s = missed_before test duty came now old new plight p s.once called e s.named
missed_names test begun duty came now old new plight (suc n) e p called its s =
    missed_behind test duty came now old new plight p (All-contains (Passes test) begun duty s.pass (its (omega arith))) s.named

stays : (test : Duty → Bool) (begun : List Duty) (event : Event) (old new : Calling) → Happens begun event old new → Stays test begun old → Stays test (begun_after begun event) new
stays test begun (Begins duty) old new h s =
    let both = taken old new duty test h s.named in
    record { once = once_taken old new duty s.once h; named = both.1; pass = All-cons (Passes test) duty begun both.0 s.pass }
stays test begun Resumes old new h s = record {
  once = (resumed_once old.resumes_at h.1.0 old new h.1.1 h.1.2 s.once).0;
  named = h.0 test s.named (All-nil (Passes test));
  pass = s.pass;
}
stays test begun (Ends duty pace) old new h s = record {
  once = subst HasEachOnce (sym h) (once_ended duty pace old s.once);
  named = subst (AllNamed test) (sym h) (ended_names test duty pace old s.named);
  pass = s.pass;
}
stays test begun (Hears duty) old new h s = record {
  once = (found_once duty h.0 old new h.1 h.2).0 s.once;
  named = found_names test duty h.0 old new h.1 (place_of (called_of duty) old.slips) refl h.2 s.named;
  pass = s.pass;
}
stays test begun (Pauses who) old new h s = record {
  once = (busy_once who h.1.0 old new h.1.1).0 h.0 s.once;
  named = busy_names test who h.1.0 old new (place_of who old.slips) refl h.1.1 s.named;
  pass = s.pass;
}
stays test begun (Misses duty) old new h s = record {
  once = (missed_once duty h.2.0 h.2.1 old new h.2.2 h.2.3).0 h.0 s.once;
  named = missed_names test begun duty h.2.0 h.2.1 old new h.2.2 (current_of (called_of duty) old.slips) refl h.2.3 h.0 h.1 s;
  pass = s.pass;
}
stays test begun (Forgets who) old new h s = record {
  once = subst HasEachOnce (sym h.1) (once_forgotten who old h.0 s.once);
  named = subst (AllNamed test) (sym h.1) (forgotten_names test who old s.named);
  pass = s.pass;
}

all_begun : (test : Duty → Bool) (events : List Event) (begun : List Duty) (old new : Calling) → Happen begun events old new → Stays test begun old → All (Passes test) (begun_in begun events)
all_begun test [] begun old new h s = s.pass
all_begun test (event ∷ events) begun old new h s = all_begun test events (begun_after begun event) h.0 new h.2 (stays test begun event old h.0 h.1 s)

pub begun_pass : (list : List Duty) (events : List Event) (old new : Calling) (test : Duty → Bool) → HasEachOnce old → NamesOnly old list → ((who : Called) → current_of who old.slips ≡ 0)
    → Happen [] events old new → All (Passes test) list → All (Passes test) (begun_in [] events)
begun_pass list events old new test once only none h passes = all_begun test events [] old new h (record { once = once; named = only test passes; pass = All-nil (Passes test) })
