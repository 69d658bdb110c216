-- How many caller threads hosts that hang occupy; a slow host waits for none of these.
use Rattle.std.proofs.Common.{◌≡◌, ◌<◌, ◌≤◌, ◌+◌, ◌-◌, ℕ, Bool, true, false, List, Option, None, Some, ap, arith, cond, filter, length, map, max, refl}
use Rattle.std.proofs.lemmas.List.Sums.{length-filter}
use Rattle.std.specs.Prelude.{if◌then◌else◌, nat_lt}
use Rattle.wire_callbacks.specs.declared.duty.Duty.{Duty}
use Rattle.node_schedule.proofs.Counts.{sums_below}
use Rattle.node_schedule.proofs.Named.{next_within}
use Rattle.node_schedule.proofs.Tested.{known_within, one_if, passing_changed, passing_kept, passing_mapped, passing_put, passing_set}
use Rattle.node_schedule.proofs.Waiting.{next_may, none_waits}
use Rattle.node_schedule.specs.Turns.{AtHost, BeginsAt, IsNext, IsPut, IsTaken, Turns, busy_with, changed_at, hanging_calls, has_room, host_at, is_called_as_hanging, is_called_slowly, is_called_unsurely, is_due, is_hanging, is_kept, is_quick, is_slow, listed, may_be_called, place_of, recalled, share, slow_calls, unsure_calls, with_end}
use Rattle.node_schedule.specs.Waiting.{LeavesOne, other_calls, other_calls_at}
use Rattle.node_schedule.specs.declared.host.Busy.{Busy}
use Rattle.node_schedule.specs.declared.pace.Pace.{Pace}
use Rattle.node_schedule.specs.declared.pace.Pace.TheVariants.{Hanging, Quick, Refusing, Slow, Unknown}

-- a host that isn't quick begins a call only if it is one of three
one_of_three : (pace : Pace) (busy : Busy) (calls : ℕ) (due : Bool) → is_quick pace ≡ false
    → (if nat_lt calls (share pace) then (if has_room busy pace then due else false) else false) ≡ true → busy.unsure < 3
one_of_three Quick busy calls due is may = absurd cc
one_of_three Unknown busy calls due is may = grind (arith, may)
one_of_three Slow busy calls due is may = grind (arith, may)
one_of_three Refusing busy calls due is may = grind (arith, may)
one_of_three Hanging busy calls due is may = grind (arith, may)

pub other_few : (busy : Busy) (host : AtHost) → is_quick host.pace ≡ false → may_be_called busy host ≡ true → busy.unsure < 3
other_few busy host is may = one_of_three host.pace busy host.calls (is_due host) is may

pub other_counts : (host : AtHost) → is_quick host.pace ≡ false → is_called_unsurely host ≡ nat_lt 0 host.calls
other_counts host is = ap {B = Bool} (λ b. if b then false else nat_lt 0 host.calls) is

-- a host that hangs begins a call only if it is one of two
one_of_two : (pace : Pace) (busy : Busy) (calls : ℕ) (due : Bool) → pace ≡ Hanging
    → (if nat_lt calls (share pace) then (if has_room busy pace then due else false) else false) ≡ true → busy.hanging < 2
one_of_two Quick busy calls due is may = absurd cc
one_of_two Unknown busy calls due is may = absurd cc
one_of_two Slow busy calls due is may = absurd cc
one_of_two Refusing busy calls due is may = absurd cc
one_of_two Hanging busy calls due is may = grind (arith, may)

pub hanging_few : (busy : Busy) (host : AtHost) → host.pace ≡ Hanging → may_be_called busy host ≡ true → busy.hanging < 2
hanging_few busy host is may = one_of_two host.pace busy host.calls (is_due host) is may

-- a call that may begin is at most the second to hosts that hang
begun_two : (pace : Pace) (busy : Busy) (calls : ℕ) (due : Bool)
    → (if nat_lt calls (share pace) then (if has_room busy pace then due else false) else false) ≡ true
    → busy.hanging + one_if (if is_hanging pace then nat_lt 0 (calls + 1) else false) ≤ max 2 busy.hanging + one_if (if is_hanging pace then nat_lt 0 calls else false)
begun_two Quick busy calls due may = omega arith
begun_two Unknown busy calls due may = omega arith
begun_two Slow busy calls due may = omega arith
begun_two Refusing busy calls due may = omega arith
begun_two Hanging busy calls due may = grind (arith, may)

taken_two : (place : ℕ) (duty : Duty) (old new : Turns) → IsNext old (Some place) → BeginsAt place duty old new → hanging_calls new.hosts ≤ max 2 (hanging_calls old.hosts)
taken_two place duty old new next begins =
    let p = host_at old.hosts place in
    let q = host_at new.hosts place in
    let set = passing_set is_called_as_hanging old.hosts place q (next_within old place next) in
    let calls : is_called_as_hanging q ≡ (if is_hanging p.pace then nat_lt 0 (p.calls + 1) else false) = ap is_called_as_hanging begins.begins.rest in
    omega (arith, ap hanging_calls begins.others, set, ap one_if calls, begun_two p.pace (busy_with old.hosts) p.calls (is_due p) (next_may old place next))

pub taken_hanging : (old new : Turns) (duty : Option Duty) → IsTaken old new duty → hanging_calls new.hosts ≤ max 2 (hanging_calls old.hosts)
taken_hanging old new None taken = omega (arith, ap (λ (t : Turns). hanging_calls t.hosts) taken.1)
taken_hanging old new (Some duty) (place, next, begins) = taken_two place duty old new next begins

-- a host counts as at most one, and as none if it isn't called
hangs_once : (pace : Pace) (calls : ℕ) → one_if (if is_hanging pace then nat_lt 0 calls else false) ≤ calls
hangs_once Quick calls = omega arith
hangs_once Unknown calls = omega arith
hangs_once Slow calls = omega arith
hangs_once Refusing calls = omega arith
hangs_once Hanging calls = grind arith

-- a call that is over adds one if another goes on at that host
ended_if : (hosts : List AtHost) (pace : Pace) (place : Option ℕ) → ((at : ℕ) → place ≡ Some at → at < length hosts)
    → hanging_calls (changed_at place (with_end pace) hosts) ≤ hanging_calls hosts + other_calls_at place hosts
ended_if hosts pace None within = omega arith
ended_if hosts pace (Some at) within =
    let p = host_at hosts at in
    omega (arith, passing_set is_called_as_hanging hosts at (with_end pace p) (within at refl), hangs_once pace (p.calls - 1))

pub ended_hanging : (duty : Duty) (pace : Pace) (hosts : List AtHost)
    → hanging_calls (changed_at (place_of duty hosts) (with_end pace) hosts) ≤ hanging_calls hosts + other_calls duty hosts
ended_hanging duty pace hosts = ended_if hosts pace (place_of duty hosts) (λ at is. known_within duty hosts at is)

-- slow hosts and hosts that hang are different, and neither is quick
different : (pace : Pace) (calls : ℕ)
    → one_if (if is_slow pace then nat_lt 0 calls else false) + one_if (if is_hanging pace then nat_lt 0 calls else false) ≤ one_if (if is_quick pace then false else nat_lt 0 calls)
different Quick calls = omega arith
different Unknown calls = omega arith
different Slow calls = omega arith
different Refusing calls = omega arith
different Hanging calls = omega arith

slow_and_hanging : (hosts : List AtHost) → slow_calls hosts + hanging_calls hosts ≤ unsure_calls hosts
slow_and_hanging hosts =
    omega (
      arith,
      length-filter is_called_slowly hosts,
      length-filter is_called_as_hanging hosts,
      length-filter is_called_unsurely hosts,
      sums_below (λ x. cond (is_called_slowly x) 1 0) (λ x. cond (is_called_as_hanging x) 1 0) (λ x. cond (is_called_unsurely x) 1 0) (λ x. different x.pace x.calls) hosts,
    )

pub hanging_below : (hosts : List AtHost) → LeavesOne hosts → hanging_calls hosts ≤ 3
hanging_below hosts few = omega (arith, slow_and_hanging hosts, few)

-- a host that isn't kept isn't called
dropped_still : (pace : Pace) (calls : ℕ) (is_listed : Bool) → (if is_listed then true else nat_lt 0 calls) ≡ false → (if is_hanging pace then nat_lt 0 calls else false) ≡ false
dropped_still Quick calls is_listed is = refl
dropped_still Unknown calls is_listed is = refl
dropped_still Slow calls is_listed is = refl
dropped_still Refusing calls is_listed is = refl
dropped_still Hanging calls is_listed is = grind (arith, is)

pub put_hanging : (duty : Duty) (old new : Turns) (is_put : Bool) → IsPut duty old new is_put → hanging_calls new.hosts ≡ hanging_calls old.hosts
put_hanging duty old new is_put put = passing_put is_called_as_hanging duty old new is_put (λ host. refl) (λ host. refl) refl put

pub noted_hanging : (duty : Duty) (hosts : List AtHost) → hanging_calls (changed_at (place_of duty hosts) listed hosts) ≡ hanging_calls hosts
noted_hanging duty hosts = passing_changed is_called_as_hanging listed (λ host. refl) duty hosts

pub recalled_hanging : (hosts : List AtHost) → hanging_calls (map recalled hosts) ≡ hanging_calls hosts
recalled_hanging hosts = passing_mapped is_called_as_hanging recalled (λ host. refl) hosts

pub forgotten_hanging : (hosts : List AtHost) → hanging_calls (filter is_kept hosts) ≡ hanging_calls hosts
forgotten_hanging hosts = passing_kept is_called_as_hanging is_kept (λ host is. dropped_still host.pace host.calls host.is_listed is) hosts

-- a slow host has room
slow_may : (pace : Pace) (busy : Busy) (calls : ℕ) (due : Bool) → pace ≡ Slow → calls < 1 → due ≡ true → busy.slow < 2 → busy.unsure < 3
    → (if nat_lt calls (share pace) then (if has_room busy pace then due else false) else false) ≡ true
slow_may Quick busy calls due is free waits slow unsure = absurd cc
slow_may Unknown busy calls due is free waits slow unsure = absurd cc
slow_may Slow busy calls due is free waits slow unsure = grind (arith, free, waits, slow, unsure)
slow_may Refusing busy calls due is free waits slow unsure = absurd cc
slow_may Hanging busy calls due is free waits slow unsure = absurd cc

pub slow_may_be_called : (busy : Busy) (host : AtHost) → host.pace ≡ Slow → host.calls < share Slow → is_due host ≡ true → busy.slow < 2 → busy.unsure < 3
    → may_be_called busy host ≡ true
slow_may_be_called busy host is free waits slow unsure = slow_may host.pace busy host.calls (is_due host) is free waits slow unsure

pub slow_beside : (hosts : List AtHost) (host : AtHost) → host.pace ≡ Slow → host.calls < share Slow → is_due host ≡ true → hanging_calls hosts ≤ 2 → unsure_calls hosts ≤ hanging_calls hosts
    → may_be_called (busy_with hosts) host ≡ true
slow_beside hosts host is free waits two alone =
    slow_may_be_called (busy_with hosts) host is free waits (omega (arith, slow_and_hanging hosts, alone)) (omega (arith, two, alone))

pub slow_is_next : (now : Turns) (place : ℕ) → place < length now.hosts → (host_at now.hosts place).pace ≡ Slow → (host_at now.hosts place).calls < share Slow
    → is_due (host_at now.hosts place) ≡ true → slow_calls now.hosts < 2 → unsure_calls now.hosts < 3 → IsNext now None → ⊥
slow_is_next now place within is free waits slow unsure next =
    let may = slow_may_be_called (busy_with now.hosts) (host_at now.hosts place) is free waits slow unsure in
    none_waits now place next within may
