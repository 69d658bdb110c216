-- How long hosts wait for their turn, and which threads are left for which hosts.
use Rattle.std.proofs.Common.{◌≡◌, ◌<◌, ◌≤◌, ◌+◌, ◌-◌, ◌*◌, ◌∷◌, ◌∙◌, [], ℕ, Bool, true, false, List, Option, None, Some, ap, arith, cond, filter, length, map, not, refl, rules, subst, suc, sym, zero}
use Rattle.std.proofs.lemmas.List.Sums.{length-filter, sum_by-cons, sum_by-set}
use Rattle.std.specs.Prelude.{if◌then◌else◌, nat_le, nat_lt, slice_set}
use Rattle.std.specs.List.{count_by}
use Rattle.wire_callbacks.specs.declared.duty.Duty.{Duty}
use Rattle.node_schedule.proofs.Named.{next_within}
use Rattle.node_schedule.proofs.Tested.{known_within, one_if, passing_changed, passing_kept, passing_left, passing_mapped, passing_put, passing_set}
use Rattle.node_schedule.specs.Turns.{AtHost, BeginsAt, IsLongest, IsNewestNow, IsNext, IsPut, IsTaken, IsThatElseLongest, Turns, busy_with, changed_at, has_room, host_at, is_before, is_called_unsurely, is_due, is_kept, is_newest_turn, is_quick, listed, may_be_called, next_turn, nowhere, place_of, recalled, share, unsure_calls, with_end}
use Rattle.node_schedule.specs.Waiting.{IsWaiting, LeavesOne, WaitsFor, ahead, all_calls, is_ahead}
use Rattle.node_schedule.specs.declared.host.Busy.{Busy}
use Rattle.node_schedule.specs.declared.pace.Pace.{Pace}
use Rattle.node_schedule.specs.declared.pace.Pace.TheVariants.{Hanging, Quick, Refusing, Slow, Unknown}

-- a quick host has room
quick_may : (pace : Pace) (busy : Busy) (calls : ℕ) (due : Bool) → pace ≡ Quick → calls < 2 → due ≡ true
    → (if nat_lt calls (share pace) then (if has_room busy pace then due else false) else false) ≡ true
quick_may Quick busy calls due is few waits = grind (arith, few, waits)
quick_may Unknown busy calls due is few waits = absurd cc
quick_may Slow busy calls due is few waits = absurd cc
quick_may Refusing busy calls due is few waits = absurd cc
quick_may Hanging busy calls due is few waits = absurd cc

-- while some host may be called, a host is called
pub none_waits : (now : Turns) (place : ℕ) → IsNext now None → place < length now.hosts → may_be_called (busy_with now.hosts) (host_at now.hosts place) ≡ true → ⊥
none_waits now place next within may = search rules

pub quick_may_be_called : (busy : Busy) (host : AtHost) → host.pace ≡ Quick → host.calls < 2 → is_due host ≡ true → may_be_called busy host ≡ true
quick_may_be_called busy host is few waits = quick_may host.pace busy host.calls (is_due host) is few waits

pub quick_is_next : (now : Turns) (place : ℕ) → place < length now.hosts → (host_at now.hosts place).pace ≡ Quick → (host_at now.hosts place).calls < share Quick
    → is_due (host_at now.hosts place) ≡ true → IsNext now None → ⊥
quick_is_next now place within is few waits next =
    let may = quick_may_be_called (busy_with now.hosts) (host_at now.hosts place) is few waits in
    none_waits now place next within may

-- a call that may begin is at most the third to hosts that aren't known to answer quickly
begun_few : (pace : Pace) (busy : Busy) (calls : ℕ) (due : Bool)
    → (if nat_lt calls (share pace) then (if has_room busy pace then due else false) else false) ≡ true → busy.unsure ≤ 3
    → busy.unsure + one_if (if is_quick pace then false else nat_lt 0 (calls + 1)) ≤ 3 + one_if (if is_quick pace then false else nat_lt 0 calls)
begun_few Quick busy calls due may few = omega (arith, few)
begun_few Unknown busy calls due may few = grind (arith, may)
begun_few Slow busy calls due may few = grind (arith, may)
begun_few Refusing busy calls due may few = grind (arith, may)
begun_few Hanging busy calls due may few = grind (arith, may)

-- a host has at least as many calls as it counts for
counts_once : (pace : Pace) (calls : ℕ) → one_if (if is_quick pace then false else nat_lt 0 calls) ≤ calls
counts_once Quick calls = omega arith
counts_once Unknown calls = grind arith
counts_once Slow calls = grind arith
counts_once Refusing calls = grind arith
counts_once Hanging calls = grind arith

unsure_within : (hosts : List AtHost) → count_by is_called_unsurely hosts ≤ all_calls hosts
unsure_within [] = omega arith
unsure_within (host ∷ hosts) =
    omega (arith, sum_by-cons (λ x. cond (is_called_unsurely x) 1 0) host hosts, sum_by-cons (λ (x : AtHost). x.calls) host hosts, counts_once host.pace host.calls, unsure_within hosts)

pub next_may : (now : Turns) (place : ℕ) → IsNext now (Some place) → may_be_called (busy_with now.hosts) (host_at now.hosts place) ≡ true
next_may now place next = search rules

taken_at : (place : ℕ) (duty : Duty) (old new : Turns) → IsNext old (Some place) → BeginsAt place duty old new → LeavesOne old.hosts → LeavesOne new.hosts
taken_at place duty old new next begins few =
    let p = host_at old.hosts place in
    let q = host_at new.hosts place in
    let set = passing_set is_called_unsurely old.hosts place q (next_within old place next) in
    let calls : is_called_unsurely q ≡ (if is_quick p.pace then false else nat_lt 0 (p.calls + 1)) = ap is_called_unsurely begins.begins.rest in
    omega (
      arith,
      ap unsure_calls begins.others,
      set,
      ap one_if calls,
      begun_few p.pace (busy_with old.hosts) p.calls (is_due p) (next_may old place next) few,
    )

pub taken_leaves : (old new : Turns) (duty : Option Duty) → IsTaken old new duty → LeavesOne old.hosts → LeavesOne new.hosts
taken_leaves old new None taken few = subst (λ (t : Turns). LeavesOne t.hosts) (sym taken.1) few
taken_leaves old new (Some duty) (place, next, begins) few = taken_at place duty old new next begins few

-- after a call is over, at most three of four calls are left
ended_at : (hosts : List AtHost) (pace : Pace) (place : ℕ) → place < length hosts → all_calls hosts ≤ 4 → LeavesOne hosts → LeavesOne (changed_at (Some place) (with_end pace) hosts)
ended_at hosts pace place within all few =
    let p = host_at hosts place in
    let q = with_end pace p in
    omega (
      arith,
      passing_set is_called_unsurely hosts place q within,
      counts_once pace (p.calls - 1),
      sum_by-set (λ (x : AtHost). x.calls) hosts place q nowhere within,
      length-filter is_called_unsurely (slice_set hosts place q),
      unsure_within (slice_set hosts place q),
      all,
      few,
    )

ended_if : (hosts : List AtHost) (pace : Pace) (place : Option ℕ) → ((at : ℕ) → place ≡ Some at → at < length hosts) → all_calls hosts ≤ 4 → LeavesOne hosts
    → LeavesOne (changed_at place (with_end pace) hosts)
ended_if hosts pace None within all few = few
ended_if hosts pace (Some at) within all few = ended_at hosts pace at (within at refl) all few

pub ended_leaves : (duty : Duty) (pace : Pace) (hosts : List AtHost) → all_calls hosts ≤ 4 → LeavesOne hosts → LeavesOne (changed_at (place_of duty hosts) (with_end pace) hosts)
ended_leaves duty pace hosts all few = ended_if hosts pace (place_of duty hosts) (λ at is. known_within duty hosts at is) all few

-- a host that isn't kept isn't called
dropped_free : (pace : Pace) (calls : ℕ) (is_listed : Bool) → (if is_listed then true else nat_lt 0 calls) ≡ false → (if is_quick pace then false else nat_lt 0 calls) ≡ false
dropped_free Quick calls is_listed is = refl
dropped_free Unknown calls is_listed is = grind (arith, is)
dropped_free Slow calls is_listed is = grind (arith, is)
dropped_free Refusing calls is_listed is = grind (arith, is)
dropped_free Hanging calls is_listed is = grind (arith, is)

pub put_leaves : (duty : Duty) (old new : Turns) (is_put : Bool) → IsPut duty old new is_put → unsure_calls new.hosts ≡ unsure_calls old.hosts
put_leaves duty old new is_put put = passing_put is_called_unsurely duty old new is_put (λ host. refl) (λ host. refl) refl put

pub noted_leaves : (duty : Duty) (hosts : List AtHost) → unsure_calls (changed_at (place_of duty hosts) listed hosts) ≡ unsure_calls hosts
noted_leaves duty hosts = passing_changed is_called_unsurely listed (λ host. refl) duty hosts

pub recalled_leaves : (hosts : List AtHost) → unsure_calls (map recalled hosts) ≡ unsure_calls hosts
recalled_leaves hosts = passing_mapped is_called_unsurely recalled (λ host. refl) hosts

pub forgotten_leaves : (hosts : List AtHost) → unsure_calls (filter is_kept hosts) ≡ unsure_calls hosts
forgotten_leaves hosts = passing_kept is_called_unsurely is_kept (λ host is. dropped_free host.pace host.calls host.is_listed is) hosts

-- a host that is called goes behind
later : (turn next : ℕ) → turn < next → nat_le next turn ≡ false
later turn next behind = grind (arith, behind)

taken_behind : (turn place : ℕ) (duty : Duty) (old new : Turns) → place < length old.hosts → BeginsAt place duty old new → turn < next_turn old.turns
    → ahead turn new.hosts + one_if (is_ahead turn (host_at old.hosts place)) ≡ ahead turn old.hosts
taken_behind turn place duty old new within begins behind =
    let q = host_at new.hosts place in
    let set = passing_set (is_ahead turn) old.hosts place q within in
    let is : is_ahead turn q ≡ false = ap (is_ahead turn) begins.begins.rest ∙ later turn (next_turn old.turns) behind in
    omega (arith, ap (ahead turn) begins.others, set, ap one_if is)

pub taken_ahead : (turn : ℕ) (old new : Turns) (duty : Duty) → IsTaken old new (Some duty) → turn < next_turn old.turns → ahead turn new.hosts ≤ ahead turn old.hosts
taken_ahead turn old new duty (place, next, begins) behind = omega (arith, taken_behind turn place duty old new (next_within old place next) begins behind)

-- the host that waited longest has its turn no later than another that isn't called
not_behind : (one other : AtHost) → other.calls ≡ 0 → is_before other one ≡ false → nat_le one.turn other.turn ≡ true
not_behind one other free is = grind (arith, free, is)

by_turn_longest : (now : Turns) (place : ℕ) (is_new : Bool) (newest : Option ℕ) → is_new ≡ false → IsNewestNow is_new now.hosts newest → IsThatElseLongest newest now.hosts (Some place)
    → IsLongest now.hosts (Some place)
by_turn_longest now place true newest turn new longest = absurd cc
by_turn_longest now place false None turn new longest = longest
by_turn_longest now place false (Some that) turn new longest = absurd cc

pub by_turn : (now : Turns) (place : ℕ) → is_newest_turn now ≡ false → IsNext now (Some place) → IsLongest now.hosts (Some place)
by_turn now place turn next = by_turn_longest now place (is_newest_turn now) next.0 turn next.1 next.2

pub longest_ahead : (old new : Turns) (duty : Duty) (place other : ℕ) → IsLongest old.hosts (Some place) → BeginsAt place duty old new → other < length old.hosts
    → may_be_called (busy_with old.hosts) (host_at old.hosts other) ≡ true → (host_at old.hosts other).calls ≡ 0 → (host_at old.hosts other).turn < next_turn old.turns
    → ahead (host_at old.hosts other).turn new.hosts + 1 ≡ ahead (host_at old.hosts other).turn old.hosts
longest_ahead old new duty place other longest begins within may free behind =
    let is = not_behind (host_at old.hosts place) (host_at old.hosts other) free (longest.first other within may) in
    omega (arith, taken_behind (host_at old.hosts other).turn place duty old new longest.within begins behind, ap one_if is)

pub put_ahead : (turn : ℕ) (duty : Duty) (old new : Turns) (is_put : Bool) → IsPut duty old new is_put → turn < next_turn old.turns → ahead turn new.hosts ≡ ahead turn old.hosts
put_ahead turn duty old new is_put put behind = passing_put (is_ahead turn) duty old new is_put (λ host. refl) (λ host. refl) (later turn (next_turn old.turns) behind) put

pub noted_ahead : (turn : ℕ) (duty : Duty) (hosts : List AtHost) → ahead turn (changed_at (place_of duty hosts) listed hosts) ≡ ahead turn hosts
noted_ahead turn duty hosts = passing_changed (is_ahead turn) listed (λ host. refl) duty hosts

pub ended_ahead : (turn : ℕ) (duty : Duty) (pace : Pace) (hosts : List AtHost) → ahead turn (changed_at (place_of duty hosts) (with_end pace) hosts) ≡ ahead turn hosts
ended_ahead turn duty pace hosts = passing_changed (is_ahead turn) (with_end pace) (λ host. refl) duty hosts

pub recalled_ahead : (turn : ℕ) (hosts : List AtHost) → ahead turn (map recalled hosts) ≡ ahead turn hosts
recalled_ahead turn hosts = passing_mapped (is_ahead turn) recalled (λ host. refl) hosts

pub forgotten_ahead : (turn : ℕ) (hosts : List AtHost) → ahead turn (filter is_kept hosts) ≤ ahead turn hosts
forgotten_ahead turn hosts = passing_left (is_ahead turn) is_kept hosts

-- one more turn, while the host waits
turn_more : (turn : ℕ) (now mid : Turns) (duty : Duty) (is_new : Bool) → is_newest_turn now ≡ is_new → IsWaiting turn now → IsTaken now mid (Some duty)
    → ahead turn mid.hosts + one_if (not is_new) ≤ ahead turn now.hosts
turn_more turn now mid duty true is waits taken = omega (arith, taken_ahead turn now mid duty taken waits.came)
turn_more turn now mid duty false is waits (place, next, begins) =
    let w = waits.place in
    let its = waits.its in
    let behind : (host_at now.hosts w).turn < next_turn now.turns = omega (arith, waits.came, its) in
    let fewer = longest_ahead now mid duty place w (by_turn now place is next) begins waits.within waits.may waits.idle behind in
    let same : ahead turn mid.hosts + 1 ≡ ahead turn now.hosts = subst (λ n. ahead n mid.hosts + 1 ≡ ahead n now.hosts) its fewer in
    omega (arith, same)

begun_new : (now mid : Turns) (duty : Duty) → IsTaken now mid (Some duty) → mid.is_for_new ≡ not now.is_for_new
begun_new now mid duty (place, next, begins) = begins.for_new

-- at most each second turn is that of the newest
second : (for_new room : Bool) (count n m : ℕ) → count ≤ 2 * m + one_if (not for_new) → m + one_if (not (if for_new then room else false)) ≤ n → count + 1 ≤ 2 * n + one_if for_new
second true true count n m rest one = omega (arith, rest, one)
second true false count n m rest one = omega (arith, rest, one)
second false room count n m rest one = omega (arith, rest, one)

waits_few : (count turn : ℕ) (now : Turns) → WaitsFor count turn now → count ≤ 2 * ahead turn now.hosts + one_if now.is_for_new
unfolding WaitsFor
waits_few zero turn now waits = omega arith
waits_few (suc count) turn now (waits, (duty, mid, next, taken, same, no_more, rest)) =
    let one = turn_more turn now mid duty (is_newest_turn now) refl waits taken in
    let h = waits_few count turn next rest in
    let flips : one_if next.is_for_new ≡ one_if (not now.is_for_new) = ap one_if (same ∙ begun_new now mid duty taken) in
    omega (arith, second now.is_for_new (has_room (busy_with now.hosts) Unknown) count (ahead turn now.hosts) (ahead turn next.hosts) (omega (arith, h, flips)) (omega (arith, one, no_more)))

one_at_most : (b : Bool) → one_if b ≤ 1
one_at_most true = omega arith
one_at_most false = omega arith

pub waits_in_all : (count turn : ℕ) (now : Turns) → WaitsFor count turn now → count ≤ 2 * ahead turn now.hosts + 1
waits_in_all count turn now waits = omega (arith, waits_few count turn now waits, one_at_most now.is_for_new)
