-- How many hosts pass a test after a change.
use Rattle.std.proofs.Common.{◌≡◌, ◌<◌, ◌≤◌, ◌+◌, ◌++◌, ◌∷◌, ◌∙◌, [], ℕ, Bool, true, false, List, Option, None, Some, ap, arith, cond, filter, length, map, refl, sym}
use Rattle.std.proofs.lemmas.List.Sums.{length-filter, sum_by-set, sum_by_push}
use Rattle.std.specs.Prelude.{slice_set}
use Rattle.wire_callbacks.specs.declared.duty.Duty.{Duty}
use Rattle.node_schedule.proofs.Counts.{counts_mapped, filter_below, filter_keeps, found_in}
use Rattle.node_schedule.specs.Turns.{AtHost, IsPut, IsPutAt, Turns, changed_at, host_at, is_host_of, listed, newcomer, next_turn, nowhere, place_of, with_due}

abbrev pub passing : (AtHost → Bool) → List AtHost → ℕ
passing test hosts = length (filter test hosts)

abbrev pub one_if : Bool → ℕ
one_if passes = cond passes 1 0

-- one host is replaced by another
pub passing_set : (test : AtHost → Bool) (hosts : List AtHost) (place : ℕ) (host : AtHost) → place < length hosts
    → passing test (slice_set hosts place host) + one_if (test (host_at hosts place)) ≡ passing test hosts + one_if (test host)
passing_set test hosts place host within =
    omega (arith, length-filter test (slice_set hosts place host), length-filter test hosts, sum_by-set (λ x. cond (test x) 1 0) hosts place host nowhere within)

-- a known host is one of the hosts
pub known_within : (duty : Duty) (hosts : List AtHost) (place : ℕ) → place_of duty hosts ≡ Some place → place < length hosts
known_within duty hosts place is = let found = found_in (is_host_of duty) 0 place hosts nowhere is in omega (arith, found.is, found.within)

-- one host is changed, and passes as it did
changed_same : (test : AtHost → Bool) (change : AtHost → AtHost) → ((host : AtHost) → test (change host) ≡ test host) → (hosts : List AtHost) (place : Option ℕ)
    → ((at : ℕ) → place ≡ Some at → at < length hosts) → passing test (changed_at place change hosts) ≡ passing test hosts
changed_same test change each hosts None within = refl
changed_same test change each hosts (Some at) within =
    omega (arith, passing_set test hosts at (change (host_at hosts at)) (within at refl), ap one_if (each (host_at hosts at)))

pub passing_changed : (test : AtHost → Bool) (change : AtHost → AtHost) → ((host : AtHost) → test (change host) ≡ test host) → (duty : Duty) (hosts : List AtHost)
    → passing test (changed_at (place_of duty hosts) change hosts) ≡ passing test hosts
passing_changed test change each duty hosts = changed_same test change each hosts (place_of duty hosts) (λ at is. known_within duty hosts at is)

-- all hosts are changed, and pass as they did
pub passing_mapped : (test : AtHost → Bool) (change : AtHost → AtHost) → ((host : AtHost) → test (change host) ≡ test host) → (hosts : List AtHost)
    → passing test (map change hosts) ≡ passing test hosts
passing_mapped test change each hosts = length-filter test (map change hosts) ∙ counts_mapped test change each hosts ∙ sym (length-filter test hosts)

-- some hosts are left
pub passing_left : (test p : AtHost → Bool) (hosts : List AtHost) → passing test (filter p hosts) ≤ passing test hosts
passing_left test p hosts = omega (arith, length-filter test (filter p hosts), length-filter test hosts, filter_below test p hosts)

pub passing_kept : (test p : AtHost → Bool) → ((host : AtHost) → p host ≡ false → test host ≡ false) → (hosts : List AtHost)
    → passing test (filter p hosts) ≡ passing test hosts
passing_kept test p drops hosts = length-filter test (filter p hosts) ∙ filter_keeps test p drops hosts ∙ sym (length-filter test hosts)

-- a duty is put at its host, which passes as it did; a new host doesn't pass
put_same : (test : AtHost → Bool) (duty : Duty) (old new : Turns) (is_put : Bool) (place : Option ℕ)
    → ((host : AtHost) → test (with_due duty host) ≡ test host) → ((host : AtHost) → test (listed host) ≡ test host) → test (newcomer duty (next_turn old.turns)) ≡ false
    → ((at : ℕ) → place ≡ Some at → at < length old.hosts) → IsPutAt place duty old new is_put → passing test new.hosts ≡ passing test old.hosts
put_same test duty old new true (Some at) due noted came within put =
    ap (λ (t : Turns). passing test t.hosts) put ∙ changed_same test (with_due duty) due old.hosts (Some at) within
put_same test duty old new false (Some at) due noted came within put =
    ap (λ (t : Turns). passing test t.hosts) put ∙ changed_same test listed noted old.hosts (Some at) within
put_same test duty old new true None due noted came within put =
    ap (λ (t : Turns). passing test t.hosts) put
    ∙ omega (arith, length-filter test (old.hosts ++ newcomer duty (next_turn old.turns) ∷ []), length-filter test old.hosts, sum_by_push (λ x. cond (test x) 1 0) old.hosts (newcomer duty (next_turn old.turns)), ap one_if came)
put_same test duty old new false None due noted came within put = ap (λ (t : Turns). passing test t.hosts) put

pub passing_put : (test : AtHost → Bool) (duty : Duty) (old new : Turns) (is_put : Bool)
    → ((host : AtHost) → test (with_due duty host) ≡ test host) → ((host : AtHost) → test (listed host) ≡ test host) → test (newcomer duty (next_turn old.turns)) ≡ false
    → IsPut duty old new is_put → passing test new.hosts ≡ passing test old.hosts
passing_put test duty old new is_put due noted came put =
    put_same test duty old new is_put (place_of duty old.hosts) due noted came (λ at is. known_within duty old.hosts at is) put
