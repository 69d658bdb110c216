-- A node that holds no pull isn't asked in a rush, and each other node is asked again.
use Rattle.std.proofs.Common.{◌≡◌, ◌≤◌, ◌+◌, ◌*◌, ◌++◌, ◌∷◌, [], ℕ, Bool, List, true, false, suc, zero, arith, if◌then◌else◌, refl}
use Rattle.std.proofs.lemmas.Bool.Decides.{nat_tests}
use Rattle.std.specs.Prelude.{◌||◌, All, min, nat_lt, replicate}
use Rattle.node_replication.specs.Pulls.{Came, HoldsNone, behind, behind_all, hasty_after, holds_after, is_at_once, is_soon, nothing_at_once, pause_after, round_after}
use Rattle.node_replication.specs.Spreads.{last_ticket}
use Rattle.node_replication.specs.declared.pulls.NextPull.{NextPull}
use Rattle.node_replication.specs.declared.pulls.Pulled.{Pulled}
use Rattle.node_replication.specs.declared.pulls.Pulled.TheVariants.{Kept, Lost, Misdirected, New, Newer, Nothing, Older, Refused, Unanswered, Unreached, Untaken}

-- a pull that wasn't held doesn't show that the other node holds pulls
not_shown : (pulled : Pulled) (held asks holds : Bool) → held ≡ false → asks ≡ false → holds ≡ false → holds_after pulled held asks holds ≡ false
not_shown New held asks holds e a f = f
not_shown Untaken held asks holds e a f = refl
not_shown Kept held asks holds e a f = refl
not_shown Nothing held asks holds e a f = rw (e, a, f) refl
not_shown Unreached held asks holds e a f = refl
not_shown Unanswered held asks holds e a f = refl
not_shown Misdirected held asks holds e a f = refl
not_shown (Refused number) held asks holds e a f = refl
not_shown Older held asks holds e a f = f
not_shown Newer held asks holds e a f = refl
not_shown Lost held asks holds e a f = refl

unheld : (earlier : List Came) → All HoldsNone earlier → (behind_all earlier).holds ≡ false
unheld [] none = refl
unheld (came ∷ earlier) none =
    not_shown came.pulled came.is_held came.asks_waiting (behind_all earlier).holds (none 0 came (omega arith)).0 (none 0 came (omega arith)).1
    (unheld earlier (λ k d l. none (suc k) d (omega (arith, l))))

-- a round is never shorter than the first, nor longer than five seconds
long_enough : (pulled : Pulled) (round : ℕ) → 100 ≤ round → 100 ≤ round_after pulled round
long_enough New round h = omega arith
long_enough Untaken round h = omega arith
long_enough Kept round h = omega (arith, h)
long_enough Nothing round h = omega (arith, h)
long_enough Unreached round h = omega (arith, h)
long_enough Unanswered round h = omega (arith, h)
long_enough Misdirected round h = omega (arith, h)
long_enough (Refused number) round h = omega (arith, h)
long_enough Older round h = omega (arith, h)
long_enough Newer round h = omega arith
long_enough Lost round h = omega (arith, h)

rounds : (earlier : List Came) → 100 ≤ (behind_all earlier).round_ms
rounds [] = omega arith
rounds (came ∷ earlier) = long_enough came.pulled (behind_all earlier).round_ms (rounds earlier)

-- after more than this many pulls that brought nothing at once
record Rushes (more : ℕ) (p : NextPull) : Type 0 where
  waits : p.waits ≡ true
  holds : p.holds ≡ false
  hasty : min more 32 ≤ p.hasty
  long : min (200 * (more + 1)) 5_000 ≤ p.round_ms

begins : (p : NextPull) → p.holds ≡ false → 100 ≤ p.round_ms → Rushes 0 (behind Nothing false false p)
begins p not_ long = record {
  waits = refl;
  holds = not_shown Nothing false false p.holds refl refl not_;
  hasty = omega arith;
  long = omega (arith, long);
}

one_more : (more hasty : ℕ) (waits : Bool) → waits ≡ true → min more 32 ≤ hasty → min (suc more) 32 ≤ hasty_after (is_at_once Nothing false waits) hasty
one_more more hasty true e h = omega (arith, h)
one_more more hasty false e h = absurd cc

goes_on : (more : ℕ) (p : NextPull) → Rushes more p → Rushes (suc more) (behind Nothing false false p)
goes_on more p h = record {
  waits = refl;
  holds = not_shown Nothing false false p.holds refl refl h.holds;
  hasty = one_more more p.hasty p.waits h.waits h.hasty;
  long = omega (arith, h.long);
}

-- this many and one more
row : (more : ℕ) (earlier : List Came) → All HoldsNone earlier → Rushes more (behind_all (replicate (suc more) nothing_at_once ++ earlier))
row zero earlier none = begins (behind_all earlier) (unheld earlier none) (rounds earlier)
row (suc more) earlier none = goes_on more (behind_all (replicate (suc more) nothing_at_once ++ earlier)) (row more earlier none)

waits_long : (waits holds : Bool) (hasty round : ℕ) → waits ≡ true → holds ≡ false → 31 ≤ hasty → 5_000 ≤ round
    → (if is_at_once Nothing false waits || is_soon Nothing (holds_after Nothing false false holds) (hasty_after (is_at_once Nothing false waits) hasty) then 0 else round_after Nothing round) ≡ 5_000
waits_long true false hasty round e f many long =
    let few : nat_lt (min (hasty + 1) last_ticket) 32 ≡ false = grind (arith, nat_tests) in
    rw few (omega (arith, long))
waits_long true true hasty round e f many long = absurd cc
waits_long false holds hasty round e f many long = absurd cc

pub no_rush : (more : ℕ) (earlier : List Came) → 31 ≤ more → All HoldsNone earlier
    → (behind_all (replicate (suc (suc more)) nothing_at_once ++ earlier)).wait_ms ≡ 5_000
no_rush more earlier many none =
    let p = behind_all (replicate (suc more) nothing_at_once ++ earlier) in
    let h = row more earlier none in
    waits_long p.waits p.holds p.hasty p.round_ms h.waits h.holds (omega (arith, many, h.hasty)) (omega (arith, many, h.long))

pub in_a_row : (number : ℕ) (earlier : List Came) → 33 ≤ number → All HoldsNone earlier
    → (behind_all (replicate number nothing_at_once ++ earlier)).wait_ms ≡ 5_000
in_a_row zero earlier many none = absurd (omega (arith, many))
in_a_row (suc zero) earlier many none = absurd (omega (arith, many))
in_a_row (suc (suc more)) earlier many none = no_rush more earlier (omega (arith, many)) none

-- what holds for a number whichever it is
either : (P : ℕ → Type 0) (b : Bool) (x y : ℕ) → P x → P y → P (if b then x else y)
either P true x y so not_ = so
either P false x y so not_ = not_

short_round : (pulled : Pulled) (round : ℕ) → round_after pulled round ≤ 5_000
short_round New round = omega arith
short_round Untaken round = omega arith
short_round Kept round = omega arith
short_round Nothing round = omega arith
short_round Unreached round = omega arith
short_round Unanswered round = omega arith
short_round Misdirected round = omega arith
short_round (Refused number) round = omega arith
short_round Older round = omega arith
short_round Newer round = omega arith
short_round Lost round = omega arith

short_pause : (pulled : Pulled) (round : ℕ) → round ≤ 5_000 → pause_after pulled round ≤ 5_000
short_pause New round h = omega arith
short_pause Untaken round h = omega arith
short_pause Kept round h = h
short_pause Nothing round h = omega arith
short_pause Unreached round h = omega arith
short_pause Unanswered round h = omega arith
short_pause Misdirected round h = h
short_pause (Refused number) round h = h
short_pause Older round h = omega arith
short_pause Newer round h = omega arith
short_pause Lost round h = h

pub again : (pulled : Pulled) (held asks : Bool) (p : NextPull) → ((behind pulled held asks p).pause_ms ≤ 5_000) × ((behind pulled held asks p).wait_ms ≤ 5_000)
again pulled held asks p =
    let round = round_after pulled p.round_ms in
    let at_once = is_at_once pulled held p.waits in
    let short = short_round pulled p.round_ms in (
      either (λ n. n ≤ 5_000) at_once 0 (pause_after pulled round) (omega arith) (short_pause pulled round short),
      either (λ n. n ≤ 5_000) (at_once || is_soon pulled (holds_after pulled held asks p.holds) (hasty_after at_once p.hasty)) 0 round (omega arith) short,
    )

-- a node that is known to hold pulls is asked soon, even if it held none now
soon : (at_once holds : Bool) → holds ≡ true → (hasty round : ℕ) → (if at_once || (holds || nat_lt hasty 32) then 0 else round) ≡ 0
soon true holds e hasty round = refl
soon false true e hasty round = refl
soon false false e hasty round = absurd cc

soon_after : (held asks : Bool) (p : NextPull) → holds_after Nothing held asks p.holds ≡ true → ((behind Nothing held asks p).pause_ms ≤ 50) × ((behind Nothing held asks p).wait_ms ≡ 0)
soon_after held asks p holds =
    let at_once = is_at_once Nothing held p.waits in (
      either (λ n. n ≤ 50) at_once 0 50 (omega arith) (omega arith),
      soon at_once (holds_after Nothing held asks p.holds) holds (hasty_after at_once p.hasty) (round_after Nothing p.round_ms),
    )

still : (held asks holds : Bool) → holds ≡ true → ((holds || held) || asks) ≡ true
still held asks true e = refl
still held asks false e = absurd cc

pub or_asks : (holds : Bool) → (holds || true) ≡ true
or_asks true = refl
or_asks false = refl

pub known : (held asks : Bool) (p : NextPull) → p.holds ≡ true → ((behind Nothing held asks p).pause_ms ≤ 50) × ((behind Nothing held asks p).wait_ms ≡ 0)
known held asks p holds = soon_after held asks p (still held asks p.holds holds)

-- a node that held this pull is asked at once
held_one : (holds asks : Bool) → ((holds || true) || asks) ≡ true
held_one true asks = refl
held_one false asks = refl

pub held : (asks : Bool) (p : NextPull)
    → ((behind Nothing true asks p).pause_ms ≡ 0) × ((behind Nothing true asks p).wait_ms ≡ 0) × ((behind Nothing true asks p).holds ≡ true)
held asks p = (refl, refl, held_one p.holds asks)

-- and so is a node that asks by pulls that wait
pub listens : (held : Bool) (p : NextPull)
    → ((behind Nothing held true p).pause_ms ≤ 50) × ((behind Nothing held true p).wait_ms ≡ 0) × ((behind Nothing held true p).holds ≡ true)
listens held p =
    let soon = soon_after held true p (or_asks (p.holds || held)) in
    (soon.0, soon.1, or_asks (p.holds || held))
