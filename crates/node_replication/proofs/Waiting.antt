-- Nobody waits for ever.
use Rattle.std.proofs.Common.{◌≡◌, ◌≢◌, ◌≤◌, ◌+◌, ◌-◌, ℕ, Bool, Option, None, Some, true, false, arith, if◌then◌else◌, refl}
use Rattle.std.specs.Prelude.{◌&&◌, not}
use Rattle.std.specs.Duration.{as_nanos}
use Rattle.std.specs.declared.time.Duration.{Duration}
use Rattle.std.proofs.lemmas.Bool.{le-leb, or_right}
use Rattle.node_replication.specs.Moments.{is_over, is_over_since}
use Rattle.node_replication.specs.Paces.{Pace, gap, longest, moment_of, verdict_of}
use Rattle.node_replication.specs.Spreads.{Spread, is_covered, is_late, standing_of}
use Rattle.node_replication.specs.declared.standing.Standing.TheVariants.{Copied, Late, Waits}
use Rattle.node_replication.specs.declared.standing.PullDecision.TheVariants.{Later, Serve, Soon}

pub over : (nanos least : ℕ) (since now : Duration) → nanos ≤ least → as_nanos since + least ≤ as_nanos now → is_over nanos since now ≡ true
over nanos least since now few late = le-leb nanos (as_nanos now - as_nanos since) (omega (arith, few, late))

no_wait : (covered late : Bool) → late ≡ true → (if covered then Copied else if late then Late else Waits) ≢ Waits
no_wait true late e = λ is. cc
no_wait false true e = λ is. cc
no_wait false false e = λ is. absurd cc

pub answers : (ticket : ℕ) (since now : Duration) (is_strict : Bool) (s : Spread) → as_nanos since + as_nanos s.patience ≤ as_nanos now
    → standing_of ticket since now is_strict s ≢ Waits
answers ticket since now is_strict s late =
    no_wait (is_covered ticket s) (is_late since now is_strict s)
    (or_right (not is_strict && s.is_short) (is_over (as_nanos s.patience) since now) (over (as_nanos s.patience) (as_nanos s.patience) since now (omega arith) late))

not_later : (news served over : Bool) → over ≡ true → (if news then (if served then Serve else Soon) else (if over then Serve else Later)) ≢ Later
not_later true true over e = λ is. cc
not_later true false over e = λ is. cc
not_later false served true e = λ is. cc
not_later false served false e = λ is. absurd cc

at_most : (lacks : Bool) → longest lacks ≤ 4_000_000_000
at_most true = omega arith
at_most false = omega arith

pub pulls : (nodes other : ℕ) (since now : Duration) (has_news lacks_others : Bool) (p : Pace) → as_nanos since + 4_000_000_000 ≤ as_nanos now
    → verdict_of nodes other since has_news lacks_others now p ≢ Later
pulls nodes other since now has_news lacks_others p late =
    not_later has_news (is_over_since (gap nodes p) (moment_of p.given other) now) (is_over (longest lacks_others) since now)
    (over (longest lacks_others) 4_000_000_000 since now (at_most lacks_others) late)

not_soon : (news served over : Bool) → served ≡ true → (if news then (if served then Serve else Soon) else (if over then Serve else Later)) ≢ Soon
not_soon true true over e = λ is. cc
not_soon true false over e = λ is. absurd cc
not_soon false served true e = λ is. cc
not_soon false served false e = λ is. cc

gap_over : (nanos : ℕ) (now at : Duration) (given : Option Duration) → nanos ≤ 50_000_000 → given ≡ Some at → as_nanos at + 50_000_000 ≤ as_nanos now
    → is_over_since nanos given now ≡ true
gap_over nanos now at given few is late = rw is (over nanos 50_000_000 at now few late)

pub apart : (nodes other : ℕ) (since now at : Duration) (has_news lacks_others : Bool) (p : Pace) → moment_of p.given other ≡ Some at
    → as_nanos at + 50_000_000 ≤ as_nanos now → verdict_of nodes other since has_news lacks_others now p ≢ Soon
apart nodes other since now at has_news lacks_others p is late =
    not_soon has_news (is_over_since (gap nodes p) (moment_of p.given other) now) (is_over (longest lacks_others) since now)
    (gap_over (gap nodes p) now at (moment_of p.given other) (omega arith) is late)

first_over : (nanos : ℕ) (now : Duration) (given : Option Duration) → given ≡ None → is_over_since nanos given now ≡ true
first_over nanos now given is = rw is refl

pub first : (nodes other : ℕ) (since now : Duration) (has_news lacks_others : Bool) (p : Pace) → moment_of p.given other ≡ None
    → verdict_of nodes other since has_news lacks_others now p ≢ Soon
first nodes other since now has_news lacks_others p is =
    not_soon has_news (is_over_since (gap nodes p) (moment_of p.given other) now) (is_over (longest lacks_others) since now)
    (first_over (gap nodes p) now (moment_of p.given other) is)
