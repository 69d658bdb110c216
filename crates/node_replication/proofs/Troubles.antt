-- A trouble with another node is logged once.
use Rattle.std.proofs.Common.{◌≡◌, ◌≤◌, ◌+◌, ◌∷◌, [], Bool, List, true, false, arith, refl}
use Rattle.std.specs.Prelude.{◌&&◌, ◌||◌, not}
use Rattle.std.specs.Duration.{as_nanos}
use Rattle.std.specs.declared.time.Duration.{Duration}
use Rattle.std.proofs.lemmas.Bool.{or_right}
use Rattle.node_replication.specs.Moments.{is_over}
use Rattle.node_replication.specs.Outlooks.{Failure, Trouble, after_failures, is_due, since_of, with_failure}
use Rattle.node_replication.proofs.Waiting.{over}

or_left : (a b : Bool) → a ≡ true → (a || b) ≡ true
or_left true b e = refl
or_left false b e = absurd cc

not_due : (told over : Bool) → told ≡ true → (not told && over) ≡ false
not_due true over e = refl
not_due false over e = absurd cc

due : (told over : Bool) → told ≡ false → over ≡ true → (not told && over) ≡ true
due true over e f = absurd cc
due false over e f = f

kept : (failures : List Failure) (t : Trouble) → t.is_told ≡ true → (after_failures failures t).is_told ≡ true
kept [] t e = e
kept (failure ∷ earlier) t e =
    let s = after_failures earlier t in or_left s.is_told (is_due failure.began failure.now s) (kept earlier t e)

now_told : (began now : Duration) (t : Trouble) → is_due began now t ≡ true → (with_failure began now t).is_told ≡ true
now_told began now t e = or_right t.is_told (is_due began now t) e

pub told : (first : Failure) (between : List Failure) (t : Trouble) → is_due first.began first.now t ≡ true
    → (after_failures between (with_failure first.began first.now t)).is_told ≡ true
told first between t e = kept between (with_failure first.began first.now t) (now_told first.began first.now t e)

pub once : (first again : Failure) (between : List Failure) (t : Trouble) → is_due first.began first.now t ≡ true
    → is_due again.began again.now (after_failures between (with_failure first.began first.now t)) ≡ false
once first again between t e =
    let last = after_failures between (with_failure first.began first.now t) in
    not_due last.is_told (is_over 5_000_000_000 (since_of last.since again.began) again.now) (told first between t e)

pub soon : (began now : Duration) (t : Trouble) → t.is_told ≡ false → as_nanos (since_of t.since began) + 5_000_000_000 ≤ as_nanos now
    → is_due began now t ≡ true
soon began now t e late =
    due t.is_told (is_over 5_000_000_000 (since_of t.since began) now) e
    (over 5_000_000_000 5_000_000_000 (since_of t.since began) now (omega arith) late)
