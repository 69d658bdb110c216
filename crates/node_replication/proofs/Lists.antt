-- What becomes of participants that wait, and of their list.
use Rattle.std.proofs.Common.{◌≡◌, ◌≢◌, ◌≤◌, ◌+◌, ◌⊎◌, Bool, Option, None, Some, true, false, if◌then◌else◌, inl, inr, refl}
use Rattle.std.specs.Prelude.{◌||◌, IfSome, is_some}
use Rattle.std.specs.Duration.{as_nanos}
use Rattle.std.specs.declared.time.Duration.{Duration}
use Rattle.node_replication.specs.Spreads.{Spread, is_covered, is_late as is_over}
use Rattle.node_replication.specs.Waits.{Wait, after, after_of, calls_stand, fate, fate_of, go_on, is_late, with_question}
use Rattle.node_replication.specs.declared.standing.CallbackFate.TheVariants.{Asked, Called, OnHold, Outdated}
use Rattle.node_replication.specs.declared.standing.Standing.{Standing}
use Rattle.node_replication.specs.declared.standing.Standing.TheVariants.{Copied, Late, Waits}
use Rattle.node_replication.specs.declared.waiters.CallsHeld.{CallsHeld}
use Rattle.node_replication.proofs.Waiting.{answers}

-- what others don't have isn't copied
not_copied : (covered late : Bool) → covered ≡ false → (if covered then Copied else if late then Late else Waits) ≢ Copied
not_copied true late e = λ is. absurd cc
not_copied false true e = λ is. cc
not_copied false false e = λ is. cc

uncalled : (calls : CallsHeld) (standing : Standing) (asks_again : Bool) → standing ≢ Copied
    → (fate calls standing true asks_again ≡ OnHold) ⊎ (fate calls standing true asks_again ≡ Outdated)
uncalled calls Copied asks_again not_ = absurd (not_ refl)
uncalled calls Late asks_again not_ = inr refl
uncalled calls Waits asks_again not_ = inl refl

pub strict : (calls : CallsHeld) (now : Duration) (s : Spread) (asks_again : Bool) → is_covered calls.ticket s ≡ false
    → (fate_of (Some calls) now true s asks_again ≡ OnHold) ⊎ (fate_of (Some calls) now true s asks_again ≡ Outdated)
strict calls now s asks_again e =
    uncalled calls (calls_stand calls now true s) asks_again (not_copied (is_covered calls.ticket s) (is_over calls.since now true s) e)

or_true : (b : Bool) → (b || true) ≡ true
or_true true = refl
or_true false = refl

outdates : (calls : CallsHeld) (standing : Standing) (is_strict : Bool) (w : Wait) → fate calls standing is_strict w.asks_again ≡ Outdated
    → IfSome (after calls standing is_strict w).calls (λ (left : CallsHeld). left.is_old ≡ true)
outdates calls Copied is_strict w e = tt
outdates calls Late true w e = or_true calls.is_old
outdates calls Late false w e = tt
outdates calls Waits is_strict w e = absurd cc

pub outdated : (calls : CallsHeld) (now : Duration) (is_strict : Bool) (s : Spread) (w : Wait)
    → fate_of (Some calls) now is_strict s w.asks_again ≡ Outdated
    → IfSome (after_of (Some calls) now is_strict s w).calls (λ (left : CallsHeld). left.is_old ≡ true)
outdated calls now is_strict s w e = outdates calls (calls_stand calls now is_strict s) is_strict w e

keeps : (calls : CallsHeld) (standing : Standing) (is_strict : Bool) (w : Wait) → calls.is_old ≡ true
    → IfSome (after calls standing is_strict w).calls (λ (left : CallsHeld). left.is_old ≡ true)
keeps calls Copied is_strict w e = tt
keeps calls Late true w e = or_true calls.is_old
keeps calls Late false w e = tt
keeps calls Waits is_strict w e = rw e refl

pub kept_old : (calls : CallsHeld) (now : Duration) (is_strict : Bool) (s : Spread) (w : Wait) → calls.is_old ≡ true
    → IfSome (after_of (Some calls) now is_strict s w).calls (λ (left : CallsHeld). left.is_old ≡ true)
kept_old calls now is_strict s w e = keeps calls (calls_stand calls now is_strict s) is_strict w e

not_called : (goes old late asks_again again : Bool) → old ≡ true
    → (if goes then (if old then Asked else Called asks_again) else (if late then Outdated else OnHold)) ≢ Called again
not_called true true late asks_again again e = λ is. cc
not_called true false late asks_again again e = λ is. absurd cc
not_called false old true asks_again again e = λ is. cc
not_called false old false asks_again again e = λ is. cc

pub old_not_called : (calls : CallsHeld) (now : Duration) (is_strict : Bool) (s : Spread) (asks_again again : Bool) → calls.is_old ≡ true
    → fate_of (Some calls) now is_strict s asks_again ≢ Called again
old_not_called calls now is_strict s asks_again again e =
    let standing = calls_stand calls now is_strict s in not_called (go_on standing is_strict) calls.is_old (is_late standing) asks_again again e

asked : (goes old late asks_again : Bool) → asks_again ≡ true
    → (if goes then (if old then Asked else Called asks_again) else (if late then Outdated else OnHold)) ≢ Called false
asked true true late asks_again e = λ is. cc
asked true false late true e = λ is. cc
asked true false late false e = λ is. absurd cc
asked false old true asks_again e = λ is. cc
asked false old false asks_again e = λ is. cc

asked_of : (held : Option CallsHeld) (now : Duration) (is_strict : Bool) (s : Spread) (asks_again : Bool)
    → fate_of held now is_strict s (asks_again || is_some held) ≢ Called false
asked_of (Some calls) now is_strict s asks_again =
    let standing = calls_stand calls now is_strict s in
    asked (go_on standing is_strict) calls.is_old (is_late standing) (asks_again || true) (or_true asks_again)
asked_of None now is_strict s asks_again = λ is. cc

pub put_off : (now : Duration) (is_strict : Bool) (s : Spread) (w : Wait)
    → fate_of (with_question w).calls now is_strict s (with_question w).asks_again ≢ Called false
put_off now is_strict s w = asked_of w.calls now is_strict s w.asks_again

released_now : (old asks_again : Bool) → (if old then Asked else Called asks_again) ≢ OnHold
released_now true asks_again = λ is. cc
released_now false asks_again = λ is. cc

not_held : (calls : CallsHeld) (standing : Standing) (asks_again : Bool) → standing ≢ Waits → fate calls standing false asks_again ≢ OnHold
not_held calls Copied asks_again not_ = released_now calls.is_old asks_again
not_held calls Late asks_again not_ = released_now calls.is_old asks_again
not_held calls Waits asks_again not_ = absurd (not_ refl)

pub lists : (calls : CallsHeld) (now : Duration) (s : Spread) (asks_again : Bool) → as_nanos calls.since + as_nanos s.patience ≤ as_nanos now
    → fate_of (Some calls) now false s asks_again ≢ OnHold
lists calls now s asks_again late = not_held calls (calls_stand calls now false s) asks_again (answers calls.ticket calls.since now false s late)
