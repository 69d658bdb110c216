-- No participant is called by a list for what was learned since the list was asked for.
use Rattle.std.proofs.Common.{◌≡◌, ◌⊎◌, ◌++◌, ◌∷◌, ◌||◌, [], Bool, List, MatchBool, Option, None, Some, ap, false, inl, inr, refl, subst, sym, true}
use Rattle.std.proofs.lemmas.List.Elements.{All-nil, filter_passes}
use Rattle.std.specs.List.{list_any}
use Rattle.std.specs.declared.time.Duration.{Duration}
use Rattle.wire_callbacks.specs.declared.duty.Duty.{Duty}
use Rattle.node_inbox.specs.Letters.{Said}
use Rattle.state_ids.specs.declared.outcome.Outcome.TheVariants.{Busy, Done, Failed}
use Rattle.wire_callbacks.specs.declared.answer.Heard.{Heard}
use Rattle.wire_callbacks.specs.declared.answer.Heard.TheVariants.{Again, Forgot, Outcome, Told}
use Rattle.node_schedule.proofs.Counts.{called_self}
use Rattle.node_schedule.specs.Calling.{Calling}
use Rattle.node_schedule.specs.Named.{AllNamed, Passes}
use Rattle.node_schedule.specs.Slips.{called_of, same_called}
use Rattle.node_schedule.specs.declared.slip.Called.{Called}
use Rattle.node_agenda.specs.Hearing.{IsListed, IsLetGo, IsNoted, IsPut}
use Rattle.node_agenda.specs.Mail.{Mail}
use Rattle.node_agenda.specs.Noted.{Notes}
use Rattle.node_agenda.specs.Since.{IsAlsoHeard, IsAnswerNoted, IsHeardIn, IsMentioned, PausesEach, Since, WaitsWithPause, is_unheard, was_heard}
use Rattle.node_agenda.specs.declared.effects.Effects.{Effects}

or_right : (a b : Bool) → b ≡ true → (a || b) ≡ true
or_right true b e = refl
or_right false b e = e

any_last : (p : Called → Bool) (xs : List Called) (x : Called) → p x ≡ true → list_any p (xs ++ x ∷ []) ≡ true
any_last p [] x e = rw e refl
any_last p (y ∷ ys) x e = or_right (p y) _ (any_last p ys x e)

or_more : (a b c : Bool) → (b ≡ true → c ≡ true) → (a || b) ≡ true → (a || c) ≡ true
or_more true b c f e = refl
or_more false b c f e = f e

any_more : (p : Called → Bool) (xs : List Called) (x : Called) → list_any p xs ≡ true → list_any p (xs ++ x ∷ []) ≡ true
any_more p [] x e = absurd cc
any_more p (y ∷ ys) x e = or_more (p y) _ _ (any_more p ys x) e

-- a participant that is also heard from is marked, and those already marked stay so
also : (was : Bool) (who : Called) (old new : Since) → was_heard old.heard who ≡ was
    → MatchBool was (new ≡ old) ((new ≡ record old { heard = old.heard ++ who ∷ [] }) ⊎ (new ≡ record old { is_whole = false })) → IsHeardIn who new
also true who old new e is = subst (IsHeardIn who) (sym is) (inl e)
also false who old new e (inl is) = subst (IsHeardIn who) (sym is) (inl (any_last (same_called who) old.heard who (called_self who)))
also false who old new e (inr is) = subst (IsHeardIn who) (sym is) (inr refl)

still : (was : Bool) (who one : Called) (old new : Since)
    → MatchBool was (new ≡ old) ((new ≡ record old { heard = old.heard ++ who ∷ [] }) ⊎ (new ≡ record old { is_whole = false })) → IsHeardIn one old → IsHeardIn one new
still true who one old new is heard = subst (IsHeardIn one) (sym is) heard
still false who one old new (inl is) (inl heard) = subst (IsHeardIn one) (sym is) (inl (any_more (same_called one) old.heard who heard))
still false who one old new (inl is) (inr missing) = subst (IsHeardIn one) (sym is) (inr missing)
still false who one old new (inr is) heard = subst (IsHeardIn one) (sym is) (inr refl)

-- nothing of that changes while a pause waits
waits_on : (waits : Bool) (who one : Called) (mid new : Since)
    → MatchBool waits (new ≡ record mid { busy = mid.busy ++ who ∷ [] }) (new ≡ record mid { is_whole = false }) → IsHeardIn one mid → IsHeardIn one new
waits_on true who one mid new is (inl heard) = subst (IsHeardIn one) (sym is) (inl heard)
waits_on true who one mid new is (inr missing) = subst (IsHeardIn one) (sym is) (inr missing)
waits_on false who one mid new is heard = subst (IsHeardIn one) (sym is) (inr refl)

paused : (heard : Heard) (who one : Called) (mid new : Since) (waits : Bool) → WaitsWithPause heard who mid new waits → IsHeardIn one mid → IsHeardIn one new
paused (Outcome Busy) who one mid new waits is noted = waits_on waits who one mid new is noted
paused (Outcome Done) who one mid new waits is noted = subst (IsHeardIn one) (sym is.0) noted
paused (Outcome Failed) who one mid new waits is noted = subst (IsHeardIn one) (sym is.0) noted
paused Forgot who one mid new waits is noted = subst (IsHeardIn one) (sym is.0) noted
paused Told who one mid new waits is noted = subst (IsHeardIn one) (sym is.0) noted
paused Again who one mid new waits is noted = subst (IsHeardIn one) (sym is.0) noted

-- an answer that is recorded
answer_noted : (is_out : Bool) (heard : Heard) (who : Called) (old new : Since) (waits : Bool) → is_out ≡ true
    → MatchBool is_out (IsAnswerNoted heard who old new waits) ((new ≡ old) × (waits ≡ false)) → IsHeardIn who new
answer_noted true heard who old new waits e is = paused heard who who is.mentioned new waits is.pause (also (was_heard old.heard who) who old is.mentioned refl is.mentions)
answer_noted false heard who old new waits e is = absurd cc

answer_stays : (is_out : Bool) (heard : Heard) (who one : Called) (old new : Since) (waits : Bool)
    → MatchBool is_out (IsAnswerNoted heard who old new waits) ((new ≡ old) × (waits ≡ false)) → IsHeardIn one old → IsHeardIn one new
answer_stays true heard who one old new waits is before =
    paused heard who one is.mentioned new waits is.pause (still (was_heard old.heard who) who one old is.mentioned is.mentions before)
answer_stays false heard who one old new waits is before = subst (IsHeardIn one) (sym is.0) before

pub answered : (said : Said) (now : Duration) (old new : Mail) → old.since.is_out ≡ true → IsNoted said now old new → IsHeardIn (called_of said.duty) new.since
answered said now old new out is = answer_noted old.since.is_out said.heard (called_of said.duty) old.since new.since is.waits out is.noted

pub answered_stays : (one : Called) (said : Said) (now : Duration) (old new : Mail) → IsNoted said now old new → IsHeardIn one old.since → IsHeardIn one new.since
answered_stays one said now old new is before = answer_stays old.since.is_out said.heard (called_of said.duty) one old.since new.since is.waits is.noted before

-- what was said about a participant
mention_noted : (is_out : Bool) (who : Called) (old new : Since) → is_out ≡ true → MatchBool is_out (IsAlsoHeard who old new) (new ≡ old) → IsHeardIn who new
mention_noted true who old new e is = also (was_heard old.heard who) who old new refl is
mention_noted false who old new e is = absurd cc

pub said_is_noted : (noted : Effects) (who : Called) (now : Duration) (old new : Mail) → old.since.is_out ≡ true → noted.heard ≡ Some who → Notes noted now old new → IsHeardIn who new.since
said_is_noted noted who now old new out e is =
    mention_noted old.since.is_out who old.since new.since out (subst (λ (heard : Option Called). IsMentioned heard old.since new.since) e is.heard)

mention_stays : (is_out : Bool) (who one : Called) (old new : Since) → MatchBool is_out (IsAlsoHeard who old new) (new ≡ old) → IsHeardIn one old → IsHeardIn one new
mention_stays true who one old new is before = still (was_heard old.heard who) who one old new is before
mention_stays false who one old new is before = subst (IsHeardIn one) (sym is) before

mentions_stay : (who : Option Called) (one : Called) (old new : Since) → IsMentioned who old new → IsHeardIn one old → IsHeardIn one new
mentions_stay None one old new is before = subst (IsHeardIn one) (sym is) before
mentions_stay (Some who) one old new is before = mention_stays old.is_out who one old new is before

pub said_stays : (noted : Effects) (one : Called) (now : Duration) (old new : Mail) → Notes noted now old new → IsHeardIn one old.since → IsHeardIn one new.since
said_stays noted one now old new is before = mentions_stay noted.heard one old.since new.since is.heard before

-- a participant that pauses is named for nothing else
names_on : (test : Duty → Bool) (now : Duration) (busy : List Called) (old new : Calling) → PausesEach now busy old new → AllNamed test old → AllNamed test new
names_on test now [] old new is named = subst (AllNamed test) (sym is) named
names_on test now (who ∷ rest) old new is named = names_on test now rest is.0 new is.3 (is.2 test named (All-nil (Passes test)))

put_names : (is_whole : Bool) (duties : List Duty) (now : Duration) (old new : Mail) → is_whole ≡ true → MatchBool is_whole (IsPut duties now old new) (IsLetGo now old new) → AllNamed (is_unheard old.since.heard) new.calls
put_names true duties now old new e is =
    names_on (is_unheard old.since.heard) now old.since.busy is.listed new.calls is.pauses
    (is.lists.only (is_unheard old.since.heard) (filter_passes (is_unheard old.since.heard) duties))
put_names false duties now old new e is = absurd cc

pub put : (duties : List Duty) (now : Duration) (old new : Mail) → old.since.is_whole ≡ true → IsListed duties now old new → AllNamed (is_unheard old.since.heard) new.calls
put duties now old new e is = put_names old.since.is_whole duties now old new e is

goes : (is_whole : Bool) (test : Duty → Bool) (duties : List Duty) (now : Duration) (old new : Mail) → is_whole ≡ false → MatchBool is_whole (IsPut duties now old new) (IsLetGo now old new)
    → AllNamed test old.calls → AllNamed test new.calls × (new.asking.is_stirred ≡ true)
goes true test duties now old new e is named = absurd cc
goes false test duties now old new e is named = (names_on test now old.since.busy old.calls new.calls is.pauses named, ap (λ (m : Mail). m.asking.is_stirred) is.rest)

pub let_go : (test : Duty → Bool) (duties : List Duty) (now : Duration) (old new : Mail) → old.since.is_whole ≡ false → IsListed duties now old new
    → AllNamed test old.calls → AllNamed test new.calls × (new.asking.is_stirred ≡ true)
let_go test duties now old new e is named = goes old.since.is_whole test duties now old new e is named
