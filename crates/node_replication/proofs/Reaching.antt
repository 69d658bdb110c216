-- What each call keeps: a node's facts have spread by steps, and there is a list exactly if
-- participants wait whose list isn't too old.
use Rattle.std.proofs.Common.{◌≡◌, ◌≤◌, ◌⊎◌, ◌∙◌, ◌∷◌, ℕ, Bool, Option, None, Some, true, false, ap, arith, if◌then◌else◌, inl, inr, refl, subst, sym}
use Rattle.std.specs.Prelude.{◌||◌, ◌==◌, is_some, nat_le, not}
use Rattle.std.specs.declared.time.Duration.{Duration}
use Rattle.std.proofs.lemmas.Bool.{eqb-true, leb-true, or_cases}
use Rattle.node_replication.specs.Followers.{Followed, IsSound, IsListed, IsReached, MayGo}
use Rattle.node_replication.specs.Spreads.{Spread, is_covered, is_late as is_over, standing_of}
use Rattle.node_replication.specs.Steps.{Node, Stands, Step, WasCopied, after, after_all, at_start}
use Rattle.node_replication.specs.Waits.{Wait, after as left_by, after_of, calls_stand, counted, fate, fate_of, stood_of}
use Rattle.node_replication.specs.declared.standing.CallbackFate.TheVariants.{Asked, Called, Outdated}
use Rattle.node_replication.specs.declared.standing.Standing.{Standing}
use Rattle.node_replication.specs.declared.standing.Standing.TheVariants.{Copied, Late, Waits}
use Rattle.node_replication.specs.declared.waiters.CallsHeld.{CallsHeld}
use Rattle.node_replication.proofs.Copied.{always}

pub reach : (one : Step) (node : Node) (s t : Spread) → IsReached node s → t ≡ after one s → IsReached node t
reach one node s t h e = record { steps = one ∷ h.steps; is = e ∙ ap (after one) h.is }

pub stood_reached : (held : Option CallsHeld) (now : Duration) (is_strict : Bool) (node : Node) (s t : Spread) → IsReached node s
    → t ≡ stood_of held now is_strict s → IsReached node t
stood_reached (Some calls) now is_strict node s t h e = reach (Stands calls.ticket calls.since now is_strict) node s t h e
stood_reached None now is_strict node s t h e = subst (IsReached node) (sym e) h

-- counting an answer changes nothing about the participants that wait
pub same_calls : (standing : Standing) (w : Wait) → (counted standing w).calls ≡ w.calls
same_calls Copied w = refl
same_calls Late w = refl
same_calls Waits w = refl

-- a list that is late is dropped
or_true : (b : Bool) → not (b || true) ≡ false
or_true true = refl
or_true false = refl

drops : (L : Type 0) (calls : CallsHeld) (standing : Standing) (is_strict : Bool) (w : Wait) → fate calls standing is_strict w.asks_again ≡ Outdated
    → IsListed {L = L} (left_by calls standing is_strict w).calls None
drops L calls Copied is_strict w e = refl
drops L calls Late true w e = sym (or_true calls.is_old)
drops L calls Late false w e = refl
drops L calls Waits is_strict w e = absurd cc

pub outdated : (L : Type 0) (held : Option CallsHeld) (now : Duration) (is_strict : Bool) (s : Spread) (w : Wait)
    → fate_of held now is_strict s w.asks_again ≡ Outdated → IsListed {L = L} (after_of held now is_strict s w).calls None
outdated L (Some calls) now is_strict s w e = drops L calls (calls_stand calls now is_strict s) is_strict w e
outdated L None now is_strict s w e = absurd cc

-- participants that are called wait no longer
calls_none : (L : Type 0) (calls : CallsHeld) (standing : Standing) (is_strict again : Bool) (w : Wait)
    → fate calls standing is_strict w.asks_again ≡ Called again → IsListed {L = L} (left_by calls standing is_strict w).calls None
calls_none L calls Copied is_strict again w e = refl
calls_none L calls Late true again w e = absurd cc
calls_none L calls Late false again w e = refl
calls_none L calls Waits is_strict again w e = absurd cc

pub called : (L : Type 0) (held : Option CallsHeld) (now : Duration) (is_strict again : Bool) (s : Spread) (w : Wait)
    → fate_of held now is_strict s w.asks_again ≡ Called again → IsListed {L = L} (after_of held now is_strict s w).calls None
called L (Some calls) now is_strict again s w e = calls_none L calls (calls_stand calls now is_strict s) is_strict again w e
called L None now is_strict again s w e = absurd cc

-- if the list was too old, there is none
no_list : {L : Type 0} (list : Option L) → is_some list ≡ false → list ≡ None
no_list None e = refl
no_list (Some x) e = absurd cc

asks : {L : Type 0} (calls : CallsHeld) (standing : Standing) (is_strict : Bool) (w : Wait) (list : Option L)
    → fate calls standing is_strict w.asks_again ≡ Asked → is_some list ≡ not calls.is_old
    → IsListed (left_by calls standing is_strict w).calls list
asks calls Copied is_strict w list e h = no_list list (h ∙ old calls.is_old w.asks_again e)
  where
    old : (is_old again : Bool) → (if is_old then Asked else Called again) ≡ Asked → not is_old ≡ false
    old true again e = refl
    old false again e = absurd cc
asks calls Late true w list e h = absurd cc
asks calls Late false w list e h = no_list list (h ∙ old calls.is_old w.asks_again e)
  where
    old : (is_old again : Bool) → (if is_old then Asked else Called again) ≡ Asked → not is_old ≡ false
    old true again e = refl
    old false again e = absurd cc
asks calls Waits is_strict w list e h = absurd cc

pub asked : {L : Type 0} (held : Option CallsHeld) (now : Duration) (is_strict : Bool) (s : Spread) (w : Wait) (list : Option L)
    → fate_of held now is_strict s w.asks_again ≡ Asked → IsListed held list → IsListed (after_of held now is_strict s w).calls list
asked (Some calls) now is_strict s w list e h = asks calls (calls_stand calls now is_strict s) is_strict w list e h
asked None now is_strict s w list e h = absurd cc

-- an answer that goes on as copied has its copies
covered_then : (covered late : Bool) → (if covered then Copied else if late then Late else Waits) ≡ Copied → covered ≡ true
covered_then true late e = refl
covered_then false true e = absurd cc
covered_then false false e = absurd cc

had : {L : Type 0} (ticket : ℕ) (b : Followed L) (h : IsReached b.node b.spread) → is_covered ticket (after_all h.steps (at_start b.node)) ≡ true → MayGo ticket b
had ticket b h e =
    let s = after_all h.steps (at_start b.node) in
    let is = always b.node h.steps in
    elim (or_cases (s.others.wanted == 0) (nat_le ticket s.covered) e) [
      | inl none ↦ inl (sym is.1 ∙ eqb-true s.others.wanted 0 none)
      | inr below ↦ found is.3.copied (leb-true ticket s.covered below)
    ]
  where
    found : (((after_all h.steps (at_start b.node)).covered ≡ 0) ⊎ WasCopied (after_all h.steps (at_start b.node)).covered h.steps (at_start b.node))
        → ticket ≤ (after_all h.steps (at_start b.node)).covered → MayGo ticket b
    found (inl none) below = inr (inl (omega (arith, none, below)))
    found (inr was) below = inr (inr (record {
      steps = h.steps;
      is = h.is;
      below = subst (λ (s : Spread). ticket ≤ s.covered) (sym h.is) below;
      was = subst (λ (s : Spread). WasCopied s.covered h.steps (at_start b.node)) (sym h.is) was;
    }))

pub may_go : {L : Type 0} (ticket : ℕ) (since now : Duration) (b : Followed L) → IsSound b
    → standing_of ticket since now b.is_strict b.spread ≡ Copied → MayGo ticket b
may_go ticket since now b h e =
    had ticket b h.0 (subst (λ (s : Spread). is_covered ticket s ≡ true) h.0.is (covered_then (is_covered ticket b.spread) (is_over since now b.is_strict b.spread) e))
