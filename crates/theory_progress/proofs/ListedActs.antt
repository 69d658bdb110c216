-- a view's list has a call to act for each participant that is to complete or to compensate
use Rattle.std.proofs.Common.{◌≡◌, ◌⊎◌, inl, inr, ◌++◌, ℕ, List, [], ◌∷◌, refl, sym, ap, subst, ◌∙◌, true, Option, Some, None, filter_map}
use Rattle.std.specs.List.{cons_option}
use Rattle.std.specs.Option.{option_map_or}
use Rattle.state_ids.specs.declared.outcome.Act.{Act}
use Rattle.state_ids.specs.declared.outcome.Act.TheVariants.{Complete as CompleteAct, Compensate as CompensateAct}
use Rattle.state_facts.specs.Lists.{In}
use Rattle.state_facts.proofs.Membership.{in_append}
use Rattle.state_forest.specs.declared.duties.Due.{Due}
use Rattle.state_forest.specs.declared.record.Participant.{Participant}
use Rattle.theory_history.specs.Readings.{by_view}
use Rattle.theory_history.specs.Views.{View}
use Rattle.state_replica.specs.ViewDues.{compensations_of, completions_of, forgets_of, hearings_of, parent_in, participant_in}
use Rattle.wire_callbacks.specs.declared.answer.Kind.{Kind}
use Rattle.wire_callbacks.specs.declared.answer.Kind.TheVariants.{After, Forget}
use Rattle.wire_callbacks.specs.declared.duty.Duty.{Duty}
use Rattle.wire_callbacks.specs.CallDuties.{act_wanted, due_of, link_for}
use Rattle.wire_callbacks.specs.Errands.{kind_by}
use Rattle.wire_callbacks.specs.ViewDuties.{after_call, call_at, call_for, duties_of, forget_call, shown_in}
use Rattle.theory_progress.specs.Calls.{asks_to_act}

-- each element made from a list is made from one of its elements
made_of : {X Y : Type 0} (g : X → Option Y) (xs : List X) (y : Y) → In y (filter_map g xs) → (x : X) × In x xs × (g x ≡ Some y)
made_of g [] y there = absurd there
made_of {X} {Y} g (x ∷ xs) y there = by (g x) refl (made_of g xs y) there
  where
    by : (o : Option Y) → g x ≡ o → (In y (filter_map g xs) → (z : X) × In z xs × (g z ≡ Some y)) → In y (cons_option o (filter_map g xs)) → (z : X) × In z (x ∷ xs) × (g z ≡ Some y)
    by None e rest later = let found = rest later in (found.0, inr found.1, found.2)
    by (Some z) e rest (inl same) = (x, inl refl, e ∙ ap (λ (v : Y). Some v) (sym same))
    by (Some z) e rest (inr later) = let found = rest later in (found.0, inr found.1, found.2)

-- the call is of this kind, and calls the participant of which something is due
record IsMadeOf (d : Due) (kind : Kind) (call : Duty) : Type 0 where
  due : due_of call ≡ d
  kind_is : call.kind ≡ kind

made_at : (view : View) (d : Due) (kind : Kind) (act : Act) (p : Participant) (call : Duty) → call_at view d kind act p ≡ Some call → IsMadeOf d kind call
made_at view d kind act p call e = by (link_for kind p.links) e
  where
    same : (made : Duty) → ◌≡◌ {A = Option Duty} (Some made) (Some call) → made ≡ call
    same made e = cc

    by : (o : Option (List ℕ)) → option_map_or (λ link. Some (record { kind = kind; act = act; id = d.lra; member = d.member; link = link; parent = parent_in view d.lra; shows = shown_in view kind d.lra })) o None ≡ Some call → IsMadeOf d kind call
    by None e = absurd cc
    by (Some link) e = let is = same _ e in record { due = ap due_of (sym is); kind_is = ap (λ (c : Duty). c.kind) (sym is) }

acts : (view : View) (act : Act) (d : Due) (call : Duty) → call_for view act d ≡ Some call → due_of call ≡ d
acts view act d call e = by (participant_in view d.lra d.member) e
  where
    by : (o : Option Participant) → option_map_or (λ p. call_at view d (kind_by p act) act p) o None ≡ Some call → due_of call ≡ d
    by None e = absurd cc
    by (Some p) e = (made_at view d (kind_by p act) act p call e).due

-- a call of another kind
tells : (view : View) (kind : Kind) (d : Due) (call : Duty) (p : Option Participant) (act : Option Act) → option_map_or (λ q. option_map_or (λ a. call_at view d kind a q) act None) p None ≡ Some call → call.kind ≡ kind
tells view kind d call None act e = absurd cc
tells view kind d call (Some p) None e = absurd cc
tells view kind d call (Some p) (Some act) e = (made_at view d kind act p call e).kind_is

never_acts : (call : Duty) → asks_to_act call.kind ≡ true → (call.kind ≡ Forget) ⊎ (call.kind ≡ After) → ⊥
never_acts call asks (inl is) = absurd (let wrong = sym (ap asks_to_act is) ∙ asks in cc)
never_acts call asks (inr is) = absurd (let wrong = sym (ap asks_to_act is) ∙ asks in cc)

acts_in : (view : View) (act : Act) (dues : List Due) (call : Duty) → In call (filter_map (call_for view act) dues) → In (due_of call) dues
acts_in view act dues call there =
    let made = made_of (call_for view act) dues call there in
    subst (λ (d : Due). In d dues) (sym (acts view act made.0 call made.2)) made.1

-- the participant is to complete or to compensate
abbrev pub IsToAct : View → ℕ → Due → Type 0
IsToAct view me d = In d (completions_of view me) ⊎ In d (compensations_of view me)

pub listed_act : (view : View) (me : ℕ) (call : Duty) → asks_to_act call.kind ≡ true → In call (duties_of view me) → IsToAct view me (due_of call)
listed_act view me call asks there = first (in_append completes (compensates ++ (forgets ++ hears)) call there)
  where
    completes : List Duty
    completes = filter_map (call_for view CompleteAct) (completions_of view me)

    compensates : List Duty
    compensates = filter_map (call_for view CompensateAct) (compensations_of view me)

    forgets : List Duty
    forgets = filter_map (forget_call view) (forgets_of view me)

    hears : List Duty
    hears = filter_map (after_call view) (hearings_of view me)

    third : In call forgets ⊎ In call hears → IsToAct view me (due_of call)
    third (inl here) =
        let made = made_of (forget_call view) (forgets_of view me) call here in
        absurd (never_acts call asks (inl (tells view Forget made.0 call (participant_in view made.0.lra made.0.member) (act_wanted ((by_view view).want made.0.lra)) made.2)))
    third (inr here) =
        let made = made_of (after_call view) (hearings_of view me) call here in
        absurd (never_acts call asks (inr (tells view After made.0 call (participant_in view made.0.lra made.0.member) (act_wanted ((by_view view).want made.0.lra)) made.2)))

    second : In call compensates ⊎ In call (forgets ++ hears) → IsToAct view me (due_of call)
    second (inl here) = inr (acts_in view CompensateAct (compensations_of view me) call here)
    second (inr later) = third (in_append forgets hears call later)

    first : In call completes ⊎ In call (compensates ++ (forgets ++ hears)) → IsToAct view me (due_of call)
    first (inl here) = inl (acts_in view CompleteAct (completions_of view me) call here)
    first (inr later) = second (in_append compensates (forgets ++ hears) call later)
