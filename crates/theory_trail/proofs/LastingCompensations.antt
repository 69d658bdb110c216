-- No crash loses a compensation.
use Rattle.std.proofs.Common.{◌≡◌, inl, inr, ℕ, suc, List, Bool, refl, sym, ap, subst, ◌∙◌, true, false, arith, Option}
use mathlib.Core.Bool.{not}
use Rattle.std.specs.Option.{option_map_or}
use Rattle.state_ids.specs.Fronts.{IsBelow}
use Rattle.state_ids.specs.Ids.{Id}
use Rattle.state_ids.specs.declared.outcome.Act.{Act}
use Rattle.state_ids.specs.declared.outcome.Act.TheVariants.{Compensate as CompensateAct}
use Rattle.state_facts.specs.declared.fact.Fact.{Fact}
use Rattle.state_facts.specs.Duties.{is_at_end, is_pending}
use Rattle.state_facts.specs.Lists.{In}
use Rattle.state_facts.specs.Sets.{heard, is_held, want}
use Rattle.state_forest.proofs.Bools.{not_false}
use Rattle.state_forest.proofs.Paths.{under_home}
use Rattle.state_forest.proofs.SagaOrder.{top_is}
use Rattle.theory_history.specs.Growth.{IsSettled}
use Rattle.theory_history.specs.Histories.{History, IsClosed, IsLawful, facts}
use Rattle.theory_history.specs.Views.{View}
use Rattle.wire_callbacks.specs.declared.answer.Kind.{Kind}
use Rattle.wire_callbacks.specs.declared.answer.Kind.TheVariants.{Complete, Compensate, Status, Forget, After}
use Rattle.wire_callbacks.specs.declared.duty.Duty.{Duty}
use Rattle.wire_callbacks.specs.CallDuties.{IsDuty}
use Rattle.wire_callbacks.specs.ViewDuties.{duties_of}
use Rattle.script_world.specs.declared.event.Event.{Event}
use Rattle.script_world.specs.declared.event.EventReply.{EventReply}
use Rattle.script_world.specs.Headline.{IsNode}
use Rattle.script_world.specs.Worlds.{IsWorld, Runs, State, set_of}
use Rattle.script_world.proofs.Moving.{run_keeps}
use Rattle.theory_progress.specs.Calls.{IsActUnder, IsUnderWay, asks_to_act, is_answered, saga_of}
use Rattle.theory_trail.specs.Crashes.{AreTrailsWithCrashes, GoesOn, Happening, LostCall}
use Rattle.theory_trail.specs.LastingCalls.{Answered, Ended, HasToCompensate, IsEndedOrWaits, IsKept, IsNotLost, IsToCompensate, Listed, Overtaken, Purged, StillDue, Waits}
use Rattle.theory_trail.specs.NodeTrails.{IsServed}
use Rattle.theory_trail.proofs.Crashing.{crashes_run}
use Rattle.theory_trail.proofs.KeptCalls.{cancelled_waits, listed, lost_runs, overtaken_waits, world_keeps}
use Rattle.theory_trail.proofs.OwnCommands.{settled_of}
use Rattle.theory_trail.proofs.PurgedTrees.{IsCancelled, cancelled_has, cancelled_on, due_cancelled, has_cancelled, run_gone}
use Rattle.theory_trail.proofs.StillDue.{top_of}

-- the answer to such a call ends it
ended_by : (T : List Fact) (call : Duty) → IsToCompensate call → is_answered call.kind T call.id call.member call.act ≡ true → is_pending (heard T call.id call.member CompensateAct) ≡ false
ended_by T call is e =
    ap (λ (a : Act). is_pending (heard T call.id call.member a)) (sym is.act) ∙ not_false (is_pending (heard T call.id call.member call.act)) (by call.kind is.asks e)
  where
    by : (kind : Kind) → asks_to_act kind ≡ true → is_answered kind T call.id call.member call.act ≡ true → not (is_pending (heard T call.id call.member call.act)) ≡ true
    by Complete asks e = e
    by Compensate asks e = e
    by Status asks e = e
    by Forget asks e = absurd cc
    by After asks e = absurd cc

-- the node's list has each call that is due under an LRA of its own
listed_under : (node : ℕ) (t : State) (view : View) (l : Id) (next : Duty) → IsServed node t view → l.home ≡ node → IsActUnder (set_of t node) l next → In next (duties_of view node)
listed_under node t view l next served own due = (listed node t view next served).1 (subst (λ (home : ℕ). IsDuty home (set_of t node) next) own due.duty)

module _ (stuck : (T : List Fact) (l : Id) → IsSettled T → IsUnderWay T l → (next : Duty) × IsActUnder T (saga_of T l) next) where
  not_lost : (node : ℕ) (S : List Fact) (t : State) (view : View) (call : Duty) → IsServed node t view → call.id.home ≡ node → IsToCompensate call
      → (is_held (set_of t node) call.id ≡ false → is_pending (heard (set_of t node) call.id call.member CompensateAct) ≡ false) → IsKept node S (set_of t node) call
      → IsNotLost node (set_of t node) view call
  not_lost node S t view call served own is purge (StillDue still) =
      Listed still.later ((listed node t view still.later served).1 still.due) (still.id, still.member, still.act ∙ is.act)
  not_lost node S t view call served own is purge (Answered e) = Ended (ended_by (set_of t node) call is e)
  not_lost node S t view call served own is purge (Purged gone) = Ended (purge gone)
  not_lost node S t view call served own is purge (Overtaken o) =
      let T = set_of t node in
      let settled = settled_of node t view served in
      let next = stuck T call.id settled (overtaken_waits S T call settled o is.act) in
      let saga : saga_of T call.id ≡ o.top = ap (λ (k : Option Id). option_map_or (λ x. x) k call.id) o.cancelled in
      let top = top_is T settled.whole.nested (suc call.id.num) call.id o.top (omega arith) o.cancelled in
      let home = under_home T settled.whole.nested o.top (suc call.id.num) call.id (omega arith) top.under in
      Waits (o.pending is.act) next.0 (listed_under node t view (saga_of T call.id) next.0 served (ap (λ (a : Id). a.home) saga ∙ sym home ∙ own) next.1) next.1

  -- Each compensation, whether it is due or waits

  -- the participant that is called in its saga
  saga_called : (node : ℕ) (t : State) (view : View) (l : Id) (m : ℕ) → IsServed node t view → l.home ≡ node → HasToCompensate (set_of t node) l m
      → (next : Duty) × In next (duties_of view node) × IsActUnder (set_of t node) (saga_of (set_of t node) l) next
  saga_called node t view l m served own has =
      let T = set_of t node in
      let settled = settled_of node t view served in
      let next = stuck T l settled (cancelled_waits T l m settled has) in
      let top = top_of T l has.wants in
      let saga : saga_of T l ≡ top.0 = ap (λ (k : Option Id). option_map_or (λ x. x) k l) top.1 in
      let tops = top_is T settled.whole.nested (suc l.num) l top.0 (omega arith) top.1 in
      let home = under_home T settled.whole.nested top.0 (suc l.num) l (omega arith) tops.under in
      (next.0, listed_under node t view (saga_of T l) next.0 served (ap (λ (a : Id). a.home) saga ∙ sym home ∙ own) next.1, next.1)

  each_waits : (s t : State) (events : List Event) (replies : List EventReply) (node : ℕ) (view : View) (l : Id) (m : ℕ) → IsWorld s → Runs s events replies t → IsNode s node → IsServed node t view → l.home ≡ node
      → HasToCompensate (set_of s node) l m → IsEndedOrWaits node (set_of t node) view l m
  each_waits s t events replies node view l m world runs is served own has =
      by (is_pending (heard (set_of t node) l m CompensateAct)) refl (is_held (set_of t node) l) refl
    where
      was : IsCancelled (set_of s node) l m
      was = has_cancelled (set_of s node) l m has

      now : IsCancelled (set_of t node) l m
      now = cancelled_on s t world (run_keeps s t events replies world runs) node is l m was

      by : (p : Bool) → is_pending (heard (set_of t node) l m CompensateAct) ≡ p → (b : Bool) → is_held (set_of t node) l ≡ b → IsEndedOrWaits node (set_of t node) view l m
      by false ended b e = inl ended
      by true pending false gone = inl (run_gone s t events replies node l m world runs is own was has.held gone)
      by true pending true held = let still = cancelled_has (set_of t node) l m now held pending in inr (still, saga_called node t view l m served own still)

  pub servers_each : (s t : State) (views ends : ℕ → View) (happened : List Happening) (node : ℕ) (l : Id) (m : ℕ) → AreTrailsWithCrashes s views happened t ends → IsNode s node → l.home ≡ node
      → HasToCompensate (set_of s node) l m → IsEndedOrWaits node (set_of t node) (ends node) l m
  servers_each s t views ends happened node l m trails is own has =
      let run = (crashes_run s t views ends happened trails).2 in
      let kept = run_keeps s t _ run.replies trails.world run.runs in
      let there : IsNode t node = record { some = is.some; there = omega (arith, is.there, kept.grown.nodes) } in
      each_waits s t _ run.replies node (ends node) l m trails.world run.runs is (run.served node there) own has

  module _
      (ends_want : (h : History) (v w : List ℕ) (l : Id) → IsLawful h → IsClosed h v → IsClosed h w → IsBelow v w → is_at_end (facts h v) l ≡ true → want (facts h w) l ≡ want (facts h v) l)
      (ends_stay : (h : History) (v w : List ℕ) (l : Id) → IsLawful h → IsClosed h v → IsClosed h w → IsBelow v w → is_at_end (facts h v) l ≡ true → is_at_end (facts h w) l ≡ true) where
    -- the same for whatever happens, and whatever is purged
    run_compensations : (s t : State) (events : List Event) (replies : List EventReply) (node : ℕ) (a b : View) (call : Duty) → IsServed node s a → IsServed node t b → Runs s events replies t → In call (duties_of a node)
        → IsToCompensate call → IsNotLost node (set_of t node) b call
    run_compensations s t events replies node a b call before after runs listed_before is =
        let due = (listed node s a call before).0 listed_before in
        not_lost node (set_of s node) t b call after due.own is
        (run_gone s t events replies node call.id call.member before.world runs before.node due.own (due_cancelled node (set_of s node) call due is) due.held)
        (world_keeps ends_want ends_stay s t events replies node call before.world runs before.node due)

    pub lost_compensations : (s t : State) (a : View) (lost : LostCall) (call : Duty) → IsServed lost.node s a → GoesOn s a lost t → In call (duties_of a lost.node) → IsToCompensate call
        → IsNotLost lost.node (set_of t lost.node) lost.found call
    lost_compensations s t a lost call served on due is =
        let runs = lost_runs s t a lost on in
        run_compensations s t runs.0 runs.1.0 lost.node a lost.found call served on.served runs.1.1 due is

    pub servers_compensations : (s t : State) (views ends : ℕ → View) (happened : List Happening) (node : ℕ) (call : Duty) → AreTrailsWithCrashes s views happened t ends → IsNode s node
        → In call (duties_of (views node) node) → IsToCompensate call → IsNotLost node (set_of t node) (ends node) call
    servers_compensations s t views ends happened node call trails is due asks =
        let run = (crashes_run s t views ends happened trails).2 in
        let kept = run_keeps s t _ run.replies trails.world run.runs in
        let there : IsNode t node = record { some = is.some; there = omega (arith, is.there, kept.grown.nodes) } in
        run_compensations s t _ run.replies node (views node) (ends node) call (trails.served node is) (run.served node there) run.runs due asks
