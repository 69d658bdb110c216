-- A home's list of calls keeps to the order of a saga, whatever happens.
use Rattle.std.proofs.Common.{◌≡◌, ℕ, List, refl, sym, subst, true, arith}
use Rattle.state_ids.specs.Ids.{Id}
use Rattle.state_ids.specs.declared.outcome.Act.{Act}
use Rattle.state_ids.specs.declared.outcome.Act.TheVariants.{Compensate}
use Rattle.state_facts.specs.Lists.{In}
use Rattle.theory_history.specs.Views.{View}
use Rattle.wire_callbacks.specs.declared.duty.Duty.{Duty}
use Rattle.wire_callbacks.specs.CallDuties.{IsDuty}
use Rattle.wire_callbacks.specs.ViewDuties.{duties_of}
use Rattle.script_world.specs.declared.event.Event.{Event}
use Rattle.script_world.specs.declared.event.EventReply.{EventReply}
use Rattle.script_world.specs.Headline.{IsNode}
use Rattle.script_world.specs.Worlds.{IsWorld, Runs, State, set_of}
use Rattle.script_world.proofs.Moving.{run_keeps}
use Rattle.theory_progress.specs.Asked.{IsAskedFor}
use Rattle.theory_progress.specs.Calls.{asks_to_act}
use Rattle.theory_progress.specs.SagaOrder.{HasCompensated, IsBehind}
use Rattle.theory_trail.specs.Crashes.{AreTrailsWithCrashes, Happening}
use Rattle.theory_trail.specs.LastingCalls.{IsToCompensate}
use Rattle.theory_trail.specs.NodeTrails.{IsServed}
use Rattle.theory_trail.proofs.Crashing.{crashes_run}
use Rattle.theory_trail.proofs.KeptCalls.{listed}

-- who is on the list is asked
asked_by : (node : ℕ) (s : State) (view : View) (call : Duty) → IsServed node s view → In call (duties_of view node) → asks_to_act call.kind ≡ true → IsAskedFor s node call.id call.member call.act
asked_by node s view call served there asks =
    let due = (listed node s view call served).0 there in
    record {
      call = call;
      due = record { due = subst (λ (home : ℕ). IsDuty home (set_of s node) call) (sym due.own) due; lra = refl; member = refl };
      asks = asks;
      acts = refl;
    }

module _ (s t : State) (views ends : ℕ → View) (happened : List Happening) (node : ℕ) (call : Duty) (trails : AreTrailsWithCrashes s views happened t ends) (is : IsNode s node) (there : In call (duties_of (views node) node)) (to : IsToCompensate call) where
  compensates : IsAskedFor s node call.id call.member Compensate
  compensates = subst (λ (act : Act). IsAskedFor s node call.id call.member act) to.act (asked_by node s (views node) call (trails.served node is) there to.asks)

  module _ (d : Id) (n : ℕ) (behind : IsBehind (set_of s node) call.id call.member d n) where
    pub servers_ended : ((s t : State) (events : List Event) (replies : List EventReply) (node : ℕ) (l d : Id) (m n : ℕ) → IsWorld s → Runs s events replies t → IsNode s node → IsAskedFor s node l m Compensate → IsBehind (set_of s node) l m d n → HasCompensated (set_of t node) d n) → HasCompensated (set_of t node) d n
    servers_ended shown =
        let run = (crashes_run s t views ends happened trails).2 in
        shown s t _ run.replies node call.id d call.member n trails.world run.runs is compensates behind

  module _ (next : Duty) (behind : IsBehind (set_of s node) call.id call.member next.id next.member) (later : In next (duties_of (ends node) node)) (asks : asks_to_act next.kind ≡ true) where
    pub servers_ordered : ((s t : State) (events : List Event) (replies : List EventReply) (node : ℕ) (l d : Id) (m n : ℕ) (act : Act) → IsWorld s → Runs s events replies t → IsNode s node → IsAskedFor s node l m Compensate → IsBehind (set_of s node) l m d n → IsAskedFor t node d n act → ⊥) → ⊥
    servers_ordered unasked =
        let run = (crashes_run s t views ends happened trails).2 in
        let kept = run_keeps s t _ run.replies trails.world run.runs in
        let still : IsNode t node = record { some = is.some; there = omega (arith, is.there, kept.grown.nodes) } in
        unasked s t _ run.replies node call.id next.id call.member next.member next.act trails.world run.runs is compensates behind
        (asked_by node t (ends node) next (run.served node still) later asks)
