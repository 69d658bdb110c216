-- Runs that follow one another, and the headline of each.
use Rattle.std.proofs.Common.{List, [], ◌∷◌, ◌++◌, refl, subst}
use Rattle.script_world.specs.declared.event.Event.{Event}
use Rattle.script_world.specs.declared.event.EventReply.{EventReply}
use Rattle.script_world.specs.Headline.{Converges}
use Rattle.script_world.specs.Machines.{Happens, Machine, StepsTo}
use Rattle.script_world.specs.Worlds.{IsWorld, Leads, Runs, State, Steps}
use Rattle.script_world.proofs.Agreeing.{nodes_agree}
use Rattle.script_world.proofs.Moving.{run_keeps}
use Rattle.script_world.proofs.Parting.{no_split}
use Rattle.script_world.proofs.StatusesRise.{statuses_rise}

pub run_on : (s t u : State) (es fs : List Event) (rs qs : List EventReply) → Runs s es rs t → Runs t fs qs u → Runs s (es ++ fs) (rs ++ qs) u
run_on s t u [] fs [] qs h k = subst (λ (x : State). Runs x fs qs u) h k
run_on s t u [] fs (r ∷ rs) qs h k = absurd h
run_on s t u (e ∷ es) fs [] qs h k = absurd h
run_on s t u (e ∷ es) fs (r ∷ rs) qs h k = (h.0, h.1, run_on h.0 t u es fs rs qs h.2 k)

pub one_step : (s t : State) (event : Event) (reply : EventReply) → Steps s event reply t → Runs s (event ∷ []) (reply ∷ []) t
one_step s t event reply step = (t, step, refl)

-- the headline holds of each run
pub converged : (s t : State) (events : List Event) (replies : List EventReply) → IsWorld s → Runs s events replies t → Converges s t
converged s t events replies world runs =
    let kept = run_keeps s t events replies world runs in
    record {
      world = kept.world;
      agree = λ one other took. nodes_agree t one other kept.world took;
      whole = no_split s t world kept;
      rising = statuses_rise s t world kept;
    }

-- the empty run leads from a state to itself
pub leads_none : (s : State) → IsWorld s → Leads s s
leads_none s w = record { world = w; events = []; replies = []; runs = refl }

pub leads_on : (s t u : State) (events : List Event) (replies : List EventReply) → Leads s t → Runs t events replies u → Leads s u
leads_on s t u events replies led runs =
    record { world = led.world; events = led.events ++ events; replies = led.replies ++ replies; runs = run_on s t u led.events events led.replies replies led.runs runs }

pub led_converges : (s t : State) → Leads s t → Converges s t
led_converges s t led = converged s t led.events led.replies led.world led.runs

-- so the headline also holds after one more step, whatever state led to it
pub steps_to : (first s : State) (event : Event) (reply : EventReply) (m : Machine) → Leads first s → Happens s event reply m → StepsTo first s event reply m
steps_to first s event reply m led h =
    record {
      state = h.0;
      steps = h.1;
      stands = h.2;
      converges = led_converges first h.0 (leads_on first s h.0 (event ∷ []) (reply ∷ []) led (one_step s h.0 event reply h.1));
    }
