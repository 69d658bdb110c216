-- What was answered is held, also by servers that are killed.
use Rattle.std.proofs.Common.{ℕ, List, [], ◌∷◌, ◌++◌, refl, subst}
use Rattle.state_facts.specs.Lists.{IsInside}
use Rattle.state_facts.specs.declared.fact.Fact.{Fact}
use Rattle.theory_history.specs.Views.{View}
use Rattle.theory_history.proofs.ClosedSets.{facts_inside}
use Rattle.script_world.specs.Worlds.{State, front_of, set_of}
use Rattle.script_world.proofs.Moving.{run_keeps}
use Rattle.theory_trail.specs.Answered.{IsHeld}
use Rattle.theory_trail.specs.Crashes.{AreTrailsWithCrashes, Happening, HappenAll, Heard, place_of, with_view}
use Rattle.theory_trail.specs.NodeTrails.{event_of}
use Rattle.theory_trail.specs.Servers.{AreServed, Turn}
use Rattle.theory_trail.proofs.Crashing.{crashes_run, heard_meant, served_on}
use Rattle.theory_trail.proofs.OwnCommands.{current_of}

-- what happened can be cut anywhere

record IsCut (s : State) (views : ℕ → View) (xs ys : List Happening) (t : State) (ends : ℕ → View) : Type 0 where
  mid : State
  between : ℕ → View
  first : HappenAll s views xs mid between
  rest : HappenAll mid between ys t ends

cut : (s : State) (views : ℕ → View) (xs ys : List Happening) (t : State) (ends : ℕ → View) → HappenAll s views (xs ++ ys) t ends → IsCut s views xs ys t ends
cut s views [] ys t ends h = record { mid = s; between = views; first = (refl, λ node is. refl); rest = h }
cut s views (x ∷ xs) ys t ends (mid, (next, happens, rest)) =
    let later = cut mid (with_view views (place_of x) next) xs ys t ends rest in
    record { mid = later.mid; between = later.between; first = (mid, (next, happens, later.first)); rest = later.rest }

pub answered_held : (s t : State) (views ends : ℕ → View) (before after : List Happening) (turn : Turn) → AreTrailsWithCrashes s views (before ++ Heard turn ∷ after) t ends → IsHeld turn t
answered_held s t views ends before after turn trails = by parts.rest
  where
    parts : IsCut s views before (Heard turn ∷ after) t ends
    parts = cut s views before (Heard turn ∷ after) t ends trails.happen

    served : AreServed parts.mid parts.between
    served = (crashes_run s parts.mid views parts.between before (record { world = trails.world; served = trails.served; happen = parts.first })).2.served

    by : HappenAll parts.mid parts.between (Heard turn ∷ after) t ends → IsHeld turn t
    by (behind, (next, (can, follows), rest)) =
        let meant = heard_meant parts.mid parts.between turn next behind served can follows in
        let later : AreTrailsWithCrashes behind (with_view parts.between turn.node next) after t ends = record {
          world = meant.served.world;
          served = served_on parts.mid parts.between turn.node (event_of turn.node turn.frame turn.entry) turn.entry.reply next behind served meant;
          happen = rest;
        } in
        let run = (crashes_run behind t (with_view parts.between turn.node next) ends after later).2 in
        let kept = run_keeps behind t _ run.replies meant.served.world run.runs in
        let same = kept.grown.same (front_of behind turn.node) (current_of turn.node behind next meant.served).closed in
        record {
          before = parts.mid;
          behind = behind;
          a = parts.between turn.node;
          b = next;
          served = served turn.node can.node;
          next = can.next;
          follows = follows;
          left = meant.served;
          held = subst (λ (S : List Fact). IsInside S (set_of t turn.node)) same
              (facts_inside t.history (front_of behind turn.node) (front_of t turn.node) (kept.risen turn.node meant.served.node));
        }
