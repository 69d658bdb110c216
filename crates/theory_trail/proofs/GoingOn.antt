-- What servers did, with crashes, goes on with whatever can come next.
use Rattle.std.proofs.Common.{◌≡◌, ◌==◌, inl, inr, ℕ, List, [], ◌∷◌, ◌++◌, refl, ap, subst, Bool, true, false, cond, arith, Option, Some, None}
use Rattle.theory_history.specs.Views.{View}
use Rattle.script_world.specs.declared.event.Event.{Event}
use Rattle.script_world.specs.Headline.{IsNode}
use Rattle.script_world.specs.Worlds.{IsWorld, State, nodes_of}
use Rattle.script_world.proofs.Moving.{step_keeps}
use Rattle.state_book.specs.Trails.{entry}
use Rattle.theory_trail.specs.Crashes.{AreTrailsWithCrashes, CanBeHeard, CanBeLost, GoesOn, Happening, HappenAll, Happens, Heard, Lost, LostCall, place_of, with_view}
use Rattle.theory_trail.specs.NodeTrails.{Follows, event_of}
use Rattle.theory_trail.specs.Servers.{AreServed, Turn}
use Rattle.theory_trail.proofs.Crashing.{crashes_run, lost_goes_on}
use Rattle.theory_trail.proofs.Played.{entry_happens}

-- the world still has as many nodes
follows_nodes : (s t : State) (o : Option Event) → IsWorld s → Follows s o t → nodes_of t ≡ nodes_of s
follows_nodes s t None world same = ap nodes_of same
follows_nodes s t (Some event) world (reply, steps) = (step_keeps s t event reply world steps).grown.nodes

lost_nodes : (s t : State) (a : View) (lost : LostCall) → IsWorld s → GoesOn s a lost t → nodes_of t ≡ nodes_of s
lost_nodes s t a lost world on = elim on.moved [
  | inl same ↦ ap nodes_of same
  | inr it ↦ follows_nodes s t (event_of lost.node lost.frame (entry lost.asked lost.moment it.0)) world it.2
]

-- one more thing happens at the end
happen_more : (s t : State) (views ends : ℕ → View) (happened : List Happening) (last : Happening) (u : State) (b : View) → HappenAll s views happened t ends → IsNode t (place_of last)
    → Happens t (ends (place_of last)) last u b → nodes_of u ≡ nodes_of t → HappenAll s views (happened ++ last ∷ []) u (with_view ends (place_of last) b)
happen_more s t views ends [] last u b (same, same_ends) is happens nodes = (u, (b, here, (refl, ends_are)))
  where
    there : (k : ℕ) → IsNode t k → ends k ≡ views k
    there k node = same_ends k (subst (λ (m : State). IsNode m k) same node)

    here : Happens s (views (place_of last)) last u b
    here = subst (λ (m : State). Happens m (views (place_of last)) last u b) same (subst (λ (view : View). Happens t view last u b) (there (place_of last) is) happens)

    ends_are : (k : ℕ) → IsNode u k → with_view ends (place_of last) b k ≡ with_view views (place_of last) b k
    ends_are k node = by (place_of last == k)
      where
        by : (is_it : Bool) → cond is_it b (ends k) ≡ cond is_it b (views k)
        by true = refl
        by false = there k (record { some = node.some; there = omega (arith, node.there, nodes) })
happen_more s t views ends (first ∷ happened) last u b (mid, (next, happens_first, rest)) is happens nodes =
    (mid, (next, happens_first, happen_more mid t (with_view views (place_of first) next) ends happened last u b rest is happens nodes))

pub turn_goes_on : (s t : State) (views ends : ℕ → View) (happened : List Happening) (turn : Turn) (b : View) → AreTrailsWithCrashes s views happened t ends → CanBeHeard t (ends turn.node) turn b
    → (u : State) × AreTrailsWithCrashes s views (happened ++ Heard turn ∷ []) u (with_view ends turn.node b)
turn_goes_on s t views ends happened turn b trails can =
    let run = (crashes_run s t views ends happened trails).2 in
    let went = entry_happens turn.node t (ends turn.node) b turn.entry turn.frame (run.served turn.node can.node) can.next can.sent in
    let nodes = follows_nodes t went.0 (event_of turn.node turn.frame turn.entry) run.converges.world went.1 in
    (went.0, record { world = trails.world; served = trails.served; happen = happen_more s t views ends happened (Heard turn) went.0 b trails.happen can.node (can, went.1) nodes })

pub crash_goes_on : (s t : State) (views ends : ℕ → View) (happened : List Happening) (lost : LostCall) → AreTrailsWithCrashes s views happened t ends → CanBeLost t (ends lost.node) lost
    → (u : State) × AreTrailsWithCrashes s views (happened ++ Lost lost ∷ []) u (with_view ends lost.node lost.found)
crash_goes_on s t views ends happened lost trails can =
    let run = (crashes_run s t views ends happened trails).2 in
    let went = lost_goes_on t (ends lost.node) lost (run.served lost.node can.node) can in
    let nodes = lost_nodes t went.0 (ends lost.node) lost run.converges.world went.1 in
    (went.0, record { world = trails.world; served = trails.served; happen = happen_more s t views ends happened (Lost lost) went.0 lost.found trails.happen can.node (can, went.1, refl) nodes })

pub none_happened : (s : State) (views : ℕ → View) → IsWorld s → AreServed s views → AreTrailsWithCrashes s views [] s views
none_happened s views world served = record { world = world; served = served; happen = (refl, λ node is. refl) }
