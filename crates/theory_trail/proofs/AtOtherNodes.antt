-- What happens at another node leaves the view of what a node holds.
use Rattle.std.proofs.Common.{◌≡◌, ℕ, List, sym, subst, ◌∙◌, arith}
use Rattle.state_facts.specs.declared.fact.Fact.{Fact}
use Rattle.theory_history.specs.Histories.{IsClosed, facts}
use Rattle.theory_history.specs.Views.{StandsFor, View}
use Rattle.script_world.specs.declared.event.Event.{Event}
use Rattle.script_world.specs.declared.event.EventReply.{EventReply}
use Rattle.script_world.specs.Headline.{IsNode}
use Rattle.script_world.specs.Worlds.{State, Steps, front_of}
use Rattle.script_world.proofs.Moving.{IsKeptBy, step_keeps}
use Rattle.theory_progress.specs.Diagram.{node_of}
use Rattle.theory_progress.proofs.AtOtherNodes.{step_leaves}
use Rattle.theory_trail.specs.NodeTrails.{IsServed}

-- a node of one state is a node of another state of the same world
pub node_still : (s t : State) (me : ℕ) → IsNode s me → IsKeptBy s t → IsNode t me
node_still s t me is kept = record { some = is.some; there = omega (arith, is.there, kept.grown.nodes) }

-- so the view of what the node holds stays as it was
pub served_still : (s t : State) (me : ℕ) (a : View) (event : Event) (reply : EventReply) → IsServed me s a → (node_of event ≡ me → ⊥) → Steps s event reply t → IsServed me t a
served_still s t me a event reply served other steps =
    let kept = step_keeps s t event reply served.world steps in
    let closed : IsClosed s.history (front_of s me) = (served.world.current me served.node.some served.node.there).closed in
    let front = step_leaves s t me event reply served.node.some other steps in
    record {
      world = kept.world;
      node = node_still s t me served.node kept;
      holds = record {
        stands = subst (λ (v : List ℕ). StandsFor (facts t.history v) a) (sym front)
            (subst (λ (S : List Fact). StandsFor S a) (sym (kept.grown.same (front_of s me) closed)) served.holds.stands);
        counts = served.holds.counts ∙ sym front;
      };
    }
