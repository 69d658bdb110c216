-- a node of the world enters a command that it accepts
use Rattle.std.proofs.Common.{◌≡◌, ◌≤◌, ◌+◌, ◌-◌, ℕ, List, [], refl, sym, ap, subst, ◌∙◌, Bool, arith, get_or-set_same, length}
use Rattle.state_ids.specs.Fronts.{count}
use Rattle.state_facts.specs.declared.fact.Fact.{Fact}
use Rattle.state_facts.specs.declared.command.Command.{Command}
use Rattle.theory_history.specs.Changes.{raised}
use Rattle.theory_history.specs.Growth.{IsMore}
use Rattle.theory_history.specs.Histories.{Entry, History, facts, with_entry}
use Rattle.theory_history.specs.NodeViews.{IsCurrent, entry_for}
use Rattle.theory_history.specs.Replies.{Accepted, Judgement, body_for, judge}
use Rattle.theory_history.proofs.CountedByFronts.{raised_here}
use Rattle.theory_history.proofs.OneMoreEntry.{one_more}
use Rattle.script_world.specs.declared.event.Event.TheVariants.{Act}
use Rattle.script_world.specs.declared.event.EventReply.TheVariants.{Answered}
use Rattle.script_world.specs.Headline.{IsNode}
use Rattle.script_world.specs.Worlds.{Acts, IfNode, IsWorld, State, Steps, front_of, if_taken, reply_at, set_of, with_command}
use Rattle.script_world.proofs.Moving.{IsKeptBy, step_keeps}
use Rattle.theory_progress.proofs.NeverRefused.{node_is}

-- the state after a command was entered: the node's set has one more fact
pub record HasEntered (s : State) (node : ℕ) (c : Command) : Type 0 where
  pub state : State
  pub is : state ≡ with_command s node c
  pub steps : Steps s (Act node c) (Answered (reply_at s node c)) state
  pub kept : IsKeptBy s state
  pub counts : count (front_of state node) node ≡ count (front_of s node) node + 1
  pub more : IsMore (record { origin = node; num = count (front_of s node) node + 1; body = body_for (set_of s node) c }) (set_of s node) (set_of state node)

pub entering : (s : State) (node : ℕ) (c : Command) → IsWorld s → IsNode s node → judge (set_of s node) (front_of s node) node c ≡ Accepted → HasEntered s node c
entering s node c world is taken =
    record {
      state = t;
      is = refl;
      steps = steps;
      kept = step_keeps s t (Act node c) (Answered (reply_at s node c)) world steps;
      counts = ap (λ (u : List ℕ). count u node) front ∙ raised_here v node is.some short;
      more = subst (λ (T : List Fact). IsMore (record { origin = node; num = count v node + 1; body = body_for (set_of s node) c }) (set_of s node) T) (sym (ap (facts longer) front))
          (one_more s.history v node e is.some is.there mine.closed mine.own);
    }
  where
    v : List ℕ
    v = front_of s node

    mine : IsCurrent s.history node v
    mine = world.current node is.some is.there

    e : Entry
    e = entry_for s.history v c

    longer : History
    longer = with_entry s.history node e

    t : State
    t = with_command s node c

    acts : Acts s node c (Answered (reply_at s node c)) t
    acts = (refl, sym (ap (λ (j : Judgement). if_taken j s t) taken))

    steps : Steps s (Act node c) (Answered (reply_at s node c)) t
    steps = subst (λ (b : Bool). IfNode b s (Acts s node c (Answered (reply_at s node c)) t) (Answered (reply_at s node c)) t) (sym (node_is s node is)) acts

    short : node ≤ length v
    short = omega (arith, is.there, mine.closed.nodes)

    front : front_of t node ≡ raised v node
    front = get_or-set_same s.fronts (node - 1) (raised v node) [] (omega (arith, is.some, is.there, world.nodes))
