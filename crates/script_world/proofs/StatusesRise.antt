-- At each node statuses rise along a run.
use Rattle.std.proofs.Common.{◌≤◌, List, arith, subst}
use Rattle.state_facts.specs.declared.fact.Fact.{Fact}
use Rattle.theory_history.specs.Histories.{IsClosed}
use Rattle.theory_history.specs.Rising.{rank_in}
use Rattle.theory_history.proofs.RanksRise.{rank_more}
use Rattle.script_world.specs.Headline.{IsNode, StatusesRise}
use Rattle.script_world.specs.Worlds.{IsWorld, State, front_of, set_of}
use Rattle.script_world.proofs.Moving.{IsKeptBy}

pub statuses_rise : (s t : State) → IsWorld s → IsKeptBy s t → StatusesRise s t
statuses_rise s t before after = λ node l is covered.
    let was : IsClosed s.history (front_of s node) = (before.current node is.some is.there).closed in
    let there : IsNode t node = record { some = is.some; there = omega (arith, is.there, after.grown.nodes) } in
    subst (λ (S : List Fact). rank_in S l ≤ rank_in (set_of t node) l) (after.grown.same (front_of s node) was)
    (rank_more t.history (front_of s node) (front_of t node)
    (record {
      lawful = after.world.lawful;
      before = after.grown.closed (front_of s node) was;
      after = (after.world.current node there.some there.there).closed;
      below = after.risen node is;
    })
    l covered)
