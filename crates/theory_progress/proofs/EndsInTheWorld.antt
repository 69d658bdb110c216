-- ends of acts that a node of the world hears
use Rattle.std.proofs.Common.{◌≡◌, ◌≤◌, ◌<◌, ◌+◌, ℕ, List, [], ◌∷◌, sym, ap, subst, ◌∙◌, true, arith, length, Some, is_some}
use Rattle.state_ids.specs.Ids.{Id}
use Rattle.state_ids.specs.declared.outcome.Verdict.{Verdict}
use Rattle.state_facts.specs.declared.fact.Fact.{Fact}
use Rattle.state_facts.specs.Sets.{is_ended, want}
use Rattle.theory_history.specs.Histories.{IsClosed, facts}
use Rattle.script_world.specs.declared.event.Event.{Event}
use Rattle.script_world.specs.declared.event.EventReply.{EventReply}
use Rattle.script_world.specs.Headline.{IsNode}
use Rattle.script_world.specs.Worlds.{IsWorld, Runs, State, front_of, set_of}
use Rattle.script_world.proofs.Moving.{IsKeptBy, run_keeps}
use Rattle.theory_progress.specs.Calls.{HearsAnEnd, open_under}
use Rattle.theory_progress.specs.Ends.{GoOn, last_state}
use Rattle.theory_progress.proofs.Hearing.{still_node}
use Rattle.theory_progress.proofs.OpenUnder.{ended_none}
use Rattle.theory_progress.proofs.OpenInAHistory.{falls, stays}

-- the node's earlier set, as facts of the later history
pub earlier_set : (s t : State) (node : ℕ) → IsWorld s → IsKeptBy s t → IsNode s node → facts t.history (front_of s node) ≡ set_of s node
earlier_set s t node world kept is = kept.grown.same (front_of s node) (world.current node is.some is.there).closed

pub world_stays : (s t : State) (node : ℕ) (l : Id) (verdict : Verdict) → IsWorld s → IsKeptBy s t → IsNode s node → want (set_of s node) l ≡ Some verdict → want (set_of t node) l ≡ Some verdict → open_under (set_of t node) l ≤ open_under (set_of s node) l
world_stays s t node l verdict world kept is wanted later =
    let was : IsClosed s.history (front_of s node) = (world.current node is.some is.there).closed in
    let there = still_node s t node kept is in
    let same = earlier_set s t node world kept is in
    subst (λ (S : List Fact). open_under (set_of t node) l ≤ open_under S l) same
    (stays t.history (front_of s node) (front_of t node) l verdict kept.world.lawful (kept.grown.closed (front_of s node) was) (kept.world.current node there.some there.there).closed (kept.risen node is)
    (ap (λ (S : List Fact). want S l) same ∙ wanted) later)

pub world_falls : (s t : State) (node : ℕ) (l : Id) (verdict : Verdict) → IsWorld s → IsKeptBy s t → IsNode s node → want (set_of s node) l ≡ Some verdict → want (set_of t node) l ≡ Some verdict → HearsAnEnd (set_of s node) (set_of t node) l → open_under (set_of t node) l < open_under (set_of s node) l
world_falls s t node l verdict world kept is wanted later hears =
    let was : IsClosed s.history (front_of s node) = (world.current node is.some is.there).closed in
    let there = still_node s t node kept is in
    let same = earlier_set s t node world kept is in
    subst (λ (S : List Fact). open_under (set_of t node) l < open_under S l) same
    (falls t.history (front_of s node) (front_of t node) l verdict kept.world.lawful (kept.grown.closed (front_of s node) was) (kept.world.current node there.some there.there).closed (kept.risen node is)
    (ap (λ (S : List Fact). want S l) same ∙ wanted) later (subst (λ (S : List Fact). HearsAnEnd S (set_of t node) l) (sym same) hears))

-- whatever happens, no more participants are open
pub run_stays : (s t : State) (node : ℕ) (l : Id) (verdict : Verdict) (events : List Event) (replies : List EventReply) → IsWorld s → Runs s events replies t → IsNode s node → want (set_of s node) l ≡ Some verdict → want (set_of t node) l ≡ Some verdict → open_under (set_of t node) l ≤ open_under (set_of s node) l
run_stays s t node l verdict events replies world runs is wanted later = world_stays s t node l verdict world (run_keeps s t events replies world runs) is wanted later

-- each end that is heard leaves fewer open
each_falls : (node : ℕ) (l : Id) (verdict : Verdict) (s : State) (ts : List State) → IsWorld s → IsNode s node → want (set_of s node) l ≡ Some verdict → GoOn node l s ts → length ts + open_under (set_of (last_state s ts) node) l ≤ open_under (set_of s node) l
each_falls node l verdict s [] world is wanted on = omega arith
each_falls node l verdict s (t ∷ ts) world is wanted on =
    let step = on.0 in
    let kept = run_keeps s t step.events step.replies world step.runs in
    let later : want (set_of t node) l ≡ Some verdict = step.wants ∙ wanted in
    omega (arith, world_falls s t node l verdict world kept is wanted later step.hears, each_falls node l verdict t ts kept.world (still_node s t node kept is) later on.1)

each_wants : (node : ℕ) (l : Id) (verdict : Verdict) (s : State) (ts : List State) → want (set_of s node) l ≡ Some verdict → GoOn node l s ts → want (set_of (last_state s ts) node) l ≡ Some verdict
each_wants node l verdict s [] wanted on = wanted
each_wants node l verdict s (t ∷ ts) wanted on = each_wants node l verdict t ts (on.0.wants ∙ wanted) on.1

pub world_most : (s : State) (ts : List State) (node : ℕ) (l : Id) (verdict : Verdict) → IsWorld s → IsNode s node → want (set_of s node) l ≡ Some verdict → GoOn node l s ts → length ts ≤ open_under (set_of s node) l
world_most s ts node l verdict world is wanted on = omega (arith, each_falls node l verdict s ts world is wanted on)

pub world_ends : (s : State) (ts : List State) (node : ℕ) (l : Id) (verdict : Verdict) → IsWorld s → IsNode s node → want (set_of s node) l ≡ Some verdict → GoOn node l s ts → length ts ≡ open_under (set_of s node) l → is_ended (set_of (last_state s ts) node) l ≡ true
world_ends s ts node l verdict world is wanted on all =
    let none : open_under (set_of (last_state s ts) node) l ≡ 0 = omega (arith, each_falls node l verdict s ts world is wanted on, all) in
    (ended_none (set_of (last_state s ts) node) l (ap is_some (each_wants node l verdict s ts wanted on))).1 none
