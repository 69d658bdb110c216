-- answers that a node of the world receives, until the tree is purged
use Rattle.std.proofs.Common.{◌≡◌, ◌≤◌, ◌<◌, ◌+◌, ℕ, List, [], ◌∷◌, sym, ap, subst, ◌∙◌, true, arith, length, Some, is_none}
use Rattle.state_ids.specs.Ids.{Id}
use Rattle.state_ids.specs.declared.outcome.Verdict.{Verdict}
use Rattle.state_facts.specs.declared.fact.Fact.{Fact}
use Rattle.state_facts.specs.Sets.{is_root, want}
use Rattle.theory_history.specs.Histories.{IsClosed, facts}
use Rattle.theory_history.proofs.Decisions.{parent_both, wanted_begun}
use Rattle.theory_history.proofs.RanksRise.{IsGrown, begun_later}
use Rattle.script_world.specs.declared.event.Event.{Event}
use Rattle.script_world.specs.declared.event.EventReply.{EventReply}
use Rattle.script_world.specs.Headline.{IsNode}
use Rattle.script_world.specs.Worlds.{IsWorld, Runs, State, front_of, set_of}
use Rattle.script_world.proofs.Moving.{IsKeptBy, run_keeps}
use Rattle.theory_progress.specs.Calls.{HearsAnAnswer, answers_left}
use Rattle.theory_progress.specs.Ends.{GetAnswered, last_state}
use Rattle.theory_progress.proofs.AnswersLeft.{answers_fall, answers_stay, root_wants}
use Rattle.theory_progress.proofs.EndsInTheWorld.{earlier_set}
use Rattle.theory_progress.proofs.Hearing.{still_node}

-- a root that is to end, at a node of the world
pub record IsDecidedAt (s : State) (node : ℕ) (root : Id) (verdict : Verdict) : Type 0 where
  pub world : IsWorld s
  pub there : IsNode s node
  pub top : is_root (set_of s node) root ≡ true
  pub wants : want (set_of s node) root ≡ Some verdict

-- a later state
module _ (s t : State) (node : ℕ) (root : Id) (verdict : Verdict) (at : IsDecidedAt s node root verdict) (kept : IsKeptBy s t) where
  there : IsNode t node
  there = still_node s t node kept at.there

  was : IsClosed s.history (front_of s node)
  was = (at.world.current node at.there.some at.there.there).closed

  grown : IsGrown t.history (front_of s node) (front_of t node)
  grown =
      record {
        lawful = kept.world.lawful;
        before = kept.grown.closed (front_of s node) was;
        after = (kept.world.current node there.some there.there).closed;
        below = kept.risen node at.there;
      }

  same : facts t.history (front_of s node) ≡ set_of s node
  same = earlier_set s t node at.world kept at.there

  wanted : want (facts t.history (front_of s node)) root ≡ Some verdict
  wanted = ap (λ (S : List Fact). want S root) same ∙ at.wants

  top : is_root (facts t.history (front_of s node)) root ≡ true
  top = ap (λ (S : List Fact). is_root S root) same ∙ at.top

  later : want (set_of t node) root ≡ Some verdict
  later = root_wants t.history (front_of s node) (front_of t node) grown root top verdict wanted

  still_top : is_root (set_of t node) root ≡ true
  still_top =
      let begun = wanted_begun t.history grown.lawful (front_of s node) grown.before root verdict wanted in
      let one = parent_both t.history grown.lawful (front_of s node) (front_of t node) grown.before grown.after root begun (begun_later t.history (front_of s node) (front_of t node) grown root begun) in
      ap is_none (sym one) ∙ top

  pub decided_later : IsDecidedAt t node root verdict
  decided_later = record { world = kept.world; there = there; top = still_top; wants = later }

  pub fewer_later : answers_left (set_of t node) root ≤ answers_left (set_of s node) root
  fewer_later =
      subst (λ (S : List Fact). answers_left (set_of t node) root ≤ answers_left S root) same
      (answers_stay t.history (front_of s node) (front_of t node) grown root verdict wanted later)

  pub less_later : HearsAnAnswer (set_of s node) (set_of t node) root → answers_left (set_of t node) root < answers_left (set_of s node) root
  less_later hears =
      subst (λ (S : List Fact). answers_left (set_of t node) root < answers_left S root) same
      (answers_fall t.history (front_of s node) (front_of t node) grown root verdict wanted later (subst (λ (S : List Fact). HearsAnAnswer S (set_of t node) root) (sym same) hears))

pub tree_stays : (s t : State) (events : List Event) (replies : List EventReply) (node : ℕ) (root : Id) (verdict : Verdict) → IsWorld s → Runs s events replies t → IsNode s node → is_root (set_of s node) root ≡ true → want (set_of s node) root ≡ Some verdict → answers_left (set_of t node) root ≤ answers_left (set_of s node) root
tree_stays s t events replies node root verdict world runs is top wants =
    fewer_later s t node root verdict (record { world = world; there = is; top = top; wants = wants }) (run_keeps s t events replies world runs)

each_answer : (node : ℕ) (root : Id) (verdict : Verdict) (s : State) (ts : List State) → IsDecidedAt s node root verdict → GetAnswered node root s ts → (length ts + answers_left (set_of (last_state s ts) node) root ≤ answers_left (set_of s node) root) × IsDecidedAt (last_state s ts) node root verdict
each_answer node root verdict s [] at on = (omega arith, at)
each_answer node root verdict s (t ∷ ts) at on =
    let step = on.0 in
    let kept = run_keeps s t step.events step.replies at.world step.runs in
    let rest = each_answer node root verdict t ts (decided_later s t node root verdict at kept) on.1 in
    (omega (arith, less_later s t node root verdict at kept step.hears, rest.0), rest.1)

pub tree_falls : (s : State) (ts : List State) (node : ℕ) (root : Id) (verdict : Verdict) → IsWorld s → IsNode s node → is_root (set_of s node) root ≡ true → want (set_of s node) root ≡ Some verdict → GetAnswered node root s ts → length ts + answers_left (set_of (last_state s ts) node) root ≤ answers_left (set_of s node) root
tree_falls s ts node root verdict world is top wants on =
    (each_answer node root verdict s ts (record { world = world; there = is; top = top; wants = wants }) on).0
