-- a node that counts all that every other node counted before counts all that was ever entered
use Rattle.std.proofs.Common.{◌≡◌, inl, inr, ◌≤◌, ◌<◌, ◌+◌, ◌-◌, ℕ, zero, suc, List, [], ◌∷◌, refl, sym, ap, subst, ◌∙◌, arith, get_or, length}
use Rattle.state_ids.specs.Fronts.{IsBelow, count}
use Rattle.state_facts.specs.Lists.{IsInside}
use Rattle.theory_history.specs.Histories.{History, entries_of, facts}
use Rattle.theory_history.specs.NodeViews.{IsCurrent}
use Rattle.theory_history.proofs.Basics.{same_or_not}
use Rattle.script_world.specs.declared.event.Event.{Event}
use Rattle.script_world.specs.declared.event.EventReply.{EventReply}
use Rattle.script_world.specs.Headline.{Agree, IsNode, TookTheSame}
use Rattle.script_world.specs.Worlds.{IsWorld, Runs, State, front_of, nodes_of, set_of}
use Rattle.script_world.proofs.Agreeing.{nodes_agree}
use Rattle.script_world.proofs.Moving.{IsKeptBy, run_keeps}
use Rattle.theory_progress.specs.Rounds.{IsRound, all_counted}
use Rattle.theory_progress.proofs.Hearing.{hears_below, still_node}

-- lists of the same length with the same number at each place are equal
same_list : (v w : List ℕ) → length v ≡ length w → ((i : ℕ) → i < length v → get_or v i 0 ≡ get_or w i 0) → v ≡ w
same_list [] [] e h = refl
same_list [] (b ∷ w) e h = absurd (omega (arith, e))
same_list (a ∷ v) [] e h = absurd (omega (arith, e))
same_list (a ∷ v) (b ∷ w) e h =
    let here : a ≡ b = h 0 (omega arith) in
    ap (λ (n : ℕ). n ∷ v) here ∙ ap (λ (x : List ℕ). b ∷ x) (same_list v w (omega (arith, e)) (λ i l. h (suc i) (omega (arith, l))))

all_at : (h : History) (i : ℕ) → get_or (all_counted h) i 0 ≡ length (get_or h i [])
all_at [] i = refl
all_at (es ∷ h) zero = refl
all_at (es ∷ h) (suc i) = all_at h i

all_length : (h : History) → length (all_counted h) ≡ length h
all_length [] = refl
all_length (es ∷ h) = omega (arith, all_length h)

-- in the end each node counts what every other node counted before
abbrev pub AllHear : State → State → Type 0
AllHear s t = (from to : ℕ) → IsNode s from → IsNode s to → (from ≡ to → ⊥) → IsBelow (front_of s from) (front_of t to)

pub counts_all : (s t : State) (node : ℕ) → IsWorld s → IsKeptBy s t → t.history ≡ s.history → AllHear s t → IsNode s node → front_of t node ≡ all_counted t.history
counts_all s t node world kept still hear is =
    same_list (front_of t node) (all_counted t.history) (mine.closed.nodes ∙ sym (all_length t.history)) (λ i l.
    at (i + 1) (omega arith) (omega (arith, l, mine.closed.nodes)) i (omega arith))
  where
    mine : IsCurrent t.history node (front_of t node)
    mine = kept.world.current node is.some (still_node s t node kept is).there

    -- the node counts all that each node entered
    counts : (from : ℕ) → 1 ≤ from → from ≤ nodes_of t → count (front_of t node) from ≡ length (entries_of t.history from)
    counts from some there = elim (same_or_not from node) [
      | inl same ↦ subst (λ (k : ℕ). count (front_of t node) k ≡ length (entries_of t.history k)) (sym same) mine.own
      | inr other ↦
          let giver : IsNode s from = record { some = some; there = omega (arith, there, kept.grown.nodes) } in
          let heard = hear from node giver is other in
          let had = (world.current from giver.some giver.there).own in
          omega (arith, heard from, had, ap (λ (h : History). length (entries_of h from)) still, mine.closed.within from)
    ]

    at : (from : ℕ) → 1 ≤ from → from ≤ nodes_of t → (i : ℕ) → from - 1 ≡ i → get_or (front_of t node) i 0 ≡ get_or (all_counted t.history) i 0
    at from some there i place =
        subst (λ (k : ℕ). get_or (front_of t node) k 0 ≡ get_or (all_counted t.history) k 0) place
        (counts from some there ∙ sym (all_at t.history (from - 1)))

-- and even if something was entered since, it counts all that was entered before
pub brings : (s t : State) → IsWorld s → IsKeptBy s t → AllHear s t → (node from : ℕ) → IsNode s node → IsNode s from → length (entries_of s.history from) ≤ count (front_of t node) from
brings s t world kept hear node from is giver =
    let had = (world.current from giver.some giver.there).own in
    omega (arith, had, heard)
  where
    heard : count (front_of s from) from ≤ count (front_of t node) from
    heard = elim (same_or_not from node) [
      | inl same ↦ subst (λ (n : ℕ). count (front_of s n) from ≤ count (front_of t node) from) (sym same) (kept.risen node is from)
      | inr other ↦ hear from node giver is other from
    ]

-- so any two of the nodes took the same facts
pub took_all : (s t : State) (one other : ℕ) → IsWorld s → IsKeptBy s t → t.history ≡ s.history → AllHear s t → IsNode s one → IsNode s other → TookTheSame t one other
took_all s t one other world kept still hear is too =
    record {
      one_node = still_node s t one kept is;
      other_node = still_node s t other kept too;
      forth = subst (λ (v : List ℕ). IsInside (set_of t one) (facts t.history v)) same (λ f m. m);
      back = subst (λ (v : List ℕ). IsInside (facts t.history v) (set_of t one)) same (λ f m. m);
    }
  where
    same : front_of t one ≡ front_of t other
    same = counts_all s t one world kept still hear is ∙ sym (counts_all s t other world kept still hear too)

-- A round in the world

round_hears : (s t : State) (events : List Event) (replies : List EventReply) → IsWorld s → Runs s events replies t → IsRound s events replies → AllHear s t
round_hears s t events replies world runs round from to one other apart = hears_below s t events replies from to world runs one other (round from to one other apart)

pub round_counts : (s t : State) (events : List Event) (replies : List EventReply) (node : ℕ) → IsWorld s → Runs s events replies t → t.history ≡ s.history → IsRound s events replies → IsNode s node → front_of t node ≡ all_counted t.history
round_counts s t events replies node world runs still round is =
    counts_all s t node world (run_keeps s t events replies world runs) still (round_hears s t events replies world runs round) is

pub round_agrees : (s t : State) (events : List Event) (replies : List EventReply) (one other : ℕ) → IsWorld s → Runs s events replies t → t.history ≡ s.history → IsRound s events replies → IsNode s one → IsNode s other → Agree t one other
round_agrees s t events replies one other world runs still round is too =
    let kept = run_keeps s t events replies world runs in
    nodes_agree t one other kept.world (took_all s t one other world kept still (round_hears s t events replies world runs round) is too)

pub round_brings : (s t : State) (events : List Event) (replies : List EventReply) (node from : ℕ) → IsWorld s → Runs s events replies t → IsRound s events replies → IsNode s node → IsNode s from → length (entries_of s.history from) ≤ count (front_of t node) from
round_brings s t events replies node from world runs round is giver =
    brings s t world (run_keeps s t events replies world runs) (round_hears s t events replies world runs round) node from is giver
