-- A view that is taken whole by the view of no facts stays as it is.
use Rattle.std.proofs.Common.{◌≡◌, ◌-◌, inl, ℕ, zero, suc, List, [], ◌∷◌, refl, sym, ap, subst, ◌∙◌, arith, get_or, length, max, replicate, false}
use Rattle.std.proofs.lemmas.List.{length-replicate}
use Rattle.state_ids.specs.Fronts.{IsBelow, join_fronts}
use Rattle.state_facts.specs.declared.fact.Fact.{Fact}
use Rattle.state_facts.specs.Lists.{In}
use Rattle.theory_history.specs.Histories.{History, IsClosed, IsLawful, facts}
use Rattle.theory_history.specs.Views.{empty_view, StandsFor, View}
use Rattle.theory_history.proofs.CountedByFronts.{empty_stands}
use Rattle.theory_history.proofs.ClosedSets.{entry_of, made_from_at}
use Rattle.theory_history.specs.ViewShape.{HasShape}
use Rattle.theory_history.proofs.OneViewOfASet.{one_view}
use Rattle.wire_frames.specs.Frames.{IsFrame, frame_of}
use Rattle.wire_frames.specs.Rules.{IsDelta}
use Rattle.wire_frames.specs.Encoding.{encoding}
use Rattle.wire_frames.specs.TakenFrames.{IsTaken}
use Rattle.wire_frames.specs.Typed.{IsTyped}
use Rattle.wire_frames.proofs.FrameCodes.{frame_again}
use Rattle.wire_frames.proofs.FramesOfHistories.{some_view, take_law}
use Rattle.wire_frames.proofs.Grammar.{grammar_law}
use Rattle.wire_frames.proofs.HaveEncodings.{is_delta}
use Rattle.wire_frames.proofs.OfSets.{frame_stands}
use Rattle.wire_frames.specs.declared.version.Version.TheVariants.{Two}
use Rattle.script_world.specs.declared.event.EventReply.{EventReply}
use Rattle.script_world.specs.declared.event.EventReply.TheVariants.{Took}
use Rattle.script_world.specs.Machines.{IsFrom, TakesBytes, TakesFrame}
use Rattle.script_world.specs.Restarts.{ComesBack, whole_of}
use Rattle.script_world.specs.Worlds.{IsViewOf, needs_later}
use Rattle.script_world.proofs.Delivering.{all_read}

zero_at : (n i : ℕ) → get_or {A = ℕ} (replicate n 0) i 0 ≡ 0
zero_at zero i = refl
zero_at (suc n) zero = refl
zero_at (suc n) (suc i) = zero_at n i

zeros_closed : (h : History) → IsClosed h (replicate (length h) 0)
zeros_closed h =
    record {
      kept = λ e m bound. absurd (omega (arith, bound, (made_from_at 1 h e m).1, zero_at (length h) (e.fact.origin - 1)));
      nodes = length-replicate {A = ℕ} (length h) 0;
      within = λ node. omega (arith, zero_at (length h) (node - 1));
    }

none_in : (S : List Fact) → ((f : Fact) → In f S → ⊥) → S ≡ []
none_in [] none = refl
none_in (f ∷ S) none = absurd (none f (inl refl))

zeros_count_none : (h : History) → facts h (replicate (length h) 0) ≡ []
zeros_count_none h = none_in (facts h (replicate (length h) 0)) (λ f m.
    let e = entry_of h (replicate (length h) 0) f m in
    omega (arith, e.3, zero_at (length h) (f.origin - 1), (made_from_at 1 h e.0 e.1).1, ap (λ (g : Fact). g.num) e.2))

join_zeros : (v : List ℕ) → join_fronts (replicate (length v) 0) v ≡ v
join_zeros [] = refl
join_zeros (a ∷ v) = let here : max 0 a ≡ a = omega arith in ap (λ n. n ∷ join_fronts (replicate (length v) 0) v) here ∙ ap (λ r. a ∷ r) (join_zeros v)

-- the view of no facts is that of the front of zeros
pub zeros_stand : (h : History) → StandsFor (facts h (replicate (length h) 0)) (empty_view (length h))
zeros_stand h = subst (λ (S : List Fact). StandsFor S (empty_view (length h))) (sym (zeros_count_none h)) (empty_stands (length h))

-- a view that stands for the union with no facts is the view itself
pub joined_none : (h : History) (v : List ℕ) (a b : View) → IsClosed h v → a.front ≡ v → length b.front ≡ length a.front → StandsFor (facts h v) a → StandsFor (facts h (join_fronts (replicate (length h) 0) v)) b → b ≡ a
joined_none h v a b closed front nodes own joined =
    let same : join_fronts (replicate (length h) 0) v ≡ v = ap (λ (n : ℕ). join_fronts (replicate n 0) v) (sym closed.nodes) ∙ join_zeros v in
    one_view (facts h v) b a nodes (subst (λ (u : List ℕ). StandsFor (facts h u) b) same joined) own

-- the front of zeros is below each front
pub zeros_below : (n : ℕ) (v : List ℕ) → IsBelow (replicate n 0) v
zeros_below n v node = omega (arith, zero_at n (node - 1))

-- In a lawful history the whole frame of a view can be taken by the view of no facts
from_none : (h : History) (v : List ℕ) (own : View) → IsLawful h → IsClosed h v → IsViewOf h v own → IsFrom h (replicate (length h) 0) v (empty_view (length h)) (frame_of own (replicate (length h) 0))
from_none h v own lawful closed is =
    record {
      lawful = lawful;
      receiver = zeros_closed h;
      sender = closed;
      own = record { stands = zeros_stand h; counts = refl };
      told = frame_stands (facts h v) own (replicate (length h) 0) is.stands;
      counts = is.counts;
    }

-- so it becomes the view again
pub taken_again : (h : History) (v zeros bytes : List ℕ) (own fresh new : View) (n : ℕ) (reply : EventReply) → IsLawful h → IsClosed h v → IsViewOf h v own → n ≡ length own.front → zeros ≡ replicate n 0 → fresh ≡ empty_view n
    → IsDelta (frame_of own zeros) → bytes ≡ encoding (frame_of own zeros) → TakesBytes fresh bytes (length bytes) reply new → (reply ≡ Took) × (new ≡ own)
taken_again h v zeros bytes own fresh new n reply lawful closed is nodes none empty rules encodes takes =
    let count : n ≡ length h = nodes ∙ ap (λ (u : List ℕ). length u) is.counts ∙ closed.nodes in
    let zeros_is : zeros ≡ replicate (length h) 0 = none ∙ ap (λ (k : ℕ). replicate k 0) count in
    let fresh_is : fresh ≡ empty_view (length h) = empty ∙ ap empty_view count in
    let all : TakesFrame fresh (frame_of own zeros) reply new = all_read Two (frame_of own zeros) bytes reply fresh new rules encodes takes in
    let whole : TakesFrame (empty_view (length h)) (frame_of own (replicate (length h) 0)) reply new =
    subst (λ (a : View). TakesFrame a (frame_of own (replicate (length h) 0)) reply new) fresh_is
    (subst (λ (z : List ℕ). TakesFrame fresh (frame_of own z) reply new) zeros_is all) in
    let took = (whole h (replicate (length h) 0) v (from_none h v own lawful closed is)).0 (zeros_below (length h) (replicate (length h) 0)) in
    let same : join_fronts (replicate (length h) 0) v ≡ v = ap (λ (k : ℕ). join_fronts (replicate k 0) v) (sym closed.nodes) ∙ join_zeros v in
    (took.0, joined_none h v own new closed is.counts (ap (λ (u : List ℕ). length u) (took.1.counts ∙ same ∙ sym is.counts)) is.stands took.1.stands)

-- the same, given what a sender's bytes are in each lawful history
pub retaken : (zeros items bytes nodes_front : List ℕ) (own fresh new : View) (nodes len vec : ℕ) (reply : EventReply)
    → ((h : History) (v : List ℕ) → IsLawful h → IsClosed h v → IsViewOf h v own → IsBelow zeros v × (needs_later Two (frame_of own zeros) ≡ false) × IsDelta (frame_of own zeros) × (items ≡ encoding (frame_of own zeros)))
    → nodes ≡ length nodes_front → nodes_front ≡ own.front → zeros ≡ replicate nodes 0 → fresh ≡ empty_view nodes → bytes ≡ items → length bytes ≡ vec → len ≡ vec
    → TakesBytes fresh bytes len reply new → (h : History) (v : List ℕ) → IsLawful h → IsClosed h v → StandsFor (facts h v) own → own.front ≡ v → (reply ≡ Took) × (new ≡ own)
retaken zeros items bytes nodes_front own fresh new nodes len vec reply sends count front none empty same many whole takes h v lawful closed stands counts =
    let is : IsViewOf h v own = record { stands = stands; counts = counts } in
    let sent = sends h v lawful closed is in
    taken_again h v zeros bytes own fresh new nodes reply lawful closed is (count ∙ ap (λ (u : List ℕ). length u) front) none empty sent.2 (same ∙ sent.3)
    (subst (λ (k : ℕ). TakesBytes fresh bytes k reply new) (whole ∙ sym many) takes)

-- The frame since nothing brings everything back
pub comes_back : (h : History) (v : List ℕ) (view : View) → IsLawful h → IsClosed h v → IsViewOf h v view → IsTyped (whole_of view) → ComesBack view
comes_back h v view lawful closed is typed =
    record {
      read = frame_again Two (whole_of view) (is_delta (whole_of view) typed (grammar_law h v nothing view lawful closed is.stands (length-replicate {A = ℕ} n 0) below));
      taken = subst (λ (c : View). IsTaken (empty_view n) (whole_of view) c) (only some.0 some.1) some.1;
      only = only;
    }
  where
    n : ℕ
    n = length view.front

    nothing : List ℕ
    nothing = replicate n 0

    count : n ≡ length h
    count = ap (λ (u : List ℕ). length u) is.counts ∙ closed.nodes

    below : IsBelow nothing view.front
    below = zeros_below n view.front

    none : StandsFor (facts h (replicate (length h) 0)) (empty_view n)
    none = subst (λ (k : ℕ). StandsFor (facts h (replicate (length h) 0)) (empty_view k)) (sym count) (zeros_stand h)

    told : IsFrame (facts h v) nothing (whole_of view)
    told = frame_stands (facts h v) view nothing is.stands

    some : (c : View) × IsTaken (empty_view n) (whole_of view) c × HasShape c
    some = some_view h (replicate (length h) 0) v nothing (empty_view n) (whole_of view) lawful (zeros_closed h) closed none told
        (length-replicate {A = ℕ} n 0) (zeros_below n nothing)

    only : (c : View) → IsTaken (empty_view n) (whole_of view) c → c ≡ view
    only c taken =
        let front : length c.front ≡ n = ap (λ (u : List ℕ). length u) (taken.front ∙ join_zeros view.front) in
        joined_none h v view c closed is.counts front is.stands
        (take_law h (replicate (length h) 0) v nothing (empty_view n) c (whole_of view) lawful (zeros_closed h) closed none told (zeros_below n nothing) taken)
