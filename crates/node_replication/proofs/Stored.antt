-- What was stored before, or came later.
use Rattle.std.proofs.Common.{length, suc, ◌≡◌, ◌<◌, ◌≤◌, ◌+◌, ◌⊎◌, ◌++◌, ◌∷◌, [], ℕ, Bool, List, true, false, arith, if◌then◌else◌, inl, inr, refl}
use Rattle.std.specs.Prelude.{◌&&◌, nat_lt, ◌||◌, ◌==◌, nat_le}
use Rattle.std.proofs.lemmas.Bool.Decides.{nat_tests}
use Rattle.node_replication.specs.Spreads.{Spread, drawn_to_wait, is_covered, is_entering, is_other, last_ticket, looked, next_ticket, settled, standing_of, target, told_by}
use Rattle.node_replication.specs.Steps.{Asks, Begins, Ends, Gives, Hears, Learns, Looks, Node, Stands, Step, after, after_all, at_start, begins_in, drawn_by, ends_in}
use Rattle.node_replication.proofs.Cases.{either, either_way}
use Rattle.node_replication.proofs.Copied.{always}
use Rattle.node_replication.proofs.Tickets.{few, in_order}

not_covered : (wanted fact covered : ℕ) → 0 < wanted → covered < fact → (wanted == 0 || nat_le fact covered) ≡ false
not_covered wanted fact covered some above = grind (arith, nat_tests)

pub came_later : (node : Node) (later between earlier : List Step) → 0 < node.wanted
    → (after_all (later ++ (Ends true ∷ (between ++ (Asks ∷ earlier)))) (at_start node)).covered ≡ drawn_by Asks (after_all earlier (at_start node))
    → is_covered (drawn_by (Ends true) (after_all (between ++ (Asks ∷ earlier)) (at_start node)))
    (after_all (later ++ (Ends true ∷ (between ++ (Asks ∷ earlier)))) (at_start node)) ≡ false
came_later node later between earlier some is =
    let all = later ++ (Ends true ∷ (between ++ (Asks ∷ earlier))) in
    let s = after_all all (at_start node) in
    let fact = drawn_by (Ends true) (after_all (between ++ (Asks ∷ earlier)) (at_start node)) in
    let sound = always node all in
    let below = sound.3.below in
    let first : 0 < drawn_by Asks (after_all earlier (at_start node)) = omega arith in
    let second : 0 < fact = omega arith in
    let order = in_order between earlier Asks (Ends true) (at_start node) refl first (omega (arith, is, below)) second in
    not_covered s.others.wanted fact s.covered (omega (arith, some, sound.1)) (omega (arith, is, order))

-- the ticket that may have to be waited for is kept or raised, up to the last ticket
abbrev pub IsKept : (old new : Spread) → Type 0
IsKept old new = (old.stored ≤ new.stored) × (new.stored ≤ new.drawn)

kept : (step : Step) (s : Spread) → s.drawn ≤ last_ticket → s.stored ≤ s.drawn → IsKept s (after step s)
kept Begins s top few = (omega arith, few)
kept (Ends true) s top few = (omega (arith, top, few), omega arith)
kept (Ends false) s top few = (omega arith, few)
kept Asks s top few = (omega arith, omega (arith, top, few))
kept (Gives mark) s top few = (omega arith, few)
kept (Hears other count now) s top few =
    either (IsKept s) (is_other other s.others) (settled now (told_by other count s)) s (λ _. (omega arith, few)) (λ _. (omega arith, few))
kept Looks s top few = either (IsKept s) (is_entering s) (drawn_to_wait s) s (λ _. (omega (arith, top, few), omega arith)) (λ _. (omega arith, few))
kept (Learns count) s top few = (omega arith, few)
kept (Stands ticket since now is_strict) s top few =
    either_way (IsKept s) (standing_of ticket since now is_strict s) s (omega arith, few) (omega arith, few)

drawn_first : (node : Node) (steps : List Step) → (after_all steps (at_start node)).stored ≤ (after_all steps (at_start node)).drawn
drawn_first node [] = omega arith
drawn_first node (step ∷ steps) = (kept step (after_all steps (at_start node)) (few steps (at_start node) refl) (drawn_first node steps)).1

grows : (node : Node) (later earlier : List Step) → (after_all earlier (at_start node)).stored ≤ (after_all (later ++ earlier) (at_start node)).stored
grows node [] earlier = omega arith
grows node (step ∷ later) earlier =
    let up = grows node later earlier in
    let more = (kept step (after_all (later ++ earlier) (at_start node)) (few (later ++ earlier) (at_start node) refl) (drawn_first node (later ++ earlier))).0 in
    omega (arith, up, more)

covered_too : (wanted fact stored covered : ℕ) → fact ≤ stored → (wanted == 0 || nat_le stored covered) ≡ true → (wanted == 0 || nat_le fact covered) ≡ true
covered_too wanted fact stored covered up e = grind (arith, nat_tests)

waits_for : (fact : ℕ) (s : Spread) (b : Bool) → fact ≤ s.stored → is_covered s.stored s ≡ b
    → (is_covered fact s ≡ true) ⊎ (fact ≤ (if b then 0 else s.stored))
waits_for fact s true up e = inl (covered_too s.others.wanted fact s.stored s.covered up e)
waits_for fact s false up e = inr up

pub looks : (node : Node) (later earlier : List Step)
    → (is_covered (drawn_by (Ends true) (after_all earlier (at_start node))) (looked (after_all (later ++ (Ends true ∷ earlier)) (at_start node))) ≡ true)
    ⊎ (drawn_by (Ends true) (after_all earlier (at_start node)) ≤ target (looked (after_all (later ++ (Ends true ∷ earlier)) (at_start node))))
looks node later earlier =
    let all = later ++ (Ends true ∷ earlier) in
    let s = looked (after_all all (at_start node)) in
    let fact = drawn_by (Ends true) (after_all earlier (at_start node)) in
    let up : fact ≤ s.stored = grows node (Looks ∷ later) (Ends true ∷ earlier) in
    waits_for fact s (is_covered s.stored s) up refl

-- no call under way is lost
abbrev pub IsCounted : List Step → Spread → Type 0
IsCounted steps s = (begins_in steps ≤ s.entering + ends_in steps) × (s.entering ≤ length steps)

counted_step : (step : Step) (steps : List Step) (s : Spread) → length (step ∷ steps) ≤ last_ticket → IsCounted steps s → IsCounted (step ∷ steps) (after step s)
counted_step Begins steps s top h = let all = h.0 in let few = h.1 in (omega (arith, top, all, few), omega (arith, top, all, few))
counted_step (Ends true) steps s top h = let all = h.0 in let few = h.1 in (omega (arith, all), omega (arith, few))
counted_step (Ends false) steps s top h = let all = h.0 in let few = h.1 in (omega (arith, all), omega (arith, few))
counted_step Asks steps s top h = let few = h.1 in (h.0, omega (arith, few))
counted_step (Gives mark) steps s top h = let few = h.1 in (h.0, omega (arith, few))
counted_step (Hears other count now) steps s top h =
    let few = h.1 in
    let more : s.entering ≤ suc (length steps) = omega (arith, few) in
    either (IsCounted (Hears other count now ∷ steps)) (is_other other s.others) (settled now (told_by other count s)) s (λ _. (h.0, more)) (λ _. (h.0, more))
counted_step Looks steps s top h =
    let few = h.1 in
    let more : s.entering ≤ suc (length steps) = omega (arith, few) in
    either (IsCounted (Looks ∷ steps)) (is_entering s) (drawn_to_wait s) s (λ _. (h.0, more)) (λ _. (h.0, more))
counted_step (Learns count) steps s top h = let few = h.1 in (h.0, omega (arith, few))
counted_step (Stands ticket since now is_strict) steps s top h =
    let few = h.1 in
    let more : s.entering ≤ suc (length steps) = omega (arith, few) in
    either_way (IsCounted (Stands ticket since now is_strict ∷ steps)) (standing_of ticket since now is_strict s) s (h.0, more) (h.0, more)

counted_all : (node : Node) (steps : List Step) → length steps ≤ last_ticket → IsCounted steps (after_all steps (at_start node))
counted_all node [] top = (omega arith, omega arith)
counted_all node (step ∷ steps) top =
    counted_step step steps (after_all steps (at_start node)) top (counted_all node steps (omega (arith, top)))

draws : (wanted entering ticket : ℕ) → 0 < wanted → 0 < entering → 0 < ticket → 0 < (if nat_lt 0 wanted && nat_lt 0 entering then ticket else 0)
draws wanted entering ticket some more above = grind (arith, nat_tests)

pub under_way : (node : Node) (steps : List Step) → 0 < node.wanted → length steps ≤ last_ticket → ends_in steps < begins_in steps
    → 0 < drawn_by Looks (after_all steps (at_start node))
under_way node steps some top more =
    let s = after_all steps (at_start node) in
    let all = (counted_all node steps top).0 in
    let same = (always node steps).1 in
    draws s.others.wanted s.entering (next_ticket s) (omega (arith, some, same)) (omega (arith, all, more)) (omega arith)
