-- Tickets are drawn in order.
use Rattle.std.proofs.Common.{◌≡◌, ◌<◌, ◌≤◌, ◌++◌, ◌∷◌, [], ℕ, Bool, List, true, false, arith, if◌then◌else◌, refl}
use Rattle.node_replication.specs.Spreads.{Spread, is_entering, is_other, last_ticket, next_ticket, drawn_to_wait, settled, standing_of, told_by}
use Rattle.node_replication.specs.Steps.{Asks, Begins, Ends, Gives, Hears, Learns, Looks, Stands, Step, after, after_all, drawn_by}
use Rattle.node_replication.proofs.Cases.{either, either_way}

-- the last ticket is kept or raised, up to the last that there is
abbrev pub IsRaised : (old new : Spread) → Type 0
IsRaised old new = (old.drawn ≤ new.drawn) × (new.drawn ≤ last_ticket)

raised : (step : Step) (s : Spread) → s.drawn ≤ last_ticket → IsRaised s (after step s)
raised Begins s few = (omega arith, few)
raised (Ends true) s few = (omega arith, omega arith)
raised (Ends false) s few = (omega arith, few)
raised Asks s few = (omega arith, omega arith)
raised (Gives mark) s few = (omega arith, few)
raised (Hears other count now) s few =
    either (IsRaised s) (is_other other s.others) (settled now (told_by other count s)) s (λ _. (omega arith, few)) (λ _. (omega arith, few))
raised Looks s few = either (IsRaised s) (is_entering s) (drawn_to_wait s) s (λ _. (omega arith, omega arith)) (λ _. (omega arith, few))
raised (Learns count) s few = (omega arith, few)
raised (Stands ticket since now is_strict) s few =
    either_way (IsRaised s) (standing_of ticket since now is_strict s) s (omega arith, few) (omega arith, few)

-- a ticket that is drawn is the next one, and then the last
abbrev pub IsDrawn : (ticket : ℕ) → (old new : Spread) → Type 0
IsDrawn ticket old new = 0 < ticket → (ticket ≡ next_ticket old) × (new.drawn ≡ next_ticket old)

of_look : (b : Bool) (s : Spread) → IsDrawn (if b then next_ticket s else 0) s (if b then drawn_to_wait s else s)
of_look true s more = (refl, refl)
of_look false s more = absurd (omega (arith, more))

of_step : (step : Step) (s : Spread) → IsDrawn (drawn_by step s) s (after step s)
of_step Begins s more = absurd (omega (arith, more))
of_step (Ends true) s more = (refl, refl)
of_step (Ends false) s more = absurd (omega (arith, more))
of_step Asks s more = (refl, refl)
of_step (Gives mark) s more = absurd (omega (arith, more))
of_step (Hears other count now) s more = absurd (omega (arith, more))
of_step Looks s more = of_look (is_entering s) s more
of_step (Learns count) s more = absurd (omega (arith, more))
of_step (Stands ticket since now is_strict) s more = absurd (omega (arith, more))

pub few : (steps : List Step) (start : Spread) → start.drawn ≡ 0 → (after_all steps start).drawn ≤ last_ticket
few [] start none = omega (arith, none)
few (step ∷ earlier) start none = (raised step (after_all earlier start) (few earlier start none)).1

pub grows : (later earlier : List Step) (start : Spread) → start.drawn ≡ 0 → (after_all earlier start).drawn ≤ (after_all (later ++ earlier) start).drawn
grows [] earlier start none = omega arith
grows (step ∷ later) earlier start none =
    let up = grows later earlier start none in
    let more = (raised step (after_all (later ++ earlier) start) (few (later ++ earlier) start none)).0 in
    omega (arith, up, more)

pub in_order : (between earlier : List Step) (one later : Step) (start : Spread) → start.drawn ≡ 0 → 0 < drawn_by one (after_all earlier start)
    → drawn_by one (after_all earlier start) < last_ticket → 0 < drawn_by later (after_all (between ++ one ∷ earlier) start)
    → drawn_by one (after_all earlier start) < drawn_by later (after_all (between ++ one ∷ earlier) start)
in_order between earlier one later start none some below more =
    let first = of_step one (after_all earlier start) some in
    let second = of_step later (after_all (between ++ one ∷ earlier) start) more in
    let up = grows between (one ∷ earlier) start none in
    omega (arith, first, second, up, below)
