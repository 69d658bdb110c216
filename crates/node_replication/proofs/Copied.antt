-- What is covered was copied.
use Rattle.std.proofs.Common.{◌≡◌, ◌<◌, ◌≤◌, ◌+◌, ◌-◌, ◌⊎◌, ◌∷◌, [], ℕ, Bool, List, true, false, ap, arith, if◌then◌else◌, inl, inr, max, refl, subst, sym, take}
use Rattle.std.specs.Prelude.{◌&&◌, nat_lt}
use Rattle.std.specs.List.{All, Contains}
use Rattle.std.specs.declared.time.Duration.{Duration}
use Rattle.std.proofs.lemmas.Bool.{and_parts, cases_lt, leb-true, ltb-true}
use Rattle.std.proofs.lemmas.List.Elements.{All-filter, All-head, All-nil, All-push, All-tail, All-take, All-weaker, Contains-append_right}
use Rattle.node_replication.specs.Spreads.{Spread, copied_tickets, drawn_to_wait, given, greatest, heard, holders, is_copied, is_entering, is_other, is_uncopied, last_ticket, put, settled, standing_of, told_by}
use Rattle.node_replication.specs.Steps.{Asks, Begins, Ends, Gives, Hears, Learns, Looks, Node, Stands, Step, WasCopied, after, after_all, at_start}
use Rattle.node_replication.specs.declared.mark.TheConstants.{MAX_MARKS}
use Rattle.node_replication.specs.declared.mark.Mark.{Mark}
use Rattle.node_replication.specs.declared.acknowledgements.Acknowledgements.{Acknowledgements}
use Rattle.node_replication.proofs.Cases.{either, either_way}

-- a mark is of a frame that was given, and its ticket isn't the last
pub record IsGiven (steps : List Step) (mark : Mark) : Type 0 where
  pub given : Contains steps (Gives mark)
  pub below : mark.ticket < last_ticket

-- there is no covered ticket, or it was copied
pub record IsSound (steps : List Step) (start : Spread) (ticket : ℕ) : Type 0 where
  pub below : ticket < last_ticket
  pub copied : (ticket ≡ 0) ⊎ WasCopied ticket steps start

-- what holds for a state
abbrev pub Is : List Step → Spread → Spread → Type 0
Is steps start s =
    (s.others.me ≡ start.others.me) × (s.others.wanted ≡ start.others.wanted) × All (IsGiven steps) s.marks × IsSound steps start s.covered

still_given : (step : Step) (steps : List Step) (mark : Mark) → IsGiven steps mark → IsGiven (step ∷ steps) mark
still_given step steps mark h = record { given = Contains-append_right (step ∷ []) steps (Gives mark) h.given; below = h.below }

still_copied : (step : Step) (steps : List Step) (start : Spread) (ticket : ℕ) → IsSound steps start ticket → IsSound (step ∷ steps) start ticket
still_copied step steps start ticket h = record { below = h.below; copied = elim h.copied [ inl none ↦ inl none | inr was ↦ inr (more was) ] }
  where
    more : WasCopied ticket steps start → WasCopied ticket (step ∷ steps) start
    more was = record {
      later = step ∷ was.later;
      past = was.past;
      mark = was.mark;
      is = ap (λ (xs : List Step). step ∷ xs) was.is;
      ticket_is = was.ticket_is;
      given = was.given;
      told = was.told;
    }

still : (step : Step) (steps : List Step) (start s : Spread) → Is steps start s → Is (step ∷ steps) start s
still step steps start s h =
    (h.0, h.1, All-weaker (IsGiven steps) (IsGiven (step ∷ steps)) (still_given step steps) s.marks h.2, still_copied step steps start s.covered h.3)

-- a frame is given
gives : (mark : Mark) (steps : List Step) (s : Spread) (b : Bool) → (nat_lt 0 s.others.wanted && nat_lt mark.ticket last_ticket) ≡ b
    → All (IsGiven (Gives mark ∷ steps)) s.marks → All (IsGiven (Gives mark ∷ steps)) (if b then put mark s.marks else s.marks)
gives mark steps s true e all =
    let below = ltb-true mark.ticket last_ticket ((and_parts (nat_lt 0 s.others.wanted) (nat_lt mark.ticket last_ticket) e).1) in
    let new : IsGiven (Gives mark ∷ steps) mark = record { given = (0, omega arith, refl); below = below } in
    All-push (IsGiven (Gives mark ∷ steps)) (take (MAX_MARKS - 1) s.marks) mark (All-take (IsGiven (Gives mark ∷ steps)) (MAX_MARKS - 1) s.marks all) new
gives mark steps s false e all = all

-- the greatest ticket that is copied is that of one of the marks
abbrev IsOf : Acknowledgements → (Mark → Type 0) → ℕ → Type 0
IsOf others P ticket = (ticket ≡ 0) ⊎ ((mark : Mark) × P mark × (is_copied others mark ≡ true) × (mark.ticket ≡ ticket))

one_of : (others : Acknowledgements) (P : Mark → Type 0) (mark : Mark) (rest : ℕ) → P mark → is_copied others mark ≡ true → IsOf others P rest → IsOf others P (max mark.ticket rest)
one_of others P mark rest p e h = settle (cases_lt rest (mark.ticket + 1)) h
  where
    settle : (rest < mark.ticket + 1) ⊎ (mark.ticket + 1 ≤ rest) → IsOf others P rest → IsOf others P (max mark.ticket rest)
    settle (inl low) is = inr (mark, p, e, omega (arith, low))
    settle (inr high) (inl none) = inl (omega (arith, high, none))
    settle (inr high) (inr (other, q, f, is)) = inr (other, q, f, omega (arith, high, is))

with_one : (others : Acknowledgements) (P : Mark → Type 0) (mark : Mark) (marks : List Mark) (b : Bool) → is_copied others mark ≡ b → P mark
    → IsOf others P (greatest (copied_tickets others marks)) → IsOf others P (greatest (copied_tickets others (mark ∷ marks)))
with_one others P mark marks true e p rest = rw e (one_of others P mark (greatest (copied_tickets others marks)) p e rest)
with_one others P mark marks false e p rest = rw e rest

greatest_is : (others : Acknowledgements) (P : Mark → Type 0) (marks : List Mark) → All P marks → IsOf others P (greatest (copied_tickets others marks))
greatest_is others P [] all = inl refl
greatest_is others P (mark ∷ marks) all =
    with_one others P mark marks (is_copied others mark) refl (All-head P mark marks all) (greatest_is others P marks (All-tail P mark marks all))

-- another node states what it has
is_settled : (other count : ℕ) (now : Duration) (s : Spread) → is_other other s.others ≡ true → heard other count now s ≡ settled now (told_by other count s)
is_settled other count now s e = rw e refl

-- a mark that was copied then
copied_then : (other count : ℕ) (now : Duration) (steps : List Step) (start : Spread) (mark : Mark) (ticket : ℕ)
    → is_other other (after_all steps start).others ≡ true
    → (after_all steps start).others.me ≡ start.others.me → (after_all steps start).others.wanted ≡ start.others.wanted
    → IsGiven (Hears other count now ∷ steps) mark → is_copied (told_by other count (after_all steps start)).others mark ≡ true → mark.ticket ≡ ticket
    → WasCopied ticket (Hears other count now ∷ steps) start
copied_then other count now steps start mark ticket e me wanted given copied is =
    let s = after_all steps start in
    let others = (told_by other count s).others in
    let enough : s.others.wanted ≤ holders s.others.me mark.count others.told = leb-true s.others.wanted (holders s.others.me mark.count others.told) copied in
    let by_start : start.others.wanted ≤ holders start.others.me mark.count others.told =
    subst (λ (n : ℕ). start.others.wanted ≤ holders n mark.count others.told) me (omega (arith, wanted, enough)) in
    let now_is : others.told ≡ (heard other count now s).others.told = sym (ap (λ (t : Spread). t.others.told) (is_settled other count now s e)) in
    record {
      later = [];
      past = Hears other count now ∷ steps;
      mark = mark;
      is = refl;
      ticket_is = is;
      given = given.given;
      told = subst (λ (told : List ℕ). start.others.wanted ≤ holders start.others.me mark.count told) now_is by_start;
    }

-- the covered ticket, and one that is copied now
sound : (other count : ℕ) (now : Duration) (steps : List Step) (start : Spread) (covered ticket : ℕ)
    → is_other other (after_all steps start).others ≡ true
    → (after_all steps start).others.me ≡ start.others.me → (after_all steps start).others.wanted ≡ start.others.wanted
    → IsSound (Hears other count now ∷ steps) start covered
    → IsOf (told_by other count (after_all steps start)).others (IsGiven (Hears other count now ∷ steps)) ticket
    → IsSound (Hears other count now ∷ steps) start (max covered ticket)
sound other count now steps start covered ticket e me wanted h (inl none) =
    subst (IsSound (Hears other count now ∷ steps) start) (omega (arith, none)) h
sound other count now steps start covered ticket e me wanted h (inr (mark, given, copied, is)) = settle (cases_lt covered ticket)
  where
    settle : (covered < ticket) ⊎ (ticket ≤ covered) → IsSound (Hears other count now ∷ steps) start (max covered ticket)
    settle (inl low) =
        let below = given.below in
        record {
          below = omega (arith, low, is, below, h.below);
          copied = inr (copied_then other count now steps start mark (max covered ticket) e me wanted given copied (omega (arith, low, is)));
        }
    settle (inr high) = subst (IsSound (Hears other count now ∷ steps) start) (omega (arith, high)) h

hears : (other count : ℕ) (now : Duration) (steps : List Step) (start : Spread) → Is (Hears other count now ∷ steps) start (after_all steps start)
    → is_other other (after_all steps start).others ≡ true
    → Is (Hears other count now ∷ steps) start (settled now (told_by other count (after_all steps start)))
hears other count now steps start h e =
    let s = after_all steps start in
    let others = (told_by other count s).others in
    let P = IsGiven (Hears other count now ∷ steps) in (
      h.0,
      h.1,
      All-filter (is_uncopied others) P s.marks h.2,
      sound other count now steps start s.covered (greatest (copied_tickets others s.marks)) e h.0 h.1 h.3 (greatest_is others P s.marks h.2),
    )

one_step : (step : Step) (steps : List Step) (start : Spread) → Is (step ∷ steps) start (after_all steps start) → Is (step ∷ steps) start (after step (after_all steps start))
one_step Begins steps start h = h
one_step (Ends true) steps start h = h
one_step (Ends false) steps start h = h
one_step Asks steps start h = h
one_step (Gives mark) steps start h =
    let s = after_all steps start in
    (h.0, h.1, gives mark steps s (nat_lt 0 s.others.wanted && nat_lt mark.ticket last_ticket) refl h.2, h.3)
one_step (Hears other count now) steps start h =
    let s = after_all steps start in
    either (Is (Hears other count now ∷ steps) start) (is_other other s.others) (settled now (told_by other count s)) s (hears other count now steps start h) (λ _. h)
one_step Looks steps start h =
    let s = after_all steps start in
    either (Is (Looks ∷ steps) start) (is_entering s) (drawn_to_wait s) s (λ _. h) (λ _. h)
one_step (Learns count) steps start h = h
one_step (Stands ticket since now is_strict) steps start h =
    let s = after_all steps start in
    either_way (Is (Stands ticket since now is_strict ∷ steps) start) (standing_of ticket since now is_strict s) s h h

pub always : (node : Node) (steps : List Step) → Is steps (at_start node) (after_all steps (at_start node))
always node [] = (refl, refl, All-nil (IsGiven []), record { below = omega arith; copied = inl refl })
always node (step ∷ steps) =
    one_step step steps (at_start node) (still step steps (at_start node) (after_all steps (at_start node)) (always node steps))
