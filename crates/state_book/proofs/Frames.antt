-- A frame is taken, or it is refused for the first cause that applies. A frame of the same history
-- is taken, or there is a gap.
use Rattle.std.proofs.Common.{◌≡◌, ◌∙◌, ◌⊎◌, inl, inr, ℕ, zero, suc, Bool, true, false, List, Result, Err, refl, sym, ap, length, arith}
use Rattle.state_ids.specs.Fronts.{IsBelow}
use Rattle.state_facts.specs.declared.refusal.Refusal.{Refusal}
use Rattle.state_facts.specs.declared.refusal.Refusal.TheVariants.{BadFrame, Gap, NoMemory}
use Rattle.theory_history.specs.Histories.{History}
use Rattle.theory_history.specs.Views.{View}
use Rattle.wire_frames.specs.Frames.{Frame, is_beyond}
use Rattle.wire_frames.specs.TakenFrames.{RefusesTaking}
use Rattle.wire_frames.proofs.Beyond.{below_from, beyond_from}
use Rattle.wire_frames.proofs.FramesOfHistories.{some_view, take_law}
use Rattle.state_book.specs.declared.calls.Reply.{Reply}
use Rattle.state_book.specs.declared.calls.Reply.TheVariants.{Refused}
use Rattle.state_book.specs.Next.{IsTakeReply, RefusesFrame}
use Rattle.state_book.specs.OfSets.{IsFrom, IsUnionOrGap}

is_below_or_not : (v w : List ℕ) → IsBelow v w ⊎ (IsBelow v w → ⊥)
is_below_or_not v w = by (is_beyond w v) refl
  where
    by : (b : Bool) → is_beyond w v ≡ b → IsBelow v w ⊎ (IsBelow v w → ⊥)
    by true e = inr (λ below. let clash = beyond_from w v below in absurd cc)
    by false e = inl (below_from w v e)

is_same_or_not : (m n : ℕ) → (m ≡ n) ⊎ (m ≡ n → ⊥)
is_same_or_not zero zero = inl refl
is_same_or_not zero (suc n) = inr (λ e. absurd (omega (arith, e)))
is_same_or_not (suc m) zero = inr (λ e. absurd (omega (arith, e)))
is_same_or_not (suc m) (suc n) = by (is_same_or_not m n)
  where
    by : (m ≡ n) ⊎ (m ≡ n → ⊥) → (suc m ≡ suc n) ⊎ (suc m ≡ suc n → ⊥)
    by (inl e) = inl (ap suc e)
    by (inr other) = inr (λ e. other (omega (arith, e)))

abbrev place_of : Refusal → ℕ
place_of (BadFrame place) = place
place_of _ = 1

refusal_of : {X : Type 0} (r s : Refusal) → ◌≡◌ {A = Result X Refusal} (Err r) (Err s) → r ≡ s
refusal_of r s e = cc

at_places : (r : Refusal) (m n : ℕ) → r ≡ BadFrame m → r ≡ BadFrame n → m ≡ n
at_places r m n one other = sym (ap place_of one) ∙ ap place_of other

no_gap : (r : Refusal) (m : ℕ) (front : List ℕ) → r ≡ BadFrame m → r ≡ Gap front → ⊥
no_gap r m front one other = cc

-- a refusal for a cause other than memory is for the first cause that applies
pub first_cause : {X : Type 0} (a : View) (frame : Frame) (r : Refusal) → RefusesTaking a frame r → (r ≡ NoMemory → ⊥)
    → ((length frame.front ≡ length a.front → ⊥) → ◌≡◌ {A = Result X Refusal} (Err r) (Err (BadFrame 9)))
    → (length frame.front ≡ length a.front → (IsBelow frame.base a.front → ⊥) → ◌≡◌ {A = Result X Refusal} (Err r) (Err (Gap a.front)))
    → RefusesFrame a frame r
first_cause {X} a frame r (inl none) other nodes gap = absurd (other none)
first_cause {X} a frame r (inr (inl many)) other nodes gap = inl many
first_cause {X} a frame r (inr (inr (inl beyond))) other nodes gap = inr (inl beyond)
first_cause {X} a frame r (inr (inr (inr (is, shapeless)))) other nodes gap =
    by (is_same_or_not (length frame.front) (length a.front)) (is_below_or_not frame.base a.front)
  where
    by : (length frame.front ≡ length a.front) ⊎ (length frame.front ≡ length a.front → ⊥) → IsBelow frame.base a.front ⊎ (IsBelow frame.base a.front → ⊥) → RefusesFrame a frame r
    by (inl same) (inl below) = inr (inr (is, same, below, shapeless))
    by (inl same) (inr beyond) = absurd (no_gap r 0 a.front is (refusal_of {X = X} r (Gap a.front) (gap same beyond)))
    by (inr many) below = let clash = at_places r 0 9 is (refusal_of {X = X} r (BadFrame 9) (nodes many)) in absurd (omega (arith, clash))

only_gap : (h : History) (v w : List ℕ) (a : View) (frame : Frame) (r : Refusal) → IsFrom h v w a frame → RefusesFrame a frame r
    → (r ≡ Gap a.front) × (IsBelow frame.base a.front → ⊥)
only_gap h v w a frame r from (inl (is, many)) = absurd (many from.nodes)
only_gap h v w a frame r from (inr (inl (is, nodes, beyond))) = (is, beyond)
only_gap h v w a frame r from (inr (inr (is, nodes, below, shapeless))) =
    let some = some_view h v w frame.base a frame from.lawful from.receiver from.sender from.own from.told (sym from.nodes) below in
    absurd (shapeless some.0 some.1 some.2)

pub union_or_gap : (h : History) (v w : List ℕ) (a b : View) (frame : Frame) (reply : Reply) → IsFrom h v w a frame → IsTakeReply a frame reply b → IsUnionOrGap h v w a frame reply b
union_or_gap h v w a b frame reply from (inl (is, takes)) =
    (λ below. (is, take_law h v w frame.base a b frame from.lawful from.receiver from.sender from.own from.told below takes.taken), λ beyond. absurd (beyond takes.reached))
union_or_gap h v w a b frame reply from (inr (r, is, refuses, same)) =
    let gap = only_gap h v w a frame r from refuses in
    (λ below. absurd (gap.1 below), λ beyond. (is ∙ ap (λ s. Refused s) gap.0, same))
