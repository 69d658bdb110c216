-- the last of the elements at which something is found
use Rattle.std.proofs.Common.{◌≡◌, ◌<◌, ◌+◌, ℕ, zero, suc, List, [], ◌∷◌, refl, sym, ap, ◌∙◌, arith, true, false, Option, Some, None, drop, get_or, length}
use Rattle.std.specs.Option.{option_map_or}
use Rattle.state_facts.proofs.Chains.{drop_at}
use Rattle.state_facts.specs.Duties.{has_to_compensate}
use Rattle.state_forest.specs.declared.record.Member.TheVariants.{Nested, Participant, Left}
use Rattle.state_forest.specs.declared.record.Participant.{Participant as ParticipantRecord}
use Rattle.state_forest.specs.declared.record.Record.{Record}
use Rattle.state_forest.specs.Children.{child_of}
use Rattle.state_forest.specs.Walks.{last_in, last_of, pending_within}

-- the last find from place i on is the one at i, if nothing is found behind it
pub at_last : {X Y : Type 0} (found : ℕ → X → Option Y) (xs : List X) (i n k : ℕ) (x : X) → i < length xs → x ≡ get_or xs i x → n ≡ i + 1 → k ≡ n + 1 → last_of found k (drop n xs) ≡ None → last_of found n (drop i xs) ≡ found n x
at_last found xs i n k x less read at next none =
    ap (last_of found n) (drop_at xs i x less read)
    ∙ ap (λ rest. option_map_or (λ y. Some y) rest (found n x)) (ap (λ j. last_of found (n + 1) (drop j xs)) (sym at) ∙ ap (λ j. last_of found j (drop n xs)) (sym next) ∙ none)

-- what is found last behind the first n elements is also found last among all
pub found_behind : {X Y : Type 0} (found : ℕ → X → Option Y) (y : Y) (n i k : ℕ) (xs : List X) → k ≡ n + i → last_of found k (drop n xs) ≡ Some y → last_of found i xs ≡ Some y
found_behind found y zero i k xs at e = ap (λ j. last_of found j xs) (let same : i ≡ k = omega (arith, at) in same) ∙ e
found_behind found y (suc n) i k [] at e = absurd cc
found_behind found y (suc n) i k (x ∷ xs) at e = rw (found_behind found y n (i + 1) k xs (omega (arith, at)) e) refl

pub within_pending : (levels : ℕ) (at : ℕ → Option Record) (num slot : ℕ) (p : ParticipantRecord) → has_to_compensate p.links p.compensated ≡ true → pending_within levels at num slot (Participant p) ≡ Some (record { number = num; slot = slot })
unfolding pending_within
within_pending zero at num slot p e = rw e refl
within_pending (suc levels) at num slot p e = rw e refl

pub within_settled : (levels : ℕ) (at : ℕ → Option Record) (num slot : ℕ) (p : ParticipantRecord) → has_to_compensate p.links p.compensated ≡ false → pending_within levels at num slot (Participant p) ≡ None
unfolding pending_within
within_settled zero at num slot p e = rw e refl
within_settled (suc levels) at num slot p e = rw e refl

pub within_left : (levels : ℕ) (at : ℕ → Option Record) (num slot : ℕ) → pending_within levels at num slot Left ≡ None
unfolding pending_within
within_left zero at num slot = refl
within_left (suc levels) at num slot = refl

pub within_none : (levels : ℕ) (at : ℕ → Option Record) (num slot child : ℕ) → child_of at num child ≡ None → pending_within levels at num slot (Nested child) ≡ None
unfolding pending_within
within_none zero at num slot child none = refl
within_none (suc levels) at num slot child none = ap (last_in (pending_within levels at child)) none

pub within_bottom : (at : ℕ → Option Record) (num slot child : ℕ) → pending_within zero at num slot (Nested child) ≡ None
unfolding pending_within
within_bottom at num slot child = refl

pub within_nested : (levels less : ℕ) (at : ℕ → Option Record) (num slot child : ℕ) (r : Record) → levels ≡ suc less → child_of at num child ≡ Some r → pending_within levels at num slot (Nested child) ≡ last_of (pending_within less at child) 1 r.members
unfolding pending_within
within_nested zero less at num slot child r e found = absurd (omega (arith, e))
within_nested (suc levels) less at num slot child r e found =
    let same : levels ≡ less = omega (arith, e) in
    ap (last_in (pending_within levels at child)) found ∙ ap (λ (k : ℕ). last_of (pending_within k at child) 1 r.members) same
