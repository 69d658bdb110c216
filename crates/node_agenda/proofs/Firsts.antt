-- Which kind of task has its turn first after a given kind.
use Rattle.std.proofs.Common.{◌≡◌, ◌≤◌, ◌<◌, ◌+◌, ◌*◌, ◌∙◌, ◌⊎◌, ℕ, Bool, true, false, ap, arith, inl, inr, refl, subst, suc, sym, zero}
use Rattle.std.specs.Prelude.{◌-◌, if◌then◌else◌, nat_lt}
use Rattle.std.proofs.lemmas.Bool.{ltb-false, ltb-true}
use Rattle.std.proofs.lemmas.Bool.Decides.{eqb_tells, leb_tells}
use Rattle.node_agenda.specs.Tasks.{IsFirstAfter, after, place_of, turns_to}
use Rattle.node_agenda.specs.declared.turn.Turn.{Turn}
use Rattle.node_agenda.specs.declared.turn.Turn.TheVariants.{OfChores, OfCount, OfDeadlines, OfDuties, OfErrand, OfLetters, OfTelling}

-- the kind whose turn is n turns after another's
pub nth : ℕ → Turn → Turn
nth zero kind = kind
nth (suc n) kind = after (nth n kind)

small : (kind : Turn) → place_of kind ≤ 6
small OfDeadlines = omega arith
small OfCount = omega arith
small OfLetters = omega arith
small OfTelling = omega arith
small OfDuties = omega arith
small OfChores = omega arith
small OfErrand = omega arith

-- the next kind has the next place, or the first place after the last one
next_place : (kind : Turn) → (place_of (after kind) ≡ place_of kind + 1) ⊎ (place_of (after kind) + 7 ≡ place_of kind + 1)
next_place OfDeadlines = inl refl
next_place OfCount = inl refl
next_place OfLetters = inl refl
next_place OfTelling = inl refl
next_place OfDuties = inl refl
next_place OfChores = inl refl
next_place OfErrand = inr refl

kind_at : ℕ → Turn
kind_at zero = OfDeadlines
kind_at (suc zero) = OfCount
kind_at (suc (suc zero)) = OfLetters
kind_at (suc (suc (suc zero))) = OfTelling
kind_at (suc (suc (suc (suc zero)))) = OfDuties
kind_at (suc (suc (suc (suc (suc zero))))) = OfChores
kind_at (suc (suc (suc (suc (suc (suc n)))))) = OfErrand

at_place : (kind : Turn) → kind_at (place_of kind) ≡ kind
unfolding kind_at
at_place OfDeadlines = refl
at_place OfCount = refl
at_place OfLetters = refl
at_place OfTelling = refl
at_place OfDuties = refl
at_place OfChores = refl
at_place OfErrand = refl

same_place : (one other : Turn) → place_of one ≡ place_of other → one ≡ other
same_place one other e = sym (at_place one) ∙ ap kind_at e ∙ at_place other

-- after n turns the place is n further, except for whole rounds of seven
record IsPlaced (n : ℕ) (kind : Turn) : Type 0 where
  rounds : ℕ
  is : place_of (nth n kind) + 7 * rounds ≡ place_of kind + n

placed : (n : ℕ) (kind : Turn) → IsPlaced n kind
unfolding nth
placed zero kind = record { rounds = 0; is = omega arith }
placed (suc n) kind =
    let before = placed n kind in
    let was = before.is in
    elim (next_place (nth n kind)) as (λ _. IsPlaced (suc n) kind) [
      | inl e ↦ record { rounds = before.rounds; is = omega (arith, e, was) }
      | inr e ↦ record { rounds = suc before.rounds; is = omega (arith, e, was) }
    ]

-- the number of turns between two places: within a round, or into the next one
abbrev Between : (p k turns : ℕ) → Type 0
Between p k turns = ((p < k) × (turns + p ≡ k)) ⊎ ((k ≤ p) × (turns + p ≡ k + 7))

between_by : (p k : ℕ) (b : Bool) → nat_lt p k ≡ b → p ≤ 6 → Between p k (if b then k - p else k + 7 - p)
between_by p k true e low = let less = ltb-true p k e in inl (less, omega (arith, less))
between_by p k false e low = let more = ltb-false p k e in inr (more, omega (arith, more, low))

between : (last kind : Turn) → Between (place_of last) (place_of kind) (turns_to last kind)
between last kind = between_by (place_of last) (place_of kind) (nat_lt (place_of last) (place_of kind)) refl (small last)

-- so many turns after the last kind comes the other
same_after : (p k r turns at : ℕ) → at + 7 * r ≡ p + turns → at ≤ 6 → k ≤ 6 → Between p k turns → at ≡ k
same_after p k zero turns at e low high (inl (less, t)) = omega (arith, e, t)
same_after p k zero turns at e low high (inr (more, t)) = omega (arith, e, t, low)
same_after p k (suc zero) turns at e low high (inl (less, t)) = omega (arith, e, t, high)
same_after p k (suc zero) turns at e low high (inr (more, t)) = omega (arith, e, t)
same_after p k (suc (suc r)) turns at e low high (inl (less, t)) = omega (arith, e, t, high)
same_after p k (suc (suc r)) turns at e low high (inr (more, t)) = omega (arith, e, t, high)

reaches : (last other : Turn) → nth (turns_to last other) last ≡ other
reaches last other =
    let there = placed (turns_to last other) last in
    same_place (nth (turns_to last other) last) other
    (same_after (place_of last) (place_of other) there.rounds (turns_to last other) (place_of (nth (turns_to last other) last)) there.is (small (nth (turns_to last other) last)) (small other) (between last other))

-- from one kind to another it is 1 to 7 turns
some_turns : (p k turns : ℕ) → p ≤ 6 → k ≤ 6 → Between p k turns → (1 ≤ turns) × (turns ≤ 7)
some_turns p k turns low high (inl (less, t)) = (omega (arith, less, t), omega (arith, t, high))
some_turns p k turns low high (inr (more, t)) = (omega (arith, low, t), omega (arith, more, t))

-- a kind that is k turns away, for 1 to 7, is that many turns away
turns_of : (p at r k turns : ℕ) → at + 7 * r ≡ p + k → p ≤ 6 → 1 ≤ k → k ≤ 7 → Between p at turns → turns ≡ k
turns_of p at zero k turns e low one seven (inl (less, t)) = omega (arith, e, t)
turns_of p at zero k turns e low one seven (inr (more, t)) = absurd (omega (arith, e, more, one))
turns_of p at (suc zero) k turns e low one seven (inl (less, t)) = absurd (omega (arith, e, less, seven))
turns_of p at (suc zero) k turns e low one seven (inr (more, t)) = omega (arith, e, t)
turns_of p at (suc (suc r)) k turns e low one seven (inl (less, t)) = absurd (omega (arith, e, low, seven))
turns_of p at (suc (suc r)) k turns e low one seven (inr (more, t)) = absurd (omega (arith, e, low, seven))

turns_back : (last : Turn) (k : ℕ) → 1 ≤ k → k ≤ 7 → turns_to last (nth k last) ≡ k
turns_back last k one seven =
    let there = placed k last in
    turns_of (place_of last) (place_of (nth k last)) there.rounds k (turns_to last (nth k last)) there.is (small last) one seven (between last (nth k last))

true_false : (b : Bool) → b ≡ true → b ≡ false → ⊥
true_false true t f = cc
true_false false t f = cc

-- the kinds up to n turns after the last have no task, and this is the last one of them
pub record Tried (last : Turn) (is_there : Turn → Bool) (n : ℕ) (kind : Turn) : Type 0 where
  pub is : kind ≡ nth n last
  pub none : (j : ℕ) → 1 ≤ j → j ≤ n → is_there (nth j last) ≡ false

pub tried_none : (last : Turn) (is_there : Turn → Bool) (kind : Turn) → kind ≡ last → Tried last is_there 0 kind
unfolding nth
tried_none last is_there kind e = record { is = e; none = λ j low high. absurd (omega (arith, low, high)) }

pub tried_more : (last : Turn) (is_there : Turn → Bool) (n : ℕ) (kind next : Turn) → Tried last is_there n kind → next ≡ after kind → is_there next ≡ false → Tried last is_there (n + 1) next
unfolding nth
tried_more last is_there n kind next so e not =
    let is : next ≡ nth (suc n) last = e ∙ ap after so.is in
    let more : suc n ≡ n + 1 = omega arith in
    subst (λ (k : ℕ). Tried last is_there k next) more record {
      is = is;
      none = λ j low high.
          elim (eqb_tells j (suc n)) as (λ _. is_there (nth j last) ≡ false) [
            | inl same ↦ subst (λ (j : ℕ). is_there (nth j last) ≡ false) (sym same.1) (subst (λ (kind : Turn). is_there kind ≡ false) is not)
            | inr other ↦ so.none j low (omega (arith, high, other.1))
          ];
    }

-- the next kind has a task, and none before it had one
pub tried_first : (last : Turn) (is_there : Turn → Bool) (n : ℕ) (kind next : Turn) → Tried last is_there n kind → n < 7 → next ≡ after kind → is_there next ≡ true → IsFirstAfter last is_there next
unfolding nth
tried_first last is_there n kind next so few e there =
    let is : next ≡ nth (suc n) last = e ∙ ap after so.is in
    let turns : turns_to last next ≡ suc n = ap (turns_to last) is ∙ turns_back last (suc n) (omega arith) (omega (arith, few)) in
    record {
      there = there;
      first = λ other has.
          elim (leb_tells (turns_to last next) (turns_to last other)) as (λ _. turns_to last next ≤ turns_to last other) [
            | inl le ↦ le.1
            | inr less ↦ let some = some_turns (place_of last) (place_of other) (turns_to last other) (small last) (small other) (between last other) in
                absurd (true_false (is_there other) has (subst (λ (kind : Turn). is_there kind ≡ false) (reaches last other) (so.none (turns_to last other) some.0 (omega (arith, turns, less.1)))))
          ];
    }

-- after seven turns each kind was tried
pub tried_all : (last : Turn) (is_there : Turn → Bool) (n : ℕ) (kind : Turn) → Tried last is_there n kind → 7 ≤ n → (other : Turn) → is_there other ≡ false
tried_all last is_there n kind so all other =
    let some = some_turns (place_of last) (place_of other) (turns_to last other) (small last) (small other) (between last other) in
    subst (λ (kind : Turn). is_there kind ≡ false) (reaches last other) (so.none (turns_to last other) some.0 (omega (arith, some.1, all)))
