-- Which node is the first behind another in the circle of all.
use Rattle.std.proofs.Common.{◌≡◌, ◌≤◌, ◌<◌, ◌+◌, ◌-◌, ◌⊎◌, ◌∙◌, ℕ, Bool, true, false, ap, arith, get_or, if◌then◌else◌, inl, inr, refl, subst, sym}
use Rattle.std.specs.Prelude.{nat_le, nat_lt}
use Rattle.std.proofs.lemmas.Bool.{cases_eq, leb-true, leb-false, ltb-true, ltb-false}
use Rattle.std.proofs.lemmas.Bool.Decides.{nat_tests}
use Rattle.std.proofs.lemmas.List.Folds.{Any-from_list_any, list_any_at, list_any_none}
use Rattle.std.proofs.lemmas.List.FromFn.{get_or-range_with_len, length-range_with_len}
use Rattle.std.specs.List.{list_any}
use Rattle.node_agenda.specs.Backlogs.{IsFirstBehind, node_behind, nodes, steps_to}

-- the node that is this many steps behind another: 0 to 8
pub nth : (last step : ℕ) → ℕ
nth last step = if nat_le (last + step) 8 then last + step else last + step - 8

behind : (last step : ℕ) → 1 ≤ last → last ≤ 8 → step < 8 → node_behind (nth last step) ≡ nth last (step + 1)
unfolding nth
behind last step some one more = grind (arith, nat_tests)

at_first : (last : ℕ) → last ≤ 8 → last ≡ nth last 0
unfolding nth
at_first last one = grind (arith, nat_tests)

steps_back : (last step : ℕ) → 1 ≤ last → last ≤ 8 → 1 ≤ step → step ≤ 8 → steps_to last (nth last step) ≡ step
unfolding nth
steps_back last step some one least most = grind (arith, nat_tests)

reached : (last node : ℕ) → 1 ≤ last → last ≤ 8 → 1 ≤ node → node ≤ 8 → nth last (steps_to last node) ≡ node
unfolding nth
reached last node some one least most = grind (arith, nat_tests)

few : (last node : ℕ) → 1 ≤ last → last ≤ 8 → 1 ≤ node → node ≤ 8 → (1 ≤ steps_to last node) × (steps_to last node ≤ 8)
few last node some one least most = (grind (arith, nat_tests), grind (arith, nat_tests))

in_circle : (last step : ℕ) → 1 ≤ last → last ≤ 8 → 1 ≤ step → step ≤ 8 → (1 ≤ nth last step) × (nth last step ≤ 8)
unfolding nth
in_circle last step some one least most = (grind (arith, nat_tests), grind (arith, nat_tests))

-- the nodes up to this many steps behind another were tried, and none is there
pub record Tried (last : ℕ) (is_there : ℕ → Bool) (step node : ℕ) : Type 0 where
  pub is : node ≡ nth last step
  pub none : (before : ℕ) → 1 ≤ before → before ≤ step → is_there (nth last before) ≡ false

pub tried_none : (last : ℕ) (is_there : ℕ → Bool) (node : ℕ) → last ≤ 8 → node ≡ last → Tried last is_there 0 node
tried_none last is_there node one e = record {
  is = e ∙ at_first last one;
  none = λ before least most. absurd (omega (arith, least, most));
}

is_next : (last : ℕ) (is_there : ℕ → Bool) (step node next : ℕ) → 1 ≤ last → last ≤ 8 → Tried last is_there step node → step < 8 → next ≡ node_behind node → next ≡ nth last (step + 1)
is_next last is_there step node next some one tried more e = e ∙ ap node_behind tried.is ∙ behind last step some one more

pub tried_more : (last : ℕ) (is_there : ℕ → Bool) (step node next : ℕ) → 1 ≤ last → last ≤ 8 → Tried last is_there step node → step < 8 → next ≡ node_behind node → is_there next ≡ false
    → Tried last is_there (step + 1) next
tried_more last is_there step node next some one tried more e missing =
    let here = is_next last is_there step node next some one tried more e in
    record {
      is = here;
      none = λ before least most. elim (cases_eq before (step + 1)) [
        | inl last_one ↦ subst (λ (n : ℕ). is_there (nth last n) ≡ false) (sym last_one) (subst (λ (n : ℕ). is_there n ≡ false) here missing)
        | inr other ↦ tried.none before least (below before step most other)
      ];
    }
  where
    below : (before step : ℕ) → before ≤ step + 1 → (before ≡ step + 1 → ⊥) → before ≤ step
    below before step most other = grind (arith, most, other)

pub tried_first : (last : ℕ) (is_there : ℕ → Bool) (step node next : ℕ) → 1 ≤ last → last ≤ 8 → Tried last is_there step node → step < 8 → next ≡ node_behind node → is_there next ≡ true
    → IsFirstBehind last is_there next
tried_first last is_there step node next some one tried more e found =
    let here = is_next last is_there step node next some one tried more e in
    let range = in_circle last (step + 1) some one (omega (arith)) (omega (arith, more)) in
    record {
      some = subst (λ (n : ℕ). 1 ≤ n) (sym here) range.0;
      one = subst (λ (n : ℕ). n ≤ 8) (sym here) range.1;
      there = found;
      first = λ other least most is.
          let back = ap (steps_to last) here ∙ steps_back last (step + 1) some one (omega (arith)) (omega (arith, more)) in
          let steps = few last other some one least most in
          not_before other (subst (λ (n : ℕ). is_there n ≡ true) (sym (reached last other some one least most)) is) steps.0 back;
    }
  where
    not_before : (other : ℕ) → is_there (nth last (steps_to last other)) ≡ true → 1 ≤ steps_to last other → steps_to last next ≡ step + 1 → steps_to last next ≤ steps_to last other
    not_before other is least back = elim (cases_le (steps_to last other) step) [
      | inl before ↦ absurd (clash (sym (tried.none (steps_to last other) least before) ∙ is))
      | inr behind_it ↦ omega (arith, back, behind_it)
    ]
      where
        cases_le : (a b : ℕ) → (a ≤ b) ⊎ (b < a)
        cases_le a b = elim (bool (nat_le a b)) [
          | inl le ↦ inl (leb-true a b le)
          | inr more ↦ inr (leb-false a b more)
        ]
          where
            bool : (b : Bool) → (b ≡ true) ⊎ (b ≡ false)
            bool true = inl refl
            bool false = inr refl

        clash : false ≡ true → ⊥
        clash e = cc

pub tried_all : (last : ℕ) (is_there : ℕ → Bool) (node : ℕ) → 1 ≤ last → last ≤ 8 → (step : ℕ) → 8 ≤ step → Tried last is_there step node
    → (other : ℕ) → 1 ≤ other → other ≤ 8 → is_there other ≡ false
tried_all last is_there node some one step all tried other least most =
    let steps = few last other some one least most in
    let low = steps.1 in
    subst (λ (n : ℕ). is_there n ≡ false) (reached last other some one least most) (tried.none (steps_to last other) steps.0 (omega (arith, low, all)))

-- whether any is there, if none is and if one is
at_place : (i d : ℕ) → i < 8 → get_or nodes i d ≡ 1 + i
at_place i d l = get_or-range_with_len 1 8 i d l

pub none_there : (is_there : ℕ → Bool) → ((node : ℕ) → 1 ≤ node → node ≤ 8 → is_there node ≡ false) → list_any is_there nodes ≡ false
none_there is_there none =
    list_any_none is_there nodes (λ i d l.
    subst (λ (n : ℕ). is_there n ≡ false) (sym (at_place i d l)) (none (1 + i) (omega arith) (omega (arith, l))))

pub one_there : (is_there : ℕ → Bool) (node : ℕ) → 1 ≤ node → node ≤ 8 → is_there node ≡ true → list_any is_there nodes ≡ true
one_there is_there node least most is =
    list_any_at is_there nodes (node - 1) 0 (omega (arith, least, most))
    (subst (λ (n : ℕ). is_there n ≡ true) (sym (at_place (node - 1) 0 (omega (arith, least, most)) ∙ omega (arith, least))) is)

-- one is there, if any is
pub record IsThere (is_there : ℕ → Bool) : Type 0 where
  pub node : ℕ
  pub least : 1 ≤ node
  pub most : node ≤ 8
  pub is : is_there node ≡ true

pub any_there : (is_there : ℕ → Bool) → list_any is_there nodes ≡ true → IsThere is_there
any_there is_there e =
    let found = Any-from_list_any is_there nodes e in
    let less = found.2 in
    let eight = length-range_with_len 1 8 in
    let at = at_place found.0 found.1 (omega (arith, less, eight)) in
    record {
      node = 1 + found.0;
      least = omega arith;
      most = omega (arith, less, eight);
      is = ap is_there (sym at) ∙ ap is_there found.3 ∙ found.4;
    }

-- if none is, each isn't
pub none_of_all : (is_there : ℕ → Bool) (node : ℕ) → 1 ≤ node → node ≤ 8 → list_any is_there nodes ≡ false → is_there node ≡ false
none_of_all is_there node least most none = elim_bool (is_there node) refl
  where
    clash : true ≡ false → ⊥
    clash e = cc

    elim_bool : (b : Bool) → is_there node ≡ b → is_there node ≡ false
    elim_bool true is = absurd (clash (sym (one_there is_there node least most is) ∙ none))
    elim_bool false is = is

-- the turn of a node that is there comes nearer
pub nearer : (is_there : ℕ → Bool) (last next node : ℕ) → 1 ≤ last → last ≤ 8 → 1 ≤ node → node ≤ 8 → IsFirstBehind last is_there next → is_there node ≡ true
    → (next ≡ node) ⊎ (steps_to next node < steps_to last node)
nearer is_there last next node some one least most first there = elim (cases_eq next node) [
  | inl is ↦ inl is
  | inr apart ↦ inr (closer last next node some one least most first.some first.one (first.first node least most there) apart)
]
  where
    closer : (last next node : ℕ) → 1 ≤ last → last ≤ 8 → 1 ≤ node → node ≤ 8 → 1 ≤ next → next ≤ 8 → steps_to last next ≤ steps_to last node → (next ≡ node → ⊥)
        → steps_to next node < steps_to last node
    closer last next node a b c d e f le apart = grind (arith, nat_tests, le, apart)
