-- a lawful history: an LRA is begun, another is begun in it, and the first is cancelled
use Rattle.std.proofs.Common.{◌≡◌, inl, inr, ◌≤◌, ℕ, zero, suc, ◌-◌, List, [], ◌∷◌, refl, sym, subst, arith, length, get_or, Some, None}
use Rattle.state_ids.specs.Ids.{Id}
use Rattle.state_ids.specs.Fronts.{IsBelow, count}
use Rattle.state_ids.specs.declared.outcome.Verdict.TheVariants.{Cancel}
use Rattle.state_facts.specs.declared.fact.Body.TheVariants.{Begin, Decide}
use Rattle.state_facts.specs.Lists.{In}
use Rattle.state_facts.specs.Sets.{want}
use Rattle.theory_history.specs.Growth.{IsSettled}
use Rattle.theory_history.specs.Histories.{Entry, History, IsClosed, IsLawful, IsLawfulEntry, Made, entries_of, facts, made}
use Rattle.theory_history.proofs.ClosedSets.{closed_settled}

abbrev first : Id
first = record { home = 1; num = 1 }

abbrev second : Id
second = record { home = 1; num = 2 }

abbrev entries : List Entry
entries =
    record { body = Begin None 0; front = 0 ∷ [] }
    ∷ record { body = Begin (Some first) 0; front = 1 ∷ [] }
    ∷ record { body = Decide first Cancel; front = 2 ∷ [] }
    ∷ []

abbrev h : History
h = entries ∷ []

one_below : (a b : ℕ) → a ≤ b → IsBelow (a ∷ []) (b ∷ [])
one_below a b le node = by (node - 1)
  where
    by : (i : ℕ) → get_or (a ∷ []) i 0 ≤ get_or (b ∷ []) i 0
    by zero = le
    by (suc i) = omega arith

one_within : (n : ℕ) → n ≤ 3 → (node : ℕ) → count (n ∷ []) node ≤ length (entries_of h node)
one_within n le node = by (node - 1)
  where
    by : (i : ℕ) → get_or (n ∷ []) i 0 ≤ length (get_or h i [])
    by zero = le
    by (suc i) = omega arith

-- each front of the one node is closed
closed : (n : ℕ) → n ≤ 3 → IsClosed h (n ∷ [])
closed n le = record { kept = kept; nodes = refl; within = one_within n le }
  where
    kept : (e : Made) → In e (made h) → e.fact.num ≤ count (n ∷ []) e.fact.origin → IsBelow e.front (n ∷ [])
    kept e (inl s) = subst (λ (x : Made). x.fact.num ≤ count (n ∷ []) x.fact.origin → IsBelow x.front (n ∷ [])) (sym s) (λ bound. one_below 0 n (omega (arith, bound)))
    kept e (inr (inl s)) = subst (λ (x : Made). x.fact.num ≤ count (n ∷ []) x.fact.origin → IsBelow x.front (n ∷ [])) (sym s) (λ bound. one_below 1 n (omega (arith, bound)))
    kept e (inr (inr (inl s))) = subst (λ (x : Made). x.fact.num ≤ count (n ∷ []) x.fact.origin → IsBelow x.front (n ∷ [])) (sym s) (λ bound. one_below 2 n (omega (arith, bound)))
    kept e (inr (inr (inr m))) = absurd m

lawful : IsLawful h
lawful = record { each = each }
  where
    each : (e : Made) → In e (made h) → IsLawfulEntry h e
    each e (inl s) = subst (IsLawfulEntry h) (sym s) (record { closed = closed 0 (omega arith); own = refl; lawful = record { accepted = refl; made = refl } })
    each e (inr (inl s)) = subst (IsLawfulEntry h) (sym s) (record { closed = closed 1 (omega arith); own = refl; lawful = record { accepted = refl; made = refl } })
    each e (inr (inr (inl s))) = subst (IsLawfulEntry h) (sym s) (record { closed = closed 2 (omega arith); own = refl; lawful = record { accepted = refl; made = refl } })
    each e (inr (inr (inr m))) = absurd m

-- so its set is settled, and there the nested LRA wants Cancel
settled : IsSettled (facts h (3 ∷ []))
settled = closed_settled h lawful (3 ∷ []) (closed 3 (omega arith))

wants : want (facts h (3 ∷ [])) second ≡ Some Cancel
wants = refl
