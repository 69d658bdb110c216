-- records in the order of a frame, put at their homes one after the other
use Rattle.std.proofs.Common.{◌≡◌, ◌≤◌, ◌<◌, ℕ, List, [], ◌∷◌, ◌++◌, refl, ◌∙◌, Bool, true, false, cond, arith, inl, inr, filter}
use Rattle.std.specs.Prelude.{◌==◌, ◌⊎◌}
use Rattle.std.specs.List.{AllByRecursion}
use Rattle.std.proofs.lemmas.Bool.{eqb-true}
use Rattle.std.proofs.lemmas.Bool.Decides.{nat_tests}
use Rattle.state_forest.specs.declared.record.Record.{Record}
use Rattle.wire_frames.specs.declared.order.Last.{Last}
use Rattle.wire_frames.specs.Rules.{after, is_next}
use Rattle.wire_frames.specs.Order.{Follows, AreInOrder}
use Rattle.wire_frames.proofs.HomeLists.{home_parts}

-- the record is of a later home, or has a greater number at the same home
abbrev pub IsLater : ℕ → ℕ → Record → Type 0
IsLater home num r = (home < r.home) ⊎ ((home ≡ r.home) × (num < r.num))

next_num : (last : Last) (home num : ℕ) → is_next last home num ≡ true → last.home ≡ home → last.num < num
next_num last home num e same = by (last.home == home) refl
  where
    by : (b : Bool) → (last.home == home) ≡ b → last.num < num
    by true h = grind (arith, nat_tests, e, h)
    by false h = absurd (grind (arith, nat_tests, h, same))

follows_later : (nodes : ℕ) (last : Last) (r : Record) → Follows nodes last r → IsLater last.home last.num r
follows_later nodes last r f =
    let le = (home_parts nodes last.home r.home f.0).2 in
    by (last.home == r.home) refl
  where
    by : (b : Bool) → (last.home == r.home) ≡ b → IsLater last.home last.num r
    by true h = let e : last.home ≡ r.home = eqb-true _ _ h in inr (e, next_num last r.home r.num f.1 e)
    by false h = inl (grind (arith, nat_tests, h, (home_parts nodes last.home r.home f.0).2))

later_than : (home num : ℕ) (x r : Record) → IsLater home num x → IsLater x.home x.num r → IsLater home num r
later_than home num x r (inl a) (inl b) = inl (omega (arith, a, b))
later_than home num x r (inl a) (inr b) = inl (omega (arith, a, b.0))
later_than home num x r (inr a) (inl b) = inl (omega (arith, a.0, b))
later_than home num x r (inr a) (inr b) = inr (a.0 ∙ b.0, omega (arith, a.1, b.1))

pub later : (nodes : ℕ) (last : Last) (xs : List Record) (r : Record) (rest : List Record) → AreInOrder nodes last (xs ++ r ∷ rest) → IsLater last.home last.num r
later nodes last [] r rest f = follows_later nodes last r f.0
later nodes last (x ∷ xs) r rest f = later_than last.home last.num x r (follows_later nodes last x f.0) (later nodes (after last x) xs r rest f.1)

not_later : (home num : ℕ) (r : Record) → IsLater home num r → home ≡ r.home → num < r.num
not_later home num r (inl a) e = absurd (omega (arith, a, e))
not_later home num r (inr a) e = a.1

-- all earlier records of its home have lesser numbers
pub before : (nodes : ℕ) (last : Last) (xs : List Record) (r : Record) (rest : List Record) → AreInOrder nodes last (xs ++ r ∷ rest) → AllByRecursion (λ (q : Record). q.num < r.num) (filter (λ (q : Record). q.home == r.home) xs)
before nodes last [] r rest f = tt
before nodes last (x ∷ xs) r rest f = by (x.home == r.home) refl (before nodes (after last x) xs r rest f.1)
  where
    by : (b : Bool) → (x.home == r.home) ≡ b → AllByRecursion (λ (q : Record). q.num < r.num) (filter (λ (q : Record). q.home == r.home) xs)
        → AllByRecursion (λ (q : Record). q.num < r.num) (cond b (x ∷ filter (λ (q : Record). q.home == r.home) xs) (filter (λ (q : Record). q.home == r.home) xs))
    by true h others = (not_later x.home x.num r (later nodes (after last x) xs r rest f.1) (eqb-true _ _ h), others)
    by false h others = others

pub within_at : (nodes : ℕ) (last : Last) (xs : List Record) (r : Record) (rest : List Record) → AreInOrder nodes last (xs ++ r ∷ rest) → (1 ≤ r.home) × (r.home ≤ nodes)
within_at nodes last [] r rest f = let h = home_parts nodes last.home r.home f.0.0 in (h.0, h.1)
within_at nodes last (x ∷ xs) r rest f = within_at nodes (after last x) xs r rest f.1
