-- How many of the nodes behind a place pass.
use Rattle.std.proofs.Common.{◌≡◌, ◌<◌, ◌-◌, ◌+◌, ℕ, Bool, true, false, suc, arith, ap, length, ◌∙◌}
use Rattle.std.specs.Prelude.{filter, if◌then◌else◌}
use Rattle.std.specs.List.{range_with_len}

-- how many of n numbers from a on pass
abbrev pub number_of : (ℕ → Bool) → (a n : ℕ) → ℕ
number_of p a n = length (filter p (range_with_len a n))

-- one more
one_more : (p : ℕ → Bool) (a n : ℕ) (so : Bool) → p a ≡ so → number_of p a (suc n) ≡ (if so then 1 else 0) + number_of p (a + 1) n
one_more p a n true e = rw e (omega arith)
one_more p a n false e = rw e (omega arith)

pub next_of : (p : ℕ → Bool) (i n : ℕ) (so : Bool) → i < n → p (i + 1) ≡ so
    → number_of p (i + 1) (n - i) ≡ (if so then 1 else 0) + number_of p (i + 1 + 1) (n - (i + 1))
next_of p i n so l e =
    let step : n - i ≡ suc (n - (i + 1)) = omega arith in
    ap (number_of p (i + 1)) step ∙ one_more p (i + 1) (n - (i + 1)) so e
