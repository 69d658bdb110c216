-- There is one page of a reading beyond an LRA.
use Rattle.std.proofs.Common.{◌≡◌, ◌≤◌, ◌⊎◌, ◌∙◌, inl, inr, ℕ, zero, suc, Bool, true, false, Option, Some, None, List, [], ◌∷◌, refl, sym, ap, subst, length, arith}
use Rattle.std.specs.List.{AllByRecursion}
use Rattle.state_ids.specs.Ids.{Id}
use Rattle.state_facts.specs.Lists.{In}
use Rattle.theory_history.specs.Replies.{Reading}
use Rattle.state_replica.specs.declared.page.Row.{Row}
use Rattle.state_replica.specs.Pages.{AreAscending, AreBefore, HasRow, IsBefore, IsBeyond, IsPage, IsRow, PageRows, is_listed}

-- The order of LRAs

never_before_itself : (l : Id) → IsBefore l l → ⊥
never_before_itself l (inl home) = omega (arith, home)
never_before_itself l (inr (same, num)) = omega (arith, num)

then_before : (j k l : Id) → IsBefore j k → IsBefore k l → IsBefore j l
then_before j k l (inl a) (inl b) = inl (omega (arith, a, b))
then_before j k l (inl a) (inr (b, n)) = inl (omega (arith, a, b))
then_before j k l (inr (a, m)) (inl b) = inl (omega (arith, a, b))
then_before j k l (inr (a, m)) (inr (b, n)) = inr (a ∙ b, omega (arith, m, n))

one_way : (k l : Id) → IsBefore k l → IsBefore l k → ⊥
one_way k l there back = never_before_itself k (then_before k l k there back)

beyond_then : (after : Option Id) (k l : Id) → IsBeyond after k → IsBefore k l → IsBeyond after l
beyond_then None k l beyond before = tt
beyond_then (Some j) k l beyond before = then_before j k l beyond before

-- Rows

in_all : {X : Type 0} (P : X → Type 0) (xs : List X) (x : X) → AllByRecursion P xs → In x xs → P x
in_all P [] x all is = absurd is
in_all P (y ∷ ys) x all (inl here) = subst P (sym here) all.0
in_all P (y ∷ ys) x all (inr there) = in_all P ys x all.1 there

-- an LRA that has a row is that of the first row, or comes after it
first_or_after : (r : Row) (rs : List Row) (l : Id) → AreAscending (r ∷ rs) → HasRow (r ∷ rs) l → (r.id ≡ l) ⊎ (IsBefore r.id l × HasRow rs l)
first_or_after r rs l order (q, inl here, is) = inl (ap (λ (x : Row). x.id) (sym here) ∙ is)
first_or_after r rs l order (q, inr there, is) = inr (subst (IsBefore r.id) is (in_all (λ (x : Row). IsBefore r.id x.id) rs q order.0 there), (q, there, is))

-- The LRAs beyond a given one that a reading lists, in `most` rows at most: each has a row, or
-- comes after all of `most` rows
record Runs (t : Reading) (after : Option Id) (most : ℕ) (rows : List Row) : Type 0 where
  order : AreAscending rows
  each : AllByRecursion (IsRow t after) rows
  few : length rows ≤ most
  all : (l : Id) → is_listed t l ≡ true → IsBeyond after l → HasRow rows l ⊎ ((length rows ≡ most) × AreBefore rows l)

row_beyond : (t : Reading) (after : Option Id) (first : Id) (rows : List Row) → AllByRecursion (λ (q : Row). IsBefore first q.id) rows → AllByRecursion (IsRow t after) rows
    → AllByRecursion (IsRow t (Some first)) rows
row_beyond t after first [] order each = tt
row_beyond t after first (r ∷ rs) order each = (record { held = each.0.held; beyond = order.0; status = each.0.status }, row_beyond t after first rs order.1 each.1)

tail_runs : (t : Reading) (after : Option Id) (most : ℕ) (r : Row) (rs : List Row) → Runs t after (suc most) (r ∷ rs) → Runs t (Some r.id) most rs
tail_runs t after most r rs is = record {
  order = is.order.1;
  each = row_beyond t after r.id rs is.order.0 is.each.1;
  few = omega (arith, is.few);
  all = λ l listed beyond. by l beyond (is.all l listed (beyond_then after r.id l is.each.0.beyond beyond));
}
  where
    first : (l : Id) → IsBefore r.id l → (r.id ≡ l) ⊎ (IsBefore r.id l × HasRow rs l) → HasRow rs l
    first l beyond (inl same) = absurd (never_before_itself l (subst (λ (k : Id). IsBefore k l) same beyond))
    first l beyond (inr after_it) = after_it.1

    by : (l : Id) → IsBefore r.id l → HasRow (r ∷ rs) l ⊎ ((length (r ∷ rs) ≡ suc most) × AreBefore (r ∷ rs) l) → HasRow rs l ⊎ ((length rs ≡ most) × AreBefore rs l)
    by l beyond (inl has) = inl (first l beyond (first_or_after r rs l is.order has))
    by l beyond (inr (full, before)) = inr (omega (arith, full), before.1)

first_listed : (t : Reading) (after : Option Id) (most : ℕ) (p q : Row) (ps qs : List Row) → Runs t after most (p ∷ ps) → Runs t after most (q ∷ qs) → (p.id ≡ q.id) ⊎ IsBefore q.id p.id
first_listed t after most p q ps qs one other = by (other.all p.id one.each.0.held one.each.0.beyond)
  where
    found : (q.id ≡ p.id) ⊎ (IsBefore q.id p.id × HasRow qs p.id) → (p.id ≡ q.id) ⊎ IsBefore q.id p.id
    found (inl same) = inl (sym same)
    found (inr later) = inr later.0

    by : HasRow (q ∷ qs) p.id ⊎ ((length (q ∷ qs) ≡ most) × AreBefore (q ∷ qs) p.id) → (p.id ≡ q.id) ⊎ IsBefore q.id p.id
    by (inl has) = found (first_or_after q qs p.id other.order has)
    by (inr (full, before)) = inr before.0

same_first : (t : Reading) (after : Option Id) (most : ℕ) (p q : Row) (ps qs : List Row) → Runs t after most (p ∷ ps) → Runs t after most (q ∷ qs) → p.id ≡ q.id
same_first t after most p q ps qs one other = by (first_listed t after most p q ps qs one other) (first_listed t after most q p qs ps other one)
  where
    by : (p.id ≡ q.id) ⊎ IsBefore q.id p.id → (q.id ≡ p.id) ⊎ IsBefore p.id q.id → p.id ≡ q.id
    by (inl same) so = same
    by (inr before) (inl same) = sym same
    by (inr before) (inr later) = absurd (one_way q.id p.id before later)

same_row : (t : Reading) (after : Option Id) (p q : Row) → IsRow t after p → IsRow t after q → p.id ≡ q.id → p ≡ q
same_row t after p q one other same =
    let status : p.status ≡ q.status = one.status ∙ ap t.shows same ∙ sym other.status in
    ap (λ (l : Id). record { id = l; status = p.status }) same ∙ ap (λ s. record { id = q.id; status = s }) status

none_but : (t : Reading) (after : Option Id) (most : ℕ) (q : Row) (qs : List Row) → Runs t after most [] → Runs t after most (q ∷ qs) → ⊥
none_but t after most q qs one other = by (one.all q.id other.each.0.held other.each.0.beyond)
  where
    by : HasRow [] q.id ⊎ ((length {A = Row} [] ≡ most) × AreBefore [] q.id) → ⊥
    by (inl has) = absurd has.1
    by (inr (full, before)) = let few = other.few in omega (arith, full, few)

one_run : (t : Reading) (after : Option Id) (most : ℕ) (ps qs : List Row) → Runs t after most ps → Runs t after most qs → ps ≡ qs
one_run t after most [] [] one other = refl
one_run t after most [] (q ∷ qs) one other = absurd (none_but t after most q qs one other)
one_run t after most (p ∷ ps) [] one other = absurd (none_but t after most p ps other one)
one_run t after zero (p ∷ ps) (q ∷ qs) one other = let few = one.few in absurd (omega (arith, few))
one_run t after (suc most) (p ∷ ps) (q ∷ qs) one other =
    let same = same_first t after (suc most) p q ps qs one other in
    let row = same_row t after p q one.each.0 other.each.0 same in
    let tail = tail_runs t after most q qs other in
    ap (λ (x : Row). x ∷ ps) row ∙ ap (λ (xs : List Row). q ∷ xs) (one_run t (Some p.id) most ps qs (tail_runs t after most p ps one) (subst (λ (l : Id). Runs t (Some l) most qs) (sym same) tail))

runs_of : (t : Reading) (after : Option Id) (page : PageRows) → IsPage t after page → Runs t after 64 page.rows
runs_of t after page is = record { order = is.order; each = is.rows; few = is.few; all = λ l listed beyond. by l (is.all l listed beyond) }
  where
    by : (l : Id) → HasRow page.rows l ⊎ ((length page.rows ≡ 64) × AreBefore page.rows l × (page.more ≡ true)) → HasRow page.rows l ⊎ ((length page.rows ≡ 64) × AreBefore page.rows l)
    by l (inl has) = inl has
    by l (inr (full, before, more)) = inr (full, before)

no_row_behind : (rows : List Row) (l : Id) → AreBefore rows l → HasRow rows l → ⊥
no_row_behind rows l before (r, is_in, same) = never_before_itself l (subst (λ (k : Id). IsBefore k l) same (in_all (λ (x : Row). IsBefore x.id l) rows r before is_in))

-- if one page says that more follow, so does the other
more_too : (t : Reading) (after : Option Id) (p q : PageRows) → IsPage t after p → IsPage t after q → p.rows ≡ q.rows → p.more ≡ true → q.more ≡ true
more_too t after p q one other same more =
    let (l, listed, beyond, before) = one.more more in
    by l (subst (λ (rows : List Row). AreBefore rows l) same before) (other.all l listed beyond)
  where
    by : (l : Id) → AreBefore q.rows l → HasRow q.rows l ⊎ ((length q.rows ≡ 64) × AreBefore q.rows l × (q.more ≡ true)) → q.more ≡ true
    by l before (inl has) = absurd (no_row_behind q.rows l before has)
    by l before (inr (full, behind, more)) = more

same_more : (a b : Bool) → (a ≡ true → b ≡ true) → (b ≡ true → a ≡ true) → a ≡ b
same_more true b there back = sym (there refl)
same_more false true there back = back refl
same_more false false there back = refl

pub one_page : (t : Reading) (after : Option Id) (p q : PageRows) → IsPage t after p → IsPage t after q → p ≡ q
one_page t after p q one other =
    let rows = one_run t after 64 p.rows q.rows (runs_of t after p one) (runs_of t after q other) in
    let more = same_more p.more q.more (more_too t after p q one other rows) (more_too t after q p other one (sym rows)) in
    ap (λ (r : List Row). record { rows = r; more = p.more }) rows ∙ ap (λ (b : Bool). record { rows = q.rows; more = b }) more
