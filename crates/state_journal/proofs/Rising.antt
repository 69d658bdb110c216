-- Rows that are in order rise, if no two have the same key.
use Rattle.std.proofs.Common.{◌≡◌, inl, inr, ◌+◌, List, [], ◌∷◌, map, get_or, false, refl, sym, ap, ◌∙◌, arith, Ordering, Less, Equal, Greater, is_eq, is_lt}
use Rattle.std.specs.Prelude.{IsPermutation, IsSorted}
use Rattle.std.specs.Cmp.{IsTotalOrder}
use Rattle.std.specs.List.{IsDistinct}
use Rattle.std.specs.List.Sorted.{IsStrictlySortedBy}
use Rattle.std.specs.Ordering.{eq_by_cmp}
use Rattle.std.proofs.lemmas.Bool.{true≢false}
use Rattle.std.proofs.lemmas.Cmp.{eq_by_cmp_equiv}
use Rattle.std.proofs.lemmas.Map.Keys.{IsDistinct-IsPermutation, apart_from_distinct, sorted_from_all_adjacent}
use Rattle.sqlite.specs.Order.{Row}
use Rattle.sqlite.specs.Tree.{IsAscending}
use Rattle.sqlite_rules.specs.Lists.{Has}
use Rattle.sqlite_rules.proofs.ListLemmas.{all_from, all_has}
use Rattle.sqlite_trees.proofs.ListLemmas.{all-map}

module _ (R : Row → Row → Ordering) (total : IsTotalOrder R) where
  -- the first of two rows is lower if it is neither higher nor tied
  below : (x y : Row) → is_lt (R y x) ≡ false → eq_by_cmp R x y ≡ false → R x y ≡ Less
  below x y after apart = by (R x y) refl
    where
      by : (o : Ordering) → R x y ≡ o → R x y ≡ Less
      by Less e = e
      by Equal e = absurd (true≢false (sym (ap is_eq e) ∙ apart))
      by Greater e = absurd (let back = total.antisymm y x in true≢false (sym (rw e at (ap is_lt back)) ∙ after))

  pub rises : (xs ys : List Row) → IsDistinct (eq_by_cmp R) xs → IsPermutation xs ys → IsSorted R ys → IsStrictlySortedBy R ys
  rises xs ys apart same sorted =
      let differ = IsDistinct-IsPermutation (eq_by_cmp R) (eq_by_cmp_equiv total).symm xs ys same apart in
      sorted_from_all_adjacent total ys [] (λ k within. below (get_or ys k []) (get_or ys (k + 1) []) (sorted k [] (omega arith) within) (apart_from_distinct (eq_by_cmp R) ys k (k + 1) [] differ (omega arith) within))

  -- rows that are kept in an order and shown with different keys
  pub distinct_shown : (S : Row → Row → Type 0) (show : Row → Row) (rows : List Row) → IsAscending S rows → ((a b : Row) → Has rows a → Has rows b → S a b → eq_by_cmp R (show a) (show b) ≡ false)
      → IsDistinct (eq_by_cmp R) (map show rows)
  unfolding IsDistinct
  distinct_shown S show [] up apart = tt
  distinct_shown S show (r ∷ rows) up apart = (
    all-map (λ y. eq_by_cmp R (show r) y ≡ false) show rows (all_from (λ y. eq_by_cmp R (show r) (show y) ≡ false) rows (λ y has. apart r y (inl refl) (inr has) (all_has (S r) rows y up.0 has))),
    distinct_shown S show rows up.1 (λ a b p q. apart a b (inr p) (inr q)),
  )

  -- what follows if rows rise
  pub ascends : (S : Row → Row → Type 0) (rows : List Row) → IsStrictlySortedBy R rows → ((a b : Row) → Has rows a → Has rows b → R a b ≡ Less → S a b) → IsAscending S rows
  unfolding IsStrictlySortedBy
  ascends S [] up follows = tt
  ascends S (r ∷ rows) up follows = (
    all_from (S r) rows (λ y has. follows r y (inl refl) (inr has) (all_has (λ z. R r z ≡ Less) rows y up.0 has)),
    ascends S rows up.1 (λ a b p q. follows a b (inr p) (inr q)),
  )
