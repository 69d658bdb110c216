-- a set has one frame since a base
use Rattle.std.proofs.Common.{◌≡◌, inl, inr, ◌≤◌, ◌<◌, ◌+◌, ◌-◌, ◌==◌, ◌||◌, ◌&&◌, ℕ, List, [], ◌∷◌, refl, sym, ap, subst, ◌∙◌, Bool, true, false, cond, arith, Option, Some, None, get_or, map, length, nat_lt}
use Rattle.std.proofs.lemmas.Bool.Decides.{nat_tests}
use Rattle.std.proofs.lemmas.List.{get_or_default, same_lists}
use Rattle.std.specs.List.{AllByRecursion, list_any}
use Rattle.state_ids.specs.Ids.{Id}
use Rattle.state_ids.specs.Fronts.{count}
use Rattle.state_facts.specs.declared.fact.Fact.{Fact}
use Rattle.state_facts.specs.Sets.{is_held}
use Rattle.state_forest.specs.declared.record.Record.{Record}
use Rattle.state_forest.specs.Records.{nodes_to, record_of}
use Rattle.state_forest.proofs.OneListOfRecords.{same_records}
use Rattle.theory_history.specs.Views.{purge_number, records_at}
use Rattle.theory_history.proofs.Basics.{at_most}
use Rattle.theory_history.proofs.OneViewOfASet.{one_front, same_homes}
use Rattle.wire_frames.specs.Frames.{AreHeld, Frame, IsFrame, IsRising, has_news, live_at}

-- Numbers in order

no_less : (n : ℕ) (ks : List ℕ) → AllByRecursion (λ (k : ℕ). n < k) ks → (m : ℕ) → m ≤ n → list_any (λ k. k == m) ks ≡ false
no_less n [] all m e = refl
no_less n (k ∷ ks) all m e = let other = differ k m (omega (arith, all.0, e)) in rw other (no_less n ks all.1 m e)
  where
    differ : (a b : ℕ) → b < a → (a == b) ≡ false
    differ a b h = grind (arith, nat_tests)

own : (a : ℕ) → (a == a) ≡ true
own a = grind (arith, nat_tests)

own_listed : (n : ℕ) (ks : List ℕ) → list_any (λ k. k == n) (n ∷ ks) ≡ true
own_listed n ks = let same = own n in rw same refl

-- the first number of one list is not greater than the first of the other
not_after : (n m : ℕ) (ns ms : List ℕ) → AllByRecursion (λ (k : ℕ). m < k) ms → ((k : ℕ) → list_any (λ j. j == k) (n ∷ ns) ≡ list_any (λ j. j == k) (m ∷ ms)) → m ≤ n
not_after n m ns ms all e = elim (at_most m n) [
  | inl le ↦ le
  | inr lt ↦
      let none : list_any (λ j. j == n) (m ∷ ms) ≡ false = let other = differ m n lt in rw other (no_less m ms all n (omega (arith, lt))) in
      let clash : true ≡ false = sym (own_listed n ns) ∙ e n ∙ none in
      absurd cc
]
  where
    differ : (a b : ℕ) → b < a → (a == b) ≡ false
    differ a b h = grind (arith, nat_tests)

rest_same : (n : ℕ) (ns ms : List ℕ) → AllByRecursion (λ (k : ℕ). n < k) ns → AllByRecursion (λ (k : ℕ). n < k) ms → ((k : ℕ) → list_any (λ j. j == k) (n ∷ ns) ≡ list_any (λ j. j == k) (n ∷ ms)) → (k : ℕ) → list_any (λ j. j == k) ns ≡ list_any (λ j. j == k) ms
rest_same n ns ms a b e k = by (n == k) refl (e k)
  where
    by : (c : Bool) → (n == k) ≡ c → (c || list_any (λ j. j == k) ns) ≡ (c || list_any (λ j. j == k) ms) → list_any (λ j. j == k) ns ≡ list_any (λ j. j == k) ms
    by true f g = let le = at_least n k f in no_less n ns a k le ∙ sym (no_less n ms b k le)
      where
        at_least : (x y : ℕ) → (x == y) ≡ true → y ≤ x
        at_least x y h = grind (arith, nat_tests)
    by false f g = g

-- two lists in order with the same numbers are equal
pub same_rising : (ns ms : List ℕ) → IsRising ns → IsRising ms → ((k : ℕ) → list_any (λ j. j == k) ns ≡ list_any (λ j. j == k) ms) → ns ≡ ms
same_rising [] [] a b e = refl
same_rising [] (m ∷ ms) a b e = absurd (let clash : false ≡ true = e m ∙ own_listed m ms in cc)
same_rising (n ∷ ns) [] a b e = absurd (let clash : true ≡ false = sym (own_listed n ns) ∙ e n in cc)
same_rising (n ∷ ns) (m ∷ ms) a b e =
    let le = not_after n m ns ms b.0 e in
    let ge = not_after m n ms ns a.0 (λ k. sym (e k)) in
    let same : n ≡ m = omega (arith, le, ge) in
    let later : AllByRecursion (λ (k : ℕ). n < k) ms = subst (λ (x : ℕ). AllByRecursion (λ (k : ℕ). x < k) ms) (sym same) b.0 in
    let rest : ns ≡ ms = same_rising ns ms a.1 b.1 (rest_same n ns ms a.0 later (subst (λ (x : ℕ). (k : ℕ) → list_any (λ j. j == k) (n ∷ ns) ≡ list_any (λ j. j == k) (x ∷ ms)) (sym same) e)) in
    ap (λ (x : ℕ). x ∷ ns) same ∙ ap (λ (xs : List ℕ). m ∷ xs) rest

-- Frames

one_live : (S : List Fact) (home : ℕ) (o p : Option (List ℕ)) → ((nums : List ℕ) × (o ≡ Some nums) × AreHeld S home nums) → ((nums : List ℕ) × (p ≡ Some nums) × AreHeld S home nums) → o ≡ p
one_live S home o p left right =
    left.1 ∙ ap (λ ns. Some ns) (same_rising left.0 right.0 left.2.rising right.2.rising (λ k. left.2.held k ∙ sym (right.2.held k))) ∙ sym right.1

same_lives : (nodes : ℕ) (xs ys : List (Option (List ℕ))) → length xs ≡ nodes → length ys ≡ nodes → ((home : ℕ) → 1 ≤ home → home ≤ nodes → live_at xs home ≡ live_at ys home) → xs ≡ ys
same_lives nodes xs ys long as_long same =
    same_lists xs ys (long ∙ sym as_long) (λ i d there.
    let place : i + 1 - 1 ≡ i = omega arith in
    let first : 1 ≤ i + 1 = omega arith in
    let last : i + 1 ≤ nodes = omega (arith, there, long) in
    get_or_default xs i d None there
    ∙ ap (λ (k : ℕ). get_or xs k None) (sym place)
    ∙ same (i + 1) first last
    ∙ ap (λ (k : ℕ). get_or ys k None) place
    ∙ get_or_default ys i None d (omega (arith, last, as_long)))

module _ (S : List Fact) (base : List ℕ) (d e : Frame) (nodes : length d.front ≡ length e.front) (left : IsFrame S base d) (right : IsFrame S base e) where
  live_same : (home : ℕ) → 1 ≤ home → home ≤ length d.front → live_at d.live home ≡ live_at e.live home
  live_same home low high = by (nat_lt (count base home) (purge_number S home)) refl
    where
      far : home ≤ length e.front
      far = omega (arith, high, nodes)

      by : (b : Bool) → nat_lt (count base home) (purge_number S home) ≡ b → live_at d.live home ≡ live_at e.live home
      by true f = one_live S home (live_at d.live home) (live_at e.live home) (left.listed home low high f) (right.listed home low far f)
      by false f = left.unlisted home low high f ∙ sym (right.unlisted home low far f)

  records_same : (home : ℕ) → 1 ≤ home → home ≤ length d.front → records_at d.records home ≡ records_at e.records home
  records_same home low high =
      let far : home ≤ length e.front = omega (arith, high, nodes) in
      let a = left.order home low high in
      let b = right.order home low far in
      same_records home (records_at d.records home) (records_at e.records home) a.homes b.homes a.ascending b.ascending (λ n.
      let l : Id = record { home = home; num = n } in
      left.records l low high ∙ ap (λ (k : ℕ). cond (is_held S l && has_news S base l) (Some (record_of k S l)) None) nodes ∙ sym (right.records l low far))

  -- a set has one frame since a base
  pub one_frame : d ≡ e
  one_frame =
      let bases : d.base ≡ e.base = left.base_is ∙ sym right.base_is in
      let fronts : d.front ≡ e.front = one_front S d.front e.front nodes left.front right.front in
      let purges : d.purges ≡ e.purges = left.purges ∙ ap (λ (n : ℕ). map (purge_number S) (nodes_to n)) nodes ∙ sym right.purges in
      let lives : d.live ≡ e.live = same_lives (length d.front) d.live e.live left.lives (right.lives ∙ sym nodes) live_same in
      let records : d.records ≡ e.records = same_homes (length d.front) d.records e.records left.homes (right.homes ∙ sym nodes) records_same in
      ap (λ (x : List ℕ). record { base = x; front = d.front; purges = d.purges; live = d.live; records = d.records }) bases
      ∙ ap (λ (x : List ℕ). record { base = e.base; front = x; purges = d.purges; live = d.live; records = d.records }) fronts
      ∙ ap (λ (x : List ℕ). record { base = e.base; front = e.front; purges = x; live = d.live; records = d.records }) purges
      ∙ ap (λ (x : List (Option (List ℕ))). record { base = e.base; front = e.front; purges = e.purges; live = x; records = d.records }) lives
      ∙ ap (λ (x : List (List Record)). record { base = e.base; front = e.front; purges = e.purges; live = e.live; records = x }) records
