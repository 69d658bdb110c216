-- What a view has after one record is put or removed.
use mathlib.Core.Bool.{not}
use Rattle.std.proofs.Common.{◌≡◌, ◌≤◌, ◌<◌, ◌^◌, ◌-◌, ◌==◌, ◌⊎◌, inl, inr, ℕ, List, [], ◌∷◌, refl, sym, ap, subst, ◌∙◌, Bool, true, false, cond, arith, Option, Some, None, find, filter, length, get_or}
use Rattle.std.specs.List.{AllByRecursion}
use Rattle.std.proofs.lemmas.Bool.Decides.{nat_tests}
use Rattle.std.proofs.lemmas.List.{get_or_past, get_or-set_same, get_or-set_other, length-set}
use Rattle.state_ids.specs.Ids.{Id, same_id}
use Rattle.state_forest.specs.declared.record.Record.{Record}
use Rattle.state_forest.specs.Forests.{AreOf, IsAscending, id_of, is_of}
use Rattle.state_forest.specs.Places.{put_record}
use Rattle.state_forest.proofs.Puts.{put_are_of, put_find}
use Rattle.state_forest.proofs.Places.{other_home}
use Rattle.theory_history.specs.Views.{View, IsInOrder, records_at, record_at}
use Rattle.theory_history.specs.Changes.{put_at_home, remove_at_home}
use Rattle.theory_history.proofs.Basics.{at_most, equal_from, equal_itself}
use Rattle.theory_history.proofs.PatchesAddFacts.{ChangesHome, put_changes}
use Rattle.state_journal.specs.Stands.{IsHeld, IsReplicaView}

-- ---- where a record is

module _ (view : View) (homes : length view.records ≡ length view.front) (order : IsInOrder view) (r : Record) (held : IsHeld view r) where
  nothing_past : length view.front ≤ r.home - 1 → ⊥
  nothing_past past =
      let none : records_at view.records r.home ≡ [] = get_or_past view.records (r.home - 1) [] (omega (arith, past, homes)) in
      let found : None ≡ Some r = sym (ap (find (is_of (id_of r))) none) ∙ held in
      cc

  nothing_before : r.home < 1 → 1 ≤ length view.front → ⊥
  nothing_before first some =
      let of_first = order 1 (omega arith) some in
      let none : find (is_of (id_of r)) (records_at view.records 1) ≡ None = other_home (id_of r) 1 (records_at view.records 1) of_first.homes (λ at. omega (arith, at, first)) in
      let there : records_at view.records r.home ≡ records_at view.records 1 = ap (λ n. get_or view.records n []) (omega (arith, first)) in
      let found : None ≡ Some r = sym (ap (find (is_of (id_of r))) there ∙ none) ∙ held in
      cc

  -- the home of a record that a view has is one of its nodes
  pub held_home : (1 ≤ r.home) × (r.home ≤ length view.front)
  held_home = elim (at_most 1 r.home) [
    | inl some ↦ elim (at_most r.home (length view.front)) [
      | inl there ↦ (some, there)
      | inr past ↦ absurd (nothing_past (omega (arith, past)))
    ]
    | inr first ↦ elim (at_most 1 (length view.front)) [
      | inl nodes ↦ absurd (nothing_before first nodes)
      | inr none ↦ absurd (nothing_past (omega (arith, none)))
    ]
  ]

-- ---- one record changes

-- the view's record of l becomes `value`, or is gone if there is none; all else is as it was
pub record ChangesRecord (l : Id) (value : Option Record) (before : View) (homes : List (List Record)) : Type 0 where
  pub whole : IsReplicaView (record before { records = homes })
  pub own : (r : Record) → value ≡ Some r → id_of r ≡ l
  pub at : (x : Id) → 1 ≤ x.home → record_at (record before { records = homes }) x ≡ cond (same_id l x) value (record_at before x)

pub same_home : (l x : Id) → same_id l x ≡ true → l.home ≡ x.home
same_home l x e = grind (arith, nat_tests, e)

pub same_num : (l x : Id) → same_id l x ≡ true → l.num ≡ x.num
same_num l x e = grind (arith, nat_tests, e)

pub same_from : (l x : Id) → l.home ≡ x.home → l.num ≡ x.num → same_id l x ≡ true
same_from l x a b = grind (arith, nat_tests, a, b)

module _ (l : Id) (value : Option Record) (view : View) (homes : List (List Record)) (records : List Record) (whole : IsReplicaView view) (some : 1 ≤ l.home) (small : l.num < 2 ^ 64)
    (own : (r : Record) → value ≡ Some r → id_of r ≡ l) (changes : ChangesHome view.records homes l.home records) (order : l.home ≤ length view.front → AreOf l.home records)
    (found : (x : Id) → x.home ≡ l.home → find (is_of x) records ≡ cond (same_id l x) value (find (is_of x) (records_at view.records l.home))) where
  abbrev after : View
  after = record view { records = homes }

  at : (x : Id) → 1 ≤ x.home → record_at after x ≡ cond (same_id l x) value (record_at view x)
  at x first = by (x.home == l.home) refl
    where
      by : (b : Bool) → (x.home == l.home) ≡ b → record_at after x ≡ cond (same_id l x) value (record_at view x)
      by true e =
          let here : x.home ≡ l.home = equal_from _ _ e in
          ap (λ h. find (is_of x) (records_at homes h)) here ∙ ap (find (is_of x)) changes.here ∙ found x here ∙ ap (λ h. cond (same_id l x) value (find (is_of x) (records_at view.records h))) (sym here)
      by false e =
          let apart : x.home ≡ l.home → ⊥ = λ s. let both : true ≡ false = sym (ap (λ h. h == l.home) s ∙ equal_itself l.home) ∙ e in cc in
          let other : same_id l x ≡ false = grind (arith, nat_tests, e) in
          ap (find (is_of x)) (changes.elsewhere x.home first apart) ∙ rw other refl

  ordered : (home : ℕ) → 1 ≤ home → home ≤ length view.front → AreOf home (records_at homes home)
  ordered home first there = by (home == l.home) refl
    where
      by : (b : Bool) → (home == l.home) ≡ b → AreOf home (records_at homes home)
      by true e =
          let here : home ≡ l.home = equal_from _ _ e in
          subst (λ h. AreOf h (records_at homes h)) (sym here) (subst (AreOf l.home) (sym changes.here) (order (omega (arith, there, here))))
      by false e =
          let apart : home ≡ l.home → ⊥ = λ s. let both : true ≡ false = sym (ap (λ h. h == l.home) s ∙ equal_itself l.home) ∙ e in cc in
          subst (AreOf home) (sym (changes.elsewhere home first apart)) (whole.order home first there)

  numbered : (r : Record) → 1 ≤ r.home → IsHeld after r → r.num < 2 ^ 64
  numbered r first held = by (same_id l (id_of r)) refl (sym (at (id_of r) first) ∙ held)
    where
      by : (b : Bool) → same_id l (id_of r) ≡ b → cond b value (record_at view (id_of r)) ≡ Some r → r.num < 2 ^ 64
      by true e is = omega (arith, small, same_num l (id_of r) e)
      by false e is = whole.numbers r is

  first_of : (r : Record) → IsHeld after r → 1 ≤ r.home
  first_of r held = (held_home after (changes.size ∙ whole.homes) ordered r held).0

  pub changed : ChangesRecord l value view homes
  changed = record {
    whole = record { purges = whole.purges; homes = changes.size ∙ whole.homes; order = ordered; numbers = λ r held. numbered r (first_of r held) held };
    own = own;
    at = at;
  }

-- ---- a record is put, or removed

some_same : (r q : Record) → Some r ≡ Some q → r ≡ q
some_same r q e = cc

pub put_changed : (view : View) (r : Record) → IsReplicaView view → 1 ≤ r.home → r.home ≤ length view.front → r.num < 2 ^ 64 → ChangesRecord (id_of r) (Some r) view (put_at_home r view.records)
put_changed view r whole some there small =
    let before = records_at view.records r.home in
    let order = whole.order r.home some there in
    changed (id_of r) (Some r) view (put_at_home r view.records) (put_record r before) whole some small
    (λ q e. ap id_of (sym (some_same r q e)))
    (put_changes r view.records r.home refl some (omega (arith, there, whole.homes)))
    (λ _. put_are_of r.home r before refl order)
    (λ x at. put_find r.home r before x refl order)

found_without : (l x : Id) (rs : List Record) → find (is_of x) (filter (λ r. not (is_of l r)) rs) ≡ cond (same_id l x) None (find (is_of x) rs)
found_without l x [] = by (same_id l x)
  where
    by : (b : Bool) → ◌≡◌ {A = Option Record} None (cond b None None)
    by true = refl
    by false = refl
found_without l x (r ∷ rs) = by (is_of x r) refl (is_of l r) refl (same_id l x) refl (found_without l x rs)
  where
    both : is_of x r ≡ true → is_of l r ≡ true → same_id l x ≡ true
    both e f = grind (arith, nat_tests, e, f)

    back : is_of x r ≡ true → same_id l x ≡ true → is_of l r ≡ true
    back e f = grind (arith, nat_tests, e, f)

    by : (a : Bool) → is_of x r ≡ a → (b : Bool) → is_of l r ≡ b → (c : Bool) → same_id l x ≡ c → find (is_of x) (filter (λ r. not (is_of l r)) rs) ≡ cond c None (find (is_of x) rs)
        → find (is_of x) (cond (not b) (r ∷ filter (λ r. not (is_of l r)) rs) (filter (λ r. not (is_of l r)) rs)) ≡ cond c None (cond a (Some r) (find (is_of x) rs))
    by true e true f true g rest = rest
    by true e true f false g rest = absurd (let is = both e f in let wrong : true ≡ false = sym is ∙ g in cc)
    by true e false f true g rest = absurd (let is = back e g in let wrong : true ≡ false = sym is ∙ f in cc)
    by true e false f false g rest = rw e refl
    by false e true f c g rest = rest
    by false e false f c g rest = rw e rest

filter_all : (P : Record → Type 0) (keep : Record → Bool) (rs : List Record) → AllByRecursion P rs → AllByRecursion P (filter keep rs)
filter_all P keep [] h = tt
filter_all P keep (r ∷ rs) h = by (keep r) (filter_all P keep rs h.1)
  where
    by : (b : Bool) → AllByRecursion P (filter keep rs) → AllByRecursion P (cond b (r ∷ filter keep rs) (filter keep rs))
    by true rest = (h.0, rest)
    by false rest = rest

filter_ascends : (keep : Record → Bool) (rs : List Record) → IsAscending rs → IsAscending (filter keep rs)
filter_ascends keep [] h = tt
filter_ascends keep (r ∷ rs) h = by (keep r) (filter_ascends keep rs h.1)
  where
    by : (b : Bool) → IsAscending (filter keep rs) → IsAscending (cond b (r ∷ filter keep rs) (filter keep rs))
    by true rest = (filter_all (λ q. r.num < q.num) keep rs h.0, rest)
    by false rest = rest

abbrev without : Id → List Record → List Record
without l rs = filter (λ r. not (is_of l r)) rs

abbrev left_at : Id → List (List Record) → List Record
left_at l homes = without l (records_at homes l.home)

remove_changes : (l : Id) (homes : List (List Record)) → 1 ≤ l.home → ChangesHome homes (remove_at_home l homes) l.home (left_at l homes)
remove_changes l homes some =
    record {
      size = length-set {A = List Record} homes (l.home - 1) (left_at l homes);
      here = by (at_most l.home (length homes));
      elsewhere = λ k one other. get_or-set_other {A = List Record} homes (l.home - 1) (k - 1) (left_at l homes) [] (λ s. other (omega (arith, s, some, one)));
    }
  where
    by : (l.home ≤ length homes) ⊎ (length homes < l.home) → records_at (remove_at_home l homes) l.home ≡ left_at l homes
    by (inl there) = get_or-set_same {A = List Record} homes (l.home - 1) (left_at l homes) [] (omega (arith, some, there))
    by (inr past) =
        let none : records_at homes l.home ≡ [] = get_or_past homes (l.home - 1) [] (omega (arith, past)) in
        let still : records_at (remove_at_home l homes) l.home ≡ [] = get_or_past (remove_at_home l homes) (l.home - 1) [] (omega (arith, past, length-set {A = List Record} homes (l.home - 1) (left_at l homes))) in
        still ∙ sym (ap (without l) none)

pub remove_changed : (view : View) (l : Id) → IsReplicaView view → 1 ≤ l.home → l.num < 2 ^ 64 → ChangesRecord l None view (remove_at_home l view.records)
remove_changed view l whole some small =
    let before = records_at view.records l.home in
    changed l None view (remove_at_home l view.records) (without l before) whole some small
    (λ r e. absurd (cc))
    (remove_changes l view.records some)
    (λ there. let order = whole.order l.home some there in record { homes = filter_all (λ q. q.home ≡ l.home) (λ r. not (is_of l r)) before order.homes; ascending = filter_ascends (λ r. not (is_of l r)) before order.ascending })
    (λ x at. found_without l x before)
