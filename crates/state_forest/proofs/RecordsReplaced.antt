-- a record in another's place, and the records up to a number
use Rattle.std.proofs.Common.{◌≡◌, ◌≤◌, ◌<◌, ◌+◌, ◌==◌, ◌∷◌, ℕ, zero, suc, List, [], refl, sym, ap, subst, ◌∙◌, Bool, true, false, cond, arith, Option, Some, None, drop, filter, find, get_or, nat_lt, add-one, slice_get, is_some}
use Rattle.std.specs.List.{AllByRecursion}
use Rattle.std.proofs.lemmas.Bool.Decides.{nat_tests}
use Rattle.state_forest.specs.declared.record.Record.{Record}
use Rattle.state_forest.specs.Forests.{AreOf, HomeRecords, IsAscending, id_of, is_of}
use Rattle.state_forest.specs.Places.{count_below, put_record, with_number}
use Rattle.state_forest.proofs.Bools.{all_in}
use Rattle.state_forest.proofs.MembersAndStamps.{find_in}
use Rattle.state_forest.proofs.Places.{beyond_all, found_place}
use Rattle.state_forest.proofs.Puts.{put_find}

-- a record that is looked up with a number has that number
pub with_number_is : (num : ℕ) (o : Option Record) (r : Record) → with_number num o ≡ Some r → (o ≡ Some r) × (r.num ≡ num)
with_number_is num None r e = absurd cc
with_number_is num (Some q) r e = by (q.num == num) refl e
  where
    by : (b : Bool) → (q.num == num) ≡ b → cond b (Some q) None ≡ Some r → (Some q ≡ Some r) × (r.num ≡ num)
    by true t e =
        let number : q.num ≡ num = grind (arith, nat_tests, t) in
        let same : q ≡ r = cc in
        (e, sym (ap (λ (x : Record). x.num) same) ∙ number)
    by false t e = absurd cc

-- if the record that was there is put back, the records are as before
pub put_back : (kept next : Record) (qs : List Record) → with_number next.num (slice_get qs (count_below next.num qs)) ≡ Some kept → put_record kept (put_record next qs) ≡ qs
put_back kept next [] e = absurd cc
put_back kept next (q ∷ qs) e = by (put_back kept next qs) (nat_lt q.num next.num) refl e
  where
    number : kept.num ≡ next.num
    number = (with_number_is next.num _ kept e).1

    by : (with_number next.num (slice_get qs (count_below next.num qs)) ≡ Some kept → put_record kept (put_record next qs) ≡ qs) → (b : Bool) → nat_lt q.num next.num ≡ b → with_number next.num (slice_get (q ∷ qs) (cond b (count_below next.num qs + 1) 0)) ≡ Some kept → put_record kept (cond b (q ∷ put_record next qs) (cond (q.num == next.num) (next ∷ qs) (next ∷ q ∷ qs))) ≡ q ∷ qs
    by rest true t e =
        let further : slice_get (q ∷ qs) (count_below next.num qs + 1) ≡ slice_get qs (count_below next.num qs) = rw add-one refl in
        let less : nat_lt q.num kept.num ≡ true = ap (nat_lt q.num) number ∙ t in
        rw less (ap (λ xs. q ∷ xs) (rest (sym (ap (with_number next.num) further) ∙ e)))
    by rest false t e = here (q.num == next.num) refl e
      where
        here : (c : Bool) → (q.num == next.num) ≡ c → cond c (Some q) None ≡ Some kept → put_record kept (cond c (next ∷ qs) (next ∷ q ∷ qs)) ≡ q ∷ qs
        here true s e =
            let not_less : nat_lt next.num kept.num ≡ false = grind (arith, nat_tests, number) in
            let same : (next.num == kept.num) ≡ true = grind (arith, nat_tests, number) in
            let there : kept ≡ q = cc in
            rw (not_less, same) (ap (λ x. x ∷ qs) there)
        here false s e = absurd cc

all_beyond : (num : ℕ) (qs : List Record) → AllByRecursion (λ r. num < r.num) qs → qs ≡ filter (λ r. nat_lt num r.num) qs
all_beyond num [] h = refl
all_beyond num (q ∷ qs) h = let more = h.0 in let test : nat_lt num q.num ≡ true = grind (arith, nat_tests, more) in rw test (ap (λ xs. q ∷ xs) (all_beyond num qs h.1))

-- the records after the place of a number have greater numbers, except one that has the number
-- itself
pub rest_after : (num : ℕ) (qs : List Record) → IsAscending qs → is_some (with_number num (slice_get qs (count_below num qs))) ≡ true → drop (count_below num qs + 1) qs ≡ filter (λ r. nat_lt num r.num) qs
rest_after num [] h e = absurd cc
rest_after num (q ∷ qs) h e = by (rest_after num qs h.1) (nat_lt q.num num) refl e
  where
    by : (is_some (with_number num (slice_get qs (count_below num qs))) ≡ true → drop (count_below num qs + 1) qs ≡ filter (λ r. nat_lt num r.num) qs) → (b : Bool) → nat_lt q.num num ≡ b → is_some (with_number num (slice_get (q ∷ qs) (cond b (count_below num qs + 1) 0))) ≡ true → drop (cond b (count_below num qs + 1) 0 + 1) (q ∷ qs) ≡ filter (λ r. nat_lt num r.num) (q ∷ qs)
    by rest true t e =
        let further : slice_get (q ∷ qs) (count_below num qs + 1) ≡ slice_get qs (count_below num qs) = rw add-one refl in
        let there : drop (count_below num qs + 1 + 1) (q ∷ qs) ≡ drop (count_below num qs + 1) qs = rw (add-one (count_below num qs + 1)) refl in
        let other : nat_lt num q.num ≡ false = grind (arith, nat_tests, t) in
        there ∙ rest (sym (ap (λ o. is_some (with_number num o)) further) ∙ e) ∙ rw other refl
    by rest false t e = here (q.num == num) refl e
      where
        here : (c : Bool) → (q.num == num) ≡ c → is_some (cond c (Some q) None) ≡ true → qs ≡ filter (λ r. nat_lt num r.num) (q ∷ qs)
        here true s e =
            let same : num ≤ q.num = grind (arith, nat_tests, s) in
            let other : nat_lt num q.num ≡ false = grind (arith, nat_tests, s) in
            rw other (all_beyond num qs (beyond_all num q.num qs same h.0))
        here false s e = absurd cc

pub rest_beyond : (num : ℕ) (qs : List Record) → IsAscending qs → is_some (with_number num (slice_get qs (count_below num qs))) ≡ false → drop (count_below num qs) qs ≡ filter (λ r. nat_lt num r.num) qs
rest_beyond num [] h e = refl
rest_beyond num (q ∷ qs) h e = by (rest_beyond num qs h.1) (nat_lt q.num num) refl e
  where
    by : (is_some (with_number num (slice_get qs (count_below num qs))) ≡ false → drop (count_below num qs) qs ≡ filter (λ r. nat_lt num r.num) qs) → (b : Bool) → nat_lt q.num num ≡ b → is_some (with_number num (slice_get (q ∷ qs) (cond b (count_below num qs + 1) 0))) ≡ false → drop (cond b (count_below num qs + 1) 0) (q ∷ qs) ≡ filter (λ r. nat_lt num r.num) (q ∷ qs)
    by rest true t e =
        let further : slice_get (q ∷ qs) (count_below num qs + 1) ≡ slice_get qs (count_below num qs) = rw add-one refl in
        let there : drop (count_below num qs + 1) (q ∷ qs) ≡ drop (count_below num qs) qs = rw add-one refl in
        let other : nat_lt num q.num ≡ false = grind (arith, nat_tests, t) in
        there ∙ rest (sym (ap (λ o. is_some (with_number num o)) further) ∙ e) ∙ rw other refl
    by rest false t e = here (q.num == num) refl e
      where
        here : (c : Bool) → (q.num == num) ≡ c → is_some (cond c (Some q) None) ≡ false → q ∷ qs ≡ filter (λ r. nat_lt num r.num) (q ∷ qs)
        here true s e = absurd cc
        here false s e = let less : num < q.num = grind (arith, nat_tests, s, t) in all_beyond num (q ∷ qs) (less, beyond_all num q.num qs (omega (arith, less)) h.0)

-- a record that was read where a number stands has the number
pub back_is : (num : ℕ) (qs : List Record) (i : ℕ) (r : Record) → is_some (with_number num (slice_get qs i)) ≡ true → r ≡ get_or qs i r → with_number num (slice_get qs i) ≡ Some r
back_is num [] i r e s = absurd cc
back_is num (q ∷ qs) zero r e s = by (q.num == num) e
  where
    by : (b : Bool) → is_some (cond b (Some q) None) ≡ true → cond b (Some q) None ≡ Some r
    by true e = ap (λ x. Some x) (sym s)
    by false e = absurd cc
back_is num (q ∷ qs) (suc i) r e s = back_is num qs i r e s

-- what is found of the LRA of a record stands at the place of its number
pub found_at : (home : ℕ) (qs : List Record) (spare : ℕ) (h : HomeRecords) (r : Record) → ◌≡◌ {A = HomeRecords} (record { home = home; records = qs; spare = spare }) h → AreOf home qs → r.home ≡ h.home → find (is_of (id_of r)) h.records ≡ with_number r.num (slice_get qs (count_below r.num qs))
found_at home qs spare h r view order at =
    let same : r.home ≡ home = at ∙ sym (ap (λ (x : HomeRecords). x.home) view) in
    ap (λ (x : HomeRecords). find (is_of (id_of r)) x.records) (sym view) ∙ found_place (id_of r) qs (subst (λ (n : ℕ). AreOf n qs) (sym same) order)

-- what is known after a record was put in the place of another, which was kept aside
pub record IsExchanged (h new : HomeRecords) (next kept : Record) : Type 0 where
  pub own : kept.home ≡ new.home
  pub there : find (is_of (id_of kept)) new.records ≡ Some next
  pub back : put_record kept new.records ≡ h.records

pub exchanged : (h new : HomeRecords) (next kept : Record) → AreOf h.home h.records → next.home ≡ h.home → new.home ≡ h.home → new.records ≡ put_record next h.records → find (is_of (id_of next)) h.records ≡ Some kept → IsExchanged h new next kept
exchanged h new next kept order at stays is found =
    let place : with_number next.num (slice_get h.records (count_below next.num h.records)) ≡ Some kept = sym (found_place (id_of next) h.records (subst (λ (n : ℕ). AreOf n h.records) (sym at) order)) ∙ found in
    let number : kept.num ≡ next.num = (with_number_is next.num _ kept place).1 in
    let home : kept.home ≡ h.home = all_in (λ r. r.home ≡ h.home) h.records order.homes kept (find_in (is_of (id_of next)) h.records kept found).0 in
    let same : is_of (id_of kept) next ≡ true = grind (arith, nat_tests, number, home, at) in
    record {
      own = home ∙ sym stays;
      there = ap (find (is_of (id_of kept))) is ∙ put_find h.home next h.records (id_of kept) at order ∙ rw same refl;
      back = ap (put_record kept) is ∙ put_back kept next h.records place;
    }

pub same_forest : (a b : HomeRecords) → a.home ≡ b.home → a.records ≡ b.records → a.spare ≡ b.spare → a ≡ b
same_forest a b home records spare =
    let first : ◌≡◌ {A = HomeRecords} (record { home = a.home; records = a.records; spare = a.spare }) (record { home = b.home; records = a.records; spare = a.spare }) = ap (λ (x : ℕ). record { home = x; records = a.records; spare = a.spare }) home in
    let second : ◌≡◌ {A = HomeRecords} (record { home = b.home; records = a.records; spare = a.spare }) (record { home = b.home; records = b.records; spare = a.spare }) = ap (λ (x : List Record). record { home = b.home; records = x; spare = a.spare }) records in
    let third : ◌≡◌ {A = HomeRecords} (record { home = b.home; records = b.records; spare = a.spare }) (record { home = b.home; records = b.records; spare = b.spare }) = ap (λ (x : ℕ). record { home = b.home; records = b.records; spare = x }) spare in
    first ∙ second ∙ third
