-- the overdue LRA with the least number
use Rattle.std.proofs.Common.{◌≡◌, inl, inr, ◌<◌, ◌&&◌, ◌||◌, ◌∷◌, ℕ, zero, suc, List, [], refl, sym, ap, subst, ◌∙◌, Bool, true, false, cond, arith, Option, Some, None, Result, Ok, Err, IfOk, MatchResult, find, get_or, length, is_none}
use Rattle.std.specs.Result.{result_ok}
use Rattle.std.specs.List.{AllByRecursion}
use Rattle.std.proofs.lemmas.Bool.Decides.{nat_tests}
use Rattle.state_ids.specs.Ids.{Id, IsFactNumber, is_fact_number}
use Rattle.state_ids.specs.declared.outcome.Verdict.{Verdict}
use Rattle.state_facts.specs.declared.fact.Fact.{Fact}
use Rattle.state_facts.specs.Lists.{In}
use Rattle.state_facts.specs.Sets.{begins, is_begun, is_held, want, IsNumbered}
use Rattle.state_forest.specs.declared.record.Record.{Record}
use Rattle.state_forest.specs.Forests.{AreOf, IsAscending, is_of}
use Rattle.state_forest.specs.Overdue.{is_overdue, is_past, IsLeastOverdue}
use Rattle.state_forest.specs.Standing.{Stands, IsNested, IsWhole}
use Rattle.state_forest.proofs.Bools.{all_in, and_left}
use Rattle.state_forest.proofs.ParentsAndChains.{begins_at}
use Rattle.state_forest.proofs.MembersAndStamps.{find_in}
use Rattle.state_forest.proofs.RecordsOfASet.{found_is, held_if_found, stands_at}
use Rattle.std.specs.Option.{option_map_or}
use Rattle.state_forest.specs.Said.{first_overdue, is_overdue_at, want_at}
use Rattle.state_forest.specs.Shape.{found_at}
use Rattle.state_forest.proofs.RecordsSayTheSet.{want_said}

abbrev pub at : ℕ → ℕ → Id
at home num = record { home = home; num = num }

in_place : (rs : List Record) (i : ℕ) (r : Record) → i < length rs → r ≡ get_or rs i r → In r rs
in_place [] i r less is = absurd (omega (arith, less))
in_place (q ∷ rs) zero r less is = inl is
in_place (q ∷ rs) (suc i) r less is = inr (in_place rs i r (omega (arith, less)) is)

-- a record of a home is the one that is found of its LRA
pub find_at : (home : ℕ) (rs : List Record) (i : ℕ) (r : Record) → AreOf home rs → i < length rs → r ≡ get_or rs i r → find (is_of (at home r.num)) rs ≡ Some r
find_at home [] i r h less is = absurd (omega (arith, less))
find_at home (q ∷ rs) zero r h less is =
    let own = h.homes.0 in
    let number : r.num ≡ q.num = ap (λ (x : Record). x.num) is in
    let there : is_of (at home r.num) q ≡ true = grind (arith, nat_tests, own, number) in
    rw there (ap (λ x. Some x) (sym is))
find_at home (q ∷ rs) (suc i) r h less is =
    let inside = in_place rs i r (omega (arith, less)) is in
    let after = all_in (λ x. q.num < x.num) rs h.ascending.0 r inside in
    let other : is_of (at home r.num) q ≡ false = grind (arith, nat_tests, after) in
    rw other (find_at home rs i r (record { homes = h.homes.1; ascending = h.ascending.1 }) (omega (arith, less)) is)

-- whether an LRA is overdue depends on its record and on what it wants
pub overdue_by : (nodes : ℕ) (S : List Fact) (records : List Record) (now : ℕ) (x : Id) (r : Record) → Stands nodes x.home S records → find (is_of x) records ≡ Some r → is_overdue S now x ≡ (is_past r.deadline now && is_none (want S x))
overdue_by nodes S records now x r stands found =
    let held = held_if_found nodes S records x r stands found in
    let kept = found_is nodes S records x r stands held found in
    let deadline = ap (λ (y : Record). is_past y.deadline now && is_none (want S x)) kept in
    rw held (sym deadline)

-- an LRA that is held has a number that a fact can have
pub held_number : (S : List Fact) (x : Id) → AllByRecursion IsNumbered S → is_held S x ≡ true → IsFactNumber x.num
held_number S x numbered held = begun S numbered (and_left (is_begun S x) _ held)
  where
    begun : (T : List Fact) → AllByRecursion IsNumbered T → is_begun T x ≡ true → IsFactNumber x.num
    begun [] h e = absurd cc
    begun (f ∷ T) h e = by (begins x f) refl (begun T h.1) e
      where
        by : (b : Bool) → begins x f ≡ b → (is_begun T x ≡ true → IsFactNumber x.num) → (b || is_begun T x) ≡ true → IsFactNumber x.num
        by true t rest e = subst IsFactNumber (begins_at x f t).1 h.0
        by false t rest e = rest e

-- each LRA of the home that is overdue has a record
overdue_in : (nodes home : ℕ) (S : List Fact) (records : List Record) (now : ℕ) (l : Id) → Stands nodes home S records → l.home ≡ home → is_overdue S now l ≡ true → (r : Record) × In r records × (l ≡ at home r.num)
overdue_in nodes home S records now l stands own late =
    let held = and_left (is_held S l) _ late in
    let found = stands_at nodes home S records l stands own held in
    let r = find_in (is_of l) records _ found in
    (_, r.0, ap (λ (h : ℕ). at h l.num) own)

not_true : (b : Bool) → (b ≡ true → ⊥) → b ≡ false
not_true true h = absurd (h refl)
not_true false h = refl

-- a record of a home is what is found of its LRA
pub found_in : (home : ℕ) (rs : List Record) (r : Record) → AreOf home rs → In r rs → find (is_of (at home r.num)) rs ≡ Some r
found_in home [] r h i = absurd i
found_in home (q ∷ rs) r h (inl same) =
    let own = h.homes.0 in
    let number : r.num ≡ q.num = ap (λ (x : Record). x.num) same in
    let there : is_of (at home r.num) q ≡ true = grind (arith, nat_tests, own, number) in
    rw there (ap (λ x. Some x) (sym same))
found_in home (q ∷ rs) r h (inr i) =
    let after = all_in (λ x. q.num < x.num) rs h.ascending.0 r i in
    let other : is_of (at home r.num) q ≡ false = grind (arith, nat_tests, after) in
    rw other (found_in home rs r (record { homes = h.homes.1; ascending = h.ascending.1 }) i)

-- if none is found, no record passes the test
none_passes : (p : Record → Bool) (rs : List Record) (q : Record) → find p rs ≡ None → In q rs → p q ≡ false
none_passes p [] q e i = absurd i
none_passes p (x ∷ rs) q e i = by (none_passes p rs q) (p x) refl e i
  where
    by : (find p rs ≡ None → In q rs → p q ≡ false) → (b : Bool) → p x ≡ b → cond b (Some x) (find p rs) ≡ None → In q (x ∷ rs) → p q ≡ false
    by rest true t e i = absurd cc
    by rest false t e (inl same) = ap p same ∙ t
    by rest false t e (inr i) = rest e i

-- and no record with a lesser number than the found one passes it
lesser_fails : (p : Record → Bool) (rs : List Record) (r q : Record) → IsAscending rs → find p rs ≡ Some r → In q rs → q.num < r.num → p q ≡ false
lesser_fails p [] r q h e i less = absurd i
lesser_fails p (x ∷ rs) r q h e i less = by (λ found inside. lesser_fails p rs r q h.1 found inside less) (p x) refl e i
  where
    by : (find p rs ≡ Some r → In q rs → p q ≡ false) → (b : Bool) → p x ≡ b → cond b (Some x) (find p rs) ≡ Some r → In q (x ∷ rs) → p q ≡ false
    by rest true t e (inl same) = absurd (let a : x ≡ r = cc in let b = ap (λ (y : Record). y.num) a in let c = ap (λ (y : Record). y.num) same in omega (arith, b, c, less))
    by rest true t e (inr i) = absurd (let a : x ≡ r = cc in let b = ap (λ (y : Record). y.num) a in let c = all_in (λ y. x.num < y.num) rs h.0 q i in omega (arith, b, c, less))
    by rest false t e (inl same) = ap p same ∙ t
    by rest false t e (inr i) = rest e i

pub number_passes : (n : ℕ) → IsFactNumber n → is_fact_number n ≡ true
number_passes n is = let low = is.0 in let high = is.1 in grind (arith, nat_tests, low, high)

-- a record says of its LRA whether it is late, as the set does
late_alike : (nodes home : ℕ) (S : List Fact) (records : List Record) (now : ℕ) (r : Record) → AreOf home records → IsWhole S → IsNested S → AllByRecursion IsNumbered S → Stands nodes home S records → In r records
    → is_overdue_at (found_at home records) now r ≡ is_overdue S now (at home r.num)
late_alike nodes home S records now r order whole nest numbered stands i =
    let found = found_in home records r order i in
    let held = held_if_found nodes S records (at home r.num) r stands found in
    ap (λ (b : Bool). b && (is_past r.deadline now && is_none (want_at (found_at home records) r.num))) (number_passes r.num (held_number S (at home r.num) numbered held))
    ∙ ap (λ (w : Option Verdict). is_past r.deadline now && is_none w) (want_said nodes S records (at home r.num) whole nest stands held)
    ∙ sym (overdue_by nodes S records now (at home r.num) r stands found)

-- the LRA of the first overdue record is the least overdue LRA of the set
pub overdue_said : (nodes home : ℕ) (S : List Fact) (records : List Record) (now : ℕ) → AreOf home records → IsWhole S → IsNested S → AllByRecursion IsNumbered S → Stands nodes home S records
    → IsLeastOverdue S home now (first_overdue home (found_at home records) now records)
overdue_said nodes home S records now order whole nest numbered stands = by (find p records) refl
  where
    p : Record → Bool
    p = is_overdue_at (found_at home records) now

    alike : (r : Record) → In r records → p r ≡ is_overdue S now (at home r.num)
    alike r i = late_alike nodes home S records now r order whole nest numbered stands i

    early : (k : Id) → k.home ≡ home → ((q : Record) → In q records → q.num ≡ k.num → p q ≡ false) → is_overdue S now k ≡ false
    early k own fails = not_true (is_overdue S now k) (λ late.
        let there = overdue_in nodes home S records now k stands own late in
        let number : there.0.num ≡ k.num = sym (ap (λ (y : Id). y.num) there.2) in
        let wrong : is_overdue S now k ≡ false = ap (is_overdue S now) there.2 ∙ sym (alike there.0 there.1) ∙ fails there.0 there.1 number in
        absurd (let both : true ≡ false = sym late ∙ wrong in cc))

    by : (o : Option Record) → find p records ≡ o → IsLeastOverdue S home now (option_map_or (λ (r : Record). Some (at home r.num)) o None)
    by None e = λ k own. early k own (λ q i number. none_passes p records q e i)
    by (Some r) e =
        let there = find_in p records r e in (
          refl,
          sym (alike r there.0) ∙ there.1,
          λ k own lesser. early k own (λ q i number. lesser_fails p records r q order.ascending e i (omega (arith, number, lesser))),
        )

-- the id that is made of a home and a number that a fact can have
pub id_made : {E : Type 0} (r : Result Id E) (home num : ℕ) → IfOk r (λ id. (id.home ≡ home) × (id.num ≡ num)) → MatchResult r (λ _. IsFactNumber num) (λ _. IsFactNumber num → ⊥) → IsFactNumber num → result_ok r ≡ Some (at home num)
id_made (Ok id) home num value exact some =
    ap (λ (h : ℕ). Some (at h id.num)) value.0 ∙ ap (λ (n : ℕ). Some (at home n)) value.1
id_made (Err e) home num value exact some = absurd (exact some)
