-- only records that change are put and removed, each once
use Rattle.std.proofs.Common.{◌≡◌, ◌<◌, ◌+◌, ◌==◌, ◌&&◌, ◌∷◌, ℕ, zero, suc, List, [], inl, inr, filter, map, refl, sym, ap, subst, ◌∙◌, Bool, true, false, cond, arith, Option, Some, None, nat_le, is_some, is_none}
use Rattle.std.specs.List.{AllByRecursion, slice_index}
use Rattle.std.specs.List.Sorted.{IsStrictlyIncreasing}
use Rattle.std.proofs.lemmas.Bool.Decides.{nat_tests}
use Rattle.state_ids.specs.Ids.{Id, is_fact_number}
use Rattle.state_facts.specs.Lists.{In}
use Rattle.state_forest.specs.declared.record.Record.{Record}
use Rattle.state_forest.specs.Forests.{AreOf, IsAscending, id_of}
use Rattle.state_forest.specs.RecordMerges.{brought, is_gone}
use Rattle.state_forest.specs.OnlyChanges.{AreOnlyChanges, IsPut, ids_lost, is_lost}
use Rattle.state_forest.specs.Shape.{found_at}
use Rattle.state_forest.proofs.Bools.{all_from, all_in, and_left}
use Rattle.state_forest.proofs.Removals.{filter_are_of}
use Rattle.state_forest.proofs.TakenRecords.{by_number, IsRight}

pub some_same : {X : Type 0} (x y : X) → Some y ≡ Some x → x ≡ y
some_same x y e = cc

-- each of the records of a home is found by its number
pub found_self : (home : ℕ) (rs : List Record) (r : Record) → AreOf home rs → In r rs → found_at home rs r.num ≡ Some r
found_self home [] r h i = absurd i
found_self home (q ∷ rs) r h (inl e) =
    let test : (q.num == r.num) ≡ true = grind (arith, nat_tests, ap (λ (x : Record). x.num) e) in
    ap (λ b. cond b (Some q) (found_at home rs r.num)) (by_number home r.num q h.homes.0 ∙ test) ∙ ap (λ x. Some x) (sym e)
found_self home (q ∷ rs) r h (inr i) =
    let less : q.num < r.num = all_in (λ (x : Record). q.num < x.num) rs h.ascending.0 r i in
    let test : (q.num == r.num) ≡ false = grind (arith, nat_tests, less) in
    ap (λ b. cond b (Some q) (found_at home rs r.num)) (by_number home r.num q h.homes.0 ∙ test)
    ∙ found_self home rs r (record { homes = h.homes.1; ascending = h.ascending.1 }) i

-- a property of the LRA of each record that passes a test holds of all their ids
all_ids : (P : Id → Type 0) (test : Record → Bool) (rs : List Record) → ((r : Record) → In r rs → test r ≡ true → P (id_of r)) → AllByRecursion P (map id_of (filter test rs))
all_ids P test [] h = tt
all_ids P test (r ∷ rs) h = by (test r) refl (all_ids P test rs (λ q i. h q (inr i)))
  where
    by : (b : Bool) → test r ≡ b → AllByRecursion P (map id_of (filter test rs)) → AllByRecursion P (map id_of (cond b (r ∷ filter test rs) (filter test rs)))
    by true e rest = (h r (inl refl) e, rest)
    by false e rest = rest

-- the numbers of records in order rise
rising : (rs : List Record) → IsAscending rs → IsStrictlyIncreasing (map (λ (l : Id). l.num) (map id_of rs))
rising [] h k within = absurd (omega (arith, within))
rising (r ∷ []) h k within = absurd (omega (arith, within))
rising (r ∷ q ∷ rs) h zero within = h.0.0
rising (r ∷ q ∷ rs) h (suc k) within =
    let numbers = map (λ (l : Id). l.num) (map id_of (q ∷ rs)) in
    let step : suc (k + 1) ≡ suc k + 1 = omega arith in
    subst (λ (n : ℕ). slice_index numbers k < slice_index (r.num ∷ numbers) n) step (rising (q ∷ rs) h.1 k (omega (arith, within)))

not_put : (held put : Option Record) (covered : Bool) → IsPut held (brought covered held None) put → put ≡ None
not_put held None covered is = refl
not_put held (Some r) covered is = absurd (let no = is.0 in cc)

-- the LRAs of the records that pass a test are those of existing records, in order
pub ids_alone : (home : ℕ) (test : Record → Bool) (own : List Record) → AreOf home own → AreOnlyChanges home own (map id_of (filter test own)) []
ids_alone home test own h =
    record {
      order = record { homes = tt; ascending = tt };
      others = tt;
      homes = all_ids (λ (l : Id). l.home ≡ home) test own (λ r i e. all_in (λ (x : Record). x.home ≡ home) own h.homes r i);
      rising = rising (filter test own) (filter_are_of test home own h).ascending;
      there = all_ids (λ (l : Id). is_some (found_at home own l.num) ≡ true) test own (λ r i e. ap is_some (found_self home own r h i));
      apart = all_ids (λ (l : Id). found_at home [] l.num ≡ None) test own (λ r i e. refl);
    }

pub only_changes : (home told mine : ℕ) (held : Option (List ℕ)) (own theirs put : List Record) (removed : List Id) → AreOf home own → AreOf home put
    → ((num : ℕ) → IsRight home mine own num (found_at home theirs num) (found_at home put num))
    → removed ≡ ids_lost home told held theirs own → AreOnlyChanges home own removed put
only_changes home told mine held own theirs put removed h order is gone =
    let alone = subst (λ (ls : List Id). AreOnlyChanges home own ls []) (sym gone) (ids_alone home test own h) in
    record {
      order = order;
      others = all_from (λ r. found_at home own r.num ≡ Some r → ⊥) put other;
      homes = alone.homes;
      rising = alone.rising;
      there = alone.there;
      apart = subst (AllByRecursion (λ (l : Id). found_at home put l.num ≡ None)) (sym gone) (all_ids (λ (l : Id). found_at home put l.num ≡ None) test own (λ r i e. none r.num (found_at home theirs r.num) refl (and_left (is_none (found_at home theirs r.num)) (is_gone told held r.num) e)));
    }
  where
    test : Record → Bool
    test = is_lost home told held theirs

    other : (r : Record) → In r put → found_at home own r.num ≡ Some r → ⊥
    other r i = (subst (IsPut (found_at home own r.num) (brought (nat_le r.num mine) (found_at home own r.num) (found_at home theirs r.num))) (found_self home put r order i) (is r.num)).1

    none : (num : ℕ) (o : Option Record) → found_at home theirs num ≡ o → is_none o ≡ true → found_at home put num ≡ None
    none num None e t =
        not_put (found_at home own num) (found_at home put num) (nat_le num mine)
        (subst (λ (o : Option Record). IsPut (found_at home own num) (brought (nat_le num mine) (found_at home own num) o) (found_at home put num)) e (is num))
    none num (Some x) e t = absurd cc

-- no LRA is lost if the other node doesn't tell what it holds
pub none_lost : (home told : ℕ) (theirs rs : List Record) → ids_lost home told None theirs rs ≡ []
none_lost home told theirs [] = refl
none_lost home told theirs (r ∷ rs) =
    ap (λ (b : Bool). map id_of (cond b (r ∷ filter test rs) (filter test rs))) (never (is_none (found_at home theirs r.num)) (is_fact_number r.num && nat_le r.num told)) ∙ none_lost home told theirs rs
  where
    test : Record → Bool
    test = is_lost home told None theirs

    never : (a b : Bool) → (a && (b && false)) ≡ false
    never true true = refl
    never true false = refl
    never false b = refl
