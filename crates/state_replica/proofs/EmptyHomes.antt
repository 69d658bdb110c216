-- homes without records
use Rattle.std.proofs.Common.{◌≡◌, ◌+◌, ◌++◌, ℕ, zero, suc, List, [], ◌∷◌, refl, sym, ap, subst, ◌∙◌, arith, length, map, replicate, add-one, ◌-◌, None, find, get_or}
use Rattle.std.specs.List.{AllByRecursion}
use Rattle.std.specs.Option.{option_map}
use Rattle.state_ids.specs.Ids.{Id}
use Rattle.state_forest.specs.declared.record.Record.{Record}
use Rattle.state_forest.specs.Forests.{AreOf, HomeRecords, is_of}
use Rattle.state_stamps.specs.declared.stamp_entry.StampEntry.{StampEntry}
use Rattle.state_stamps.specs.Indexes.{AreIndexesOf}
use Rattle.state_stamps.proofs.OneIndex.{by_each}
use Rattle.state_replica.specs.Replicas.{AreEmptyHomes, AreHomesFrom, records_in, stamps_in}

homes_and : (k : ℕ) (homes : List HomeRecords) (home : HomeRecords) → AreHomesFrom k homes → home.home ≡ k + length homes → AreHomesFrom k (homes ++ home ∷ [])
homes_and k [] home are e = (omega (arith, e), tt)
homes_and k (h ∷ homes) home are e = (are.0, homes_and (k + 1) homes home are.1 (omega (arith, e)))

empty_and : (homes : List HomeRecords) (home : HomeRecords) (n : ℕ) → map (λ (h : HomeRecords). h.records) homes ≡ replicate n [] → home.records ≡ [] → map (λ (h : HomeRecords). h.records) (homes ++ home ∷ []) ≡ replicate (suc n) []
empty_and [] home zero e none = ap (λ (rs : List Record). rs ∷ []) none
empty_and [] home (suc n) e none = absurd cc
empty_and (h ∷ homes) home zero e none = absurd cc
empty_and (h ∷ homes) home (suc n) e none =
    let first : h.records ≡ [] = cc in
    let rest : map (λ (x : HomeRecords). x.records) homes ≡ replicate n [] = cc in
    rw (first, empty_and homes home n rest none) refl

length_and : (homes : List HomeRecords) (home : HomeRecords) → length (homes ++ home ∷ []) ≡ length homes + 1
length_and [] home = refl
length_and (h ∷ homes) home = omega (arith, length_and homes home)

-- the empty records of these homes are in order
pub empty_ordered : (n : ℕ) (homes : List HomeRecords) → map (λ (h : HomeRecords). h.records) homes ≡ replicate n [] → AllByRecursion (λ (h : HomeRecords). AreOf h.home h.records) homes
empty_ordered n [] e = tt
empty_ordered zero (h ∷ homes) e = absurd cc
empty_ordered (suc n) (h ∷ homes) e =
    let first : h.records ≡ [] = cc in
    let rest : map (λ (x : HomeRecords). x.records) homes ≡ replicate n [] = cc in
    (subst (λ (rs : List Record). AreOf h.home rs) (sym first) (record { homes = tt; ascending = tt }), empty_ordered n homes rest)

none_at : (n k : ℕ) → get_or (replicate {A = List Record} n []) k [] ≡ []
none_at zero k = refl
none_at (suc n) zero = refl
none_at (suc n) (suc k) = none_at n k

-- and they have no stamps
pub empty_indexed : (n : ℕ) (homes : List HomeRecords) (origins : List (List StampEntry)) → map (λ (h : HomeRecords). h.records) homes ≡ replicate n [] → AreIndexesOf origins (λ (l : Id). None) → AreIndexesOf origins (stamps_in (records_in homes))
empty_indexed n homes origins e none = by_each origins (λ (l : Id). None) (stamps_in (records_in homes)) (λ l. sym (nothing l)) none
  where
    nothing : (l : Id) → stamps_in (records_in homes) l ≡ None
    nothing l =
        let records : get_or (records_in homes) (l.home - 1) [] ≡ [] = ap (λ (rs : List (List Record)). get_or rs (l.home - 1) []) e ∙ none_at n (l.home - 1) in
        ap (λ (rs : List Record). option_map (λ (r : Record). r.stamps) (find (is_of l) rs)) records

-- one more empty home
pub one_more_home : (n : ℕ) (homes : List HomeRecords) (home : HomeRecords) → AreEmptyHomes n homes → home.home ≡ n + 1 → home.records ≡ [] → AreEmptyHomes (n + 1) (homes ++ home ∷ [])
one_more_home n homes home are at none =
    record {
      count = length_and homes home ∙ ap (λ k. k + 1) are.count;
      numbered = homes_and 1 homes home are.numbered (omega (arith, at, are.count));
      empty = rw add-one (empty_and homes home n are.empty none);
    }
