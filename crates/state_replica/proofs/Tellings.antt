-- What a replica tells is what is news of its view.
use Rattle.std.proofs.Common.{◌≡◌, ◌≤◌, ◌<◌, ◌+◌, ◌-◌, ℕ, zero, suc, List, [], ◌∷◌, ◌++◌, refl, sym, ap, subst, ◌∙◌, arith, Option, Some, None, length, map, get_or, take, slice_get, find}
use Rattle.std.proofs.lemmas.List.{take_all, take_more}
use Rattle.std.proofs.lemmas.Option.{get_or_from_slice_get}
use Rattle.std.proofs.lemmas.Slice.Zip.{AllZip-long, all_zipped_more}
use Rattle.std.specs.List.{AllZip}
use Rattle.std.specs.Option.{option_map_or}
use Rattle.state_forest.specs.declared.merging.Told.{Told}
use Rattle.state_forest.specs.declared.record.Record.{Record}
use Rattle.state_ids.specs.Ids.{Id}
use Rattle.state_forest.specs.Forests.{AreOf, HomeRecords, is_of}
use Rattle.state_forest.specs.OnlyChanges.{IsTold}
use Rattle.state_forest.specs.Shape.{found_at}
use Rattle.state_forest.specs.RecordMerges.{held_numbers}
use Rattle.theory_history.specs.Merging.{AreToldFrom, IsTelling, TellsNews, told_records}
use Rattle.theory_history.specs.Views.{View, record_at, records_at}
use Rattle.state_replica.specs.Replicas.{AreHomesFrom, IsReplicaState, ReplicaState, view_of}
use Rattle.state_replica.specs.Tellings.{IsToldBy}
use Rattle.state_replica.proofs.Homes.{home_records}
use Rattle.state_replica.proofs.Rooms.{home_numbered}

-- The homes of a replica, told

-- one more home is told
pub one_more_told : (a : View) (homes : List HomeRecords) (told more : List Told) (i : ℕ) (home : HomeRecords) (last : Told) → i < length homes → home ≡ get_or homes i home → more ≡ told ++ last ∷ [] → IsToldBy a home last → AllZip (IsToldBy a) (take i homes) told → AllZip (IsToldBy a) (take (i + 1) homes) more
one_more_told a homes told more i home last within is items here so_far =
    let absorbed : take (i + 1) homes ≡ take i homes ++ home ∷ [] = take_more homes i home within ∙ ap (λ (h : HomeRecords). take i homes ++ h ∷ []) (sym is) in
    subst (λ (hs : List HomeRecords). AllZip (IsToldBy a) hs more) (sym absorbed)
    (subst (λ (ts : List Told). AllZip (IsToldBy a) (take i homes ++ home ∷ []) ts) (sym items) (all_zipped_more (IsToldBy a) (take i homes) told home last so_far here))

-- all homes are told
pub all_told : (a : View) (homes items : List HomeRecords) (told : List Told) (i : ℕ) → items ≡ homes → length items ≤ i → AllZip (IsToldBy a) (take i items) told → AllZip (IsToldBy a) homes told
all_told a homes items told i is all so_far = subst (λ (hs : List HomeRecords). AllZip (IsToldBy a) hs told) (take_all i items all ∙ is) so_far

told_numbers : (a : View) (k : ℕ) (homes : List HomeRecords) (told : List Told) → AllZip (IsToldBy a) homes told → AreHomesFrom k homes → AreToldFrom k told
told_numbers a k [] [] each are = tt
told_numbers a k [] (t ∷ told) each are = absurd each
told_numbers a k (h ∷ homes) [] each are = absurd each
told_numbers a k (h ∷ homes) (t ∷ told) each are = (each.0.0 ∙ are.0, told_numbers a (k + 1) homes told each.1 are.1)

-- what is told of all homes has one part for each node
pub telling_kept : (a : View) (kept : ReplicaState) (told : List Told) → AllZip (IsToldBy a) kept.homes told → IsReplicaState kept → IsTelling (record { front = kept.front; purges = kept.purges; homes = told })
telling_kept a kept told each is = record {
  purges = is.purges;
  homes = AllZip-long (IsToldBy a) kept.homes told each ∙ is.homes;
  numbered = told_numbers a 1 kept.homes told each is.numbered;
}

-- a home, and what is told of it
record IsToldAt (a : View) (homes : List HomeRecords) (told : List Told) (i : ℕ) : Type 0 where
  home : HomeRecords
  part : Told
  at : slice_get homes i ≡ Some home
  told_at : slice_get told i ≡ Some part
  is : IsToldBy a home part

told_at : (a : View) (homes : List HomeRecords) (told : List Told) (i : ℕ) → i < length homes → AllZip (IsToldBy a) homes told → IsToldAt a homes told i
told_at a [] told i e each = absurd (omega (arith, e))
told_at a (h ∷ homes) [] i e each = absurd each
told_at a (h ∷ homes) (t ∷ told) zero e each = record { home = h; part = t; at = refl; told_at = refl; is = each.0 }
told_at a (h ∷ homes) (t ∷ told) (suc i) e each =
    let rest = told_at a homes told i (omega (arith, e)) each.1 in record { home = rest.home; part = rest.part; at = rest.at; told_at = rest.told_at; is = rest.is }

-- and what is told is what is news of the replica
pub tells_news : (a : View) (kept : ReplicaState) (told : List Told) → AllZip (IsToldBy a) kept.homes told → IsReplicaState kept → TellsNews a (record { front = kept.front; purges = kept.purges; homes = told }) (view_of kept)
tells_news a kept told each is = record {
  front = refl;
  purges = refl;
  records = λ l low high. news l low high (here l.home low high) (number l.home low high);
  order = λ home low high. let here = here home low high in
      subst (λ (rs : List Record). AreOf home rs) (sym (home_records kept home here.home here.at))
      (subst (λ (n : ℕ). AreOf n here.home.records) (number home low high) here.is.3);
  held = λ home low high. let here = here home low high in
      ap (λ (o : Option Told). option_map_or (λ (t : Told). held_numbers t.held) o None) here.told_at ∙ here.is.2
      ∙ ap (λ (rs : List Record). Some (map (λ (r : Record). r.num) rs)) (sym (home_records kept home here.home here.at));
}
  where
    within : (home : ℕ) → 1 ≤ home → home ≤ length kept.front → home - 1 < length kept.homes
    within home low high = omega (arith, low, high, is.homes)

    here : (home : ℕ) → 1 ≤ home → home ≤ length kept.front → IsToldAt a kept.homes told (home - 1)
    here home low high = told_at a kept.homes told (home - 1) (within home low high) each

    number : (home : ℕ) (low : 1 ≤ home) (high : home ≤ length kept.front) → (here home low high).home.home ≡ home
    number home low high =
        let there = here home low high in
        let own = ap (λ (h : HomeRecords). h.home) (get_or_from_slice_get kept.homes (home - 1) there.home there.home there.at) in
        omega (arith, low, own, home_numbered 1 kept.homes (home - 1) there.home (within home low high) is.numbered)

    news : (l : Id) → 1 ≤ l.home → l.home ≤ length kept.front → (at : IsToldAt a kept.homes told (l.home - 1)) → at.home.home ≡ l.home
        → IsTold (record_at a l) (record_at (view_of kept) l) (find (is_of l) (told_records (record { front = kept.front; purges = kept.purges; homes = told }) l.home))
    news l low high at same =
        let theirs : told_records (record { front = kept.front; purges = kept.purges; homes = told }) l.home ≡ at.part.records.records = ap (λ (o : Option Told). option_map_or (λ (t : Told). t.records.records) o []) at.told_at in
        subst (λ (rs : List Record). IsTold (record_at a l) (record_at (view_of kept) l) (find (is_of l) rs)) (sym theirs)
        (subst (λ (rs : List Record). IsTold (record_at a l) (find (is_of l) rs) (find (is_of l) at.part.records.records)) (sym (home_records kept l.home at.home at.at))
        (subst (λ (n : ℕ). IsTold (found_at n (records_at a.records n) l.num) (found_at n at.home.records l.num) (found_at n at.part.records.records l.num)) same (at.is.1 l.num)))
