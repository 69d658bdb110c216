-- The view of no facts, after it takes what is told, has exactly that.
use Rattle.std.proofs.Common.{◌≡◌, ℕ, zero, suc, ◌-◌, ◌≤◌, Bool, false, List, [], ◌∷◌, Option, Some, None, length, map, find, replicate, max, nat_le, refl, sym, ap, subst, ◌∙◌, arith}
use Rattle.std.specs.Prelude.{slice_get, get_or}
use Rattle.std.specs.Option.{option_map_or}
use Rattle.std.proofs.lemmas.List.{length-map, length-replicate}
use Rattle.std.proofs.lemmas.Bool.Decides.{nat_tests}
use Rattle.state_ids.specs.Ids.{Id}
use Rattle.state_ids.specs.Fronts.{join_fronts, is_covered, count}
use Rattle.state_forest.specs.declared.merging.Told.{Told}
use Rattle.state_forest.specs.declared.record.Record.{Record}
use Rattle.state_forest.specs.Forests.{AreOf, is_of}
use Rattle.state_forest.specs.RecordMerges.{absorbed, is_gone}
use Rattle.state_forest.proofs.OneListOfRecords.{same_records}
use Rattle.theory_history.specs.Merging.{IsAbsorbed, IsTelling, Telling, absorbed_of, told_held, told_records}
use Rattle.theory_history.specs.Views.{View, empty_view, record_at, records_at}
use Rattle.theory_history.proofs.OneViewOfASet.{same_homes, same_views}
use Rattle.state_journal.specs.Reads.{AreNumbered, view_told}
use Rattle.state_journal.proofs.EmptyTables.{empty_at}

joined : (n : ℕ) (front : List ℕ) → length front ≡ n → join_fronts (replicate n 0) front ≡ front
joined zero [] e = refl
joined zero (b ∷ w) e = absurd (omega (arith, e))
joined (suc n) [] e = absurd (omega (arith, e))
joined (suc n) (b ∷ w) e = let most : max 0 b ≡ b = omega arith in ap (λ m. m ∷ join_fronts (replicate n 0) w) most ∙ ap (λ l. b ∷ l) (joined n w (omega (arith, e)))

pub no_count : (n k : ℕ) → get_or (empty_view n).front k 0 ≡ 0
no_count zero k = refl
no_count (suc n) zero = refl
no_count (suc n) (suc k) = no_count n k

pub told_at_home : (homes : List Told) (k : ℕ) → get_or (map (λ (told : Told). told.records.records) homes) k [] ≡ option_map_or (λ (told : Told). told.records.records) (slice_get homes k) []
told_at_home [] k = refl
told_at_home (t ∷ homes) zero = refl
told_at_home (t ∷ homes) (suc k) = told_at_home homes k

uncovered : (n : ℕ) (l : Id) → 1 ≤ l.num → is_covered (replicate n 0) l ≡ false
uncovered n l some = ap (nat_le l.num) (no_count n (l.home - 1)) ∙ grind (arith, nat_tests)

taken : (covered gone : Bool) (o : Option Record) → ((r : Record) → o ≡ Some r → covered ≡ false) → absorbed covered gone None o ≡ o
taken covered gone None free = refl
taken covered gone (Some r) free = rw (free r refl) refl

module _ (n : ℕ) (telling : Telling) (is : IsTelling telling) (counted : length telling.front ≡ n) (order : (home : ℕ) → 1 ≤ home → home ≤ n → AreOf home (told_records telling home)) (numbered : AreNumbered telling) where
  all_taken : (l : Id) → absorbed_of (empty_view n) telling l ≡ find (is_of l) (told_records telling l.home)
  all_taken l =
      let covered = is_covered (replicate n 0) l in
      let gone = is_gone (count telling.front l.home) (told_held telling l.home) l.num in
      let none : record_at (empty_view n) l ≡ None = ap (find (is_of l)) (empty_at n (l.home - 1)) in
      ap (λ o. absorbed covered gone o (find (is_of l) (told_records telling l.home))) none
      ∙ taken covered gone (find (is_of l) (told_records telling l.home)) (λ r found. uncovered n l (numbered l r found))

  records_are : (home : ℕ) → records_at (view_told telling).records home ≡ told_records telling home
  records_are home = told_at_home telling.homes (home - 1)

  pub told_absorbed : IsAbsorbed (empty_view n) telling (view_told telling)
  told_absorbed = record {
    nodes = length-replicate n 0 ∙ sym counted;
    front = sym (joined n telling.front counted);
    purges = sym (joined n telling.purges (is.purges ∙ counted));
    homes = length-map telling.homes _ ∙ is.homes;
    order = λ home some high. subst (AreOf home) (sym (records_are home)) (order home some (omega (arith, high, counted)));
    records = λ l some high. ap (find (is_of l)) (records_are l.home) ∙ sym (all_taken l);
  }

  pub absorbed_told : (c : View) → IsAbsorbed (empty_view n) telling c → c ≡ view_told telling
  absorbed_told c it =
      let front : c.front ≡ telling.front = it.front ∙ joined n telling.front counted in
      let purges : c.purges ≡ telling.purges = it.purges ∙ joined n telling.purges (is.purges ∙ counted) in
      let size : length c.front ≡ n = ap length front ∙ counted in
      same_views c (view_told telling) front purges (same_homes n c.records (view_told telling).records (it.homes ∙ size) (length-map telling.homes _ ∙ is.homes ∙ counted) (λ home some high.
      let own = it.order home some (omega (arith, high, size)) in
      let told = order home some high in
      same_records home (records_at c.records home) (told_records telling home) own.homes told.homes own.ascending told.ascending
      (λ num. it.records (record { home = home; num = num }) some (omega (arith, high, size)) ∙ all_taken (record { home = home; num = num })) ∙ sym (records_are home)))
