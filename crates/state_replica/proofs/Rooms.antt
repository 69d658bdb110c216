-- One changed home of a replica: its records and its room.
use Rattle.std.proofs.Common.{◌≡◌, inl, inr, ◌≤◌, ◌<◌, ◌+◌, ◌-◌, ◌==◌, ℕ, zero, suc, List, [], ◌∷◌, refl, sym, ap, subst, ◌∙◌, Bool, true, false, cond, arith, Some, length, map, get_or, slice_get, set, filter}
use Rattle.std.proofs.lemmas.Bool.{cases_lt}
use Rattle.std.proofs.lemmas.Bool.Decides.{nat_tests}
use Rattle.std.proofs.lemmas.List.{map-set, length-set, get_or-map}
use Rattle.std.proofs.lemmas.Option.{slice_get-get_or, slice_get_past}
use Rattle.std.proofs.Math.Seq.{map-set_same}
use Rattle.std.specs.List.{AllByRecursion}
use Rattle.state_forest.specs.declared.record.Record.{Record}
use Rattle.state_forest.specs.Forests.{AreOf, HomeRecords}
use Rattle.state_stamps.specs.Indexes.{AreIndexesOf, HeldIndex}
use Rattle.state_replica.specs.Replicas.{ReplicaState, IsReplicaState, KeepsRoom, AreHomesFrom, count_of_home, records_in, spare_at, stamps_in}

pub homes_with : (k : ℕ) (homes : List HomeRecords) (i : ℕ) (new d : HomeRecords) → i < length homes → new.home ≡ (get_or homes i d).home → AreHomesFrom k homes → AreHomesFrom k (set homes i new)
homes_with k [] i new d e same are = tt
homes_with k (h ∷ homes) zero new d e same are = (same ∙ are.0, are.1)
homes_with k (h ∷ homes) (suc i) new d e same are = (are.0, homes_with (k + 1) homes i new d (omega (arith, e)) same are.1)

-- a home's records are of it and in order
abbrev IsOrdered : HomeRecords → Type 0
IsOrdered home = AreOf home.home home.records

-- the records of each home are of it and in order
pub ordered_at : (homes : List HomeRecords) (i : ℕ) (d : HomeRecords) → i < length homes → AllByRecursion (λ (h : HomeRecords). AreOf h.home h.records) homes → AreOf (get_or homes i d).home (get_or homes i d).records
ordered_at [] i d e each = absurd (omega (arith, e))
ordered_at (h ∷ homes) zero d e each = each.0
ordered_at (h ∷ homes) (suc i) d e each = ordered_at homes i d (omega (arith, e)) each.1

-- the same for a home that is named by what stands at its place
pub ordered_here : (homes : List HomeRecords) (i : ℕ) (h : HomeRecords) → i < length homes → h ≡ get_or homes i h → AllByRecursion (λ (x : HomeRecords). AreOf x.home x.records) homes → AreOf h.home h.records
ordered_here homes i h e is each = subst IsOrdered (sym is) (ordered_at homes i h e each)

pub ordered_with : (homes : List HomeRecords) (i : ℕ) (new : HomeRecords) → AreOf new.home new.records → AllByRecursion (λ (h : HomeRecords). AreOf h.home h.records) homes → AllByRecursion (λ (h : HomeRecords). AreOf h.home h.records) (set homes i new)
ordered_with [] i new here each = tt
ordered_with (h ∷ homes) zero new here each = (here, each.1)
ordered_with (h ∷ homes) (suc i) new here each = (each.0, ordered_with homes i new here each.1)

-- if only the room of a home changed, the records stay
pub same_records : (homes : List HomeRecords) (i : ℕ) (new d : HomeRecords) → new.records ≡ (get_or homes i d).records → records_in (set homes i new) ≡ records_in homes
same_records homes i new d e = map-set_same (λ (h : HomeRecords). h.records) homes i new d e

-- after the change there is still one home for each node, with its records in order, and the index
-- is still theirs
pub kept_with : (front purges : List ℕ) (homes : List HomeRecords) (index : HeldIndex) (i : ℕ) (new d : HomeRecords) → i < length homes → new.home ≡ (get_or homes i d).home → new.records ≡ (get_or homes i d).records → AreOf new.home new.records →
    IsReplicaState (record { front = front; purges = purges; homes = homes; index = index }) → IsReplicaState (record { front = front; purges = purges; homes = set homes i new; index = index })
kept_with front purges homes index i new d e same records order is =
    record {
      purges = is.purges;
      homes = length-set homes i new ∙ is.homes;
      numbered = homes_with 1 homes i new d e same is.numbered;
      ordered = ordered_with homes i new order is.ordered;
      origins = is.origins;
      indexed = subst (λ (rs : List (List Record)). AreIndexesOf index.origins (stamps_in rs)) (sym (same_records homes i new d records)) is.indexed;
    }

-- the number of a home
pub home_numbered : (k : ℕ) (homes : List HomeRecords) (i : ℕ) (d : HomeRecords) → i < length homes → AreHomesFrom k homes → (get_or homes i d).home ≡ k + i
home_numbered k [] i d e are = absurd (omega (arith, e))
home_numbered k (h ∷ homes) zero d e are = omega (arith, are.0)
home_numbered k (h ∷ homes) (suc i) d e are = omega (arith, home_numbered (k + 1) homes i d (omega (arith, e)) are.1)

-- the records of the homes after one was changed
pub records_with : (homes : List HomeRecords) (i : ℕ) (new : HomeRecords) → map (λ (h : HomeRecords). h.records) (set homes i new) ≡ set (map (λ (h : HomeRecords). h.records) homes) i new.records
records_with homes i new = map-set (λ (h : HomeRecords). h.records) homes i new

pub records_of : (homes : List HomeRecords) (i : ℕ) (d : HomeRecords) → i < length homes → get_or (map (λ (h : HomeRecords). h.records) homes) i [] ≡ (get_or homes i d).records
records_of homes i d e = get_or-map (λ (h : HomeRecords). h.records) homes i d [] e

set_here : (homes : List HomeRecords) (i : ℕ) (new : HomeRecords) → i < length homes → slice_get (set homes i new) i ≡ Some new
set_here [] i new e = absurd (omega (arith, e))
set_here (h ∷ homes) zero new e = refl
set_here (h ∷ homes) (suc i) new e = set_here homes i new (omega (arith, e))

set_there : (homes : List HomeRecords) (i j : ℕ) (new : HomeRecords) → (i ≡ j → ⊥) → slice_get (set homes i new) j ≡ slice_get homes j
set_there [] i j new e = refl
set_there (h ∷ homes) zero zero new e = absurd (e refl)
set_there (h ∷ homes) zero (suc j) new e = refl
set_there (h ∷ homes) (suc i) zero new e = refl
set_there (h ∷ homes) (suc i) (suc j) new e = set_there homes i j new (λ same. e (ap suc same))

-- two homes that are named by what stands at one place are the same
pub here_same : (homes : List HomeRecords) (i : ℕ) (h k : HomeRecords) → i < length homes → h ≡ get_or homes i h → k ≡ get_or homes i k → h ≡ k
here_same [] i h k e is was = absurd (omega (arith, e))
here_same (x ∷ homes) zero h k e is was = is ∙ sym was
here_same (x ∷ homes) (suc i) h k e is was = here_same homes i h k (omega (arith, e)) is was

-- the room of a home
pub spare_is : (homes : List HomeRecords) (home : ℕ) (d : HomeRecords) → home - 1 < length homes → spare_at homes home ≡ (get_or homes (home - 1) d).spare
spare_is homes home d e = let there = slice_get-get_or homes (home - 1) d e in rw there refl

-- and the room of each home after one was changed
pub spare_with : (homes : List HomeRecords) (i : ℕ) (new d : HomeRecords) (more : ℕ) → i < length homes → (get_or homes i d).spare ≤ new.spare + more →
    (home : ℕ) → 1 ≤ home → spare_at homes home ≤ spare_at (set homes i new) home + cond ((i + 1) == home) more 0
spare_with homes i new d more e room home some = by ((i + 1) == home) refl
  where
    by : (b : Bool) → ((i + 1) == home) ≡ b → spare_at homes home ≤ spare_at (set homes i new) home + cond b more 0
    by true t =
        let same : home - 1 ≡ i = grind (arith, nat_tests, t) in
        let old : slice_get homes (home - 1) ≡ Some (get_or homes i d) = ap (slice_get homes) same ∙ slice_get-get_or homes i d e in
        let here : slice_get (set homes i new) (home - 1) ≡ Some new = ap (slice_get (set homes i new)) same ∙ set_here homes i new e in
        rw (old, here) room
    by false t =
        let other : i ≡ home - 1 → ⊥ = λ s. (let wrong : ⊥ = grind (arith, nat_tests, t, s, some) in wrong) in
        let there = set_there homes i (home - 1) new other in
        rw there (omega arith)

-- Counting the records of a home

pub count_here : (r : Record) (rs : List Record) → 1 ≤ count_of_home r.home (r ∷ rs)
count_here r rs = by (r.home == r.home) refl
  where
    by : (b : Bool) → (r.home == r.home) ≡ b → 1 ≤ length (cond b (r ∷ filter (λ (q : Record). q.home == r.home) rs) (filter (λ (q : Record). q.home == r.home) rs))
    by true t = omega arith
    by false t = absurd (grind (arith, nat_tests, t))

-- one of the records is put, and there is still room for the others
pub count_first : (home : ℕ) (r : Record) (rs : List Record) (old new : ℕ) → count_of_home home (r ∷ rs) ≤ old → old ≤ new + cond (r.home == home) 1 0 → count_of_home home rs ≤ new
count_first home r rs old new e room = by (r.home == home) e room
  where
    by : (b : Bool) → length (cond b (r ∷ filter (λ (q : Record). q.home == home) rs) (filter (λ (q : Record). q.home == home) rs)) ≤ old → old ≤ new + cond b 1 0 → count_of_home home rs ≤ new
    by true e room = omega (arith, e, room)
    by false e room = omega (arith, e, room)

pub none_left : {X : Type 0} (xs : List X) → length xs ≡ 0 → xs ≡ []
none_left [] e = refl
none_left (x ∷ xs) e = absurd (omega (arith, e))

pub spare_new : (homes : List HomeRecords) (home : ℕ) (new : HomeRecords) → home - 1 < length homes → spare_at (set homes (home - 1) new) home ≡ new.spare
spare_new homes home new e = let there = set_here homes (home - 1) new e in rw there refl

-- keeping room is transitive
pub keeps_on : (a b c : ReplicaState) → KeepsRoom a b → KeepsRoom b c → KeepsRoom a c
keeps_on a b c first then = record {
  homes = λ home some. omega (arith, first.homes home some, then.homes home some);
  index = omega (arith, first.index, then.index);
}

-- Little room

-- a home that doesn't exist has no room
pub spare_past : (homes : List HomeRecords) (home : ℕ) → length homes < home → spare_at homes home ≤ 16
spare_past homes home past = let none = slice_get_past homes (home - 1) (omega (arith, past)) in rw none (omega arith)

-- one more home has little room
pub spare_next : (old new : List HomeRecords) (place : ℕ) → ((home : ℕ) → 1 ≤ home → home ≤ place → spare_at old home ≤ 16) → spare_at new (place + 1) ≤ 16
    → ((home : ℕ) → 1 ≤ home → (home ≡ place + 1 → ⊥) → spare_at new home ≡ spare_at old home) → (home : ℕ) → 1 ≤ home → home ≤ place + 1 → spare_at new home ≤ 16
spare_next old new place so_far own others home some high = elim (cases_lt place home) [
  | inl last ↦ let is : place + 1 ≡ home = omega (arith, last, high) in subst (λ (h : ℕ). spare_at new h ≤ 16) is own
  | inr before ↦ omega (arith, others home some (λ is. omega (arith, is, before)), so_far home some before)
]

-- so all homes have little room, once each of them has
pub spare_all : (homes : List HomeRecords) (place : ℕ) → length homes ≤ place → ((home : ℕ) → 1 ≤ home → home ≤ place → spare_at homes home ≤ 16) → (home : ℕ) → 1 ≤ home → spare_at homes home ≤ 16
spare_all homes place all so_far home some = elim (cases_lt place home) [
  | inl past ↦ spare_past homes home (omega (arith, past, all))
  | inr within ↦ so_far home some within
]
