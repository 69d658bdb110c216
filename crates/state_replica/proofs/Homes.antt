-- The homes of a replica: which records stand for the LRAs of a home.
use Rattle.std.proofs.Common.{◌≡◌, ◌≤◌, ◌<◌, ◌+◌, ◌-◌, ℕ, zero, suc, List, [], ◌∷◌, refl, sym, ap, subst, ◌∙◌, arith, Option, Some, None, length, map, get_or, slice_get, find, Bor, IfSome}
use Rattle.std.proofs.lemmas.Option.{slice_get-map, get_or_from_slice_get, slice_get_within, unwrap_or-slice_get}
use Rattle.std.specs.Option.{option_copied}
use Rattle.state_ids.specs.Ids.{Id}
use Rattle.state_facts.specs.declared.fact.Fact.{Fact}
use Rattle.state_forest.specs.declared.record.Record.{Record}
use Rattle.state_forest.specs.Forests.{AreOf, HomeRecords, is_of}
use Rattle.state_forest.specs.Standing.{Stands}
use Rattle.theory_history.specs.Views.{AreRecords, IsInOrder, StandsFor, record_at, records_at}
use Rattle.theory_history.proofs.Covered.{found_of}
use Rattle.state_replica.specs.Replicas.{ReplicaState, IsReplicaState, AreHomesFrom, view_of}
use Rattle.state_replica.proofs.Rooms.{home_numbered, ordered_at, records_of}

-- the records of a replica's view are in order
pub kept_in_order : (kept : ReplicaState) → IsReplicaState kept → IsInOrder (view_of kept)
kept_in_order kept is home low high =
    let none : HomeRecords = record { home = home; records = []; spare = 0 } in
    let within : home - 1 < length kept.homes = omega (arith, low, high, is.homes) in
    let number : (get_or kept.homes (home - 1) none).home ≡ home = omega (arith, low, home_numbered 1 kept.homes (home - 1) none within is.numbered) in
    subst (λ (rs : List Record). AreOf home rs) (sym (records_of kept.homes (home - 1) none within))
    (subst (λ (n : ℕ). AreOf n (get_or kept.homes (home - 1) none).records) number (ordered_at kept.homes (home - 1) none within is.ordered))

-- the same for a replica that was opened
pub opened_in_order : (inside kept : ReplicaState) → inside ≡ kept → IsReplicaState inside → IsInOrder (view_of kept)
opened_in_order inside kept same is = kept_in_order kept (subst IsReplicaState same is)

-- the number of a home that is there is one of the nodes
pub home_within : (kept : ReplicaState) (home : ℕ) (f : HomeRecords) → IsReplicaState kept → 1 ≤ home → slice_get kept.homes (home - 1) ≡ Some f → home ≤ length kept.front
home_within kept home f is some at = omega (arith, some, is.homes, slice_get_within kept.homes (home - 1) f at)

-- the records of the home are those of the view
pub home_records : (kept : ReplicaState) (home : ℕ) (f : HomeRecords) → slice_get kept.homes (home - 1) ≡ Some f → records_at (view_of kept).records home ≡ f.records
home_records kept home f at =
    get_or_from_slice_get (map (λ (h : HomeRecords). h.records) kept.homes) (home - 1) f.records []
    (slice_get-map (λ (h : HomeRecords). h.records) kept.homes (home - 1) ∙ rw at refl)

-- and they stand for the home's LRAs
pub stands_here : (kept : ReplicaState) (S : List Fact) (home : ℕ) (f : HomeRecords) → IsReplicaState kept → StandsFor S (view_of kept) → 1 ≤ home → slice_get kept.homes (home - 1) ≡ Some f → AreRecords (length kept.front) S home f.records
stands_here kept S home f is stands some at =
    subst (λ (rs : List Record). AreRecords (length kept.front) S home rs) (home_records kept home f at)
    (stands.records home some (home_within kept home f is some at))

-- the record of l is found among its home's
pub found_here : (kept : ReplicaState) (l : Id) (f : HomeRecords) → slice_get kept.homes (l.home - 1) ≡ Some f → record_at (view_of kept) l ≡ find (is_of l) f.records
found_here kept l f at = ap (find (is_of l)) (home_records kept l.home f at)

-- and no record is found if there is no such home
pub lost_here : (kept : ReplicaState) (l : Id) → slice_get kept.homes (l.home - 1) ≡ None → record_at (view_of kept) l ≡ None
lost_here kept l none =
    let gone : records_at (view_of kept).records l.home ≡ [] = past_default (view_of kept).records (l.home - 1) (slice_get-map (λ (h : HomeRecords). h.records) kept.homes (l.home - 1) ∙ rw none refl) in
    by (records_at (view_of kept).records l.home) gone
  where
    past_default : (xs : List (List Record)) (i : ℕ) → slice_get xs i ≡ None → get_or xs i [] ≡ []
    past_default xs i e = sym (unwrap_or-slice_get xs i []) ∙ rw e refl

    by : (rs : List Record) → rs ≡ [] → find (is_of l) rs ≡ None
    by [] e = refl
    by (r ∷ rs) e = absurd cc

homes_numbered : (k : ℕ) (homes : List HomeRecords) (i : ℕ) (f : HomeRecords) → AreHomesFrom k homes → slice_get homes i ≡ Some f → f.home ≡ k + i
homes_numbered k [] i f are e = absurd cc
homes_numbered k (h ∷ homes) zero f are e = let same : h ≡ f = cc in ap (λ (x : HomeRecords). x.home) (sym same) ∙ omega (arith, are.0)
homes_numbered k (h ∷ homes) (suc i) f are e = omega (arith, homes_numbered (k + 1) homes i f are.1 e)

-- the home at a place has the number of its place
pub home_is : (kept : ReplicaState) (home : ℕ) (o : Option (Bor HomeRecords)) → IsReplicaState kept → 1 ≤ home → option_copied o ≡ slice_get kept.homes (home - 1) → IfSome o (λ found. found.now.home ≡ home)
home_is kept home None is some e = tt
home_is kept home (Some f) is some e = omega (arith, some, homes_numbered 1 kept.homes (home - 1) f.now is.numbered (sym e))

-- the records of a home stand for its LRAs, whatever number the home is given by
pub stands_at_home : (kept : ReplicaState) (S : List Fact) (home : ℕ) (f : HomeRecords) → IsReplicaState kept → StandsFor S (view_of kept) → 1 ≤ home → f.home ≡ home → slice_get kept.homes (home - 1) ≡ Some f → Stands (length kept.front) f.home S f.records
stands_at_home kept S home f is stands some same at = rw same (stands_here kept S home f is stands some at).stands

-- the record that is found of l is of l's home
pub record_of_home : (l : Id) (rs : List Record) (nodes : ℕ) (o : Option (Bor Record)) → l.home ≤ nodes → option_copied o ≡ find (is_of l) rs → IfSome o (λ found. (found.now.home ≡ l.home) × (l.home ≤ nodes))
record_of_home l rs nodes None there e = tt
record_of_home l rs nodes (Some r) there e = (found_of l rs r.now (sym e), there)
