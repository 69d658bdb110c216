-- Replicas that hold the same.
use Rattle.std.proofs.Common.{◌≡◌, ◌≤◌, ◌<◌, ◌+◌, ◌∷◌, ℕ, Bool, true, List, [], take, length, get_or, refl, sym, ap, subst, ◌∙◌, arith}
use Rattle.std.specs.List.{AllByRecursion, AllZip}
use Rattle.std.proofs.lemmas.List.{length-map, take_all, take_more_same}
use Rattle.state_ids.specs.contracts.front.FrontPartialEq.TheImpl as of_fronts
use Rattle.state_forest.specs.declared.record.Record.{Record}
use Rattle.state_forest.specs.Forests.{AreOf, HomeRecords}
use Rattle.state_forest.proofs.EqualRecords.{front_same, front_own}
use Rattle.state_stamps.specs.declared.stamp_entry.StampEntry.{StampEntry}
use Rattle.state_stamps.specs.Indexes.{AreIndexesOf, HeldIndex}
use Rattle.state_replica.specs.Replicas.{AreHomesFrom, IsReplicaState, ReplicaState, records_in, stamps_in, view_of}
use Rattle.theory_history.specs.Views.{View}
use Rattle.state_replica.proofs.Rooms.{home_numbered, records_of}

-- the first n homes have the same records
abbrev pub AreSameTo : ℕ → List HomeRecords → List HomeRecords → Type 0
AreSameTo n homes others = take n (records_in homes) ≡ take n (records_in others)

record_here : (homes : List HomeRecords) (i : ℕ) (h : HomeRecords) → i < length homes → h ≡ get_or homes i h → get_or (records_in homes) i [] ≡ h.records
record_here homes i h within is = records_of homes i h within ∙ ap (λ (x : HomeRecords). x.records) (sym is)

-- one more home has the same records
pub same_more : (homes others : List HomeRecords) (i : ℕ) (h k : HomeRecords) → i < length homes → i < length others → h ≡ get_or homes i h → k ≡ get_or others i k → h.records ≡ k.records → AreSameTo i homes others → AreSameTo (i + 1) homes others
same_more homes others i h k within inside is was same so_far =
    take_more_same (records_in homes) (records_in others) i []
    (omega (arith, within, length-map homes (λ (h : HomeRecords). h.records))) (omega (arith, inside, length-map others (λ (h : HomeRecords). h.records))) so_far
    (record_here homes i h within is ∙ same ∙ sym (record_here others i k inside was))

-- all homes have the same records
pub same_all : (homes others : List HomeRecords) (i : ℕ) → length homes ≤ i → length others ≤ i → AreSameTo i homes others → records_in homes ≡ records_in others
same_all homes others i all every so_far =
    sym (take_all i (records_in homes) (omega (arith, all, length-map homes (λ (h : HomeRecords). h.records))))
    ∙ so_far
    ∙ take_all i (records_in others) (omega (arith, every, length-map others (λ (h : HomeRecords). h.records)))

-- if all homes have the same records, each of them has
pub same_here : (homes others : List HomeRecords) (i : ℕ) (h k : HomeRecords) → i < length homes → i < length others → h ≡ get_or homes i h → k ≡ get_or others i k → AreHomesFrom 1 homes → AreHomesFrom 1 others → records_in homes ≡ records_in others → (h.home ≡ k.home) × (h.records ≡ k.records)
same_here homes others i h k within inside is was numbered counted same = (
  ap (λ (x : HomeRecords). x.home) is ∙ home_numbered 1 homes i h within numbered ∙ sym (home_numbered 1 others i k inside counted) ∙ ap (λ (x : HomeRecords). x.home) (sym was),
  sym (record_here homes i h within is) ∙ ap (λ (rs : List (List Record)). get_or rs i []) same ∙ record_here others i k inside was,
)

-- what `==` says of two fronts
pub front_told : (v w front other : List ℕ) (told : Bool) → v ≡ front → w ≡ other → told ≡ of_fronts.ghosts.eq v w → (told ≡ true → front ≡ other) × (front ≡ other → told ≡ true)
front_told v w front other told is was e = (
  λ yes_. sym is ∙ front_same v w (sym e ∙ yes_) ∙ was,
  λ same. e ∙ ap (λ (x : List ℕ). of_fronts.ghosts.eq v x) (was ∙ sym same ∙ sym is) ∙ front_own v,
)

pub same_view : (kept other : ReplicaState) → kept.front ≡ other.front → kept.purges ≡ other.purges → (view_of kept).records ≡ (view_of other).records → view_of kept ≡ view_of other
same_view kept other fronts purges records =
    let made : List ℕ → List ℕ → List (List Record) → View = λ f p r. record { front = f; purges = p; records = r } in
    ap (λ (f : List ℕ). made f kept.purges (view_of kept).records) fronts
    ∙ ap (λ (p : List ℕ). made other.front p (view_of kept).records) purges
    ∙ ap (made other.front other.purges) records

-- Copies

abbrev IsCopy : HomeRecords → HomeRecords → Type 0
IsCopy h k = (k.home ≡ h.home) × (k.records ≡ h.records)

copied_numbers : (n : ℕ) (homes copies : List HomeRecords) → AllZip IsCopy homes copies → AreHomesFrom n homes → AreHomesFrom n copies
copied_numbers n [] [] each are = tt
copied_numbers n [] (k ∷ ks) each are = absurd each
copied_numbers n (h ∷ hs) [] each are = absurd each
copied_numbers n (h ∷ hs) (k ∷ ks) each are = (each.0.0 ∙ are.0, copied_numbers (n + 1) hs ks each.1 are.1)

copied_order : (homes copies : List HomeRecords) → AllZip IsCopy homes copies → AllByRecursion (λ (h : HomeRecords). AreOf h.home h.records) homes → AllByRecursion (λ (h : HomeRecords). AreOf h.home h.records) copies
copied_order [] [] each order = tt
copied_order [] (k ∷ ks) each order = absurd each
copied_order (h ∷ hs) [] each order = absurd each
copied_order (h ∷ hs) (k ∷ ks) each order = (
  subst (λ (n : ℕ). AreOf n k.records) (sym each.0.0) (subst (λ (rs : List Record). AreOf h.home rs) (sym each.0.1) order.0),
  copied_order hs ks each.1 order.1,
)

copied_length : (homes copies : List HomeRecords) → AllZip IsCopy homes copies → length copies ≡ length homes
copied_length [] [] each = refl
copied_length [] (k ∷ ks) each = absurd each
copied_length (h ∷ hs) [] each = absurd each
copied_length (h ∷ hs) (k ∷ ks) each = let rest : length ks ≡ length hs = copied_length hs ks each.1 in omega (arith, rest)

-- copies of homes have the same records
pub copied_records : (homes copies : List HomeRecords) → AllZip IsCopy homes copies → records_in copies ≡ records_in homes
copied_records [] [] each = refl
copied_records [] (k ∷ ks) each = absurd each
copied_records (h ∷ hs) [] each = absurd each
copied_records (h ∷ hs) (k ∷ ks) each = ap (λ (rs : List Record). rs ∷ records_in ks) each.0.1 ∙ ap (λ (rest : List (List Record)). h.records ∷ rest) (copied_records hs ks each.1)

-- and there is one copy for each node, in order, with the same index
pub copied_kept : (front purges : List ℕ) (homes copies : List HomeRecords) (index copy : HeldIndex) → AllZip IsCopy homes copies → copy.origins ≡ index.origins → IsReplicaState (record { front = front; purges = purges; homes = homes; index = index }) → IsReplicaState (record { front = front; purges = purges; homes = copies; index = copy })
copied_kept front purges homes copies index copy each same is = record {
  purges = is.purges;
  homes = copied_length homes copies each ∙ is.homes;
  numbered = copied_numbers 1 homes copies each is.numbered;
  ordered = copied_order homes copies each is.ordered;
  origins = ap (λ (os : List (List StampEntry)). length os) same ∙ is.origins;
  indexed =
      subst (λ (os : List (List StampEntry)). AreIndexesOf os (stamps_in (records_in copies))) (sym same)
      (subst (λ (rs : List (List Record)). AreIndexesOf index.origins (stamps_in rs)) (sym (copied_records homes copies each)) is.indexed);
}
