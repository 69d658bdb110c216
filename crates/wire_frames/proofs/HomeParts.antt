-- what is told of each home since a base
use Rattle.std.proofs.Common.{◌≡◌, ◌<◌, ◌+◌, ◌-◌, ℕ, zero, suc, List, [], ◌∷◌, ◌++◌, refl, sym, ap, subst, ◌∙◌, append_assoc, Bool, true, false, cond, not, arith, Some, None, filter, get_or, length, map, nat_lt}
use Rattle.std.proofs.lemmas.List.{length-map, same_lists}
use Rattle.std.specs.List.{AllByRecursion}
use Rattle.std.specs.Prelude.{◌↔◌, IsTrue}
use Rattle.state_ids.specs.Fronts.{IsBelow, count}
use Rattle.state_forest.specs.declared.merging.Told.{Told}
use Rattle.state_forest.specs.declared.record.Record.{Record}
use Rattle.state_forest.specs.Forests.{AreOf, HomeRecords, IsAscending}
use Rattle.state_forest.specs.Records.{nodes_to}
use Rattle.state_forest.proofs.Removals.{filter_are_of}
use Rattle.theory_history.specs.Merging.{AreToldFrom, IsTelling}
use Rattle.state_replica.specs.Replicas.{AreHomesFrom, IsReplicaState, ReplicaState, view_of}
use Rattle.theory_history.specs.Views.{records_at}
use Rattle.theory_history.proofs.Basics.{length_nodes}
use Rattle.theory_history.proofs.MergedRecords.{nth_of}
use Rattle.state_replica.proofs.Rooms.{home_numbered}
use Rattle.wire_frames.specs.Frames.{frame_of, is_beyond}
use Rattle.wire_frames.specs.Sending.{HomePart, frame_told, part_of, part_since}
use Rattle.wire_frames.proofs.Beyond.{below_from, beyond_from}

-- Records

pub beyond_is : (base v : List ℕ) (b : Bool) → (IsTrue b ↔ IsBelow v base) → not b ≡ is_beyond base v
beyond_is base v true is = sym (beyond_from base v (is.0 refl))
beyond_is base v false is = by (is_beyond base v) refl
  where
    by : (c : Bool) → is_beyond base v ≡ c → true ≡ c
    by true e = refl
    by false e = absurd (let clash = is.1 (below_from base v e) in cc)

-- the next record is added if it passes
pub next_passing : (p : Record → Bool) (since left rest new all : List Record) (r : Record) → left ≡ r ∷ rest → since ++ filter p left ≡ all → new ≡ cond (p r) (since ++ r ∷ []) since → new ++ filter p rest ≡ all
next_passing p since left rest new all r steps so_far added =
    ap (λ (qs : List Record). qs ++ filter p rest) added ∙ by (p r) ∙ ap (λ (qs : List Record). since ++ filter p qs) (sym steps) ∙ so_far
  where
    by : (b : Bool) → cond b (since ++ r ∷ []) since ++ filter p rest ≡ since ++ cond b (r ∷ filter p rest) (filter p rest)
    by true = append_assoc since (r ∷ []) (filter p rest)
    by false = refl

behind : (xs ys : List Record) (r : Record) (n : ℕ) → AllByRecursion (λ (q : Record). n < q.num) (xs ++ r ∷ ys) → n < r.num
behind [] ys r n all = all.0
behind (x ∷ xs) ys r n all = behind xs ys r n all.1

lesser : (xs ys : List Record) (r : Record) → IsAscending (xs ++ r ∷ ys) → AllByRecursion (λ (q : Record). q.num < r.num) xs
lesser [] ys r up = tt
lesser (x ∷ xs) ys r up = (behind xs ys r x.num up.0, lesser xs ys r up.1)

-- the records that passed before one that passes have lesser numbers than it
pub passed_before : (p : Record → Bool) (home : ℕ) (rs since left rest : List Record) (r : Record) → AreOf home rs → left ≡ r ∷ rest → since ++ filter p left ≡ filter p rs → p r ≡ true → AllByRecursion (λ (q : Record). q.num < r.num) since
passed_before p home rs since left rest r are steps so_far pass =
    let here : filter p left ≡ r ∷ filter p rest = ap (filter p) steps ∙ ap (λ (b : Bool). cond b (r ∷ filter p rest) (filter p rest)) pass in
    lesser since (filter p rest) r (subst IsAscending (sym so_far ∙ ap (λ (qs : List Record). since ++ qs) here) (filter_are_of p home rs are).ascending)

-- Lists

map_map : {X Y Z : Type 0} (f : Y → Z) (g : X → Y) (xs : List X) → map f (map g xs) ≡ map (λ x. f (g x)) xs
map_map f g [] = refl
map_map f g (x ∷ xs) = ap (λ zs. f (g x) ∷ zs) (map_map f g xs)

get_map : {X Y : Type 0} (f : X → Y) (xs : List X) (i : ℕ) (d : Y) (e : X) → i < length xs → get_or (map f xs) i d ≡ f (get_or xs i e)
get_map f [] i d e within = absurd (omega (arith, within))
get_map f (x ∷ xs) zero d e within = refl
get_map f (x ∷ xs) (suc i) d e within = get_map f xs i d e (omega (arith, within))

-- The frame

-- what is made of each home of a replica, in order
homes_of : {X : Type 0} (g : ℕ → List Record → X) (kept : ReplicaState) → IsReplicaState kept → map (λ (h : HomeRecords). g h.home h.records) kept.homes ≡ map (λ home. g home (records_at (view_of kept).records home)) (nodes_to (length kept.front))
homes_of {X} g kept is =
    same_lists (map of_home kept.homes) (map at_home (nodes_to (length kept.front)))
    (length-map kept.homes of_home ∙ is.homes ∙ sym (length-map (nodes_to (length kept.front)) at_home ∙ length_nodes (length kept.front)))
    (λ i d there. one i d (omega (arith, there, length-map kept.homes of_home)))
  where
    of_home : HomeRecords → X
    of_home h = g h.home h.records

    at_home : ℕ → X
    at_home home = g home (records_at (view_of kept).records home)

    one : (i : ℕ) (d : X) → i < length kept.homes → get_or (map of_home kept.homes) i d ≡ get_or (map at_home (nodes_to (length kept.front))) i d
    one i d within =
        let none : HomeRecords = record { home = 0; records = []; spare = 0 } in
        let h = get_or kept.homes i none in
        let number : h.home ≡ suc i = omega (arith, home_numbered 1 kept.homes i none within is.numbered) in
        let place : suc i - 1 ≡ i = omega arith in
        let mine : records_at (view_of kept).records (suc i) ≡ h.records = ap (λ (k : ℕ). get_or (view_of kept).records k []) place ∙ get_map (λ (r : HomeRecords). r.records) kept.homes i [] none within in
        get_map of_home kept.homes i d none within
        ∙ ap (λ (k : ℕ). g k h.records) number
        ∙ ap (g (suc i)) (sym mine)
        ∙ sym (nth_of at_home d (length kept.front) i (omega (arith, within, is.homes)))

-- what is told of each home is what the frame has
pub frame_parts : (kept : ReplicaState) (base : List ℕ) (told : List Told) → IsReplicaState kept → map part_of told ≡ map (part_since base kept.purges) kept.homes
    → frame_told base (record { front = kept.front; purges = kept.purges; homes = told }) ≡ frame_of (view_of kept) base
frame_parts kept base told is parts =
    ap (λ live. record { base = base; front = kept.front; purges = kept.purges; live = live; records = map (λ (t : Told). t.records.records) told })
    (of_parts (λ (p : HomePart). p.live) ∙ homes_of (λ home rs. cond (nat_lt (count base home) (count kept.purges home)) (Some (map (λ (r : Record). r.num) rs)) None) kept is)
    ∙ ap (λ records. record { base = base; front = kept.front; purges = kept.purges; live = (frame_of (view_of kept) base).live; records = records })
    (of_parts (λ (p : HomePart). p.records) ∙ homes_of (λ home rs. filter (λ r. is_beyond base r.stamps) rs) kept is)
  where
    of_parts : {X : Type 0} (f : HomePart → X) → map (λ t. f (part_of t)) told ≡ map (λ h. f (part_since base kept.purges h)) kept.homes
    of_parts f = sym (map_map f part_of told) ∙ ap (map f) parts ∙ map_map f (part_since base kept.purges) kept.homes

told_from : (base purges : List ℕ) (k : ℕ) (told : List Told) (homes : List HomeRecords) → map part_of told ≡ map (part_since base purges) homes → AreHomesFrom k homes → AreToldFrom k told
told_from base purges k [] homes e are = tt
told_from base purges k (t ∷ told) [] e are = absurd cc
told_from base purges k (t ∷ told) (h ∷ homes) e are =
    let first : part_of t ≡ part_since base purges h = cc in
    let rest : map part_of told ≡ map (part_since base purges) homes = cc in
    (ap (λ (p : HomePart). p.home) first ∙ are.0, told_from base purges (k + 1) told homes rest are.1)

-- and what is told has one part for each node
pub parts_telling : (kept : ReplicaState) (base : List ℕ) (told : List Told) → IsReplicaState kept → map part_of told ≡ map (part_since base kept.purges) kept.homes
    → IsTelling (record { front = kept.front; purges = kept.purges; homes = told })
parts_telling kept base told is parts = record {
  purges = is.purges;
  homes = sym (length-map told part_of) ∙ ap (λ (ps : List HomePart). length ps) parts ∙ length-map kept.homes (part_since base kept.purges) ∙ is.homes;
  numbered = told_from base kept.purges 1 told kept.homes parts is.numbered;
}
