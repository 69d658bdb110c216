-- what is told of each home, after each entry beyond a base was looked at
use Rattle.std.proofs.Common.{◌≡◌, ◌↔◌, inl, inr, ◌≤◌, ◌<◌, ◌+◌, ◌-◌, ◌||◌, ℕ, zero, suc, List, [], ◌∷◌, ◌++◌, refl, sym, ap, subst, ◌∙◌, Bool, true, false, cond, arith, Option, Some, None, filter, find, get_or, length, map, nat_lt}
use Rattle.std.specs.Prelude.{IfSome, slice_get}
use Rattle.std.specs.Option.{option_map}
use Rattle.std.specs.List.{AllByRecursion, list_any}
use Rattle.std.proofs.lemmas.List.{get_or_past, length-map, same_lists}
use Rattle.std.proofs.lemmas.Bool.Decides.{nat_tests}
use Rattle.state_ids.specs.Ids.{Id, same_id}
use Rattle.state_ids.specs.Fronts.{count}
use Rattle.state_facts.proofs.Membership.{any_from, any_gives, same_bools}
use Rattle.state_forest.specs.declared.merging.Told.{Told}
use Rattle.state_forest.specs.declared.record.Record.{Record}
use Rattle.state_forest.specs.Forests.{AreOf, HomeRecords, is_of}
use Rattle.state_forest.specs.RecordMerges.{held_numbers}
use Rattle.state_forest.specs.Records.{nodes_to}
use Rattle.state_forest.proofs.NumberedMembers.{same_is, same_self}
use Rattle.state_forest.proofs.OneListOfRecords.{same_records}
use Rattle.state_forest.proofs.Removals.{filter_are_of}
use Rattle.theory_history.proofs.Basics.{less_by}
use Rattle.state_stamps.specs.declared.stamp_entry.StampEntry.{StampEntry}
use Rattle.state_stamps.specs.Entries.{In, entry_of, id_of}
use Rattle.state_stamps.specs.Indexes.{stamp_at}
use Rattle.state_replica.specs.Replicas.{AreHomesFrom}
use Rattle.wire_frames.specs.Frames.{is_beyond}
use Rattle.wire_frames.specs.Sending.{HomePart, part_of, part_since, part_without}
use Rattle.wire_frames.specs.Telling.{AreHomes, AreTold, homes_told, is_listed, is_newer, is_newer_to, record_in, told_too}
use Rattle.wire_frames.proofs.Beyond.{in_nodes, less_from, nodes_in}
use Rattle.wire_frames.proofs.Filters.{find_passing, passed}

-- Entries

listed_from : (l : Id) (es : List StampEntry) (e : StampEntry) → In e es → same_id (id_of e) l ≡ true → is_listed es l ≡ true
listed_from l [] e i t = absurd i
listed_from l (q ∷ es) e (inl s) t = let at : same_id (id_of q) l ≡ true = ap (λ (x : StampEntry). same_id (id_of x) l) (sym s) ∙ t in rw at refl
listed_from l (q ∷ es) e (inr i) t = by (same_id (id_of q) l) (listed_from l es e i t)
  where
    by : (b : Bool) → is_listed es l ≡ true → (b || is_listed es l) ≡ true
    by true rest = refl
    by false rest = rest

listed_gives : (l : Id) (es : List StampEntry) → is_listed es l ≡ true → (e : StampEntry) × In e es × (same_id (id_of e) l ≡ true)
listed_gives l [] t = absurd cc
listed_gives l (q ∷ es) t = by (same_id (id_of q) l) refl (listed_gives l es) t
  where
    by : (b : Bool) → same_id (id_of q) l ≡ b → (is_listed es l ≡ true → (e : StampEntry) × In e es × (same_id (id_of e) l ≡ true)) → (b || is_listed es l) ≡ true → (e : StampEntry) × In e (q ∷ es) × (same_id (id_of e) l ≡ true)
    by true at rest s = (q, inl refl, at)
    by false at rest s = let found = rest s in (found.0, inr found.1, found.2)

-- an LRA has an entry beyond a count exactly if its record has a greater stamp
pub listed_is : (es : List StampEntry) (known : Id → Option (List ℕ)) (origin n : ℕ) → ((e : StampEntry) → In e es ↔ ((n < e.stamp) × (stamp_at (known (id_of e)) origin ≡ e.stamp)))
    → (l : Id) → nat_lt n (stamp_at (known l) origin) ≡ is_listed es l
listed_is es known origin n h l = same_bools (nat_lt n (stamp_at (known l) origin)) (is_listed es l) there back
  where
    there : nat_lt n (stamp_at (known l) origin) ≡ true → is_listed es l ≡ true
    there t = listed_from l es (entry_of (stamp_at (known l) origin) l) ((h (entry_of (stamp_at (known l) origin) l)).1 (less_by n (stamp_at (known l) origin) t, refl)) (same_self l)

    back : is_listed es l ≡ true → nat_lt n (stamp_at (known l) origin) ≡ true
    back t =
        let found = listed_gives l es t in
        let k = (h found.0).0 found.1 in
        let at : stamp_at (known (id_of found.0)) origin ≡ stamp_at (known l) origin = ap (λ (m : Id). stamp_at (known m) origin) (same_is (id_of found.0) l found.2) in
        less_from n (stamp_at (known l) origin) (omega (arith, k.0, k.1, at))

-- Nodes

-- a node beyond the end of the stamps has no newer stamp
newer_within : (base v : List ℕ) (node : ℕ) → 1 ≤ node → nat_lt (count base node) (count v node) ≡ true → node ≤ length v
newer_within base v node some t = by (nat_lt (node - 1) (length v)) refl
  where
    by : (b : Bool) → nat_lt (node - 1) (length v) ≡ b → node ≤ length v
    by true e = omega (arith, some, less_by (node - 1) (length v) e)
    by false e = absurd (let none : count v node ≡ 0 = get_or_past v (node - 1) 0 (past (node - 1) (length v) e) in omega (arith, none, less_by (count base node) (count v node) t))
      where
        past : (a b : ℕ) → nat_lt a b ≡ false → b ≤ a
        past a b e = grind (arith, nat_tests)

-- stamps are beyond a base if that is so at one of as many nodes, or more
newer_is : (n : ℕ) (base v : List ℕ) → length v ≤ n → is_newer_to n base (Some v) ≡ is_beyond base v
newer_is n base v few = same_bools (is_newer_to n base (Some v)) (is_beyond base v) there back
  where
    test : ℕ → Bool
    test node = nat_lt (count base node) (count v node)

    there : is_newer_to n base (Some v) ≡ true → is_beyond base v ≡ true
    there t =
        let found = any_gives test (nodes_to n) t in
        let bounds = nodes_in n found.0 found.1 in
        any_from test (nodes_to (length v)) found.0 (in_nodes (length v) found.0 bounds.0 (newer_within base v found.0 bounds.0 found.2)) found.2

    back : is_beyond base v ≡ true → is_newer_to n base (Some v) ≡ true
    back t =
        let found = any_gives test (nodes_to (length v)) t in
        let bounds = nodes_in (length v) found.0 found.1 in
        any_from test (nodes_to n) found.0 (in_nodes n found.0 bounds.0 (omega (arith, bounds.1, few))) found.2

any_last : (t : ℕ → Bool) (ns : List ℕ) (n : ℕ) → list_any t (ns ++ n ∷ []) ≡ (list_any t ns || t n)
any_last t [] n = either (t n)
  where
    either : (b : Bool) → (b || false) ≡ b
    either true = refl
    either false = refl
any_last t (m ∷ ns) n = by (t m) (any_last t ns n)
  where
    by : (b : Bool) → list_any t (ns ++ n ∷ []) ≡ (list_any t ns || t n) → (b || list_any t (ns ++ n ∷ [])) ≡ ((b || list_any t ns) || t n)
    by true rest = refl
    by false rest = rest

-- one more node is looked at
pub newer_next : (n : ℕ) (base : List ℕ) (stamps : Option (List ℕ)) → is_newer_to (n + 1) base stamps ≡ (is_newer_to n base stamps || is_newer base stamps (n + 1))
newer_next n base stamps =
    let more : n + 1 ≡ suc n = omega arith in
    ap (λ m. is_newer_to m base stamps) more ∙ any_last (is_newer base stamps) (nodes_to n) (suc n) ∙ ap (λ m. is_newer_to n base stamps || is_newer base stamps m) (sym more)

abbrev stamps_kept : Option Record → Option (List ℕ)
stamps_kept = option_map (λ (r : Record). r.stamps)

-- what is told of one LRA is its record, if that is beyond the base
told_passing : (base : List ℕ) (o : Option Record) → IfSome (stamps_kept o) (λ v. length v ≤ 8) → told_too (is_newer_to 8 base (stamps_kept o)) o None ≡ passed (λ r. is_beyond base r.stamps) o
told_passing base None few = by (is_newer_to 8 base None) None
  where
    by : (b : Bool) (o : Option Record) → cond b o o ≡ o
    by true o = refl
    by false o = refl
told_passing base (Some r) few = ap (λ b. cond b (Some r) None) (newer_is 8 base r.stamps few)

-- Elements

there_is : {X : Type 0} (xs : List X) (i : ℕ) → i < length xs → (x : X) × (slice_get xs i ≡ Some x)
there_is [] i e = absurd (omega (arith, e))
there_is (x ∷ xs) zero e = (x, refl)
there_is (x ∷ xs) (suc i) e = there_is xs i (omega (arith, e))

map_there : {X Y : Type 0} (f : X → Y) (xs : List X) (i : ℕ) (x : X) (d : Y) → slice_get xs i ≡ Some x → get_or (map f xs) i d ≡ f x
map_there f [] i x d e = absurd cc
map_there f (y ∷ xs) zero x d e = let same : y ≡ x = cc in ap f same
map_there f (y ∷ xs) (suc i) x d e = map_there f xs i x d e

same_there : {X Y Z : Type 0} (f : X → Z) (g : Y → Z) (xs : List X) (ys : List Y) (i : ℕ) (x : X) (y : Y) → map f xs ≡ map g ys → slice_get xs i ≡ Some x → slice_get ys i ≡ Some y → f x ≡ g y
same_there f g xs ys i x y e at on = sym (map_there f xs i x (f x) at) ∙ ap (λ zs. get_or zs i (f x)) e ∙ map_there g ys i y (f x) on

pub told_there : (ts : List Told) (i : ℕ) (t : Told) → slice_get ts i ≡ Some t → slice_get (homes_told ts) i ≡ Some t.records
told_there [] i t e = absurd cc
told_there (x ∷ ts) zero t e = let same : x ≡ t = cc in ap (λ (y : Told). Some y.records) same
told_there (x ∷ ts) (suc i) t e = told_there ts i t e

pub number_there : (k : ℕ) (hs : List HomeRecords) (i : ℕ) (h : HomeRecords) → AreHomesFrom k hs → slice_get hs i ≡ Some h → h.home ≡ k + i
number_there k [] i h are e = absurd cc
number_there k (x ∷ hs) zero h are e = let same : x ≡ h = cc in omega (arith, are.0, ap (λ (y : HomeRecords). y.home) same)
number_there k (x ∷ hs) (suc i) h are e = omega (arith, number_there (k + 1) hs i h are.1 e)

pub order_there : (hs : List HomeRecords) (i : ℕ) (h : HomeRecords) → AllByRecursion (λ (x : HomeRecords). AreOf x.home x.records) hs → slice_get hs i ≡ Some h → AreOf h.home h.records
order_there [] i h all e = absurd cc
order_there (x ∷ hs) zero h all e = let same : x ≡ h = cc in subst (λ (y : HomeRecords). AreOf y.home y.records) same all.0
order_there (x ∷ hs) (suc i) h all e = order_there hs i h all.1 e

abbrev at : ℕ → ℕ → Id
at home num = record { home = home; num = num }

record_there : (hs : List HomeRecords) (i : ℕ) (h : HomeRecords) (num : ℕ) → slice_get hs i ≡ Some h → record_in hs (at (suc i) num) ≡ find (is_of (at (suc i) num)) h.records
record_there hs i h num e =
    let back : suc i - 1 ≡ i = omega arith in
    ap (λ n. find (is_of (at (suc i) num)) (get_or (map (λ (home : HomeRecords). home.records) hs) n [])) back
    ∙ ap (find (is_of (at (suc i) num))) (map_there (λ (home : HomeRecords). home.records) hs i h [] e)

-- Before any record is told

without_numbered : (base purges : List ℕ) (k : ℕ) (ts : List Told) (kept : List HomeRecords) → map part_of ts ≡ map (part_without base purges) kept → AreHomesFrom k kept → AreHomesFrom k (homes_told ts)
without_numbered base purges k [] kept e are = tt
without_numbered base purges k (t ∷ ts) [] e are = absurd cc
without_numbered base purges k (t ∷ ts) (h ∷ kept) e are =
    let first : part_of t ≡ part_without base purges h = cc in
    let rest : map part_of ts ≡ map (part_without base purges) kept = cc in
    (ap (λ (p : HomePart). p.home) first ∙ are.0, without_numbered base purges (k + 1) ts kept rest are.1)

without_order : (base purges : List ℕ) (ts : List Told) (kept : List HomeRecords) → map part_of ts ≡ map (part_without base purges) kept → AllByRecursion (λ (h : HomeRecords). AreOf h.home h.records) (homes_told ts)
without_order base purges [] kept e = tt
without_order base purges (t ∷ ts) [] e = absurd cc
without_order base purges (t ∷ ts) (h ∷ kept) e =
    let first : part_of t ≡ part_without base purges h = cc in
    let rest : map part_of ts ≡ map (part_without base purges) kept = cc in
    let none : t.records.records ≡ [] = ap (λ (p : HomePart). p.records) first in
    (subst (λ (rs : List Record). AreOf t.records.home rs) (sym none) (record { homes = tt; ascending = tt }), without_order base purges ts kept rest)

pub without_homes : (base purges : List ℕ) (ts : List Told) (kept : List HomeRecords) → map part_of ts ≡ map (part_without base purges) kept → AreHomesFrom 1 kept → AreHomes (length kept) (homes_told ts)
without_homes base purges ts kept e are = record {
  count = length-map ts (λ (t : Told). t.records) ∙ sym (length-map ts part_of) ∙ ap (λ (ps : List HomePart). length ps) e ∙ length-map kept (part_without base purges);
  numbered = without_numbered base purges 1 ts kept e are;
  ordered = without_order base purges ts kept e;
}

-- After all records are told

pub told_parts : (base purges : List ℕ) (kept : List HomeRecords) (old new : List Told) → AreHomesFrom 1 kept → AllByRecursion (λ (h : HomeRecords). AreOf h.home h.records) kept
    → ((l : Id) → IfSome (stamps_kept (record_in kept l)) (λ v. length v ≤ 8)) → map part_of old ≡ map (part_without base purges) kept
    → AreTold (λ l. is_newer_to 8 base (stamps_kept (record_in kept l))) kept old new → map part_of new ≡ map (part_since base purges) kept
told_parts base purges kept old new numbered ordered few before told =
    same_lists (map part_of new) (map (part_since base purges) kept)
    (length-map new part_of ∙ many ∙ sym (length-map kept (part_since base purges)))
    (λ i d within. one i d (omega (arith, within, length-map new part_of, many)))
  where
    many : length new ≡ length kept
    many = sym (length-map new (λ (t : Told). t.records)) ∙ told.homes.count

    many_old : length old ≡ length kept
    many_old = sym (length-map old part_of) ∙ ap (λ (ps : List HomePart). length ps) before ∙ length-map kept (part_without base purges)

    test : Record → Bool
    test r = is_beyond base r.stamps

    found : (i : ℕ) (h : HomeRecords) (t o : Told) → slice_get kept i ≡ Some h → slice_get new i ≡ Some t → slice_get old i ≡ Some o → part_of o ≡ part_without base purges h
        → (num : ℕ) → find (is_of (at (suc i) num)) t.records.records ≡ find (is_of (at (suc i) num)) (filter test h.records)
    found i h t o h_at t_at o_at without num =
        let l = at (suc i) num in
        let none : record_in (homes_told old) l ≡ None = record_there (homes_told old) i o.records num (told_there old i o o_at) ∙ ap (λ (p : HomePart). find (is_of l) p.records) without in
        sym (record_there (homes_told new) i t.records num (told_there new i t t_at))
        ∙ told.found l
        ∙ ap (told_too (is_newer_to 8 base (stamps_kept (record_in kept l))) (record_in kept l)) none
        ∙ told_passing base (record_in kept l) (few l)
        ∙ ap (passed test) (record_there kept i h num h_at)
        ∙ sym (find_passing l test h.records (order_there kept i h ordered h_at).ascending)

    part : (i : ℕ) (h : HomeRecords) (t o : Told) → slice_get kept i ≡ Some h → slice_get new i ≡ Some t → slice_get old i ≡ Some o → part_of t ≡ part_since base purges h
    part i h t o h_at t_at o_at =
        let without : part_of o ≡ part_without base purges h = same_there part_of (part_without base purges) old kept i o h before o_at h_at in
        let own : h.home ≡ suc i = omega (arith, number_there 1 kept i h numbered h_at) in
        let home : t.records.home ≡ suc i = omega (arith, number_there 1 (homes_told new) i t.records told.homes.numbered (told_there new i t t_at)) in
        let held_is : held_numbers t.held ≡ (part_since base purges h).live =
        same_there (λ (x : Told). held_numbers x.held) (λ (x : Told). held_numbers x.held) new old i t o told.lists t_at o_at ∙ ap (λ (p : HomePart). p.live) without in
        let mine : AreOf (suc i) t.records.records = subst (λ n. AreOf n t.records.records) home (order_there (homes_told new) i t.records told.homes.ordered (told_there new i t t_at)) in
        let theirs : AreOf (suc i) (filter test h.records) = subst (λ n. AreOf n (filter test h.records)) own (filter_are_of test h.home h.records (order_there kept i h ordered h_at)) in
        let records : t.records.records ≡ filter test h.records = same_records (suc i) t.records.records (filter test h.records) mine.homes theirs.homes mine.ascending theirs.ascending (found i h t o h_at t_at o_at without) in
        ap (λ n. record { home = n; live = held_numbers t.held; records = t.records.records }) (home ∙ sym own)
        ∙ ap (λ live. record { home = h.home; live = live; records = t.records.records }) held_is
        ∙ ap (λ rs. record { home = h.home; live = (part_since base purges h).live; records = rs }) records

    one : (i : ℕ) (d : HomePart) → i < length kept → get_or (map part_of new) i d ≡ get_or (map (part_since base purges) kept) i d
    one i d within =
        let h = there_is kept i within in
        let t = there_is new i (omega (arith, within, many)) in
        let o = there_is old i (omega (arith, within, many_old)) in
        map_there part_of new i t.0 d t.1 ∙ part i h.0 t.0 o.0 h.1 t.1 o.1 ∙ sym (map_there (part_since base purges) kept i h.0 d h.1)
