-- The next of the LRAs that are held, and pages of such LRAs.
use Rattle.std.proofs.Common.{◌≡◌, ◌≤◌, ◌<◌, ◌+◌, ◌-◌, ◌⊎◌, ◌&&◌, inl, inr, ℕ, List, [], ◌∷◌, ◌++◌, refl, sym, ap, subst, ◌∙◌, Bool, true, false, cond, arith, Option, Some, None, is_some, length, filter, find, nat_lt, slice_get}
use Rattle.std.specs.List.{AllByRecursion}
use Rattle.std.proofs.lemmas.Bool.Decides.{nat_tests}
use Rattle.state_ids.specs.Ids.{Id, IsFactNumber, is_fact_number}
use Rattle.state_facts.specs.declared.fact.Fact.{Fact}
use Rattle.state_facts.specs.Lists.{In}
use Rattle.state_facts.proofs.Membership.{filter_in, in_filter}
use Rattle.state_forest.specs.declared.record.Record.{Record}
use Rattle.state_forest.specs.Forests.{AreOf, HomeRecords, id_of, is_of}
use Rattle.state_forest.proofs.Bools.{all_in, and_left, and_right}
use Rattle.state_forest.proofs.MembersAndStamps.{find_in}
use Rattle.state_forest.proofs.Overdue.{at, found_in, number_passes}
use Rattle.state_forest.proofs.Removals.{filter_are_of}
use Rattle.theory_history.specs.Growth.{IsSettled}
use Rattle.theory_history.specs.Readings.{by_view}
use Rattle.theory_history.specs.Replies.{Reading, by_facts}
use Rattle.theory_history.specs.Views.{StandsFor, View, record_at}
use Rattle.theory_history.proofs.SameReadings.{has_record, view_alike}
use Rattle.theory_history.proofs.Basics.{at_most, false_from, less_by}
use Rattle.state_replica.specs.declared.page.Row.{Row}
use Rattle.state_replica.specs.Pages.{AreAscending, AreBefore, HasRow, IsBefore, IsBeyond, IsFirstBeyond, IsNext, IsNextAt, IsNextRow, IsPage, IsRow, PageRows, is_listed}
use Rattle.state_replica.specs.Replicas.{ReplicaState, IsReplicaState, view_of}
use Rattle.state_replica.proofs.Homes.{found_here, home_records, home_within, kept_in_order, lost_here}

fact_number : (n : ℕ) → is_fact_number n ≡ true → IsFactNumber n
fact_number n e = (let t : 1 ≤ n = grind (arith, nat_tests, e) in t, let t : n < 281474976710656 = grind (arith, nat_tests, e) in t)

less_true : (a b : ℕ) → a < b → nat_lt a b ≡ true
less_true a b e = grind (arith, nat_tests, e)

three : (a b : ℕ) → (a < b) ⊎ ((a ≡ b) ⊎ (b < a))
three a b = elim (at_most b a) [
  | inr less ↦ inl less
  | inl most ↦ elim (at_most a b) [ inr more ↦ inr (inr more) | inl least ↦ inr (inl (omega (arith, most, least))) ]
]

same_ids : (a b : Id) → a.home ≡ b.home → a.num ≡ b.num → a ≡ b
same_ids a b homes nums = let made : ℕ → ℕ → Id = λ home num. record { home = home; num = num } in ap (λ (h : ℕ). made h a.num) homes ∙ ap (made b.home) nums

all_map : {X : Type 0} (P Q : X → Type 0) (xs : List X) → ((x : X) → P x → Q x) → AllByRecursion P xs → AllByRecursion Q xs
all_map P Q [] f h = tt
all_map P Q (x ∷ xs) f h = (f x h.0, all_map P Q xs f h.1)

-- What a reading lists

-- an LRA that is listed has a number that a fact can have, and is held
listed_num : (t : Reading) (l : Id) → is_listed t l ≡ true → IsFactNumber l.num
listed_num t l listed = let e = and_left (is_fact_number l.num) (t.held l) listed in fact_number l.num e

listed_held : (t : Reading) (l : Id) → is_listed t l ≡ true → t.held l ≡ true
listed_held t l listed = and_right (is_fact_number l.num) (t.held l) listed

some_num : (t : Reading) (l : Id) → is_listed t l ≡ true → 0 < l.num
some_num t l listed = omega (arith, (listed_num t l listed).0)

-- the records of a home are exactly what the reading tells of its LRAs
pub record AreTold (t : Reading) (home : ℕ) (rs : List Record) : Type 0 where
  pub order : AreOf home rs
  pub told : (l : Id) → l.home ≡ home → t.held l ≡ is_some (find (is_of l) rs)

-- the first record with a number above another

some_of : {X : Type 0} (o : Option X) → is_some o ≡ true → (x : X) × (o ≡ Some x)
some_of None e = absurd cc
some_of (Some x) e = (x, refl)

-- the LRA of a record is held
record_held : (t : Reading) (home : ℕ) (rs : List Record) (r : Record) → AreTold t home rs → In r rs → t.held (id_of r) ≡ true
record_held t home rs r are inside =
    let own : id_of r ≡ at home r.num = ap (λ (h : ℕ). at h r.num) (all_in (λ (x : Record). x.home ≡ home) rs are.order.homes r inside) in
    ap t.held own ∙ are.told (at home r.num) refl ∙ ap is_some (found_in home rs r are.order inside)

-- a held LRA with a greater number has a record among those with greater numbers
held_later : (t : Reading) (home num : ℕ) (rs : List Record) (l : Id) → AreTold t home rs → l.home ≡ home → num < l.num → t.held l ≡ true → (r : Record) × In r (filter (λ (r : Record). nat_lt num r.num) rs) × (r.num ≡ l.num)
held_later t home num rs l are own more held =
    let found = some_of (find (is_of l) rs) (sym (are.told l own) ∙ held) in
    let inside = find_in (is_of l) rs found.0 found.1 in
    let number : found.0.num ≡ l.num = (let is = inside.1 in grind (arith, nat_tests, is)) in
    (found.0, in_filter (λ (r : Record). nat_lt num r.num) rs found.0 inside.0 (less_true num found.0.num (omega (arith, more, number))), number)

-- the records with greater numbers are in order
later_order : (t : Reading) (home num : ℕ) (rs qs : List Record) (q : Record) → AreTold t home rs → filter (λ (r : Record). nat_lt num r.num) rs ≡ q ∷ qs → AreOf home (q ∷ qs)
later_order t home num rs qs q are e = subst (AreOf home) e (filter_are_of (λ (r : Record). nat_lt num r.num) home rs are.order)

-- so each of them has the number of the first record, or a greater one
not_lesser : (t : Reading) (home num : ℕ) (rs qs : List Record) (q : Record) (l : Id) → AreTold t home rs → filter (λ (r : Record). nat_lt num r.num) rs ≡ q ∷ qs → l.home ≡ home → num < l.num → t.held l ≡ true → q.num ≤ l.num
not_lesser t home num rs qs q l are e own more held =
    let found = held_later t home num rs l are own more held in
    first found.0 found.2 (subst (λ (xs : List Record). In found.0 xs) e found.1)
  where
    first : (r : Record) → r.num ≡ l.num → In r (q ∷ qs) → q.num ≤ l.num
    first r number (inl same) = omega (arith, number, ap (λ (x : Record). x.num) same)
    first r number (inr later) = omega (arith, number, all_in (λ (x : Record). q.num < x.num) qs (later_order t home num rs qs q are e).ascending.0 r later)

-- the first of the records with greater numbers is that of the next LRA
next_some : (t : Reading) (home num : ℕ) (rs qs : List Record) (q : Record) → AreTold t home rs → filter (λ (r : Record). nat_lt num r.num) rs ≡ q ∷ qs → is_fact_number q.num ≡ true → IsNextAt t home num (Some (id_of q))
next_some t home num rs qs q are e number =
    let inside = filter_in (λ (r : Record). nat_lt num r.num) rs q (subst (λ (xs : List Record). In q xs) (sym e) (inl refl)) in (
      ap (λ (b : Bool). b && t.held (id_of q)) number ∙ record_held t home rs q are inside.0,
      all_in (λ (x : Record). x.home ≡ home) rs are.order.homes q inside.0,
      less_by num q.num inside.1,
      λ l own above lesser. false_from (is_listed t l) (λ listed. let most = not_lesser t home num rs qs q l are e own above (listed_held t l listed) in omega (arith, most, lesser)),
    )

-- if the first of them has a number that no fact can have, there is no next LRA
next_past : (t : Reading) (home num : ℕ) (rs qs : List Record) (q : Record) → AreTold t home rs → filter (λ (r : Record). nat_lt num r.num) rs ≡ q ∷ qs → is_fact_number q.num ≡ false → IsNextAt t home num None
next_past t home num rs qs q are e number l own above = false_from (is_listed t l) (λ listed.
    let inside = filter_in (λ (r : Record). nat_lt num r.num) rs q (subst (λ (xs : List Record). In q xs) (sym e) (inl refl)) in
    let some = less_by num q.num inside.1 in
    let most = not_lesser t home num rs qs q l are e own above (listed_held t l listed) in
    let fits = listed_num t l listed in
    let wrong = number_passes q.num (omega (arith, some), omega (arith, most, fits.1)) in
    let both : true ≡ false = sym wrong ∙ number in
    cc)

next_none : (t : Reading) (home num : ℕ) (rs : List Record) → AreTold t home rs → filter (λ (r : Record). nat_lt num r.num) rs ≡ [] → IsNextAt t home num None
next_none t home num rs are e l own more = false_from (is_listed t l) (λ listed.
    let found = held_later t home num rs l are own more (listed_held t l listed) in
    subst (λ (xs : List Record). In found.0 xs) e found.1)

-- the next LRA of a home, by its records
pub next_here : (t : Reading) (home num : ℕ) (rs later : List Record) (o : Option Id) → AreTold t home rs → later ≡ filter (λ (r : Record). nat_lt num r.num) rs → (later ≡ [] → o ≡ None) → ((r : Record) (qs : List Record) → later ≡ r ∷ qs → o ≡ cond (is_fact_number r.num) (Some (id_of r)) None) → IsNextAt t home num o
next_here t home num rs [] o are e none some = subst (IsNextAt t home num) (sym (none refl)) (next_none t home num rs are (sym e))
next_here t home num rs (q ∷ qs) o are e none some = subst (IsNextAt t home num) (sym (some q qs refl)) (by (is_fact_number q.num) refl)
  where
    by : (b : Bool) → is_fact_number q.num ≡ b → IsNextAt t home num (cond b (Some (id_of q)) None)
    by true is = next_some t home num rs qs q are (sym e) is
    by false is = next_past t home num rs qs q are (sym e) is

-- A replica

-- the records of a home in a replica are what it tells of the home's LRAs
pub told_here : (kept : ReplicaState) (home : ℕ) (f : HomeRecords) → IsReplicaState kept → 1 ≤ home → slice_get kept.homes (home - 1) ≡ Some f → AreTold (by_view (view_of kept)) home f.records
told_here kept home f is some at = record {
  order = subst (AreOf home) (home_records kept home f at) (kept_in_order kept is home some (home_within kept home f is some at));
  told = λ l own. ap is_some (found_here kept l f (ap (λ (n : ℕ). slice_get kept.homes (n - 1)) own ∙ at));
}

-- if there is no such home, it has no next LRA
pub next_nowhere : (kept : ReplicaState) (home num : ℕ) → slice_get kept.homes (home - 1) ≡ None → IsNextAt (by_view (view_of kept)) home num None
next_nowhere kept home num none l own more = false_from (is_listed (by_view (view_of kept)) l) (λ listed.
    let lost = ap is_some (lost_here kept l (ap (λ (n : ℕ). slice_get kept.homes (n - 1)) own ∙ none)) in
    let both : true ≡ false = sym (listed_held (by_view (view_of kept)) l listed) ∙ lost in
    cc)

-- every LRA that is listed has one of `nodes` homes
abbrev pub IsWithin : ℕ → Reading → Type 0
IsWithin nodes t = (l : Id) → is_listed t l ≡ true → (1 ≤ l.home) × (l.home ≤ nodes)

pub kept_within : (kept : ReplicaState) → IsReplicaState kept → IsWithin (length kept.front) (by_view (view_of kept))
kept_within kept is l listed = by (slice_get kept.homes (l.home - 1)) refl
  where
    held : is_some (record_at (view_of kept) l) ≡ true
    held = listed_held (by_view (view_of kept)) l listed

    -- the records of home 1 are not of home 0
    some : (f : HomeRecords) → slice_get kept.homes (l.home - 1) ≡ Some f → 1 ≤ l.home
    some f there = elim (at_most 1 l.home) [
      | inl least ↦ least
      | inr zero ↦
          let first : slice_get kept.homes (1 - 1) ≡ Some f = ap (slice_get kept.homes) (omega (arith, zero)) ∙ there in
          let order = (told_here kept 1 f is (omega arith) first).order in
          let r = some_of (find (is_of l) f.records) (ap is_some (sym (found_here kept l f there)) ∙ held) in
          let inside = find_in (is_of l) f.records r.0 r.1 in
          let one = all_in (λ (x : Record). x.home ≡ 1) f.records order.homes r.0 inside.0 in
          let own : r.0.home ≡ l.home = (let of = inside.1 in grind (arith, nat_tests, of)) in
          absurd (omega (arith, one, own, zero))
    ]

    by : (o : Option HomeRecords) → slice_get kept.homes (l.home - 1) ≡ o → (1 ≤ l.home) × (l.home ≤ length kept.front)
    by None e = absurd (let both : true ≡ false = sym held ∙ ap is_some (lost_here kept l e) in cc)
    by (Some f) e = (some f e, home_within kept l.home f is (some f e) e)

-- A settled set and its view

-- LRAs that are held have numbers that a fact can have
listed_alike : (S : List Fact) (view : View) (l : Id) → StandsFor S view → is_listed (by_view view) l ≡ is_listed (by_facts S) l
listed_alike S view l stands = ap (λ (b : Bool). is_fact_number l.num && b) (has_record S view l stands)

row_alike : (S : List Fact) (view : View) (after : Option Id) (row : Row) → IsSettled S → StandsFor S view → IsRow (by_view view) after row → IsRow (by_facts S) after row
row_alike S view after row settled stands is =
    let held = sym (listed_alike S view row.id stands) ∙ is.held in
    record { held = held; beyond = is.beyond; status = is.status ∙ (view_alike S view settled stands).shows row.id (listed_held (by_facts S) row.id held) }

-- so a page of the one reading is a page of the other
pub page_alike : (S : List Fact) (view : View) (after : Option Id) (page : PageRows) → IsSettled S → StandsFor S view → IsPage (by_view view) after page → IsPage (by_facts S) after page
page_alike S view after page settled stands is = record {
  order = is.order;
  rows = all_map (IsRow (by_view view) after) (IsRow (by_facts S) after) page.rows (λ row h. row_alike S view after row settled stands h) is.rows;
  few = is.few;
  all = λ l listed beyond. is.all l (listed_alike S view l stands ∙ listed) beyond;
  more = λ e. let k = is.more e in (k.0, sym (listed_alike S view k.0 stands) ∙ k.1, k.2, k.3);
}

-- Across homes

-- none of the homes after `home`, up to the home `last`, has an LRA that is held
abbrev pub AreBare : Reading → (home last : ℕ) → Type 0
AreBare t home last = (l : Id) → home < l.home → l.home ≤ last → is_listed t l ≡ false

-- the same with one more home
pub bare_more : (t : Reading) (home last next : ℕ) → next ≡ last + 1 → AreBare t home last → IsNextAt t next 0 None → AreBare t home (last + 1)
bare_more t home last next is bare none l after within = false_from (is_listed t l) (λ held.
    elim (at_most l.home last) [
      | inl before ↦ absurd (let wrong = bare l after before in let both : true ≡ false = sym held ∙ wrong in cc)
      | inr beyond ↦ absurd (let wrong = none l (omega (arith, is, beyond, within)) (some_num t l held) in let both : true ≡ false = sym held ∙ wrong in cc)
    ])

-- the first LRA of the first home that has one
pub first_found : (t : Reading) (home last next : ℕ) (n : Id) → home ≤ last → next ≡ last + 1 → AreBare t home last → IsNextAt t next 0 (Some n) → IsFirstBeyond t home (Some n)
first_found t home last next n from is bare found = (found.0, omega (arith, from, is, found.1), before)
  where
    before : (l : Id) → home < l.home → IsBefore l n → is_listed t l ≡ false
    before l after (inl lesser) = bare l after (omega (arith, is, found.1, lesser))
    before l after (inr lesser) = false_from (is_listed t l) (λ held.
        let wrong = found.3 l (lesser.0 ∙ found.1) (some_num t l held) lesser.1 in let both : true ≡ false = sym held ∙ wrong in absurd cc)

pub first_none : (t : Reading) (nodes home last : ℕ) → IsWithin nodes t → nodes ≤ last → AreBare t home last → IsFirstBeyond t home None
first_none t nodes home last within all bare l after = false_from (is_listed t l) (λ held.
    let wrong = bare l after (omega (arith, all, (within l held).1)) in let both : true ≡ false = sym held ∙ wrong in absurd cc)

-- the first LRA of all
pub first_of_all : (t : Reading) (nodes : ℕ) (o : Option Id) → IsWithin nodes t → IsFirstBeyond t 0 o → IsNext t None o
first_of_all t nodes None within first = λ l beyond. false_from (is_listed t l) (λ held.
    let wrong = first l (omega (arith, (within l held).0)) in let both : true ≡ false = sym held ∙ wrong in absurd cc)
first_of_all t nodes (Some n) within first = (
  first.0,
  tt,
  λ l beyond before. false_from (is_listed t l) (λ held.
      let wrong = first.2 l (omega (arith, (within l held).0)) before in let both : true ≡ false = sym held ∙ wrong in absurd cc),
)

-- the next LRA is the next one at the same home
pub next_same : (t : Reading) (id n : Id) → IsNextAt t id.home id.num (Some n) → IsNext t (Some id) (Some n)
next_same t id n next = (next.0, inr (sym next.1, next.2), between)
  where
    between : (l : Id) → IsBefore id l → IsBefore l n → is_listed t l ≡ false
    between l (inl after) (inl before) = absurd (omega (arith, after, before, next.1))
    between l (inl after) (inr before) = absurd (omega (arith, after, before.0, next.1))
    between l (inr after) (inl before) = absurd (omega (arith, after.0, before, next.1))
    between l (inr after) (inr before) = next.3 l (sym after.0) after.1 before.1

-- or the first one of the homes after it
pub next_other : (t : Reading) (id : Id) (o : Option Id) → IsNextAt t id.home id.num None → IsFirstBeyond t id.home o → IsNext t (Some id) o
next_other t id None none first = past
  where
    past : (l : Id) → IsBefore id l → is_listed t l ≡ false
    past l (inl after) = first l after
    past l (inr after) = none l (sym after.0) after.1
next_other t id (Some n) none first = (first.0, inl first.1, between)
  where
    between : (l : Id) → IsBefore id l → IsBefore l n → is_listed t l ≡ false
    between l (inl after) before = first.2 l after before
    between l (inr after) before = none l (sym after.0) after.1

-- Rows

before_trans : (a b c : Id) → IsBefore a b → IsBefore b c → IsBefore a c
before_trans a b c (inl x) (inl y) = inl (omega (arith, x, y))
before_trans a b c (inl x) (inr y) = inl (omega (arith, x, y.0))
before_trans a b c (inr x) (inl y) = inl (omega (arith, x.0, y))
before_trans a b c (inr x) (inr y) = inr (x.0 ∙ y.0, omega (arith, x.1, y.1))

beyond_trans : (after : Option Id) (b c : Id) → IsBeyond after b → IsBefore b c → IsBeyond after c
beyond_trans None b c x y = tt
beyond_trans (Some a) b c x y = before_trans a b c x y

-- of two LRAs one comes first, or they are the same
which_first : (a b : Id) → IsBefore a b ⊎ ((a ≡ b) ⊎ IsBefore b a)
which_first a b =
    elim (three a.home b.home) [
      | inl less ↦ inl (inl less)
      | inr (inr more) ↦ inr (inr (inl more))
      | inr (inl same) ↦
          elim (three a.num b.num) [
            | inl less ↦ inl (inr (same, less))
            | inr (inr more) ↦ inr (inr (inr (sym same, more)))
            | inr (inl equal) ↦ inr (inl (same_ids a b same equal))
          ]
    ]

all_with : {X : Type 0} (P : X → Type 0) (xs : List X) (x : X) → AllByRecursion P xs → P x → AllByRecursion P (xs ++ x ∷ [])
all_with P [] x h p = (p, tt)
all_with P (y ∷ ys) x h p = (h.0, all_with P ys x h.1 p)

ascending_with : (rows : List Row) (row : Row) → AreAscending rows → AreBefore rows row.id → AreAscending (rows ++ row ∷ [])
ascending_with [] row h below = (tt, tt)
ascending_with (r ∷ rs) row h below = (all_with (λ (q : Row). IsBefore r.id q.id) rs row h.0 below.0, ascending_with rs row h.1 below.1)

in_with : {X : Type 0} (x y : X) (xs : List X) → In x xs → In x (xs ++ y ∷ [])
in_with x y [] h = absurd h
in_with x y (z ∷ zs) (inl same) = inl same
in_with x y (z ∷ zs) (inr later) = inr (in_with x y zs later)

last_in : {X : Type 0} (x : X) (xs : List X) → In x (xs ++ x ∷ [])
last_in x [] = inl refl
last_in x (y ∷ ys) = inr (last_in x ys)

-- the rows so far: those of all held LRAs after `after`, up to `last`
pub record AreRows (t : Reading) (after last : Option Id) (rows : List Row) : Type 0 where
  pub order : AreAscending rows
  pub each : AllByRecursion (IsRow t after) rows
  pub below : (l : Id) → IsBeyond last l → AreBefore rows l
  pub beyond : (l : Id) → IsBeyond last l → IsBeyond after l
  pub all : (l : Id) → is_listed t l ≡ true → IsBeyond after l → HasRow rows l ⊎ IsBeyond last l

pub no_rows : (t : Reading) (after : Option Id) (rows : List Row) → rows ≡ [] → AreRows t after after rows
no_rows t after [] e = record { order = tt; each = tt; below = λ l h. tt; beyond = λ l h. h; all = λ l held h. inr h }
no_rows t after (r ∷ rs) e = absurd cc

-- one more row
pub row_more : (t : Reading) (after last : Option Id) (rows : List Row) (row : Row) → AreRows t after last rows → IsNextRow t last (Some row) → AreRows t after (Some row.id) (rows ++ row ∷ [])
row_more t after last rows row are next = record {
  order = ascending_with rows row are.order (are.below row.id next.0.1);
  each = all_with (IsRow t after) rows row are.each (record { held = next.0.0; beyond = are.beyond row.id next.0.1; status = next.1 });
  below = λ l more. all_with (λ (r : Row). IsBefore r.id l) rows row (all_map (λ (r : Row). IsBefore r.id row.id) (λ (r : Row). IsBefore r.id l) rows (λ r h. before_trans r.id row.id l h more) (are.below row.id next.0.1)) more;
  beyond = λ l more. beyond_trans after row.id l (are.beyond row.id next.0.1) more;
  all = λ l held beyond. elim (are.all l held beyond) [
    | inl has ↦ inl (has.0, in_with has.0 row rows has.1, has.2)
    | inr more ↦ later l held more
  ];
}
  where
    later : (l : Id) → is_listed t l ≡ true → IsBeyond last l → HasRow (rows ++ row ∷ []) l ⊎ IsBefore row.id l
    later l held more = elim (which_first l row.id) [
      | inl lesser ↦ absurd (let wrong = next.0.2 l more lesser in let both : true ≡ false = sym held ∙ wrong in cc)
      | inr (inl same) ↦ inl (row, last_in row rows, sym same)
      | inr (inr greater) ↦ inr greater
    ]

-- if no LRA follows, the rows are a page
pub page_last : (t : Reading) (after last : Option Id) (rows : List Row) → length rows ≤ 64 → AreRows t after last rows → IsNext t last None → IsPage t after (record { rows = rows; more = false })
page_last t after last rows few are none = record {
  order = are.order;
  rows = are.each;
  few = few;
  all = λ l held beyond. elim (are.all l held beyond) [
    | inl has ↦ inl has
    | inr more ↦ absurd (let wrong = none l more in let both : true ≡ false = sym held ∙ wrong in cc)
  ];
  more = λ e. absurd (let both : false ≡ true = e in cc);
}

-- and so they are if there are 64 of them
pub page_full : (t : Reading) (after last next : Option Id) (rows : List Row) → length rows ≡ 64 → AreRows t after last rows → IsNext t last next → IsPage t after (record { rows = rows; more = is_some next })
page_full t after last None rows full are none = page_last t after last rows (omega (arith, full)) are none
page_full t after last (Some n) rows full are next = record {
  order = are.order;
  rows = are.each;
  few = omega (arith, full);
  all = λ l held beyond. elim (are.all l held beyond) [
    | inl has ↦ inl has
    | inr more ↦ inr (full, are.below l more, refl)
  ];
  more = λ e. (n, next.0, are.beyond n next.1, are.below n next.1);
}
