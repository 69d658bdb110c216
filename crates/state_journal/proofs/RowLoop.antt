-- Rows of `lra`, one after another, and the records that are told from them for their homes.
use Rattle.std.proofs.Common.{◌≡◌, ◌⊎◌, inl, inr, ℕ, zero, suc, ◌+◌, ◌-◌, ◌<◌, ◌≤◌, List, [], ◌∷◌, ◌++◌, Option, Some, None, length, refl, sym, ap, subst, ◌∙◌, arith, get_or, Result, Ok, Err, IfOk}
use Rattle.std.specs.Prelude.{slice_get, slice_set}
use Rattle.std.specs.List.{AllByRecursion}
use Rattle.std.specs.Option.{option_map_or}
use Rattle.std.proofs.lemmas.Bool.{cases_lt}
use Rattle.std.proofs.lemmas.List.{length-set}
use Rattle.std.proofs.lemmas.Option.{slice_get-get_or}
use Rattle.std.proofs.lemmas.Bool.Decides.{nat_tests}
use Rattle.sqlite.specs.Order.{Row}
use Rattle.state_facts.specs.Lists.{In}
use Rattle.state_facts.proofs.Membership.{in_append}
use Rattle.theory_history.proofs.Basics.{in_left, in_right}
use Rattle.state_forest.proofs.Bools.{all_from, all_in}
use Rattle.state_forest.specs.declared.merging.Told.{Told}
use Rattle.state_forest.specs.declared.record.Record.{Record}
use Rattle.state_forest.specs.Forests.{AreOf, IsAscending}
use Rattle.theory_history.specs.Merging.{AreToldFrom}
use Rattle.wire_frames.specs.declared.version.Version.{Version}
use Rattle.state_journal.specs.Puts.{IsPut, IsPutLast}
use Rattle.state_journal.specs.LraRows.{AreRecordRows, IsRecordRight, IsRowAt, IsRowOf, RecordBreaksAt, told_at}

-- ---- one of the homes changes

got_same : {X : Type 0} (xs : List X) (i : ℕ) (x y : X) → slice_get xs i ≡ Some x → slice_get (slice_set xs i y) i ≡ Some y
got_same [] i x y e = absurd cc
got_same (z ∷ xs) zero x y e = refl
got_same (z ∷ xs) (suc i) x y e = got_same xs i x y e

got_other : {X : Type 0} (xs : List X) (i k : ℕ) (y : X) → ¬ (k ≡ i) → slice_get (slice_set xs i y) k ≡ slice_get xs k
got_other [] i k y other = refl
got_other (z ∷ xs) zero zero y other = absurd (other refl)
got_other (z ∷ xs) zero (suc k) y other = refl
got_other (z ∷ xs) (suc i) zero y other = refl
got_other (z ∷ xs) (suc i) (suc k) y other = got_other xs i k y (λ e. other (ap suc e))

pub home_there : (k : ℕ) (ts : List Told) (i : ℕ) (t : Told) → AreToldFrom k ts → slice_get ts i ≡ Some t → t.records.home ≡ k + i
home_there k [] i t f e = absurd cc
home_there k (x ∷ ts) zero t f e = let same : x ≡ t = cc in omega (arith, f.0, ap (λ (y : Told). y.records.home) same)
home_there k (x ∷ ts) (suc i) t f e = omega (arith, home_there (k + 1) ts i t f.1 e)

told_set : (k : ℕ) (ts : List Told) (i : ℕ) (t t' : Told) → AreToldFrom k ts → slice_get ts i ≡ Some t → t'.records.home ≡ t.records.home → AreToldFrom k (slice_set ts i t')
told_set k [] i t t' f e h = tt
told_set k (x ∷ ts) zero t t' f e h = let same : x ≡ t = cc in (omega (arith, f.0, h, ap (λ (y : Told). y.records.home) same), f.1)
told_set k (x ∷ ts) (suc i) t t' f e h = (f.0, told_set (k + 1) ts i t t' f.1 e h)

records_of : Option Told → List Record
records_of o = option_map_or (λ (told : Told). told.records.records) o []

pub told_is : (ts : List Told) (home : ℕ) (t : Told) → slice_get ts (home - 1) ≡ Some t → told_at ts home ≡ t.records.records
told_is ts home t e = ap (λ o. option_map_or (λ (told : Told). told.records.records) o []) e

pub put_there : (kept : Record) (ts : List Told) (t t' : Told) → 1 ≤ kept.home → AreToldFrom 1 ts → slice_get ts (kept.home - 1) ≡ Some t → IsPutLast kept t t' → IsPut kept ts (slice_set ts (kept.home - 1) t')
put_there kept ts t t' some told there put = record {
  told = told_set 1 ts (kept.home - 1) t t' told there put.home;
  count = length-set ts (kept.home - 1) t';
  last = subst (AllByRecursion (λ (q : Record). q.num < kept.num)) (sym (told_is ts kept.home t there)) put.last;
  here = told_is (slice_set ts (kept.home - 1) t') kept.home t' (got_same ts (kept.home - 1) t t' there) ∙ put.records ∙ ap (λ rs. rs ++ kept ∷ []) (sym (told_is ts kept.home t there));
  others = λ home low other. ap (λ o. option_map_or (λ (x : Told). x.records.records) o []) (got_other ts (kept.home - 1) (home - 1) t' (λ e. other (omega (arith, e, low, some))));
}

-- ---- rows

-- two records that a row stands for are the same
abbrev pub IsOnly : Version → List ℕ → List Row → ℕ → Record → Type 0
IsOnly v front rows place kept = (other : Record) → IsRowAt v front rows place other → other ≡ kept

module _ (v : Version) (front : List ℕ) (rows : List Row) (place : ℕ) (old : List Told) (was : AreRecordRows v front rows place (told_at old)) (kept : Record) (here : IsRowAt v front rows place kept) (one : IsOnly v front rows place kept) where
  -- the records before it have lesser numbers, if the record may be put
  in_order : AllByRecursion (λ (q : Record). q.num < kept.num) (told_at old kept.home) → (i : ℕ) (other : Record) → i < place → IsRowAt v front rows i other → other.home ≡ kept.home → other.num < kept.num
  in_order last i other low at same =
      all_in (λ (q : Record). q.num < kept.num) (told_at old kept.home) last other (subst (λ h. In other (told_at old h)) same (was.each i other low at).1)

  -- one more row
  pub rows_more : (new : List Told) → IsPut kept old new → 1 ≤ kept.home → AreRecordRows v front rows (place + 1) (told_at new)
  rows_more new put positive = record {
    right = λ i low. elim (cases_lt i place) [
      | inl before ↦ was.right i before
      | inr at ↦ let same : place ≡ i = omega (arith, at, low) in subst (IsRecordRight v front rows) same (record { kept = kept; here = here; order = in_order put.last })
    ];
    each = λ i k low at. elim (cases_lt i place) [
      | inl before ↦ keeps k (was.each i k before at)
      | inr last ↦
          let same : i ≡ place = omega (arith, last, low) in
          let is : k ≡ kept = one k (subst (λ j. IsRowAt v front rows j k) same at) in
          subst (λ (q : Record). (1 ≤ q.home) × In q (told_at new q.home)) (sym is) (positive, subst (In kept) (sym put.here) (in_right (told_at old kept.home) (kept ∷ []) kept (inl refl)))
    ];
    only = λ home k low has. from home k low has (by_home home);
  }
    where
      by_home : (home : ℕ) → (home ≡ kept.home) ⊎ ¬ (home ≡ kept.home)
      by_home home = elim (cases_lt home kept.home) [
        | inl below ↦ inr (λ e. omega (arith, below, e))
        | inr above ↦ elim (cases_lt kept.home home) [ inl beyond ↦ inr (λ e. omega (arith, beyond, e)) | inr not ↦ inl (omega (arith, above, not)) ]
      ]

      keeps_by : (k : Record) → 1 ≤ k.home → (k.home ≡ kept.home) ⊎ ¬ (k.home ≡ kept.home) → In k (told_at old k.home) → In k (told_at new k.home)
      keeps_by k some (inl same) has =
          subst (λ h. In k (told_at new h)) (sym same) (subst (In k) (sym put.here) (in_left (told_at old kept.home) (kept ∷ []) k (subst (λ h. In k (told_at old h)) same has)))
      keeps_by k some (inr other) has = subst (In k) (sym (put.others k.home some other)) has

      keeps : (k : Record) → (1 ≤ k.home) × In k (told_at old k.home) → (1 ≤ k.home) × In k (told_at new k.home)
      keeps k has = (has.0, keeps_by k has.0 (by_home k.home) has.1)

      from : (home : ℕ) (k : Record) → 1 ≤ home → In k (told_at new home) → (home ≡ kept.home) ⊎ ¬ (home ≡ kept.home) → (i : ℕ) × (i < place + 1) × (k.home ≡ home) × IsRowAt v front rows i k
      from home k low has (inl same) =
          elim (in_append (told_at old kept.home) (kept ∷ []) k (subst (In k) put.here (subst (λ h. In k (told_at new h)) same has))) [
            | inl before ↦ let it = was.only home k low (subst (λ h. In k (told_at old h)) (sym same) before) in (it.0, omega (arith, it.1), it.2, it.3)
            | inr last ↦ elim last [ inl is ↦ (place, omega arith, ap (λ (q : Record). q.home) is ∙ sym same, subst (IsRowAt v front rows place) (sym is) here) | inr none ↦ absurd none ]
          ]
      from home k low has (inr other) = let it = was.only home k low (subst (In k) (put.others home low other) has) in (it.0, omega (arith, it.1), it.2, it.3)

module _ (v : Version) (front : List ℕ) (rows : List Row) (place : ℕ) (old : List Told) (was : AreRecordRows v front rows place (told_at old)) (within : place < length rows) where
  -- the row stands for no record
  pub breaks_unread : ((kept : Record) → ¬ IsRowAt v front rows place kept) → RecordBreaksAt v front rows place
  breaks_unread none = record { within = within; before = was.right; breaks = λ right. none right.kept right.here }

  -- the row's record may not be put
  pub breaks_unordered : (kept : Record) → 1 ≤ kept.home → IsOnly v front rows place kept → ¬ AllByRecursion (λ (q : Record). q.num < kept.num) (told_at old kept.home) → RecordBreaksAt v front rows place
  breaks_unordered kept some one not = record {
    within = within;
    before = was.right;
    breaks = λ right.
        let is : right.kept ≡ kept = one right.kept right.here in
        not (all_from (λ (q : Record). q.num < kept.num) (told_at old kept.home) (λ q has.
        let it = was.only kept.home q some has in
        subst (λ (k : Record). q.num < k.num) is (right.order it.0 q it.1 it.3 (it.2 ∙ ap (λ (k : Record). k.home) (sym is)))));
  }

-- ---- the records of each home are in order

ascending_last : (rs : List Record) (r : Record) → IsAscending rs → AllByRecursion (λ (q : Record). q.num < r.num) rs → IsAscending (rs ++ r ∷ [])
ascending_last [] r up last = (tt, tt)
ascending_last (q ∷ rs) r up last = (all_last q rs up.0 last.0, ascending_last rs r up.1 last.1)
  where
    all_last : (q : Record) (rs : List Record) → AllByRecursion (λ (s : Record). q.num < s.num) rs → q.num < r.num → AllByRecursion (λ (s : Record). q.num < s.num) (rs ++ r ∷ [])
    all_last q [] all low = (low, tt)
    all_last q (s ∷ rs) all low = (all.0, all_last q rs all.1 low)

of_home_last : (home : ℕ) (rs : List Record) (r : Record) → r.home ≡ home → AllByRecursion (λ (q : Record). q.home ≡ home) rs → AllByRecursion (λ (q : Record). q.home ≡ home) (rs ++ r ∷ [])
of_home_last home [] r same all = (same, tt)
of_home_last home (q ∷ rs) r same all = (all.0, of_home_last home rs r same all.1)

abbrev pub AreOrdered : List Told → Type 0
AreOrdered ts = (home : ℕ) → 1 ≤ home → AreOf home (told_at ts home)

pub order_more : (old new : List Told) (kept : Record) → IsPut kept old new → AreOrdered old → 1 ≤ kept.home → AreOrdered new
order_more old new kept put was positive home some = by (cases_lt home kept.home) (cases_lt kept.home home)
  where
    other : ¬ (home ≡ kept.home) → AreOf home (told_at new home)
    other not = subst (AreOf home) (sym (put.others home some not)) (was home some)

    by : (home < kept.home) ⊎ (kept.home ≤ home) → (kept.home < home) ⊎ (home ≤ kept.home) → AreOf home (told_at new home)
    by (inl below) t = other (λ e. omega (arith, below, e))
    by (inr s) (inl above) = other (λ e. omega (arith, above, e))
    by (inr s) (inr t) =
        let same : kept.home ≡ home = omega (arith, s, t) in
        let own = was kept.home positive in
        let all : AreOf kept.home (told_at new kept.home) = subst (AreOf kept.home) (sym put.here) (record { homes = of_home_last kept.home (told_at old kept.home) kept refl own.homes; ascending = ascending_last (told_at old kept.home) kept own.ascending put.last }) in
        subst (λ h. AreOf h (told_at new h)) same all

-- ---- the record of a row

pub only_one : (v : Version) (front : List ℕ) (rows : List Row) (place : ℕ) (row : Row) (found : Option Record) (kept : Record) → slice_get rows place ≡ Some row → ((k : Record) → IsRowOf v front row k → found ≡ Some k) → found ≡ Some kept → IsOnly v front rows place kept
only_one v front rows place row found kept there only is other at =
    let both = sym at.there ∙ there in
    let same : at.row ≡ row = cc in
    let again = only other (subst (λ r. IsRowOf v front r other) same at.is) in
    let two = sym again ∙ is in
    cc

pub no_record : (v : Version) (front : List ℕ) (rows : List Row) (place : ℕ) (row : Row) (found : Option Record) → slice_get rows place ≡ Some row → ((k : Record) → IsRowOf v front row k → found ≡ Some k) → found ≡ None → (kept : Record) → ¬ IsRowAt v front rows place kept
no_record v front rows place row found there only none kept at =
    let both = sym at.there ∙ there in
    let same : at.row ≡ row = cc in
    let some = only kept (subst (λ r. IsRowOf v front r kept) same at.is) in
    let two = sym some ∙ none in
    absurd cc

pub home_of_row : (v : Version) (front : List ℕ) (row : Row) (kept : Record) → IsRowOf v front row kept → (1 ≤ kept.home) × (kept.home ≤ length front)
home_of_row v front row kept is = let e = is.rules.home in (grind (arith, nat_tests, e), grind (arith, nat_tests, e))

pub stands_there : (rows : List Row) (place : ℕ) (row : Row) → place < length rows → row ≡ get_or rows place row → slice_get rows place ≡ Some row
stands_there rows place row low is = slice_get-get_or rows place row low ∙ ap (λ r. Some r) (sym is)

-- ---- homes

pub told_more : (k : ℕ) (ts : List Told) (t : Told) → AreToldFrom k ts → t.records.home ≡ k + length ts → AreToldFrom k (ts ++ t ∷ [])
told_more k [] t f e = (omega (arith, e), tt)
told_more k (x ∷ ts) t f e = (f.0, told_more (k + 1) ts t f.1 (omega (arith, e)))

none_with : (ts : List Told) (t : Told) → t.records.records ≡ [] → ((k : ℕ) → records_of (slice_get ts k) ≡ []) → (k : ℕ) → records_of (slice_get (ts ++ t ∷ []) k) ≡ []
unfolding records_of
none_with [] t e f zero = e
none_with [] t e f (suc k) = refl
none_with (x ∷ ts) t e f zero = f 0
none_with (x ∷ ts) t e f (suc k) = none_with ts t e (λ j. f (suc j)) k

pub none_more : (ts : List Told) (t : Told) → t.records.records ≡ [] → ((home : ℕ) → told_at ts home ≡ []) → (home : ℕ) → told_at (ts ++ t ∷ []) home ≡ []
unfolding records_of
none_more ts t e none home =
    none_with ts t e (λ k. let back : k + 1 - 1 ≡ k = omega arith in subst (λ j. records_of (slice_get ts j) ≡ []) back (none (k + 1))) (home - 1)

pub there_is : (ts : List Told) (t : Told) (p h : ℕ) → p - 1 ≡ h - 1 → 1 ≤ h → h ≤ length ts → t ≡ get_or ts (p - 1) t → slice_get ts (h - 1) ≡ Some t
there_is ts t p h e some within value =
    slice_get-get_or ts (h - 1) t (omega (arith, some, within)) ∙ ap (λ (x : Told). Some x) (sym (value ∙ ap (λ (n : ℕ). get_or ts n t) e))

pub if_ok : {X E : Type 0} (r : Result X E) (P Q : X → Type 0) → ((x : X) → P x → Q x) → IfOk r P → IfOk r Q
if_ok (Ok x) P Q f h = f x h
if_ok (Err e) P Q f h = tt
