-- what changes where one page is changed
use Rattle.std.proofs.Common.{◌≡◌, inl, inr, ◌≤◌, ◌<◌, ◌+◌, ◌*◌, ◌==◌, ◌++◌, ℕ, zero, suc, List, [], ◌∷◌, refl, sym, ◌∙◌, ap, subst, Bool, true, false, cond, arith, Option, None, add-one, drop, filter, length, get_or, nat_lt, set, slice_get, is_some}
use mathlib.Core.Bool.{not}
use Rattle.std.specs.List.{AllByRecursion, remove}
use Rattle.std.proofs.lemmas.Bool.Decides.{nat_tests}
use Rattle.std.proofs.lemmas.List.{get_or_default}
use Rattle.state_forest.specs.declared.record.Record.{Record}
use Rattle.state_forest.specs.Forests.{IsAscending}
use Rattle.state_forest.specs.Pages.{AreEmptyLast, FitsAt, IsPageOf, Reaches, empty_pages, records_in, room_in, weight_behind}
use Rattle.state_forest.specs.Places.{count_below, put_record, with_number}
use Rattle.state_forest.proofs.Places.{beyond_all}
use Rattle.state_forest.proofs.PageOrder.{all_lesser, ascends_left, ascends_right, page_fits, reaches}
use Rattle.state_forest.proofs.PageWeights.{fewer_weigh, gone_behind, room_rises}
use Rattle.state_forest.proofs.Removals.{keeps_all, none_beyond}

pub nil_right : (xs : List Record) → xs ++ [] ≡ xs
nil_right [] = refl
nil_right (x ∷ xs) = ap (λ ys. x ∷ ys) (nil_right xs)

-- Putting

put_through : (r : Record) (p qs : List Record) → AllByRecursion (λ (q : Record). q.num < r.num) p → put_record r (p ++ qs) ≡ p ++ put_record r qs
put_through r [] qs h = refl
put_through r (q ∷ p) qs h = let lesser = h.0 in let less : nat_lt q.num r.num ≡ true = grind (arith, nat_tests, lesser) in rw less (ap (λ xs. q ∷ xs) (put_through r p qs h.1))

put_within : (r : Record) (p qs : List Record) → Reaches r.num p → put_record r (p ++ qs) ≡ put_record r p ++ qs
put_within r [] qs e = absurd e
put_within r (q ∷ p) qs e = by (put_within r p qs) (nat_lt q.num r.num) refl e
  where
    by : (Reaches r.num p → put_record r (p ++ qs) ≡ put_record r p ++ qs) → (b : Bool) → nat_lt q.num r.num ≡ b → Reaches r.num (q ∷ p) → cond b (q ∷ put_record r (p ++ qs)) (cond (q.num == r.num) (r ∷ (p ++ qs)) (r ∷ q ∷ (p ++ qs))) ≡ cond b (q ∷ put_record r p) (cond (q.num == r.num) (r ∷ p) (r ∷ q ∷ p)) ++ qs
    by rest true t (inl e) = absurd (grind (arith, nat_tests, t, e))
    by rest true t (inr e) = ap (λ xs. q ∷ xs) (rest e)
    by rest false t e = here (q.num == r.num)
      where
        here : (c : Bool) → cond c (r ∷ (p ++ qs)) (r ∷ q ∷ (p ++ qs)) ≡ cond c (r ∷ p) (r ∷ q ∷ p) ++ qs
        here true = refl
        here false = refl

-- a record that is put on the page where it fits has its place among all
pub put_in : (r : Record) (ps : List (List Record)) (at : ℕ) (d : List Record) → FitsAt r.num at ps → put_record r (records_in ps) ≡ records_in (set ps at (put_record r (get_or ps at d)))
put_in r [] at d fits = absurd fits
put_in r (p ∷ ps) zero d (inl e) = put_within r p (records_in ps) e
put_in r (p ∷ ps) zero d (inr none) =
    ap (λ qs. put_record r (p ++ qs)) none ∙ ap (put_record r) (nil_right p) ∙ sym (nil_right (put_record r p)) ∙ ap (λ qs. put_record r p ++ qs) (sym none)
put_in r ([] ∷ ps) (suc at) d fits = absurd fits
put_in r ((q ∷ qs) ∷ ps) (suc at) d fits = put_through r (q ∷ qs) (records_in ps) fits.0 ∙ ap (λ xs. (q ∷ qs) ++ xs) (put_in r ps at d fits.1)

pub put_some : (r : Record) (qs : List Record) → put_record r qs ≡ [] → ⊥
put_some r [] e = absurd cc
put_some r (q ∷ qs) e = by (nat_lt q.num r.num) (q.num == r.num) e
  where
    by : (b c : Bool) → cond b (q ∷ put_record r qs) (cond c (r ∷ qs) (r ∷ q ∷ qs)) ≡ [] → ⊥
    by true c e = absurd cc
    by false true e = absurd cc
    by false false e = absurd cc

pub some_length : (qs : List Record) → (qs ≡ [] → ⊥) → 1 ≤ length qs
some_length [] some = absurd (some refl)
some_length (q ∷ qs) some = omega arith

-- Finding

abbrev found : ℕ → List Record → Option Record
found num rs = with_number num (slice_get rs (count_below num rs))

found_through : (num : ℕ) (p qs : List Record) → AllByRecursion (λ (q : Record). q.num < num) p → found num (p ++ qs) ≡ found num qs
found_through num [] qs h = refl
found_through num (q ∷ p) qs h =
    let lesser = h.0 in
    let less : nat_lt q.num num ≡ true = grind (arith, nat_tests, lesser) in
    let next : slice_get (q ∷ (p ++ qs)) (count_below num (p ++ qs) + 1) ≡ slice_get (p ++ qs) (count_below num (p ++ qs)) = rw add-one refl in
    rw (less, next) (found_through num p qs h.1)

found_within : (num : ℕ) (p qs : List Record) → Reaches num p → found num (p ++ qs) ≡ found num p
found_within num [] qs e = absurd e
found_within num (q ∷ p) qs e = by (found_within num p qs) (nat_lt q.num num) refl e
  where
    by : (Reaches num p → found num (p ++ qs) ≡ found num p) → (b : Bool) → nat_lt q.num num ≡ b → Reaches num (q ∷ p) → with_number num (slice_get (q ∷ (p ++ qs)) (cond b (count_below num (p ++ qs) + 1) 0)) ≡ with_number num (slice_get (q ∷ p) (cond b (count_below num p + 1) 0))
    by rest true t (inl e) = absurd (grind (arith, nat_tests, t, e))
    by rest true t (inr e) =
        let next : slice_get (q ∷ (p ++ qs)) (count_below num (p ++ qs) + 1) ≡ slice_get (p ++ qs) (count_below num (p ++ qs)) = rw add-one refl in
        let own : slice_get (q ∷ p) (count_below num p + 1) ≡ slice_get p (count_below num p) = rw add-one refl in
        rw (next, own) (rest e)
    by rest false t e = refl

-- a number that some record has is found on the page where it fits
pub found_in : (num : ℕ) (ps : List (List Record)) (at : ℕ) (d : List Record) → FitsAt num at ps → with_number num (slice_get (records_in ps) (count_below num (records_in ps))) ≡ with_number num (slice_get (get_or ps at d) (count_below num (get_or ps at d)))
found_in num [] at d fits = absurd fits
found_in num (p ∷ ps) zero d (inl e) = found_within num p (records_in ps) e
found_in num (p ∷ ps) zero d (inr none) = ap (λ qs. found num (p ++ qs)) none ∙ ap (found num) (nil_right p)
found_in num ([] ∷ ps) (suc at) d fits = absurd fits
found_in num ((q ∷ qs) ∷ ps) (suc at) d fits = found_through num (q ∷ qs) (records_in ps) fits.0 ∙ found_in num ps at d fits.1

-- a number that is greater than all is not found
pub found_none : (num : ℕ) (rs : List Record) → AllByRecursion (λ (q : Record). q.num < num) rs → with_number num (slice_get rs (count_below num rs)) ≡ None
found_none num rs h = sym (ap (found num) (nil_right rs)) ∙ found_through num rs [] h

-- Taking away

beyond : (num : ℕ) (p qs : List Record) → Reaches num p → IsAscending (p ++ qs) → AllByRecursion (λ (q : Record). num < q.num) qs
beyond num [] qs e h = absurd e
beyond num (r ∷ p) qs (inl e) h = beyond_all num r.num qs e (right p h.0)
  where
    right : (p : List Record) → AllByRecursion (λ (q : Record). r.num < q.num) (p ++ qs) → AllByRecursion (λ (q : Record). r.num < q.num) qs
    right [] h = h
    right (x ∷ p) h = right p h.1
beyond num (r ∷ p) qs (inr e) h = beyond num p qs e h.1

filter_both : (t : Record → Bool) (p qs : List Record) → filter t (p ++ qs) ≡ filter t p ++ filter t qs
filter_both t [] qs = refl
filter_both t (q ∷ p) qs = by (t q) (filter_both t p qs)
  where
    by : (b : Bool) → filter t (p ++ qs) ≡ filter t p ++ filter t qs → cond b (q ∷ filter t (p ++ qs)) (filter t (p ++ qs)) ≡ cond b (q ∷ filter t p) (filter t p) ++ filter t qs
    by true rest = ap (λ xs. q ∷ xs) rest
    by false rest = rest

others : (num : ℕ) (qs : List Record) → AllByRecursion (λ (q : Record). q.num < num) qs → AllByRecursion (λ r. not (r.num == num) ≡ true) qs
others num [] h = tt
others num (q ∷ qs) h = let less = h.0 in (grind (arith, nat_tests, less), others num qs h.1)

-- nothing is taken away if all records have lesser numbers
pub none_lesser : (num : ℕ) (qs : List Record) → AllByRecursion (λ (q : Record). q.num < num) qs → filter (λ r. not (r.num == num)) qs ≡ qs
none_lesser num qs h = keeps_all (λ r. not (r.num == num)) qs (others num qs h)

-- a number that is taken away from the page where it fits is taken away from all
pub filter_in : (num : ℕ) (ps : List (List Record)) (at : ℕ) (d : List Record) → IsAscending (records_in ps) → FitsAt num at ps → filter (λ r. not (r.num == num)) (records_in ps) ≡ records_in (set ps at (filter (λ r. not (r.num == num)) (get_or ps at d)))
filter_in num [] at d h fits = absurd fits
filter_in num (p ∷ ps) zero d h (inl e) =
    filter_both (λ r. not (r.num == num)) p (records_in ps)
    ∙ ap (λ xs. filter (λ r. not (r.num == num)) p ++ xs) (none_beyond num (records_in ps) (beyond num p (records_in ps) e h))
filter_in num (p ∷ ps) zero d h (inr none) =
    filter_both (λ r. not (r.num == num)) p (records_in ps)
    ∙ ap (λ xs. filter (λ r. not (r.num == num)) p ++ filter (λ r. not (r.num == num)) xs) none
    ∙ ap (λ xs. filter (λ r. not (r.num == num)) p ++ xs) (sym none)
filter_in num ([] ∷ ps) (suc at) d h fits = absurd fits
filter_in num ((q ∷ qs) ∷ ps) (suc at) d h fits =
    filter_both (λ r. not (r.num == num)) (q ∷ qs) (records_in ps)
    ∙ ap (λ xs. xs ++ filter (λ r. not (r.num == num)) (records_in ps)) (none_lesser num (q ∷ qs) fits.0)
    ∙ ap (λ xs. (q ∷ qs) ++ xs) (filter_in num ps at d (ascends_right (q ∷ qs) (records_in ps) h) fits.1)

-- Empty pages

pub empties_near : (ps : List (List Record)) (at : ℕ) (q : List Record) → empty_pages ps ≤ empty_pages (set ps at q) + 1
empties_near [] at q = omega arith
empties_near ([] ∷ ps) zero [] = omega arith
empties_near ([] ∷ ps) zero (x ∷ q) = omega arith
empties_near ((r ∷ rs) ∷ ps) zero [] = omega arith
empties_near ((r ∷ rs) ∷ ps) zero (x ∷ q) = omega arith
empties_near ([] ∷ ps) (suc at) q = omega (arith, empties_near ps at q)
empties_near ((r ∷ rs) ∷ ps) (suc at) q = empties_near ps at q

pub empties_kept : (ps : List (List Record)) (at : ℕ) (d q : List Record) → at < length ps → (get_or ps at d ≡ [] → ⊥) → (q ≡ [] → ⊥) → empty_pages (set ps at q) ≡ empty_pages ps
empties_kept [] at d q e some new = absurd (omega (arith, e))
empties_kept ([] ∷ ps) zero d q e some new = absurd (some refl)
empties_kept ((r ∷ rs) ∷ ps) zero d [] e some new = absurd (new refl)
empties_kept ((r ∷ rs) ∷ ps) zero d (x ∷ q) e some new = refl
empties_kept ([] ∷ ps) (suc at) d q e some new = ap (λ n. n + 1) (empties_kept ps at d q (omega (arith, e)) some new)
empties_kept ((r ∷ rs) ∷ ps) (suc at) d q e some new = empties_kept ps at d q (omega (arith, e)) some new

-- if there were records on the page, the change empties at most one page
pub empties_rise : (ps : List (List Record)) (at : ℕ) (q : List Record) → (get_or ps at [] ≡ [] → ⊥) → empty_pages ps ≤ empty_pages (set ps at q)
empties_rise [] at q some = omega arith
empties_rise ([] ∷ ps) zero q some = absurd (some refl)
empties_rise ((r ∷ rs) ∷ ps) zero [] some = omega arith
empties_rise ((r ∷ rs) ∷ ps) zero (x ∷ q) some = omega arith
empties_rise ([] ∷ ps) (suc at) q some = omega (arith, empties_rise ps at q some)
empties_rise ((r ∷ rs) ∷ ps) (suc at) q some = empties_rise ps at q some

pub nothing_last : (ps : List (List Record)) → records_in ps ≡ [] → AreEmptyLast ps
nothing_last [] e = tt
nothing_last ([] ∷ ps) e = e
nothing_last ((r ∷ rs) ∷ ps) e = absurd cc

-- the empty pages are still last, if something stands on the page that was put
pub last_put : (num : ℕ) (ps : List (List Record)) (at : ℕ) (q : List Record) → FitsAt num at ps → AreEmptyLast ps → (q ≡ [] → ⊥) → AreEmptyLast (set ps at q)
last_put num [] at q fits l new = absurd fits
last_put num (p ∷ ps) zero [] fits l new = absurd (new refl)
last_put num ([] ∷ ps) zero (x ∷ q) fits l new = nothing_last ps l
last_put num ((r ∷ rs) ∷ ps) zero (x ∷ q) fits l new = l
last_put num ([] ∷ ps) (suc at) q fits l new = absurd fits
last_put num ((r ∷ rs) ∷ ps) (suc at) q fits l new = last_put num ps at q fits.1 l new

pub fits_length : (num : ℕ) (ps : List (List Record)) (at : ℕ) → FitsAt num at ps → at < length ps
fits_length num [] at fits = absurd fits
fits_length num (p ∷ ps) zero fits = omega arith
fits_length num ([] ∷ ps) (suc at) fits = absurd fits
fits_length num ((r ∷ rs) ∷ ps) (suc at) fits = omega (arith, fits_length num ps at fits.1)

-- the records of each page are in order
pub ascends_on : (ps : List (List Record)) (at : ℕ) (d : List Record) → at < length ps → IsAscending (records_in ps) → IsAscending (get_or ps at d)
ascends_on [] at d e h = absurd (omega (arith, e))
ascends_on (p ∷ ps) zero d e h = ascends_left p (records_in ps) h
ascends_on (p ∷ ps) (suc at) d e h = ascends_on ps at d (omega (arith, e)) (ascends_right p (records_in ps) h)

-- a number that is found stands on a page with records
pub found_some : (num : ℕ) (rs : List Record) → is_some (with_number num (slice_get rs (count_below num rs))) ≡ true → rs ≡ [] → ⊥
found_some num [] e none = absurd cc
found_some num (r ∷ rs) e none = absurd cc

-- if a number stands on the pages, the page where it belongs exists
pub there_within : (num : ℕ) (ps : List (List Record)) (k : ℕ) → IsAscending (records_in ps) → AreEmptyLast ps → IsPageOf num k ps → is_some (with_number num (slice_get (records_in ps) (count_below num (records_in ps)))) ≡ true → k < length ps
there_within num ps k h l at e = by (nat_lt k (length ps)) refl
  where
    by : (b : Bool) → nat_lt k (length ps) ≡ b → k < length ps
    by true t = grind (arith, nat_tests, t)
    by false t = absurd (let none = found_none num (records_in ps) (all_lesser num ps k h l (grind (arith, nat_tests, t)) at) in cc)

-- With p the page at a place, what is known of it

pub page_ascends : (ps : List (List Record)) (at : ℕ) (p : List Record) → at < length ps → p ≡ get_or ps at p → IsAscending (records_in ps) → IsAscending p
page_ascends ps at p e is h = subst IsAscending (sym is) (ascends_on ps at p e h)

pub page_found : (num : ℕ) (ps : List (List Record)) (at : ℕ) (p : List Record) → p ≡ get_or ps at p → FitsAt num at ps → with_number num (slice_get (records_in ps) (count_below num (records_in ps))) ≡ with_number num (slice_get p (count_below num p))
page_found num ps at p is fits = found_in num ps at p fits ∙ ap (found num) (sym is)

pub page_put : (r : Record) (ps : List (List Record)) (at : ℕ) (p : List Record) → p ≡ get_or ps at p → FitsAt r.num at ps → records_in (set ps at (put_record r p)) ≡ put_record r (records_in ps)
page_put r ps at p is fits = ap (λ q. records_in (set ps at (put_record r q))) is ∙ sym (put_in r ps at p fits)

pub page_filter : (num : ℕ) (ps : List (List Record)) (at : ℕ) (p : List Record) → p ≡ get_or ps at p → IsAscending (records_in ps) → FitsAt num at ps → records_in (set ps at (filter (λ r. not (r.num == num)) p)) ≡ filter (λ r. not (r.num == num)) (records_in ps)
page_filter num ps at p is h fits = ap (λ q. records_in (set ps at (filter (λ r. not (r.num == num)) q))) is ∙ sym (filter_in num ps at p h fits)

-- A page that became empty is moved behind all others

pub behind : (ps : List (List Record)) → records_in (ps ++ [] ∷ []) ≡ records_in ps
behind [] = refl
behind (p ∷ ps) = ap (λ xs. p ++ xs) (behind ps)

pub emptied_behind : (ps : List (List Record)) → AreEmptyLast ps → AreEmptyLast (ps ++ [] ∷ [])
emptied_behind [] l = refl
emptied_behind ([] ∷ ps) l = behind ps ∙ l
emptied_behind ((r ∷ rs) ∷ ps) l = emptied_behind ps l

pub more_behind : (ps : List (List Record)) → empty_pages (ps ++ [] ∷ []) ≡ empty_pages ps + 1
more_behind [] = refl
more_behind ([] ∷ ps) = ap (λ n. n + 1) (more_behind ps)
more_behind ((r ∷ rs) ∷ ps) = more_behind ps

-- the pages without the one at a place, which now stands empty behind the others
pub record IsMoved (ps : List (List Record)) (at : ℕ) (new : List (List Record)) : Type 0 where
  pub same : records_in new ≡ records_in (set ps at [])
  pub last : AreEmptyLast new
  pub spare : empty_pages ps ≤ empty_pages new
  pub weight : (k : ℕ) → 16 * empty_pages ps + weight_behind k new ≤ 16 * empty_pages new + weight_behind k ps

pub moved_is : (num : ℕ) (ps : List (List Record)) (at : ℕ) → AreEmptyLast ps → FitsAt num at ps → IsMoved ps at (remove (set ps at []) at ++ [] ∷ [])
moved_is num [] at l fits = absurd fits
moved_is num ([] ∷ ps) zero l fits = record {
  same = behind ps;
  last = emptied_behind ps (nothing_last ps l);
  spare = omega (arith, more_behind ps);
  weight = λ k. omega (arith, more_behind ps, gone_behind k [] ps);
}
moved_is num ((r ∷ rs) ∷ ps) zero l fits = record {
  same = behind ps;
  last = emptied_behind ps l;
  spare = omega (arith, more_behind ps);
  weight = λ k. omega (arith, more_behind ps, gone_behind k (r ∷ rs) ps);
}
moved_is num ([] ∷ ps) (suc at) l fits = absurd fits
moved_is num ((r ∷ rs) ∷ ps) (suc at) l fits =
    let rest = moved_is num ps at l fits.1 in
    record {
      same = ap (λ xs. (r ∷ rs) ++ xs) rest.same;
      last = rest.last;
      spare = rest.spare;
      weight = λ k. omega (arith, rest.weight (length (r ∷ rs)));
    }

pub page_at : (ps : List (List Record)) (at : ℕ) (p : List Record) → at < length ps → p ≡ get_or ps at p → get_or ps at [] ≡ p
page_at ps at p e is = get_or_default ps at [] p e ∙ sym is

-- what is known of p, the page at a place on which a number stands
pub record IsFound (num at : ℕ) (ps : List (List Record)) (p : List Record) : Type 0 where
  pub within : at < length ps
  pub is : p ≡ get_or ps at p
  pub fits : FitsAt num at ps
  pub there : is_some (with_number num (slice_get p (count_below num p))) ≡ true

pub found_on : (num at : ℕ) (ps : List (List Record)) (p : List Record) → IsAscending (records_in ps) → AreEmptyLast ps → IsPageOf num at ps → is_some (with_number num (slice_get (records_in ps) (count_below num (records_in ps)))) ≡ true → p ≡ get_or ps at p → IsFound num at ps p
found_on num at ps p h l e there is =
    let within = there_within num ps at h l e there in
    let fits = page_fits num ps at h l within e in
    record { within = within; is = is; fits = fits; there = ap is_some (sym (page_found num ps at p is fits)) ∙ there }

-- what is known of q, the page at a place without a number
pub record IsCut (num at : ℕ) (ps : List (List Record)) (p q : List Record) : Type 0 where
  pub within : at < length ps
  pub is : p ≡ get_or ps at p
  pub fits : FitsAt num at ps
  pub last : AreEmptyLast ps
  pub order : IsAscending (records_in ps)
  pub cut : q ≡ filter (λ r. not (r.num == num)) p
  pub fewer : length q ≤ length p

pub record IsWithout (num : ℕ) (old new : List (List Record)) : Type 0 where
  pub items : records_in new ≡ filter (λ r. not (r.num == num)) (records_in old)
  pub last : AreEmptyLast new
  pub room : room_in old ≤ room_in new

-- if records are left on the page, it stays where it is
pub cut_stays : (num at : ℕ) (ps : List (List Record)) (p q : List Record) → IsCut num at ps p q → (q ≡ [] → ⊥) → IsWithout num ps (set ps at q)
cut_stays num at ps p q h some =
    let one = some_length q some in
    let few : length q ≤ length (get_or ps at []) = omega (arith, h.fewer, ap length (page_at ps at p h.within h.is)) in
    let rise = empties_rise ps at q (λ none. absurd (omega (arith, one, few, ap length none))) in
    record {
      items = ap (λ xs. records_in (set ps at xs)) h.cut ∙ page_filter num ps at p h.is h.order h.fits;
      last = last_put num ps at q h.fits h.last some;
      room = room_rises ps (set ps at q) rise (omega (arith, rise, fewer_weigh 16 ps at q one few));
    }

-- otherwise it is moved behind all others
pub cut_moves : (num at : ℕ) (ps : List (List Record)) (p q : List Record) (new : List (List Record)) → IsCut num at ps p q → q ≡ [] → new ≡ remove (set ps at q) at ++ [] ∷ [] → IsWithout num ps new
cut_moves num at ps p q new h none is =
    let whole : new ≡ remove (set ps at []) at ++ [] ∷ [] = is ∙ ap (λ (xs : List Record). remove (set ps at xs) at ++ [] ∷ []) none in
    let now = moved_is num ps at h.last h.fits in
    record {
      items = ap records_in whole ∙ now.same ∙ ap (λ xs. records_in (set ps at xs)) (sym none ∙ h.cut) ∙ page_filter num ps at p h.is h.order h.fits;
      last = subst AreEmptyLast (sym whole) now.last;
      room = subst (λ (ns : List (List Record)). room_in ps ≤ room_in ns) (sym whole) (room_rises ps (remove (set ps at []) at ++ [] ∷ []) now.spare (now.weight 16));
    }

-- a page with records has a record that reaches the number, if it is the page of that number
pub page_reached : (num : ℕ) (ps : List (List Record)) (at : ℕ) → IsPageOf num at ps → (get_or ps at [] ≡ [] → ⊥) → Reaches num (get_or ps at [])
page_reached num [] at e some = absurd (some refl)
page_reached num ([] ∷ ps) zero e some = absurd (some refl)
page_reached num ((r ∷ rs) ∷ ps) zero e some = reaches num r rs e
page_reached num (p ∷ ps) (suc at) e some = page_reached num ps at e.1 some

-- all pages before the page of a number have records
pub page_some : (num : ℕ) (ps : List (List Record)) (k : ℕ) → IsPageOf num (suc k) ps → get_or ps k [] ≡ [] → ⊥
page_some num [] k at e = at
page_some num ([] ∷ ps) zero at e = let none = at.0 in cc
page_some num ((r ∷ rs) ∷ ps) zero at e = cc
page_some num (p ∷ ps) (suc k) at e = page_some num ps k at.1 e

-- Those with greater numbers

all_more : (num : ℕ) (qs : List Record) → AllByRecursion (λ (q : Record). num < q.num) qs → filter (λ r. nat_lt num r.num) qs ≡ qs
all_more num [] h = refl
all_more num (q ∷ qs) h = let more = h.0 in let test : nat_lt num q.num ≡ true = grind (arith, nat_tests, more) in rw test (ap (λ xs. q ∷ xs) (all_more num qs h.1))

pub none_more : (num : ℕ) (qs : List Record) → AllByRecursion (λ (q : Record). q.num < num) qs → filter (λ r. nat_lt num r.num) qs ≡ []
none_more num [] h = refl
none_more num (q ∷ qs) h = let less = h.0 in let test : nat_lt num q.num ≡ false = grind (arith, nat_tests, less) in rw test (none_more num qs h.1)

pub after_page : (num : ℕ) (ps : List (List Record)) (at : ℕ) (d : List Record) → IsAscending (records_in ps) → FitsAt num at ps → filter (λ r. nat_lt num r.num) (get_or ps at d) ++ records_in (drop (suc at) ps) ≡ filter (λ r. nat_lt num r.num) (records_in ps)
after_page num [] at d h fits = absurd fits
after_page num (p ∷ ps) zero d h (inl e) = sym (
    filter_both (λ r. nat_lt num r.num) p (records_in ps)
    ∙ ap (λ xs. filter (λ r. nat_lt num r.num) p ++ xs) (all_more num (records_in ps) (beyond num p (records_in ps) e h))
    )
after_page num (p ∷ ps) zero d h (inr none) = sym (
    filter_both (λ r. nat_lt num r.num) p (records_in ps)
    ∙ ap (λ xs. filter (λ r. nat_lt num r.num) p ++ filter (λ r. nat_lt num r.num) xs) none
    ∙ ap (λ xs. filter (λ r. nat_lt num r.num) p ++ xs) (sym none)
    )
after_page num ([] ∷ ps) (suc at) d h fits = absurd fits
after_page num ((q ∷ qs) ∷ ps) (suc at) d h fits =
    after_page num ps at d (ascends_right (q ∷ qs) (records_in ps) h) fits.1
    ∙ sym (
    filter_both (λ r. nat_lt num r.num) (q ∷ qs) (records_in ps)
    ∙ ap (λ xs. xs ++ filter (λ r. nat_lt num r.num) (records_in ps)) (none_more num (q ∷ qs) fits.0)
    )
