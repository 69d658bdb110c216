-- a full page, whose upper half is moved to an empty one behind it
use Rattle.std.proofs.Common.{◌≡◌, inl, inr, ◌≤◌, ◌<◌, ◌+◌, ◌++◌, ℕ, zero, suc, List, [], ◌∷◌, refl, sym, ◌∙◌, ap, subst, true, false, arith, add-one, length, length-append, get_or, set}
use Rattle.std.specs.List.{AllByRecursion, insert}
use Rattle.std.proofs.lemmas.List.{append_assoc}
use Rattle.state_forest.specs.declared.record.Record.{Record}
use Rattle.state_forest.specs.Forests.{IsAscending}
use Rattle.state_forest.specs.Pages.{AreEmptyLast, FitsAt, IsSeat, Reaches, empty_pages, lies_below, records_in, room_in, weight_behind, weight_in}
use Rattle.state_forest.proofs.PageOrder.{all_below, ascends_left, reaches}
use Rattle.state_forest.proofs.PageEdits.{behind, empties_near, empties_rise, more_behind}
use Rattle.state_forest.proofs.PageWeights.{before, behind_weighs, one_weighs, room_falls, weighs_as_much, weighs_less}

-- the pages with two halves in place of one page
abbrev pub with_halves : List (List Record) → ℕ → List Record → List Record → List (List Record)
with_halves [] at lo up = []
with_halves (p ∷ ps) zero lo up = lo ∷ up ∷ ps
with_halves (p ∷ ps) (suc at) lo up = p ∷ with_halves ps at lo up

pub halves_are : (ps : List (List Record)) (at : ℕ) (lo up : List Record) → at < length ps → insert (set ps at lo) (at + 1) up ≡ with_halves ps at lo up
halves_are [] at lo up e = absurd (omega (arith, e))
halves_are (p ∷ ps) zero lo up e = refl
halves_are (p ∷ ps) (suc at) lo up e =
    let next : insert (p ∷ set ps at lo) (suc at + 1) up ≡ p ∷ insert (set ps at lo) (at + 1) up = rw (add-one (suc at), add-one at) refl in
    next ∙ ap (λ qs. p ∷ qs) (halves_are ps at lo up (omega (arith, e)))

-- a page that is emptied as the last of all
pub emptied_last : (ps : List (List Record)) (p : List Record) → AreEmptyLast (ps ++ p ∷ []) → 1 ≤ empty_pages (ps ++ p ∷ []) → p ≡ []
emptied_last [] [] l e = refl
emptied_last [] (r ∷ rs) l e = absurd (omega (arith, e))
emptied_last ([] ∷ ps) p l e = none ps l
  where
    none : (ps : List (List Record)) → records_in (ps ++ p ∷ []) ≡ [] → p ≡ []
    none [] e = by p e
      where
        by : (p : List Record) → p ++ [] ≡ [] → p ≡ []
        by [] e = refl
        by (x ∷ xs) e = absurd cc
    none ([] ∷ ps) e = none ps e
    none ((x ∷ xs) ∷ ps) e = absurd cc
emptied_last ((r ∷ rs) ∷ ps) p l e = emptied_last ps p l e

halves_hold : (ps : List (List Record)) (at : ℕ) (d lo up : List Record) → at < length ps → lo ++ up ≡ get_or ps at d → records_in (with_halves ps at lo up) ≡ records_in (ps ++ [] ∷ [])
halves_hold [] at d lo up e both = absurd (omega (arith, e))
halves_hold (p ∷ ps) zero d lo up e both = sym (append_assoc lo up (records_in ps)) ∙ ap (λ xs. xs ++ records_in ps) both ∙ ap (λ xs. p ++ xs) (sym (behind ps))
halves_hold (p ∷ ps) (suc at) d lo up e both = ap (λ xs. p ++ xs) (halves_hold ps at d lo up (omega (arith, e)) both)

left_last : (ps : List (List Record)) → AreEmptyLast (ps ++ [] ∷ []) → AreEmptyLast ps
left_last [] l = tt
left_last ([] ∷ ps) l = none ps l
  where
    none : (ps : List (List Record)) → records_in (ps ++ [] ∷ []) ≡ [] → records_in ps ≡ []
    none [] e = refl
    none ([] ∷ ps) e = none ps e
    none ((x ∷ xs) ∷ ps) e = absurd cc
left_last ((r ∷ rs) ∷ ps) l = left_last ps l

halves_last : (num : ℕ) (ps : List (List Record)) (at : ℕ) (x y : Record) (lo up : List Record) → at < length ps → FitsAt num at (ps ++ [] ∷ []) → AreEmptyLast (ps ++ [] ∷ []) → (get_or ps at [] ≡ [] → ⊥) → AreEmptyLast (with_halves ps at (x ∷ lo) (y ∷ up))
halves_last num [] at x y lo up e fits l some = absurd (omega (arith, e))
halves_last num ([] ∷ ps) zero x y lo up e fits l some = absurd (some refl)
halves_last num ((r ∷ rs) ∷ ps) zero x y lo up e fits l some = left_last ps l
halves_last num ([] ∷ ps) (suc at) x y lo up e fits l some = absurd fits
halves_last num ((r ∷ rs) ∷ ps) (suc at) x y lo up e fits l some = halves_last num ps at x y lo up (omega (arith, e)) fits.1 l some

lower_fits : (num : ℕ) (ps : List (List Record)) (at : ℕ) (lo up : List Record) → at < length ps → FitsAt num at (ps ++ [] ∷ []) → Reaches num lo → FitsAt num at (with_halves ps at lo up)
lower_fits num [] at lo up e fits new = absurd (omega (arith, e))
lower_fits num (p ∷ ps) zero lo up e fits new = inl new
lower_fits num ([] ∷ ps) (suc at) lo up e fits new = absurd fits
lower_fits num ((r ∷ rs) ∷ ps) (suc at) lo up e fits new = (fits.0, lower_fits num ps at lo up (omega (arith, e)) fits.1 new)

upper_fits : (num : ℕ) (ps : List (List Record)) (at : ℕ) (x : Record) (lo up : List Record) → at < length ps → FitsAt num at (ps ++ [] ∷ []) → AllByRecursion (λ (q : Record). q.num < num) (x ∷ lo) → Reaches num up → FitsAt num (suc at) (with_halves ps at (x ∷ lo) up)
upper_fits num [] at x lo up e fits lesser new = absurd (omega (arith, e))
upper_fits num (p ∷ ps) zero x lo up e fits lesser new = (lesser, inl new)
upper_fits num ([] ∷ ps) (suc at) x lo up e fits lesser new = absurd fits
upper_fits num ((r ∷ rs) ∷ ps) (suc at) x lo up e fits lesser new = (fits.0, upper_fits num ps at x lo up (omega (arith, e)) fits.1 lesser new)

lower_is : (ps : List (List Record)) (at : ℕ) (lo up d : List Record) → at < length ps → get_or (with_halves ps at lo up) at d ≡ lo
lower_is [] at lo up d e = absurd (omega (arith, e))
lower_is (p ∷ ps) zero lo up d e = refl
lower_is (p ∷ ps) (suc at) lo up d e = lower_is ps at lo up d (omega (arith, e))

upper_is : (ps : List (List Record)) (at : ℕ) (lo up d : List Record) → at < length ps → get_or (with_halves ps at lo up) (suc at) d ≡ up
upper_is [] at lo up d e = absurd (omega (arith, e))
upper_is (p ∷ ps) zero lo up d e = refl
upper_is (p ∷ ps) (suc at) lo up d e = upper_is ps at lo up d (omega (arith, e))

-- halving leaves one empty page fewer
halves_spare : (ps : List (List Record)) (at : ℕ) (x y : Record) (lo up : List Record) → at < length ps → (get_or ps at [] ≡ [] → ⊥) → empty_pages (with_halves ps at (x ∷ lo) (y ∷ up)) + 1 ≡ empty_pages (ps ++ [] ∷ [])
halves_spare [] at x y lo up e some = absurd (omega (arith, e))
halves_spare ([] ∷ ps) zero x y lo up e some = absurd (some refl)
halves_spare ((r ∷ rs) ∷ ps) zero x y lo up e some = sym (more_behind ps)
halves_spare ([] ∷ ps) (suc at) x y lo up e some = ap (λ n. n + 1) (halves_spare ps at x y lo up (omega (arith, e)) some)
halves_spare ((r ∷ rs) ∷ ps) (suc at) x y lo up e some = halves_spare ps at x y lo up (omega (arith, e)) some

-- with one record more on the lower half, or on the upper, the weight falls by at least 15
lower_weighs : (k : ℕ) (ps : List (List Record)) (at : ℕ) (y : Record) (lo up q : List Record) → at < length ps → length (get_or ps at []) ≡ 32 → length (y ∷ up) ≡ 16 → 1 ≤ length q → length q ≤ 17 → weight_behind k (set (with_halves ps at lo (y ∷ up)) at q) + 15 ≤ weight_behind k ps
lower_weighs k [] at y lo up q e full upper some few = absurd (omega (arith, e))
lower_weighs k (p ∷ ps) zero y lo up [] e full upper some few = absurd (omega (arith, some))
lower_weighs k ([] ∷ ps) zero y lo up (x ∷ q) e full upper some few = absurd (omega (arith, full))
lower_weighs k ((r ∷ rs) ∷ ps) zero y lo up (x ∷ q) e full upper some few = omega (arith, full, upper, few, weighs_as_much (length (y ∷ up)) (length (r ∷ rs)) ps (omega (arith, upper)) (omega (arith, full, upper)))
lower_weighs k ([] ∷ ps) (suc at) y lo up q e full upper some few = lower_weighs k ps at y lo up q (omega (arith, e)) full upper some few
lower_weighs k ((r ∷ rs) ∷ ps) (suc at) y lo up q e full upper some few = omega (arith, lower_weighs (length (r ∷ rs)) ps at y lo up q (omega (arith, e)) full upper some few)

upper_weighs : (k : ℕ) (ps : List (List Record)) (at : ℕ) (x : Record) (lo up q : List Record) → at < length ps → length (get_or ps at []) ≡ 32 → length (x ∷ lo) ≡ 16 → 1 ≤ length q → length q ≤ 17 → weight_behind k (set (with_halves ps at (x ∷ lo) up) (suc at) q) + 15 ≤ weight_behind k ps
upper_weighs k [] at x lo up q e full lower some few = absurd (omega (arith, e))
upper_weighs k (p ∷ ps) zero x lo up [] e full lower some few = absurd (omega (arith, some))
upper_weighs k ([] ∷ ps) zero x lo up (y ∷ q) e full lower some few = absurd (omega (arith, full))
upper_weighs k ((r ∷ rs) ∷ ps) zero x lo up (y ∷ q) e full lower some few = omega (arith, full, lower, weighs_less (length (y ∷ q)) 17 ps few, weighs_as_much 17 (length (r ∷ rs)) ps (omega arith) (omega (arith, full)))
upper_weighs k ([] ∷ ps) (suc at) x lo up q e full lower some few = upper_weighs k ps at x lo up q (omega (arith, e)) full lower some few
upper_weighs k ((r ∷ rs) ∷ ps) (suc at) x lo up q e full lower some few = omega (arith, upper_weighs (length (r ∷ rs)) ps at x lo up q (omega (arith, e)) full lower some few)

-- Which half it is

-- what is known of pages whose page at a place is halved
pub record IsHalved (num at : ℕ) (ps : List (List Record)) (lo up : List Record) : Type 0 where
  pub within : at < length ps
  pub fits : FitsAt num at (ps ++ [] ∷ [])
  pub last : AreEmptyLast (ps ++ [] ∷ [])
  pub both : lo ++ up ≡ get_or ps at []
  pub lower : length lo ≡ 16
  pub upper : length up ≡ 16
  pub order : IsAscending (get_or ps at [])

reached_upper : (num : ℕ) (lo up : List Record) → AllByRecursion (λ (q : Record). q.num < num) lo → Reaches num (lo ++ up) → Reaches num up
reached_upper num [] up h e = e
reached_upper num (q ∷ lo) up h (inl e) = absurd (omega (arith, h.0, e))
reached_upper num (q ∷ lo) up h (inr e) = reached_upper num lo up h.1 e

still_some : (xs ys zs : List Record) → xs ++ ys ≡ zs → (xs ≡ [] → ⊥) → zs ≡ [] → ⊥
still_some [] ys zs e some none = some refl
still_some (x ∷ xs) ys zs e some none = absurd cc

-- the page at a place that is halved had 32 records
were_full : (num at : ℕ) (ps : List (List Record)) (lo up : List Record) → IsHalved num at ps lo up → length (get_or ps at []) ≡ 32
were_full num at ps lo up h = omega (arith, sym (ap length h.both), length-append lo up, h.lower, h.upper)

-- there is one empty page fewer, and the weight falls by 15
half_room : (old halves : List (List Record)) (at : ℕ) (q : List Record) → (get_or halves at [] ≡ [] → ⊥) → empty_pages halves + 1 ≡ empty_pages old → weight_in (set halves at q) + 15 ≤ weight_in old → room_in old ≤ room_in (set halves at q) + 1
half_room old halves at q some one weight =
    let rise = empties_rise halves at q some in
    room_falls old (set halves at q) (omega (arith, one, rise)) (omega (arith, one, rise, weight))

lower_seat : (num at : ℕ) (ps : List (List Record)) (lo up : List Record) → IsHalved num at ps lo up → lies_below num lo ≡ false → IsSeat num at (ps ++ [] ∷ []) (with_halves ps at lo up)
lower_seat num at ps [] up h e = absurd (omega (arith, h.lower))
lower_seat num at ps (x ∷ lo) [] h e = absurd (omega (arith, h.upper))
lower_seat num at ps (x ∷ lo) (y ∷ up) h e =
    let some = still_some (x ∷ lo) (y ∷ up) (get_or ps at []) h.both (λ none. absurd cc) in
    let is = lower_is ps at (x ∷ lo) (y ∷ up) [] h.within in
    record {
      same = halves_hold ps at [] (x ∷ lo) (y ∷ up) h.within h.both;
      last = halves_last num ps at x y lo up h.within h.fits h.last some;
      fits = lower_fits num ps at (x ∷ lo) (y ∷ up) h.within h.fits (reaches num x lo e);
      room = omega (arith, ap length is, h.lower);
      spare = λ q one few. half_room (ps ++ [] ∷ []) (with_halves ps at (x ∷ lo) (y ∷ up)) at q (λ none. absurd (let other = sym is ∙ none in cc)) (halves_spare ps at x y lo up h.within some)
          (omega (arith, behind_weighs 16 ps, lower_weighs 16 ps at y (x ∷ lo) up q h.within (were_full num at ps (x ∷ lo) (y ∷ up) h) h.upper one (omega (arith, few, ap length is, h.lower))));
    }

upper_seat : (num at : ℕ) (ps : List (List Record)) (lo up : List Record) → IsHalved num at ps lo up → Reaches num (get_or ps at []) → lies_below num lo ≡ true → IsSeat num (suc at) (ps ++ [] ∷ []) (with_halves ps at lo up)
upper_seat num at ps [] up h reached e = absurd (omega (arith, h.lower))
upper_seat num at ps (x ∷ lo) [] h reached e = absurd (omega (arith, h.upper))
upper_seat num at ps (x ∷ lo) (y ∷ up) h reached e =
    let some = still_some (x ∷ lo) (y ∷ up) (get_or ps at []) h.both (λ none. absurd cc) in
    let is = upper_is ps at (x ∷ lo) (y ∷ up) [] h.within in
    let order : IsAscending ((x ∷ lo) ++ (y ∷ up)) = subst IsAscending (sym h.both) h.order in
    let lesser = all_below num (x ∷ lo) (ascends_left (x ∷ lo) (y ∷ up) order) e in
    let new = reached_upper num (x ∷ lo) (y ∷ up) lesser (subst (Reaches num) (sym h.both) reached) in
    record {
      same = halves_hold ps at [] (x ∷ lo) (y ∷ up) h.within h.both;
      last = halves_last num ps at x y lo up h.within h.fits h.last some;
      fits = upper_fits num ps at x lo (y ∷ up) h.within h.fits lesser new;
      room = omega (arith, ap length is, h.upper);
      spare = λ q one few. half_room (ps ++ [] ∷ []) (with_halves ps at (x ∷ lo) (y ∷ up)) (suc at) q (λ none. absurd (let other = sym is ∙ none in cc)) (halves_spare ps at x y lo up h.within some)
          (omega (arith, behind_weighs 16 ps, upper_weighs 16 ps at x lo (y ∷ up) q h.within (were_full num at ps (x ∷ lo) (y ∷ up) h) h.lower one (omega (arith, few, ap length is, h.upper))));
    }

pub seat_lower : (num at : ℕ) (old ps : List (List Record)) (lo up : List Record) → old ≡ ps ++ [] ∷ [] → IsHalved num at ps lo up → lies_below num lo ≡ false → IsSeat num at old (insert (set ps at lo) (at + 1) up)
seat_lower num at old ps lo up is h e = subst (λ os. IsSeat num at os (insert (set ps at lo) (at + 1) up)) (sym is) (subst (IsSeat num at (ps ++ [] ∷ [])) (sym (halves_are ps at lo up h.within)) (lower_seat num at ps lo up h e))

pub seat_upper : (num at : ℕ) (old ps : List (List Record)) (lo up : List Record) → old ≡ ps ++ [] ∷ [] → IsHalved num at ps lo up → Reaches num (get_or ps at []) → lies_below num lo ≡ true → IsSeat num (at + 1) old (insert (set ps at lo) (at + 1) up)
seat_upper num at old ps lo up is h reached e = subst (λ os. IsSeat num (at + 1) os (insert (set ps at lo) (at + 1) up)) (sym is) (subst (IsSeat num (at + 1) (ps ++ [] ∷ [])) (sym (halves_are ps at lo up h.within)) (subst (λ k. IsSeat num k (ps ++ [] ∷ []) (with_halves ps at lo up)) (sym (add-one at)) (upper_seat num at ps lo up h reached e)))

-- if a full page is one of the pages, it stands before an empty one behind them
pub full_within : (ps : List (List Record)) (at : ℕ) → length (get_or (ps ++ [] ∷ []) at []) ≡ 32 → at < length ps
full_within [] zero e = absurd (omega (arith, e))
full_within [] (suc at) e = absurd (omega (arith, e))
full_within (p ∷ ps) zero e = omega arith
full_within (p ∷ ps) (suc at) e = omega (arith, full_within ps at e)

pub get_before : (ps : List (List Record)) (at : ℕ) (d e : List Record) → at < length ps → get_or (ps ++ [] ∷ []) at d ≡ get_or ps at e
get_before [] at d e less = absurd (omega (arith, less))
get_before (p ∷ ps) zero d e less = refl
get_before (p ∷ ps) (suc at) d e less = get_before ps at d e (omega (arith, less))

-- Other seats

pub seat_here : (num at : ℕ) (ps : List (List Record)) → AreEmptyLast ps → FitsAt num at ps → length (get_or ps at []) < 32 → (get_or ps at [] ≡ [] → 16 ≤ before 16 at ps) → IsSeat num at ps ps
seat_here num at ps l fits room full = record {
  same = refl;
  last = l;
  fits = fits;
  room = room;
  spare = λ q one few. room_falls ps (set ps at q) (empties_near ps at q) (one_weighs num 16 ps at q l fits full one few);
}

-- What is known where a page was taken off the back

-- the same records stand there, and one empty page fewer
pub record IsDropped (old ps : List (List Record)) : Type 0 where
  pub same : records_in ps ≡ records_in old
  pub last : AreEmptyLast ps
  pub spare : empty_pages old ≡ empty_pages ps + 1

pub dropped : (old ps : List (List Record)) (p : List Record) → old ≡ ps ++ p ∷ [] → AreEmptyLast old → 1 ≤ empty_pages old → IsDropped old ps
dropped old ps p is l e =
    let empty = emptied_last ps p (subst AreEmptyLast is l) (subst (λ (os : List (List Record)). 1 ≤ empty_pages os) is e) in
    let whole : old ≡ ps ++ [] ∷ [] = is ∙ ap (λ (q : List Record). ps ++ q ∷ []) empty in
    record {
      same = sym (ap records_in whole ∙ behind ps);
      last = left_last ps (subst AreEmptyLast whole l);
      spare = ap empty_pages whole ∙ more_behind ps;
    }

pub record IsPopped (num at : ℕ) (old ps : List (List Record)) (p : List Record) : Type 0 where
  pub empty : p ≡ []
  pub is : old ≡ ps ++ [] ∷ []
  pub within : at < length ps
  pub same : get_or ps at [] ≡ get_or old at []

pub popped : (num at : ℕ) (old ps : List (List Record)) (p : List Record) → old ≡ ps ++ p ∷ [] → AreEmptyLast old → 1 ≤ empty_pages old → length (get_or old at []) ≡ 32 → IsPopped num at old ps p
popped num at old ps p is l e full =
    let empty = emptied_last ps p (subst AreEmptyLast is l) (subst (λ (os : List (List Record)). 1 ≤ empty_pages os) is e) in
    let whole : old ≡ ps ++ [] ∷ [] = is ∙ ap (λ (q : List Record). ps ++ q ∷ []) empty in
    let within = full_within ps at (ap (λ (os : List (List Record)). length (get_or os at [])) (sym whole) ∙ full) in
    record { empty = empty; is = whole; within = within; same = sym (ap (λ (os : List (List Record)). get_or os at []) whole ∙ get_before ps at [] [] within) }

pub halved : (num at : ℕ) (old ps : List (List Record)) (p lo up : List Record) → IsPopped num at old ps p → AreEmptyLast old → FitsAt num at old → IsAscending (get_or old at []) → lo ++ up ≡ get_or old at [] → length lo ≡ 16 → length up ≡ 16 → IsHalved num at ps lo up
halved num at old ps p lo up h l fits order both lower upper = record {
  within = h.within;
  fits = subst (FitsAt num at) h.is fits;
  last = subst AreEmptyLast h.is l;
  both = both ∙ sym h.same;
  lower = lower;
  upper = upper;
  order = subst IsAscending (sym h.same) order;
}
