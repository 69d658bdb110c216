-- the weight of pages, and how their room changes if one page is changed
use Rattle.std.proofs.Common.{◌≡◌, ◌≤◌, ◌<◌, ◌+◌, ◌-◌, ◌*◌, ◌++◌, ℕ, zero, suc, List, [], ◌∷◌, refl, ap, arith, length, get_or, set}
use Rattle.state_forest.specs.declared.record.Record.{Record}
use Rattle.state_forest.specs.Pages.{AreEmptyLast, FitsAt, empty_pages, records_in, room_in, weight_behind, weight_in}

-- Behind a page with more records

pub weighs_less : (j k : ℕ) (ps : List (List Record)) → j ≤ k → weight_behind j ps ≤ weight_behind k ps
weighs_less j k [] e = e
weighs_less j k ([] ∷ ps) e = weighs_less j k ps e
weighs_less j k ((r ∷ rs) ∷ ps) e = omega (arith, e)

-- the weight rises by no more than the page does
weighs_near : (j k : ℕ) (ps : List (List Record)) → j ≤ k → weight_behind k ps + j ≤ weight_behind j ps + k
weighs_near j k [] e = omega arith
weighs_near j k ([] ∷ ps) e = weighs_near j k ps e
weighs_near j k ((r ∷ rs) ∷ ps) e = omega (arith, e)

-- and by no less, beyond 16 records
pub weighs_as_much : (j k : ℕ) (ps : List (List Record)) → 16 ≤ j → j ≤ k → weight_behind j ps + k ≤ weight_behind k ps + j
weighs_as_much j k [] low e = omega arith
weighs_as_much j k ([] ∷ ps) low e = weighs_as_much j k ps low e
weighs_as_much j k ((r ∷ rs) ∷ ps) low e = omega (arith, low, e)

-- if no records follow, the page is the last, and the weight is its count
nothing_weighs : (k : ℕ) (ps : List (List Record)) → records_in ps ≡ [] → weight_behind k ps ≡ k
nothing_weighs k [] e = refl
nothing_weighs k ([] ∷ ps) e = nothing_weighs k ps e
nothing_weighs k ((r ∷ rs) ∷ ps) e = absurd cc

-- a page that is taken away leaves at most 16 more of weight on the one before
gone_weighs : (j k : ℕ) (ps : List (List Record)) → weight_behind j ps ≤ (j - 16) + weight_behind k ps + 16
gone_weighs j k [] = omega arith
gone_weighs j k ([] ∷ ps) = gone_weighs j k ps
gone_weighs j k ((r ∷ rs) ∷ ps) = omega arith

-- empty pages weigh nothing
pub behind_weighs : (k : ℕ) (ps : List (List Record)) → weight_behind k (ps ++ [] ∷ []) ≡ weight_behind k ps
behind_weighs k [] = refl
behind_weighs k ([] ∷ ps) = behind_weighs k ps
behind_weighs k ((r ∷ rs) ∷ ps) = ap (λ n. (k - 16) + n) (behind_weighs (length (r ∷ rs)) ps)

-- Another page at a place

pub kept_weighs : (k : ℕ) (ps : List (List Record)) (at : ℕ) (q : List Record) → length q ≡ length (get_or ps at []) → weight_behind k (set ps at q) ≡ weight_behind k ps
kept_weighs k [] at q e = refl
kept_weighs k ([] ∷ ps) zero [] e = refl
kept_weighs k ([] ∷ ps) zero (x ∷ q) e = absurd (omega (arith, e))
kept_weighs k ((r ∷ rs) ∷ ps) zero [] e = absurd (omega (arith, e))
kept_weighs k ((r ∷ rs) ∷ ps) zero (x ∷ q) e = ap (λ n. (k - 16) + weight_behind n ps) e
kept_weighs k ([] ∷ ps) (suc at) q e = kept_weighs k ps at q e
kept_weighs k ((r ∷ rs) ∷ ps) (suc at) q e = ap (λ n. (k - 16) + n) (kept_weighs (length (r ∷ rs)) ps at q e)

pub fewer_weigh : (k : ℕ) (ps : List (List Record)) (at : ℕ) (q : List Record) → 1 ≤ length q → length q ≤ length (get_or ps at []) → weight_behind k (set ps at q) ≤ weight_behind k ps
fewer_weigh k [] at q some e = absurd (omega (arith, some, e))
fewer_weigh k ([] ∷ ps) zero q some e = absurd (omega (arith, some, e))
fewer_weigh k ((r ∷ rs) ∷ ps) zero [] some e = absurd (omega (arith, some))
fewer_weigh k ((r ∷ rs) ∷ ps) zero (x ∷ q) some e = omega (arith, weighs_less (length (x ∷ q)) (length (r ∷ rs)) ps e)
fewer_weigh k ([] ∷ ps) (suc at) q some e = fewer_weigh k ps at q some e
fewer_weigh k ((r ∷ rs) ∷ ps) (suc at) q some e = omega (arith, fewer_weigh (length (r ∷ rs)) ps at q some e)

-- how many records the page before a place has, if one with `count` records comes before all
abbrev pub before : ℕ → ℕ → List (List Record) → ℕ
before count zero ps = count
before count (suc at) [] = count
before count (suc at) (p ∷ ps) = before (length p) at ps

pub before_is : (count k : ℕ) (ps : List (List Record)) → k < length ps → before count (suc k) ps ≡ length (get_or ps k [])
before_is count k [] e = absurd (omega (arith, e))
before_is count zero (p ∷ ps) e = refl
before_is count (suc k) (p ∷ ps) e = before_is (length p) k ps (omega (arith, e))

-- with one more record on a page, unless that is an empty page behind one with fewer than 16
pub one_weighs : (num k : ℕ) (ps : List (List Record)) (at : ℕ) (q : List Record) → AreEmptyLast ps → FitsAt num at ps → (get_or ps at [] ≡ [] → 16 ≤ before k at ps) → 1 ≤ length q → length q ≤ length (get_or ps at []) + 1 →
    16 * empty_pages ps + weight_behind k (set ps at q) ≤ 16 * empty_pages (set ps at q) + weight_behind k ps + 1
one_weighs num k [] at q l fits full some e = absurd fits
one_weighs num k (p ∷ ps) zero [] l fits full some e = absurd (omega (arith, some))
one_weighs num k ([] ∷ ps) zero (x ∷ q) l fits full some e = omega (arith, e, full refl, nothing_weighs k ps l, nothing_weighs (length (x ∷ q)) ps l)
one_weighs num k ((r ∷ rs) ∷ ps) zero (x ∷ q) l fits full some e =
    omega (arith, weighs_less (length (x ∷ q)) (length (r ∷ rs) + 1) ps e, weighs_near (length (r ∷ rs)) (length (r ∷ rs) + 1) ps (omega arith))
one_weighs num k ([] ∷ ps) (suc at) q l fits full some e = absurd fits
one_weighs num k ((r ∷ rs) ∷ ps) (suc at) q l fits full some e = omega (arith, one_weighs num (length (r ∷ rs)) ps at q l fits.1 full some e)

-- the weight without a page that now stands empty behind all
pub gone_behind : (k : ℕ) (p : List Record) (ps : List (List Record)) → 16 * empty_pages (p ∷ ps) + weight_behind k (ps ++ [] ∷ []) ≤ 16 * (empty_pages ps + 1) + weight_behind k (p ∷ ps)
gone_behind k [] ps = omega (arith, behind_weighs k ps)
gone_behind k (r ∷ rs) ps = omega (arith, behind_weighs k ps, gone_weighs k (length (r ∷ rs)) ps)

-- Room

pub room_falls : (old new : List (List Record)) → empty_pages old ≤ empty_pages new + 1 → 16 * empty_pages old + weight_in new ≤ 16 * empty_pages new + weight_in old + 1 → room_in old ≤ room_in new + 1
room_falls old new empties weight = omega (arith, empties, weight)

pub room_rises : (old new : List (List Record)) → empty_pages old ≤ empty_pages new → 16 * empty_pages old + weight_in new ≤ 16 * empty_pages new + weight_in old → room_in old ≤ room_in new
room_rises old new empties weight = omega (arith, empties, weight)

pub room_kept : (old new : List (List Record)) → empty_pages new ≡ empty_pages old → weight_in new ≡ weight_in old → room_in new ≡ room_in old
room_kept old new empties weight = omega (arith, empties, weight)
