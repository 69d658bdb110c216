-- The pages that hold the records of a home.
use Rattle.std.specs.Prelude.{◌≡◌, ◌⊎◌, ◌+◌, ◌-◌, ◌*◌, ◌<◌, ◌≤◌, ℕ, max, zero, suc, List, [], ◌∷◌, ◌++◌, Bool, true, false, get_or, nat_lt, length, set, slice_get}
use Rattle.std.specs.List.{AllByRecursion}
use Rattle.std.specs.Option.{option_map_or}
use Rattle.state_forest.specs.declared.page.TheConstants.{PAGE_ROOM}
use Rattle.state_forest.specs.declared.record.Record.{Record}

-- the records of some pages, and their room: this many more fit without asking for memory
pub record HeldPages : Type 0 where
  pub items : List Record
  pub spare : ℕ

-- the records of one page after another
abbrev pub records_in : List (List Record) → List Record
records_in [] = []
records_in (p ∷ ps) = p ++ records_in ps

abbrev pub empty_pages : List (List Record) → ℕ
empty_pages [] = 0
empty_pages ([] ∷ ps) = empty_pages ps + 1
empty_pages ((r ∷ rs) ∷ ps) = empty_pages ps

-- The weight of a page with `count` records and of the pages behind it. Each page weighs what it
-- has beyond 16 records, but the last page with records weighs all that it has (the length of the
-- page before is passed along the recursion, so each length is a case for `omega`, and the room
-- follows from two sums)
abbrev pub weight_behind : ℕ → List (List Record) → ℕ
weight_behind count [] = count
weight_behind count ([] ∷ ps) = weight_behind count ps
weight_behind count ((r ∷ rs) ∷ ps) = (count - 16) + weight_behind (length (r ∷ rs)) ps

-- the weight of all pages, which is 16 if none has records
abbrev pub weight_in : List (List Record) → ℕ
weight_in ps = weight_behind 16 ps

-- How many more records fit, whatever their numbers: the greater of one for each empty page, and 16
-- for each empty page less the weight of the pages. A record adds at most one to the weight. If an
-- empty page is taken for it, the weight falls by 15
abbrev pub room_in : List (List Record) → ℕ
room_in ps = max (empty_pages ps) (16 * empty_pages ps - weight_in ps)

-- no records come behind an empty page
abbrev pub AreEmptyLast : List (List Record) → Type 0
AreEmptyLast [] = Unit {0}
AreEmptyLast ([] ∷ ps) = records_in ps ≡ []
AreEmptyLast ((r ∷ rs) ∷ ps) = AreEmptyLast ps

-- the page has records, and the number of the last is less than num
abbrev pub lies_below : ℕ → List Record → Bool
lies_below num rs = option_map_or (λ r. nat_lt r.num num) (slice_get rs (length rs - 1)) false

-- the first page that doesn't lie below a number is at this place, or there is no such page
abbrev pub IsPageOf : ℕ → ℕ → List (List Record) → Type 0
IsPageOf num zero [] = Unit {0}
IsPageOf num zero (p ∷ ps) = lies_below num p ≡ false
IsPageOf num (suc at) [] = ⊥
IsPageOf num (suc at) (p ∷ ps) = (lies_below num p ≡ true) × IsPageOf num at ps

-- one of the records has this number or a greater one
abbrev pub Reaches : ℕ → List Record → Type 0
Reaches num [] = ⊥
Reaches num (r ∷ rs) = (num ≤ r.num) ⊎ Reaches num rs

-- A record with this number belongs on the page at this place. The pages before it have records,
-- all with lesser numbers. The page reaches the number, or nothing follows it
abbrev pub FitsAt : ℕ → ℕ → List (List Record) → Type 0
FitsAt num at [] = ⊥
FitsAt num zero (p ∷ ps) = Reaches num p ⊎ (records_in ps ≡ [])
FitsAt num (suc at) ([] ∷ ps) = ⊥
FitsAt num (suc at) ((r ∷ rs) ∷ ps) = AllByRecursion (λ (q : Record). q.num < num) (r ∷ rs) × FitsAt num at ps

-- The page at this place has room, each page before it has records, and none behind it has any; or
-- it is the next page to be added
abbrev pub IsLastSeat : ℕ → List (List Record) → Type 0
IsLastSeat zero [] = Unit {0}
IsLastSeat zero (p ∷ ps) = (length p < PAGE_ROOM) × (records_in ps ≡ [])
IsLastSeat (suc at) [] = ⊥
IsLastSeat (suc at) ([] ∷ ps) = ⊥
IsLastSeat (suc at) ((r ∷ rs) ∷ ps) = IsLastSeat at ps

-- Pages that hold the same records as before, with room for one more at this place, where a record
-- with this number fits. Adding one record there reduces the room by at most one
pub record IsSeat (num at : ℕ) (old new : List (List Record)) : Type 0 where
  pub same : records_in new ≡ records_in old
  pub last : AreEmptyLast new
  pub fits : FitsAt num at new
  pub room : length (get_or new at []) < PAGE_ROOM
  pub spare : (q : List Record) → 1 ≤ length q → length q ≤ length (get_or new at []) + 1 → room_in old ≤ room_in (set new at q) + 1
