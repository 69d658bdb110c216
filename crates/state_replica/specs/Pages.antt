-- Pages of the LRAs that are held by a reading, in order of their homes and numbers.
use Rattle.std.specs.Prelude.{◌&&◌, ◌≡◌, ◌≤◌, ◌<◌, ◌⊎◌, ℕ, Bool, true, false, Option, Some, None, List, [], ◌∷◌, length}
use Rattle.std.specs.List.{AllByRecursion}
use Rattle.state_ids.specs.Ids.{Id, is_fact_number}
use Rattle.state_facts.specs.Lists.{In}
use Rattle.theory_history.specs.Replies.{Reading}
use Rattle.state_replica.specs.declared.page.Row.{Row}

-- ordered by home, and at one home by number
abbrev pub IsBefore : Id → Id → Type 0
IsBefore k l = (k.home < l.home) ⊎ ((k.home ≡ l.home) × (k.num < l.num))

-- l comes after the id; every LRA is beyond `None`
abbrev pub IsBeyond : Option Id → Id → Type 0
IsBeyond None l = Unit {0}
IsBeyond (Some k) l = IsBefore k l

-- the rows of a page, and whether more LRAs follow
pub record PageRows : Type 0 where
  pub rows : List Row
  pub more : Bool

-- each row comes before those after it
abbrev pub AreAscending : List Row → Type 0
AreAscending [] = Unit {0}
AreAscending (r ∷ rs) = AllByRecursion (λ q. IsBefore r.id q.id) rs × AreAscending rs

-- all rows come before l
abbrev pub AreBefore : List Row → Id → Type 0
AreBefore rows l = AllByRecursion (λ r. IsBefore r.id l) rows

-- l has a row
abbrev pub HasRow : List Row → Id → Type 0
HasRow rows l = (r : Row) × In r rows × (r.id ≡ l)

-- l is held, and has a number that a fact can have; other numbers belong to no LRA
abbrev pub is_listed : Reading → Id → Bool
is_listed t l = is_fact_number l.num && t.held l

-- the row has an LRA that is held beyond `after`, with its status
pub record IsRow (t : Reading) (after : Option Id) (row : Row) : Type 0 where
  pub held : is_listed t row.id ≡ true
  pub beyond : IsBeyond after row.id
  pub status : row.status ≡ t.shows row.id

-- The next LRAs that are held beyond `after`: at most 64, in order. Each LRA that is held there
-- either has a row, or comes after all rows when there are 64, and then `more` is true. `more` is
-- true only if an LRA that is held comes after all rows
pub record IsPage (t : Reading) (after : Option Id) (page : PageRows) : Type 0 where
  pub order : AreAscending page.rows
  pub rows : AllByRecursion (IsRow t after) page.rows
  pub few : length page.rows ≤ 64
  pub all : (l : Id) → is_listed t l ≡ true → IsBeyond after l → HasRow page.rows l ⊎ ((length page.rows ≡ 64) × AreBefore page.rows l × (page.more ≡ true))
  pub more : page.more ≡ true → (l : Id) × (is_listed t l ≡ true) × IsBeyond after l × AreBefore page.rows l

-- the first of the LRAs that are held beyond `after`, or `None` if there is none
abbrev pub IsNext : Reading → Option Id → Option Id → Type 0
IsNext t after None = (l : Id) → IsBeyond after l → is_listed t l ≡ false
IsNext t after (Some n) = (is_listed t n ≡ true) × IsBeyond after n × ((l : Id) → IsBeyond after l → IsBefore l n → is_listed t l ≡ false)

-- the same for the LRAs of a home with numbers greater than this
abbrev pub IsNextAt : Reading → ℕ → ℕ → Option Id → Type 0
IsNextAt t home num None = (l : Id) → l.home ≡ home → num < l.num → is_listed t l ≡ false
IsNextAt t home num (Some n) =
    (is_listed t n ≡ true) × (n.home ≡ home) × (num < n.num) × ((l : Id) → l.home ≡ home → num < l.num → l.num < n.num → is_listed t l ≡ false)

-- the same for the LRAs of the homes after this one
abbrev pub IsFirstBeyond : Reading → ℕ → Option Id → Type 0
IsFirstBeyond t home None = (l : Id) → home < l.home → is_listed t l ≡ false
IsFirstBeyond t home (Some n) = (is_listed t n ≡ true) × (home < n.home) × ((l : Id) → home < l.home → IsBefore l n → is_listed t l ≡ false)

-- the row of that LRA
abbrev pub IsNextRow : Reading → Option Id → Option Row → Type 0
IsNextRow t after None = IsNext t after None
IsNextRow t after (Some r) = IsNext t after (Some r.id) × (r.status ≡ t.shows r.id)
