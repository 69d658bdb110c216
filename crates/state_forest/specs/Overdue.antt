-- LRAs whose deadline has passed.
use Rattle.std.specs.Prelude.{◌≡◌, ◌<◌, ◌==◌, ◌&&◌, ℕ, Bool, true, false, Option, Some, None, List, is_none, nat_le}
use mathlib.Core.Bool.{not}
use Rattle.state_ids.specs.Ids.{Id}
use Rattle.state_facts.specs.declared.fact.Fact.{Fact}
use Rattle.state_facts.specs.Sets.{is_held, want}
use Rattle.state_forest.specs.Records.{deadline_of}

-- there is a deadline, and it is not after now
abbrev pub is_past : ℕ → ℕ → Bool
is_past deadline now = not (deadline == 0) && nat_le deadline now

-- the LRA is held, wants nothing, and its deadline has passed
abbrev pub is_overdue : List Fact → ℕ → Id → Bool
is_overdue S now l = is_held S l && (is_past (deadline_of S l) now && is_none (want S l))

-- the overdue LRA of the home with the least number, or `None` if no LRA of the home is overdue
abbrev pub IsLeastOverdue : List Fact → ℕ → ℕ → Option Id → Type 0
IsLeastOverdue S home now None = (l : Id) → l.home ≡ home → is_overdue S now l ≡ false
IsLeastOverdue S home now (Some l) =
    (l.home ≡ home) × (is_overdue S now l ≡ true) × ((k : Id) → k.home ≡ home → k.num < l.num → is_overdue S now k ≡ false)
