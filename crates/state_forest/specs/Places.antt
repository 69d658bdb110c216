-- places in records that are in order of their numbers
use Rattle.std.specs.Prelude.{ℕ, ◌+◌, ◌==◌, List, [], ◌∷◌, Option, Some, None, nat_lt, if◌then◌else◌}
use Rattle.state_forest.specs.declared.record.Record.{Record}

-- how many records come before the place of this number
abbrev pub count_below : ℕ → List Record → ℕ
count_below num [] = 0
count_below num (r ∷ rs) = if nat_lt r.num num then count_below num rs + 1 else 0

-- the record, if it has this number
abbrev pub with_number : ℕ → Option Record → Option Record
with_number num None = None
with_number num (Some r) = if r.num == num then Some r else None

-- the records with this one in its place; a record with the same number is replaced
abbrev pub put_record : Record → List Record → List Record
put_record r [] = r ∷ []
put_record r (q ∷ qs) =
    if nat_lt q.num r.num then q ∷ put_record r qs
    else (if q.num == r.num then r ∷ qs else r ∷ q ∷ qs)
