-- Index entries, their order, and lists of them.
use Rattle.std.specs.Prelude.{◌≡◌, ◌⊎◌, ◌==◌, ◌&&◌, ℕ, suc, Bool, true, false, Option, Some, None, List, [], ◌∷◌, filter, nat_lt, if◌then◌else◌}
use mathlib.Core.Bool.{not}
use Rattle.std.specs.List.{AllByRecursion}
use Rattle.state_ids.specs.Ids.{Id, same_id}
use Rattle.state_stamps.specs.declared.stamp_entry.StampEntry.{StampEntry}

-- the LRA of an entry
abbrev pub id_of : StampEntry → Id
id_of e = record { home = e.home; num = e.num }

-- the entry for a stamp of an LRA
abbrev pub entry_of : ℕ → Id → StampEntry
entry_of stamp l = record { stamp = stamp; home = l.home; num = l.num }

-- a comes before b: by stamp, then home, then number
abbrev pub is_before : StampEntry → StampEntry → Bool
is_before a b =
    if a.stamp == b.stamp then (if a.home == b.home then nat_lt a.num b.num else nat_lt a.home b.home)
    else nat_lt a.stamp b.stamp

-- whether two entries are equal
abbrev pub same_entry : StampEntry → StampEntry → Bool
same_entry a b = (a.stamp == b.stamp) && same_id (id_of a) (id_of b)

-- the entry is in the list
abbrev pub In : StampEntry → List StampEntry → Type 0
In e [] = ⊥
In e (q ∷ qs) = (e ≡ q) ⊎ In e qs

-- each entry comes before all that follow it
abbrev pub IsRising : List StampEntry → Type 0
IsRising [] = Unit {0}
IsRising (e ∷ es) = AllByRecursion (λ q. is_before e q ≡ true) es × IsRising es

-- how many entries at the beginning of the list come before e
abbrev pub count_before : StampEntry → List StampEntry → ℕ
count_before e [] = 0
count_before e (q ∷ qs) = if is_before q e then suc (count_before e qs) else 0

-- whether there is an entry, and it equals e
abbrev pub is_entry : StampEntry → Option StampEntry → Bool
is_entry e None = false
is_entry e (Some q) = same_entry q e

-- the list with e in its place, once
abbrev pub put_entry : StampEntry → List StampEntry → List StampEntry
put_entry e [] = e ∷ []
put_entry e (q ∷ qs) =
    if is_before q e then q ∷ put_entry e qs
    else (if same_entry q e then q ∷ qs else e ∷ q ∷ qs)

-- the list without e
abbrev pub without : StampEntry → List StampEntry → List StampEntry
without e es = filter (λ q. not (same_entry q e)) es
