-- The LRAs that are nested in another, both by its record and by their own. `at` gives the record
-- of the LRA with a number, if there is one.
use Rattle.std.specs.Prelude.{◌==◌, ℕ, Bool, false, Option, Some, None, if◌then◌else◌}
use Rattle.std.specs.Option.{option_map_or}
use Rattle.state_forest.specs.declared.record.Place.{Place}
use Rattle.state_forest.specs.declared.record.Record.{Record}

-- the record names the LRA num as its parent
abbrev pub names_parent : ℕ → Record → Bool
names_parent num r = option_map_or (λ (p : Place). p.number == num) r.parent false

-- the record, if it names the LRA num as its parent
abbrev pub if_child : ℕ → Option Record → Option Record
if_child num None = None
if_child num (Some r) = if names_parent num r then Some r else None

-- The record of the LRA child, if there is one and it names the LRA num as its parent. A record
-- names only one parent. So a walk down that uses this reaches it only from that parent, although
-- others may name it as nested
abbrev pub child_of : (ℕ → Option Record) → ℕ → ℕ → Option Record
child_of at num child = if_child num (at child)
