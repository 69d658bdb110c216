-- The walk through the members of a home's records to the last participant that must still
-- compensate. It goes on in a nested LRA only if that names the LRA above as its parent. `at` gives
-- the record of the LRA with a number, if there is one.
use Rattle.std.specs.Prelude.{◌+◌, ℕ, zero, suc, List, [], ◌∷◌, Option, Some, None, if◌then◌else◌}
use Rattle.std.specs.Option.{option_map_or}
use Rattle.state_facts.specs.Duties.{has_to_compensate}
use Rattle.state_forest.specs.declared.record.Member.{Member}
use Rattle.state_forest.specs.declared.record.Member.TheVariants.{Nested, Participant, Left}
use Rattle.state_forest.specs.declared.record.Place.{Place}
use Rattle.state_forest.specs.declared.record.Record.{Record}
use Rattle.state_forest.specs.Children.{child_of}

-- what is found at the last of the elements at which anything is found; the elements are numbered
-- from i
abbrev pub last_of : {X Y : Type 0} → (ℕ → X → Option Y) → ℕ → List X → Option Y
last_of found i [] = None
last_of found i (x ∷ xs) = option_map_or (λ y. Some y) (last_of found (i + 1) xs) (found i x)

-- what is found at the last such member of a record
abbrev pub last_in : (ℕ → Member → Option Place) → Option Record → Option Place
last_in found None = None
last_in found (Some r) = last_of found 1 r.members

-- the member number `slot` of the LRA num, if it must compensate, or what is found in the LRA that
-- is nested there
abbrev pub pending_at : (ℕ → Option Place) → ℕ → ℕ → Member → Option Place
pending_at nested num slot (Nested child) = nested child
pending_at nested num slot (Participant p) = if has_to_compensate p.links p.compensated then Some (record { number = num; slot = slot }) else None
pending_at nested num slot Left = None

-- the last participant that must compensate, of the member or of those nested in it at most this
-- many levels down
unfoldable pub pending_within : ℕ → (ℕ → Option Record) → ℕ → ℕ → Member → Option Place
pending_within zero at num slot m = pending_at (λ child. None) num slot m
pending_within (suc levels) at num slot m = pending_at (λ child. last_in (pending_within levels at child) (child_of at num child)) num slot m
