-- members by their numbers
use Rattle.std.specs.Prelude.{ℕ, ◌==◌, ◌-◌, List, Option, None, if◌then◌else◌, slice_get}

-- the element with this number, where elements are numbered from 1
abbrev pub numbered : {X : Type 0} → List X → ℕ → Option X
numbered xs m = if m == 0 then None else slice_get xs (m - 1)
