-- What the rows of the two tables say, and where they break the format.
use Rattle.std.specs.Prelude.{◌≡◌, ◌≤◌, ◌<◌, ◌+◌, ℕ, pos, negsuc, List, Option, Some, None, length, slice_get, nat_le, if◌then◌else◌}
use Rattle.sqlite.specs.declared.types.Value.{Value}
use Rattle.sqlite.specs.declared.types.Value.TheVariants.{Null, Int, Real, Text, Blob}
use Rattle.sqlite.specs.Order.{Row, column}
use Rattle.state_ids.specs.Ids.{last_number}
use Rattle.state_ids.specs.Fronts.{count}
use Rattle.wire_frames.specs.declared.version.Version.{Version}
use Rattle.wire_frames.specs.Versions.{version_mark}

-- the number in a column, which is one of a fact, or zero
abbrev pub number_in : Value → Option ℕ
number_in Null = None
number_in (Int (pos n)) = if nat_le n last_number then Some n else None
number_in (Int (negsuc n)) = None
number_in (Real x) = None
number_in (Text t) = None
number_in (Blob b) = None

-- ---- the rows of `front`

-- the row is that of this origin, and has these two numbers
pub record SaysOf (cells : Row) (origin held purged : ℕ) : Type 0 where
  pub key : number_in (column cells 0) ≡ Some origin
  pub first : number_in (column cells 1) ≡ Some held
  pub second : number_in (column cells 2) ≡ Some purged

-- the row of this origin stands at its place
abbrev pub IsSaid : List Row → (origin held purged : ℕ) → Type 0
IsSaid rows origin held purged = (row : Row) × (slice_get rows origin ≡ Some row) × SaysOf row origin held purged

-- The rows are those of this node: first its own number and the journal's version, and then for
-- each node the count of its facts and the number of its last purge
pub record AreFronts (v : Version) (me : ℕ) (rows : List Row) (front purges : List ℕ) : Type 0 where
  pub own : IsSaid rows 0 me (version_mark v)
  pub nodes : length purges ≡ length front
  pub each : (node : ℕ) → 1 ≤ node → node ≤ length front → IsSaid rows node (count front node) (count purges node)
  pub all : length rows ≡ length front + 1

-- The row of the origin stands at this place. At places after those of all nodes there is no row
pub record IsFrontRight (me nodes : ℕ) (rows : List Row) (place : ℕ) : Type 0 where
  pub own : place ≡ 0 → (v : Version) × IsSaid rows 0 me (version_mark v)
  pub of_node : 1 ≤ place → place ≤ nodes → (held : ℕ) × (purged : ℕ) × IsSaid rows place held purged
  pub no_more : nodes < place → slice_get rows place ≡ None

-- the first place where a row is wrong or missing
pub record FrontBreaksAt (me nodes : ℕ) (rows : List Row) (place : ℕ) : Type 0 where
  pub before : (i : ℕ) → i < place → IsFrontRight me nodes rows i
  pub breaks : ¬ IsFrontRight me nodes rows place
