-- What the two SELECT statements show.
use Rattle.std.specs.Prelude.{List, [], ◌∷◌, map, IsPermutation, IsSorted}
use Rattle.sqlite.specs.Order.{Row, column}
use Rattle.sqlite.specs.Tree.{Trees}
use Rattle.sqlite.specs.Query.{key_cmp}
use Rattle.sqlite_value.specs.declared.keys.Collation.TheVariants.{Binary}
use Rattle.sqlite_value.specs.declared.keys.Key.{Key}
use Rattle.sqlite_value.specs.Keys.{ascending}
use Rattle.state_journal.specs.Schema.{front_tree, lra_tree}

-- a row of `front`: its origin, `held` and `purged`; the store keeps the origin as the rowid
abbrev pub front_shown : Row → Row
front_shown cells = column cells 0 ∷ column cells 2 ∷ column cells 3 ∷ []

-- a row of `lra`, without its rowid
abbrev pub lra_shown : Row → Row
lra_shown cells = column cells 1 ∷ column cells 2 ∷ column cells 3 ∷ []

-- each of these rows once, in the order of their first columns
pub record AreListed (keys : List Key) (rows listed : List Row) : Type 0 where
  pub each : IsPermutation rows listed
  pub order : IsSorted (key_cmp 0 keys) listed

-- the rows of `front`, by origin
abbrev pub AreFrontRows : Trees → List Row → Type 0
AreFrontRows db = AreListed (ascending Binary ∷ []) (map front_shown (db front_tree))

-- the rows of `lra`, by home and number
abbrev pub AreLraRows : Trees → List Row → Type 0
AreLraRows db = AreListed (ascending Binary ∷ ascending Binary ∷ []) (map lra_shown (db lra_tree))
