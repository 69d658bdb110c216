-- When the rows of a store break the format.
use Rattle.std.specs.Prelude.{ℕ, List}
use Rattle.sqlite.specs.Order.{Row}
use Rattle.sqlite.specs.Tree.{Trees}
use Rattle.state_journal.specs.Listings.{AreFrontRows, AreLraRows}
use Rattle.state_journal.specs.Reads.{BreaksAt}

-- the store's rows, in the order in which they are read, break the format at this place
pub record IsBrokenAt (me nodes : ℕ) (db : Trees) (place : ℕ) : Type 0 where
  pub front_rows : List Row
  pub lra_rows : List Row
  pub fronts : AreFrontRows db front_rows
  pub lras : AreLraRows db lra_rows
  pub breaks : BreaksAt me nodes front_rows lra_rows place
