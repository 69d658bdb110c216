-- The shape of a view: what the records of a lawful history satisfy, whatever they say.
use Rattle.std.specs.Prelude.{◌≤◌, ℕ}
use Rattle.state_ids.specs.Fronts.{IsBelow}
use Rattle.state_forest.specs.Shape.{AreInShape}
use Rattle.theory_history.specs.Views.{View, records_at}

-- the records of each home have their shape, and no purge is beyond the front
pub record HasShape (view : View) : Type 0 where
  pub homes : (home : ℕ) → 1 ≤ home → AreInShape view.front home (records_at view.records home)
  pub purges : IsBelow view.purges view.front
