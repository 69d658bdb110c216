-- What two fronts both count.
use Rattle.std.proofs.Common.{◌≡◌, ℕ, suc, List, [], ◌∷◌, ap, arith, length, refl}
use Rattle.state_ids.specs.Fronts.{meet_fronts}

pub meet_nodes : (v w : List ℕ) → length v ≡ length w → length (meet_fronts v w) ≡ length w
meet_nodes [] w e = refl
meet_nodes (a ∷ v) [] e = absurd cc
meet_nodes (a ∷ v) (b ∷ w) e = ap suc (meet_nodes v w (omega (arith, e)))
