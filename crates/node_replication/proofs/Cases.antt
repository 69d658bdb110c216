-- What holds for a state whichever way a step goes.
use Rattle.std.proofs.Common.{◌≡◌, Bool, true, false, refl}
use Rattle.std.specs.Prelude.{if◌then◌else◌}
use Rattle.node_replication.specs.Spreads.{Spread, with_shortage}
use Rattle.node_replication.specs.declared.standing.Standing.{Standing}
use Rattle.node_replication.specs.declared.standing.Standing.TheVariants.{Copied, Late, Waits}

pub either : (P : Spread → Type 0) (b : Bool) (x y : Spread) → (b ≡ true → P x) → (b ≡ false → P y) → P (if b then x else y)
either P true x y so not_ = so refl
either P false x y so not_ = not_ refl

pub either_way : (P : Spread → Type 0) (standing : Standing) (s : Spread) → P s → P (record s { is_short = true }) → P (with_shortage standing s)
either_way P Copied s same short = same
either_way P Late s same short = short
either_way P Waits s same short = same
