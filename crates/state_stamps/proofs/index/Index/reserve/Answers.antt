use Rattle.std.proofs.Common.{◌≤◌, ap, arith, ◌∙◌, Result, Ok, Err, OnOk}
use Rattle.state_stamps.specs.Indexes.{AreReserved, HeldIndex, least_spare}
use Rattle.state_stamps.proofs.Rooms.{reserved_kept, reserved_room, reserved_same}
use Rattle.state_stamps.proofs.index.Index.reserve.Goals as goal

pub returns-clause-origins : goal.returns-clause-origins
returns-clause-origins c =
    reserved_same 0 c.self.inside.origins.items c.reserve_each.new.origins.items c.reserve_each.ensures.kept ∙ ap (λ (x : HeldIndex). x.origins) c.self.view_is

pub returns-clause-ok : goal.returns-clause-ok
returns-clause-ok c = by c.reserve_each.result c.reserve_each.ensures.ok
  where
    by : {E : Type 0} (r : Result (Unit {0}) E) → OnOk r (AreReserved c.args.more c.self.inside.origins.items c.reserve_each.new.origins.items) → OnOk r (c.args.more ≤ least_spare c.reserve_each.new.origins.items)
    by (Ok x) h = reserved_room c.args.more c.self.inside.origins.items c.reserve_each.new.origins.items (omega (arith, c.ranges.more)) h
    by (Err x) h = tt

pub returns-clause-kept : goal.returns-clause-kept
returns-clause-kept c =
    omega (arith, reserved_kept 0 c.self.inside.origins.items c.reserve_each.new.origins.items c.reserve_each.ensures.kept, ap (λ (x : HeldIndex). x.spare) c.self.view_is)
