use Rattle.std.proofs.Common.{◌≡◌, false, is_some, slice_get}
use Rattle.state_forest.specs.Places.{count_below, with_number}
use Rattle.state_forest.proofs.Removals.{remove_none}
use Rattle.state_forest.proofs.page.remove_among.Goals as goal

pub returns-else-stands_at-clause-items : goal.returns-else-stands_at-clause-items
returns-else-stands_at-clause-items c =
    let none : is_some (with_number c.args.num (slice_get c.args.records.now.items (count_below c.args.num c.args.records.now.items))) ≡ false = cc in
    remove_none c.args.num c.args.records.now.items c.requires none
