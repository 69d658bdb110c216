use Rattle.std.proofs.Common.{◌∷◌, [], arith, None}
use Rattle.state_forest.specs.declared.merging.Told.{Told}
use Rattle.std.proofs.lemmas.List.{length-append}
use Rattle.state_journal.proofs.RowLoop.{none_more, told_more}
use Rattle.state_journal.proofs.lra_rows.empty_homes.Goals as goal

pub places-preserved : goal.places-preserved
places-preserved c = let inv = c.places.invariant in let told : Told = record { records = c.new.result; held = None } in rw c.in_ok-push.ensures.items (record {
  told = told_more 1 c.places.homes.items told inv.told (omega (arith, c.new.ensures.home, c.node_at.ensures, inv.count));
  count = omega (arith, length-append c.places.homes.items (told ∷ []), inv.count);
  none = none_more c.places.homes.items told c.new.ensures.records inv.none;
})
