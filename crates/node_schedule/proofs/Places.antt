-- the slip at a place
use Rattle.std.proofs.Common.{◌≡◌, ◌<◌, ℕ, List, get_or, length, sym, ◌∙◌}
use Rattle.std.proofs.lemmas.List.{get_or_default}
use Rattle.node_schedule.specs.Pausing.{nobody, slip_at}
use Rattle.node_schedule.specs.declared.slip.Slip.{Slip}

-- the slip that is read at a place is the one at that place
pub stood_at : (slips : List Slip) (place : ℕ) (slip : Slip) → place < length slips → slip ≡ get_or slips place slip → slip ≡ slip_at slips place
stood_at slips place slip e is = is ∙ sym (get_or_default slips place nobody slip e)
