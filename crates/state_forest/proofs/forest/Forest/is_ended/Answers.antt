use Rattle.std.proofs.Common.{◌&&◌, sym, ap, is_some}
use mathlib.Core.Bool.{not}
use Rattle.state_facts.specs.Sets.{is_open}
use Rattle.state_forest.specs.Said.{some_shows_at, wanted_by}
use Rattle.state_forest.specs.Shape.{found_at}
use Rattle.state_forest.proofs.RecordsSayTheSet.{up_none}
use Rattle.state_forest.proofs.forest.Forest.is_ended.Goals as goal

pub returns-in_default : goal.returns-in_default
returns-in_default c =
    let at = found_at c.args.self.now.home c.args.self.now.records in
    sym (ap (λ rs. is_some (wanted_by rs) && not (some_shows_at is_open at c.args.num)) (up_none 8 at c.args.num (sym c.in_default.ensures)))
