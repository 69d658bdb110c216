use Rattle.std.proofs.Common.{◌∙◌, sym}
use Rattle.state_forest.proofs.EqualRecords.{record_decides}
use Rattle.state_forest.proofs.forest.is_one.Goals as goal

pub returns : goal.returns
returns c = let decides = record_decides c.args.own.now c.args.other.now in (λ yes. decides.0 (sym c.eq.ensures ∙ yes), λ same. c.eq.ensures ∙ decides.1 same)
