-- an LRA of which a view has no record wants nothing
use Rattle.std.proofs.Common.{◌≡◌, List, refl, sym, ap, Option, Some, None, Err, is_some}
use Rattle.state_ids.specs.Ids.{Id}
use Rattle.state_facts.specs.declared.refusal.Refusal.{Refusal}
use Rattle.state_forest.specs.declared.record.Record.{Record}
use Rattle.state_forest.specs.Said.{wanted_by}
use Rattle.state_forest.specs.Standing.{answered}
use Rattle.state_forest.proofs.RecordsSayTheSet.{up_none}
use Rattle.theory_history.specs.Readings.{at_home, by_view}
use Rattle.theory_history.specs.Views.{View}
use Rattle.wire_callbacks.specs.CallDuties.{act_wanted}

pub no_act_wanted : (view : View) (l : Id) (refusal : Refusal) → Err refusal ≡ answered ((by_view view).held l) ((by_view view).want l) → None ≡ act_wanted ((by_view view).want l)
no_act_wanted view l refusal told = by (at_home view l.home l.num) refl told
  where
    by : (o : Option Record) → at_home view l.home l.num ≡ o → Err refusal ≡ answered (is_some o) ((by_view view).want l) → None ≡ act_wanted ((by_view view).want l)
    by (Some r) e f = absurd cc
    by None e f = sym (ap (λ (rs : List Record). act_wanted (wanted_by rs)) (up_none 8 (at_home view l.home) l.num e))
