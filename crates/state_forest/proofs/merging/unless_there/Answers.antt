use Rattle.std.proofs.Common.{◌≡◌, ◌∙◌, Some, inr, refl, sym, ap, false, true}
use Rattle.state_forest.specs.declared.record.Record.{Record}
use Rattle.state_forest.proofs.EqualRecords.{record_decides}
use Rattle.state_forest.proofs.OnlyWhatChanges.{some_same}
use Rattle.state_forest.proofs.merging.unless_there.Goals as goal

pub returns-then-eq : goal.returns-then-eq
returns-then-eq c = inr (ap (λ (r : Record). Some r) ((record_decides c.args.next c.args.own.now).0 (sym c.eq.ensures ∙ c.if-eq.true)))

pub returns-else-eq : goal.returns-else-eq
returns-else-eq c =
    let other = (record_decides c.args.next c.args.own.now).1 in (
      refl,
      λ same. (let clash : false ≡ true = sym c.if-eq.false ∙ c.eq.ensures ∙ other (some_same c.args.next c.args.own.now same) in cc),
    )
