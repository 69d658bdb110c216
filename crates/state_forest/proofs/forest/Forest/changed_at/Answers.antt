use Rattle.std.proofs.Common.{◌∙◌, ap, List}
use Rattle.std.specs.Option.{option_or}
use Rattle.state_ids.specs.Ids.{Id}
use Rattle.state_forest.specs.RecordMerges.{without}
use Rattle.state_forest.specs.Shape.{found_at}
use Rattle.state_forest.proofs.ChangedRecords.{found_after}
use Rattle.state_forest.proofs.forest.Forest.changed_at.Goals as goal

pub returns-in-Some : goal.returns-in-Some
returns-in-Some c =
    let own = c.args.self.now in
    let changes = c.args.changes.now in
    ap (λ o. option_or o (found_at own.home (without changes.removed.items own.records) c.args.num)) c.in-Some.ensures
    ∙ found_after own.home changes.records.home changes.removed.items changes.records.records own.records c.args.num c.requires c.records-2.ensures.order c.records.ensures.order

pub returns : goal.returns
returns c =
    let own = c.args.self.now in
    let changes = c.args.changes.now in
    c.kept_at.ensures
    ∙ ap (λ (ids : List Id). found_at own.home (without ids own.records) c.args.num) c.deref.ensures.value
    ∙ ap (λ o. option_or o (found_at own.home (without changes.removed.items own.records) c.args.num)) c.in_default.ensures
    ∙ found_after own.home changes.records.home changes.removed.items changes.records.records own.records c.args.num c.requires c.records-2.ensures.order c.records.ensures.order
