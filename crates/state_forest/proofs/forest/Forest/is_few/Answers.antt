use Rattle.std.proofs.Common.{◌∙◌, List, ap, arith, length, filter}
use Rattle.state_ids.specs.Ids.{Id}
use Rattle.state_forest.specs.RecordMerges.{without}
use Rattle.std.proofs.lemmas.Bool.Decides.{nat_tests}
use Rattle.state_forest.proofs.ChangedCounts.{is_added, length_after}
use Rattle.state_forest.proofs.forest.Forest.is_few.Goals as goal

pub returns-then-kept-gt-MAX_HELD : goal.returns-then-kept-gt-MAX_HELD
returns-then-kept-gt-MAX_HELD c =
    let own = c.args.self.now in
    let changes = c.args.changes.now in
    let total = length_after own.home changes.records.home changes.removed.items changes.records.records own.records c.requires c.records-2.ensures.order c.records.ensures.order in
    let kept = c.count_kept-kept.ensures ∙ ap (λ (ids : List Id). length (without ids own.records)) c.as_slice-removed.ensures.value in
    (λ yes. absurd cc, λ few. absurd (omega (arith, few, total, kept, c.if-kept-gt-MAX_HELD.true)))

pub returns : goal.returns
returns c =
    let own = c.args.self.now in
    let changes = c.args.changes.now in
    let total = length_after own.home changes.records.home changes.removed.items changes.records.records own.records c.requires c.records-2.ensures.order c.records.ensures.order in
    let kept = c.count_kept-kept.ensures ∙ ap (λ (ids : List Id). length (without ids own.records)) c.as_slice-removed.ensures.value in
    let added =
    c.count_added.ensures
    ∙ ap (λ (ids : List Id). length (filter (is_added own.home (without ids own.records)) changes.records.records)) c.as_slice-removed.ensures.value in (
      λ yes. grind (arith, nat_tests, total, kept, added, c.if-kept-gt-MAX_HELD.false, yes),
      λ below. grind (arith, nat_tests, total, kept, added, c.if-kept-gt-MAX_HELD.false, below),
    )
