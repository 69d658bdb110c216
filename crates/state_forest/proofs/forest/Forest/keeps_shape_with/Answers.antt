use Rattle.std.proofs.Common.{◌≡◌, ◌∙◌, sym, true, false}
use Rattle.state_forest.proofs.ShapeOfAHome.{each_left, each_change, shape_from}
use Rattle.state_forest.proofs.forest.Forest.keeps_shape_with.Goals as goal

pub returns-then-not-is_few : goal.returns-then-not-is_few
returns-then-not-is_few c =
    (λ yes. absurd cc, λ shape. sym c.if-not-is_few.true ∙ c.is_few.ensures.1 shape.few)

pub returns-then-are_untouched_in_place : goal.returns-then-are_untouched_in_place
returns-then-are_untouched_in_place c =
    let own = c.args.self.now in
    let changes = c.args.changes.now in
    let few = c.is_few.ensures.0 c.if-not-is_few.false in
    let mine = c.are_untouched_in_place.ensures.0 c.if-are_untouched_in_place.true in (
      λ yes. shape_from c.args.front.now own.home changes.records.home changes.removed.items changes.records.records own.records c.requires c.records-2.ensures.order c.records.ensures.order few mine (c.are_changes_in_place.ensures.0 yes),
      λ shape. c.are_changes_in_place.ensures.1 (each_change c.args.front.now own.home changes.records.home changes.removed.items changes.records.records own.records c.requires c.records-2.ensures.order c.records.ensures.order shape),
    )

pub returns-else-are_untouched_in_place : goal.returns-else-are_untouched_in_place
returns-else-are_untouched_in_place c =
    let own = c.args.self.now in
    let changes = c.args.changes.now in (
      λ yes. absurd (let clash : true ≡ false = sym yes ∙ c.if-are_untouched_in_place.false in cc),
      λ shape. c.are_untouched_in_place.ensures.1 (each_left c.args.front.now own.home changes.records.home changes.removed.items changes.records.records own.records c.requires c.records-2.ensures.order c.records.ensures.order shape),
    )
