use Rattle.std.proofs.Common.{refl}
use Rattle.state_forest.specs.Shape.{IsInPlace, is_untouched, records_after}
use Rattle.state_forest.proofs.ShapeOfAHome.{found_left, unless_left}
use Rattle.state_forest.proofs.forest.Forest.is_in_place_if_untouched.Goals as goal

pub returns-then-is_in_place : goal.returns-then-is_in_place
returns-then-is_in_place c =
    let own = c.args.self.now in
    let changes = c.args.changes.now in (
      λ yes left. (c.is_in_place.ensures (found_left own.home changes.records.home changes.removed.items changes.records.records own.records c.args.kept.now c.requires.home c.records-2.ensures.order c.records.ensures.order c.requires.own left)).0 c.if-is_in_place.true,
      λ fits. refl,
    )

pub returns : goal.returns
returns c =
    let own = c.args.self.now in
    let changes = c.args.changes.now in
    unless_left (IsInPlace c.args.front.now own.home (records_after changes own) c.args.kept.now.num c.args.kept.now) c.is_in_place.result c.is_untouched.result (is_untouched changes c.args.kept.now)
    (λ left. c.is_in_place.ensures (found_left own.home changes.records.home changes.removed.items changes.records.records own.records c.args.kept.now c.requires.home c.records-2.ensures.order c.records.ensures.order c.requires.own left))
    c.if-is_in_place.false c.is_untouched.ensures
