use Rattle.std.proofs.Common.{◌≡◌, ◌∙◌, ◌+◌, ◌-◌, ◌<◌, sym, ap, arith}
use Rattle.state_forest.specs.Shape.{is_shallow, records_after}
use Rattle.state_forest.proofs.ShapeOfAHome.{shallow_none, shallow_root, shallow_nested}
use Rattle.state_forest.proofs.forest.Forest.is_shallow_within.Goals as goal

pub returns-in_default : goal.returns-in_default
returns-in_default c =
    let after = records_after c.args.changes.now c.args.self.now in
    sym (c.loop.invariant ∙ shallow_none (c.args.levels - c.loop.counter) c.args.self.now.home after c.loop.at c.in_default.ensures)

pub returns-in_default-parent : goal.returns-in_default-parent
returns-in_default-parent c =
    let after = records_after c.args.changes.now c.args.self.now in
    let some : 0 < c.args.levels - c.loop.counter = omega (arith, c.loop-test.true) in
    sym (c.loop.invariant ∙ shallow_root (c.args.levels - c.loop.counter) c.args.self.now.home after c.loop.at c.in-Some.record.now some c.in-Some.ensures c.in_default-parent.is)

pub loop-preserved : goal.loop-preserved
loop-preserved c =
    let after = records_after c.args.changes.now c.args.self.now in
    let some : 0 < c.args.levels - c.loop.counter = omega (arith, c.loop-test.true) in
    let less : (c.args.levels - c.loop.counter) - 1 ≡ c.args.levels - (c.loop.counter + 1) = omega arith in
    c.loop.invariant
    ∙ shallow_nested (c.args.levels - c.loop.counter) c.args.self.now.home after c.loop.at c.in-Some.record.now c.in-Some-parent.place some c.in-Some.ensures c.in-Some-parent.is
    ∙ ap (λ n. is_shallow n c.args.self.now.home after c.in-Some-parent.place.number) less

pub returns : goal.returns
returns c =
    let after = records_after c.args.changes.now c.args.self.now in
    let done : c.args.levels - c.loop.counter ≡ 0 = omega (arith, c.loop-test.false) in
    sym (c.loop.invariant ∙ ap (λ n. is_shallow n c.args.self.now.home after c.loop.at) done)
