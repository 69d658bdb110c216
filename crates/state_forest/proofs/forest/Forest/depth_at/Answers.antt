use Rattle.std.proofs.Common.{◌≡◌, ◌+◌, ◌-◌, ◌<◌, List, length, sym, ap, arith}
use Rattle.state_forest.specs.declared.record.Record.{Record}
use Rattle.state_forest.specs.Said.{records_up}
use Rattle.state_forest.specs.Shape.{found_at}
use Rattle.state_forest.proofs.RecordsSayTheSet.{up_more, up_none, up_nothing, up_root}
use Rattle.state_forest.proofs.forest.Forest.depth_at.Goals as goal

pub returns-in_default : goal.returns-in_default
returns-in_default c =
    let at = found_at c.args.self.now.home c.args.self.now.records in
    omega (arith, c.loop.invariant.left, ap (λ (rs : List Record). length rs) (up_none (8 - c.loop.counter) at c.loop.at (sym c.in_default.ensures)))

pub returns-in_default-parent : goal.returns-in_default-parent
returns-in_default-parent c =
    let at = found_at c.args.self.now.home c.args.self.now.records in
    let some : 0 < 8 - c.loop.counter = omega (arith, c.loop-test.true) in
    omega (arith, c.loop.invariant.left, ap (λ (rs : List Record). length rs) (up_root (8 - c.loop.counter) at c.loop.at c.in-Some.record.now some (sym c.in-Some.ensures) c.in_default-parent.is))

pub loop-preserved : goal.loop-preserved
loop-preserved c =
    let at = found_at c.args.self.now.home c.args.self.now.records in
    let place = c.in-Some-parent.place in
    let some : 0 < 8 - c.loop.counter = omega (arith, c.loop-test.true) in
    let less : (8 - c.loop.counter) - 1 ≡ 8 - (c.loop.counter + 1) = omega arith in
    let more = ap (λ (rs : List Record). length rs) (up_more (8 - c.loop.counter) at c.loop.at c.in-Some.record.now place some (sym c.in-Some.ensures) c.in-Some-parent.is) in
    let fewer = ap (λ n. length (records_up n at place.number)) less in
    record {
      climbed = omega (arith, c.loop.invariant.climbed);
      left = omega (arith, c.loop.invariant.left, more, fewer);
    }

pub returns : goal.returns
returns c =
    let at = found_at c.args.self.now.home c.args.self.now.records in
    let done : 8 - c.loop.counter ≡ 0 = omega (arith, c.loop-test.false) in
    omega (arith, c.loop.invariant.left, ap (λ n. length (records_up n at c.loop.at)) done, ap (λ (rs : List Record). length rs) (up_nothing at c.loop.at))
