use Rattle.std.proofs.Common.{◌≡◌, ◌∙◌, ◌+◌, ◌-◌, ◌<◌, ◌∷◌, [], sym, ap, arith}
use Rattle.state_forest.specs.Said.{records_up, wanted_by}
use Rattle.state_forest.specs.Shape.{found_at}
use Rattle.state_forest.specs.Wants.{over}
use Rattle.state_forest.proofs.RecordsSayTheSet.{up_more, up_none, up_nothing, up_root, wanted_more}
use Rattle.state_forest.proofs.WantsByParents.{over_none, over_over}
use Rattle.state_forest.proofs.forest.Forest.wanted_within.Goals as goal

pub returns-in_default : goal.returns-in_default
returns-in_default c =
    let at = found_at c.args.self.now.home c.args.self.now.records in
    sym (c.loop.invariant ∙ ap (λ rs. over c.loop.want (wanted_by rs)) (up_none (c.args.levels - c.loop.counter) at c.loop.at (sym c.in_default.ensures)) ∙ over_none c.loop.want)

pub returns-in_default-parent : goal.returns-in_default-parent
returns-in_default-parent c =
    let at = found_at c.args.self.now.home c.args.self.now.records in
    let r = c.in-Some.record.now in
    let some : 0 < c.args.levels - c.loop.counter = omega (arith, c.loop-test.true) in
    c.over-want.ensures
    ∙ sym (c.loop.invariant
    ∙ ap (λ rs. over c.loop.want (wanted_by rs)) (up_root (c.args.levels - c.loop.counter) at c.loop.at r some (sym c.in-Some.ensures) c.in_default-parent.is)
    ∙ ap (over c.loop.want) (wanted_more r [] ∙ over_none r.decision))

pub loop-preserved : goal.loop-preserved
loop-preserved c =
    let at = found_at c.args.self.now.home c.args.self.now.records in
    let r = c.in-Some.record.now in
    let place = c.in-Some-parent.place in
    let some : 0 < c.args.levels - c.loop.counter = omega (arith, c.loop-test.true) in
    let less : (c.args.levels - c.loop.counter) - 1 ≡ c.args.levels - (c.loop.counter + 1) = omega arith in
    let above = records_up (c.args.levels - (c.loop.counter + 1)) at place.number in
    c.loop.invariant
    ∙ ap (λ rs. over c.loop.want (wanted_by rs)) (up_more (c.args.levels - c.loop.counter) at c.loop.at r place some (sym c.in-Some.ensures) c.in-Some-parent.is)
    ∙ ap (λ n. over c.loop.want (wanted_by (r ∷ records_up n at place.number))) less
    ∙ ap (over c.loop.want) (wanted_more r above)
    ∙ sym (over_over c.loop.want r.decision (wanted_by above))
    ∙ ap (λ d. over d (wanted_by above)) (sym c.over-want.ensures)

pub returns : goal.returns
returns c =
    let at = found_at c.args.self.now.home c.args.self.now.records in
    let done : c.args.levels - c.loop.counter ≡ 0 = omega (arith, c.loop-test.false) in
    sym (c.loop.invariant ∙ ap (λ n. over c.loop.want (wanted_by (records_up n at c.loop.at))) done ∙ ap (λ rs. over c.loop.want (wanted_by rs)) (up_nothing at c.loop.at) ∙ over_none c.loop.want)
