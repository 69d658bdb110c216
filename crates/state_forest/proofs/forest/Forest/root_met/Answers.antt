use Rattle.std.proofs.Common.{◌≡◌, ◌∙◌, ◌+◌, ◌-◌, ◌&&◌, Bool, false, sym, ap, arith, is_none}
use Rattle.std.specs.List.{list_any}
use Rattle.state_forest.specs.declared.record.Record.{Record}
use Rattle.state_forest.specs.Said.{records_up}
use Rattle.state_forest.specs.Shape.{found_at}
use Rattle.state_forest.proofs.ToldByChains.{any_above, any_root, found_number}
use Rattle.state_forest.proofs.RecordsSayTheSet.{up_none, up_nothing}
use Rattle.state_forest.proofs.forest.Forest.root_met.Goals as goal

pub returns-in_default : goal.returns-in_default
returns-in_default c passes =
    let at = found_at c.args.self.now.home c.args.self.now.records in
    let test : Record → Bool = λ r. is_none r.parent && passes r.num in
    c.loop.invariant passes ∙ ap (list_any test) (up_none (8 - c.loop.counter) at c.loop.at (sym c.in_default.ensures))

pub returns-in_default-parent : goal.returns-in_default-parent
returns-in_default-parent c passes =
    let at = found_at c.args.self.now.home c.args.self.now.records in
    let r = c.in-Some.record.now in
    let number = found_number c.args.self.now.home c.loop.at c.args.self.now.records r (sym c.in-Some.ensures) in
    let here : (is_none r.parent && passes r.num) ≡ passes c.loop.at = ap (λ p. is_none p && passes r.num) c.in_default-parent.is ∙ ap passes number in
    c.loop.invariant passes ∙ any_root (λ (q : Record). is_none q.parent && passes q.num) (8 - c.loop.counter) at c.loop.at r (omega (arith, c.loop-test.true)) (sym c.in-Some.ensures) c.in_default-parent.is ∙ here

pub loop-preserved : goal.loop-preserved
loop-preserved c passes =
    let at = found_at c.args.self.now.home c.args.self.now.records in
    let r = c.in-Some.record.now in
    let fails : (is_none r.parent && passes r.num) ≡ false = ap (λ p. is_none p && passes r.num) c.in-Some-parent.is in
    c.loop.invariant passes ∙ any_above (λ (q : Record). is_none q.parent && passes q.num) (8 - c.loop.counter) (8 - (c.loop.counter + 1)) at c.loop.at r c.in-Some-parent.place (omega (arith, c.loop-test.true)) (omega arith) (sym c.in-Some.ensures) c.in-Some-parent.is fails

pub returns : goal.returns
returns c passes =
    let at = found_at c.args.self.now.home c.args.self.now.records in
    let test : Record → Bool = λ r. is_none r.parent && passes r.num in
    let done : 8 - c.loop.counter ≡ 0 = omega (arith, c.loop-test.false) in
    c.loop.invariant passes ∙ ap (λ n. list_any test (records_up n at c.loop.at)) done ∙ ap (list_any test) (up_nothing at c.loop.at)
