use Rattle.std.proofs.Common.{◌≡◌, ◌∙◌, ◌+◌, ◌-◌, ◌==◌, Bool, true, false, sym, ap, arith}
use Rattle.std.specs.List.{list_any}
use Rattle.std.proofs.lemmas.Bool.Decides.{nat_tests}
use Rattle.state_forest.specs.declared.record.Record.{Record}
use Rattle.state_forest.specs.Said.{records_up}
use Rattle.state_forest.specs.Shape.{found_at}
use Rattle.state_forest.proofs.ToldByChains.{any_above, any_here, any_root}
use Rattle.state_forest.proofs.RecordsSayTheSet.{up_none, up_nothing}
use Rattle.state_forest.proofs.forest.Forest.is_under.Goals as goal

pub returns-in_default : goal.returns-in_default
returns-in_default c =
    let at = found_at c.args.self.now.home c.args.self.now.records in
    let test : Record → Bool = λ r. r.num == c.args.above in
    sym (c.loop.invariant ∙ ap (list_any test) (up_none (8 - c.loop.counter) at c.loop.at (sym c.in_default.ensures)))

pub returns-then-record-above : goal.returns-then-record-above
returns-then-record-above c =
    let at = found_at c.args.self.now.home c.args.self.now.records in
    let is = c.if-record-above.true in
    let passes : (c.in-Some.record.now.num == c.args.above) ≡ true = grind (arith, nat_tests, is) in
    sym (c.loop.invariant ∙ any_here (λ (r : Record). r.num == c.args.above) (8 - c.loop.counter) at c.loop.at c.in-Some.record.now (omega (arith, c.loop-test.true)) (sym c.in-Some.ensures) passes)

pub returns-in_default-parent : goal.returns-in_default-parent
returns-in_default-parent c =
    let at = found_at c.args.self.now.home c.args.self.now.records in
    let is = c.if-record-above.false in
    let fails : (c.in-Some.record.now.num == c.args.above) ≡ false = grind (arith, nat_tests, is) in
    sym (c.loop.invariant ∙ any_root (λ (r : Record). r.num == c.args.above) (8 - c.loop.counter) at c.loop.at c.in-Some.record.now (omega (arith, c.loop-test.true)) (sym c.in-Some.ensures) c.in_default-parent.is ∙ fails)

pub loop-preserved : goal.loop-preserved
loop-preserved c =
    let at = found_at c.args.self.now.home c.args.self.now.records in
    let is = c.if-record-above.false in
    let fails : (c.in-Some.record.now.num == c.args.above) ≡ false = grind (arith, nat_tests, is) in
    c.loop.invariant ∙ any_above (λ (r : Record). r.num == c.args.above) (8 - c.loop.counter) (8 - (c.loop.counter + 1)) at c.loop.at c.in-Some.record.now c.in-Some-parent.place (omega (arith, c.loop-test.true)) (omega arith) (sym c.in-Some.ensures) c.in-Some-parent.is fails

pub returns : goal.returns
returns c =
    let at = found_at c.args.self.now.home c.args.self.now.records in
    let test : Record → Bool = λ r. r.num == c.args.above in
    let done : 8 - c.loop.counter ≡ 0 = omega (arith, c.loop-test.false) in
    sym (c.loop.invariant ∙ ap (λ n. list_any test (records_up n at c.loop.at)) done ∙ ap (list_any test) (up_nothing at c.loop.at))
