use Rattle.std.proofs.Common.{◌-◌, drop, length, arith, sym, ◌∙◌}
use Rattle.std.proofs.lemmas.List.{length-drop, take_all}
use Rattle.wire_narayana.proofs.Parts.{begins_at, goes_on_at, last_at, own_part}
use Rattle.wire_narayana.proofs.ids.last_part.Goals as goal

pub loop-place-init : goal.loop-place-init
loop-place-init c = (omega arith, own_part c.args.path.now)

pub loop-place-preserved-then-not-is_parting : goal.loop-place-preserved-then-not-is_parting
loop-place-preserved-then-not-is_parting c = (
  omega (arith, c.loop-place.invariant.0),
  goes_on_at c.loop-place.place c.args.path.now (drop c.loop-place.start c.args.path.now) (grind arith) (sym c.is_parting.ensures ∙ c.if-not-is_parting.true) ∙ c.loop-place.invariant.1,
)

pub loop-place-preserved : goal.loop-place-preserved
loop-place-preserved c = (
  omega arith,
  begins_at c.loop-place.place c.args.path.now (drop c.loop-place.start c.args.path.now) (grind arith) (sym c.is_parting.ensures ∙ c.if-not-is_parting.false) ∙ c.loop-place.invariant.1,
)

pub returns : goal.returns
returns c = take_all (length c.args.path.now - c.loop-place.start) (drop c.loop-place.start c.args.path.now) (omega (arith, length-drop c.loop-place.start c.args.path.now))
    ∙ sym (last_at c.loop-place.place c.args.path.now (drop c.loop-place.start c.args.path.now) (grind arith)) ∙ c.loop-place.invariant.1
