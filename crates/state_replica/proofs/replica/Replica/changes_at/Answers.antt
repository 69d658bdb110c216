use Rattle.std.proofs.Common.{◌≡◌, ◌-◌, ◌∙◌, ℕ, true, false, inr, refl, sym, ap, arith, slice_get}
use Rattle.state_ids.specs.Fronts.{count}
use Rattle.state_replica.proofs.Absorbed.{changed_there, only_there}
use Rattle.state_replica.proofs.replica.Replica.changes_at.Goals as goal

pub returns-then-not-keeps_shape_with-clause-refused : goal.returns-then-not-keeps_shape_with-clause-refused
returns-then-not-keeps_shape_with-clause-refused c =
    let at = c.home-home.ensures in
    let place = ap (λ (n : ℕ). slice_get c.args.self.now.homes (n - 1)) (sym at) ∙ sym c.in-Some.ensures.place in
    let mine = c.count.ensures ∙ ap (λ v. count v c.home-home.result) c.front.ensures ∙ ap (count c.args.self.now.front) at in
    inr (
      refl,
      λ after there shape.
          let told = only_there c.args.self.now c.args.told c.args.reach c.count.result c.args.front.now c.in-Some.own.now c.in_ok-changes.changes.removed.items c.in_ok-changes.changes.records.records
          (omega (arith, c.in-Some.ensures.some, at)) (c.in-Some.ensures.found ∙ at) mine place c.in_ok-changes.ensures.order c.in_ok-changes.ensures.taken after there shape in
          let clash : false ≡ true = sym c.if-not-keeps_shape_with.true ∙ c.keeps_shape_with.ensures.1 told in
          cc,
    )

pub returns-clause-changes : goal.returns-clause-changes
returns-clause-changes c =
    let at = c.home-home.ensures in
    let place = ap (λ (n : ℕ). slice_get c.args.self.now.homes (n - 1)) (sym at) ∙ sym c.in-Some.ensures.place in
    let mine = c.count.ensures ∙ ap (λ v. count v c.home-home.result) c.front.ensures ∙ ap (count c.args.self.now.front) at in
    changed_there c.args.self.now c.args.told c.args.reach c.count.result c.args.front.now c.in-Some.own.now c.in_ok-changes.changes.removed.items c.in_ok-changes.changes.records.records
    (omega (arith, c.in-Some.ensures.some, at)) (c.in-Some.ensures.found ∙ at) mine place c.in_ok-changes.ensures.order c.in_ok-changes.ensures.taken
    c.in_ok-changes.ensures.only (c.keeps_shape_with.ensures.0 c.if-not-keeps_shape_with.false)
