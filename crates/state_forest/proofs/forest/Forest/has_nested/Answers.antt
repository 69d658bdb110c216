use Rattle.std.proofs.Common.{◌≡◌, ◌∙◌, refl, sym, subst, ap, true, false, is_some}
use mathlib.Core.Bool.{not}
use Rattle.std.specs.List.{AllByRecursion}
use Rattle.std.proofs.lemmas.List.{take_all}
use Rattle.state_forest.specs.Shape.{found_at, records_after}
use Rattle.state_forest.proofs.Bools.{all_at}
use Rattle.state_forest.proofs.ShapeOfAHome.{IsThere, all_there, copied_some, nested_there}
use Rattle.state_forest.proofs.forest.Forest.has_nested.Goals as goal

pub returns-then-is_none : goal.returns-then-is_none
returns-then-is_none c =
    let own = c.args.self.now in
    let after = records_after c.args.changes.now own in
    let missing : is_some (found_at own.home after c.in-Nested.child) ≡ false =
    ap is_some (sym c.changed_at.ensures) ∙ copied_some c.changed_at.result ∙ c.is_none.ensures ∙ ap not c.if-is_none.true in (
      λ yes. absurd cc,
      λ all.
          let here = all_at (IsThere own.home after) c.args.members.now c.loop-member.member-index c.member-item.result (all_there own.home after c.args.members.now all) c.loop-member-test.true in
          let there : is_some (found_at own.home after c.in-Nested.child) ≡ true = subst (IsThere own.home after) (sym c.member-item.is ∙ c.in-Nested.is) here in
          absurd (let clash : true ≡ false = sym there ∙ missing in cc),
    )

pub returns : goal.returns
returns c =
    let own = c.args.self.now in
    let after = records_after c.args.changes.now own in
    let all = take_all c.loop-member.member-index c.args.members.now c.loop-member-test.false in (
      λ yes. nested_there own.home after c.args.members.now (subst (AllByRecursion (IsThere own.home after)) all c.loop-member.invariant),
      λ there. refl,
    )
