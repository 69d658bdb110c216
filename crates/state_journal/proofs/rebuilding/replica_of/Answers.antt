use Rattle.std.proofs.Common.{◌≡◌, ◌∙◌, inl, inr, ap, subst, sym}
use Rattle.theory_history.specs.Changes.{patched}
use Rattle.theory_history.specs.Merging.{IsAbsorbed}
use Rattle.theory_history.specs.ViewShape.{HasShape}
use Rattle.state_replica.specs.Replicas.{view_of}
use Rattle.state_journal.specs.Reads.{view_told}
use Rattle.state_journal.proofs.ToldViews.{absorbed_told, told_absorbed}
use Rattle.state_journal.proofs.rebuilding.replica_of.Goals as goal

pub returns-in-Err-clause-refused : goal.returns-in-Err-clause-refused
returns-in-Err-clause-refused c = elim c.in-Err.ensures.refused [
  | inl memory ↦ inl memory
  | inr broken ↦ inr (
    broken.0,
    λ shape. broken.1 (view_told c.args.told)
        (subst (λ v. IsAbsorbed v c.args.told (view_told c.args.told)) (sym c.in_ok-replica.ensures.empty)
        (told_absorbed c.args.nodes c.args.told c.requires.telling c.requires.counted c.requires.order c.requires.numbered)) shape,
  )
]

pub returns-clause-view : goal.returns-clause-view
returns-clause-view c =
    let after = patched c.in-Ok.patch (view_of c.in_ok-replica.replica) in
    let told : after ≡ view_told c.args.told = absorbed_told c.args.nodes c.args.told c.requires.telling c.requires.counted c.requires.order c.requires.numbered after
    (subst (λ v. IsAbsorbed v c.args.told after) c.in_ok-replica.ensures.empty c.in-Ok.ensures.absorbed) in
    c.apply.ensures.view ∙ ap (patched c.in-Ok.patch) c.absorb.ensures.view ∙ told

pub returns-clause-shape : goal.returns-clause-shape
returns-clause-shape c =
    let after = patched c.in-Ok.patch (view_of c.in_ok-replica.replica) in
    let told : after ≡ view_told c.args.told = absorbed_told c.args.nodes c.args.told c.requires.telling c.requires.counted c.requires.order c.requires.numbered after
    (subst (λ v. IsAbsorbed v c.args.told after) c.in_ok-replica.ensures.empty c.in-Ok.ensures.absorbed) in
    subst HasShape told c.in-Ok.ensures.shape
