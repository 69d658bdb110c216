use Rattle.std.proofs.Common.{◌∙◌, inl, inr, refl, ap, sym, subst}
use Rattle.theory_history.specs.ViewShape.{HasShape}
use Rattle.state_journal.specs.Reads.{AreNumbered, AreRowsOf, view_told}
use Rattle.state_journal.proofs.ReadLemmas.{numbered, rows_are, shape_breaks}
use Rattle.state_journal.proofs.rows.read_rows.Goals as goal

pub replica_of-requires-clause-numbered : goal.replica_of-requires-clause-numbered
replica_of-requires-clause-numbered c =
    subst AreNumbered (sym c.new-told.ensures) (numbered c.in-Ok.fronts.version c.args.me _ _ c.in_ok-homes.homes.items c.args.front_rows.now c.args.lra_rows.now c.in-Ok.ensures.right c.in_ok-homes.ensures.told.1 c.in_ok-homes.ensures.right c.in_ok-homes.ensures.order)

pub returns-in-Ok-replica_of-clause-right : goal.returns-in-Ok-replica_of-clause-right
returns-in-Ok-replica_of-clause-right c =
    subst (AreRowsOf c.in-Ok.fronts.version c.args.me c.args.front_rows.now c.args.lra_rows.now) (sym (c.in-Ok-replica_of.ensures.view ∙ ap view_told c.new-told.ensures))
    (rows_are c.in-Ok.fronts.version c.args.me _ _ c.in_ok-homes.homes.items c.args.front_rows.now c.args.lra_rows.now c.in-Ok.ensures.right c.in_ok-homes.ensures.told.1 c.in_ok-homes.ensures.right c.in_ok-homes.ensures.order)

pub returns-in-Err-BadFrame-clause-refused : goal.returns-in-Err-BadFrame-clause-refused
returns-in-Err-BadFrame-clause-refused c = elim c.in-Err-BadFrame.ensures.refused [
  | inl memory ↦ absurd (let e = memory in cc)
  | inr broken ↦ inr (
    _,
    refl,
    inr (inr (shape_breaks c.in-Ok.fronts.version c.args.me _ _ c.in_ok-homes.homes.items c.args.front_rows.now c.args.lra_rows.now c.in-Ok.ensures.right c.in_ok-homes.ensures.told.1 c.in_ok-homes.ensures.right c.in_ok-homes.ensures.order
        c.args.nodes c.in-Ok.ensures.nodes (λ shape. broken.1 (subst HasShape (sym (ap view_told c.new-told.ensures)) shape)))),
  )
]
