use Rattle.std.proofs.Common.{◌≡◌, ◌&&◌, ◌∙◌, refl, rules, sym, ap, Bool, true, cond, None, slice_get}
use Rattle.state_ids.specs.Ids.{Id}
use Rattle.state_forest.specs.declared.duties.Owing.TheVariants.{Hearing}
use Rattle.state_forest.specs.Forests.{id_of}
use Rattle.state_forest.specs.Owings.{owed_by}
use Rattle.state_forest.specs.Said.{first_member, is_below, is_under_at, is_unheard}
use Rattle.state_forest.specs.Shape.{found_at}
use Rattle.state_forest.proofs.ToldByChains.{first_member_is}
use Rattle.state_forest.proofs.Overdue.{at, number_passes}
use Rattle.state_forest.proofs.forest.Forest.first_unheard.Goals as goal

pub returns : goal.returns
returns c =
    let there = found_at c.args.self.now.home c.args.self.now.records in
    let r = c.args.kept.now in
    let under : is_under_at there c.args.above.num r.num ≡ true = search rules in
    let number = number_passes r.num c.in-Ok.ensures.exact in
    let below : is_below there c.args.above.num r ≡ true = ap (λ (b : Bool). b && is_under_at there c.args.above.num r.num) number ∙ under in
    let named : c.in-Ok.lra ≡ id_of r = ap (λ h. at h c.in-Ok.lra.num) c.in-Ok.ensures.value.0 ∙ ap (at r.home) c.in-Ok.ensures.value.1 in
    c.first_owed.ensures
    ∙ ap (λ (x : Id). slice_get (owed_by Hearing x 1 r.members) 0) named
    ∙ sym (first_member_is is_unheard Hearing (λ p. refl) (id_of r) 1 r.members)
    ∙ sym (ap (λ (b : Bool). cond b (first_member is_unheard (id_of r) 1 r.members) None) below)
