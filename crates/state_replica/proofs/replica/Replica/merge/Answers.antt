use Rattle.std.proofs.Common.{◌≡◌, ◌∙◌, inl, inr, ap, sym, subst}
use Rattle.std.proofs.lemmas.Result.{err_from_is_err_and}
use Rattle.theory_history.specs.Merging.{IsAbsorbed, IsMerged, merged}
use Rattle.theory_history.specs.Changes.{patched}
use Rattle.state_replica.specs.Replicas.{view_of}
use Rattle.theory_history.specs.Views.{View}
use Rattle.theory_history.proofs.MergeIsAJoin.{merge_law}
use Rattle.theory_history.proofs.ViewsHaveShape.{merged_shape}
use Rattle.theory_history.proofs.OneMerge.{merge_is, merge_only}
use Rattle.theory_history.proofs.TellingNews.{absorbed_from, merged_from}
use Rattle.state_replica.proofs.replica.Replica.merge.Goals.{After-apply, In_err-patch}
use Rattle.state_replica.proofs.replica.Replica.merge.Goals as goal

new_view : (c : After-apply) → patched c.in_ok-patch.patch (view_of c.args.self.now) ≡ view_of c.apply.new.self
new_view c = sym (c.apply.ensures.view ∙ ap (patched c.in_ok-patch.patch) c.in_ok-patch.ensures.view)

made : (c : After-apply) → IsMerged (view_of c.args.self.now) (view_of c.args.other.now) (view_of c.apply.new.self)
made c =
    subst (λ (v : View). IsMerged (view_of c.args.self.now) (view_of c.args.other.now) v) (new_view c)
    (merged_from (view_of c.args.self.now) (view_of c.args.other.now) (patched c.in_ok-patch.patch (view_of c.args.self.now)) c.in_ok-taken.taken c.in_ok-taken.ensures c.in_ok-patch.ensures.absorbed)

-- `merged` of the two views is a merge of them
is_merge : (c : In_err-patch) → IsMerged (view_of c.args.self.now) (view_of c.args.other.now) (merged (view_of c.args.self.now) (view_of c.args.other.now))
is_merge c = merge_is (view_of c.args.self.now) (view_of c.args.other.now) c.requires c.absorb.ensures.order c.in_ok-taken.ensures.order

-- and the merge takes what the other replica tells
takes_told : (c : In_err-patch) → IsAbsorbed (view_of c.args.self.now) c.in_ok-taken.taken (merged (view_of c.args.self.now) (view_of c.args.other.now))
takes_told c =
    absorbed_from (view_of c.args.self.now) (view_of c.args.other.now) (merged (view_of c.args.self.now) (view_of c.args.other.now)) c.in_ok-taken.taken c.in_ok-taken.ensures (is_merge c)

pub returns-clause-merged : goal.returns-clause-merged
returns-clause-merged c = merge_only (view_of c.args.self.now) (view_of c.args.other.now) (view_of c.apply.new.self) c.absorb.ensures.order c.in_ok-taken.ensures.order (made c)

pub returns-clause-is : goal.returns-clause-is
returns-clause-is c = made c

pub returns-clause-union : goal.returns-clause-union
returns-clause-union c h v w law left right own others =
    merge_law h v w (view_of c.args.self.now) (view_of c.args.other.now) (view_of c.apply.new.self) law left right own others (made c)

pub returns-in_err-patch-clause-refused : goal.returns-in_err-patch-clause-refused
returns-in_err-patch-clause-refused c =
    let told = err_from_is_err_and c.from_residual-in_err-patch.result c.from_residual-in_err-patch.ensures.1 in
    rw (told.1, told.2) (elim c.in_err-patch.ensures.refused [
      | inl memory ↦ inl memory
      | inr broken ↦ inr (broken.0, λ shape. broken.1 (merged (view_of c.args.self.now) (view_of c.args.other.now)) (takes_told (goal.at.returns-in_err-patch-clause-refused c).In_err-patch) shape)
    ])

-- the merge of two views of one history has the shape
pub returns-in_err-patch-clause-union : goal.returns-in_err-patch-clause-union
returns-in_err-patch-clause-union c h v w law left right own others =
    let told = err_from_is_err_and c.from_residual-in_err-patch.result c.from_residual-in_err-patch.ensures.1 in
    rw (told.1, told.2) (elim c.in_err-patch.ensures.refused [
      | inl memory ↦ memory
      | inr broken ↦
          let a = view_of c.args.self.now in
          let b = view_of c.args.other.now in
          absurd (broken.1 (merged a b) (takes_told (goal.at.returns-in_err-patch-clause-union c).In_err-patch) (merged_shape h v w a b (merged a b) law left right own others (is_merge (goal.at.returns-in_err-patch-clause-union c).In_err-patch)))
    ])
