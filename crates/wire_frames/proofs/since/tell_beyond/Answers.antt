use Rattle.std.proofs.Common.{List, ap, nat_lt, subst, sym, ◌∙◌}
use Rattle.state_stamps.specs.Indexes.{stamp_at}
use Rattle.state_forest.specs.Forests.{HomeRecords}
use Rattle.state_replica.specs.Replicas.{stamps_of, view_of}
use Rattle.wire_frames.specs.Telling.{AreTold, is_listed, is_newer}
use Rattle.wire_frames.proofs.ToldLists.{on_ok}
use Rattle.wire_frames.proofs.ToldSince.{listed_is}
use Rattle.wire_frames.proofs.ToldToo.{same_asked}
use Rattle.wire_frames.proofs.since.tell_beyond.Goals as goal

pub returns : goal.returns
returns c =
    let kept = c.args.replica.now.homes in
    let known = stamps_of (view_of c.args.replica.now) in
    on_ok c.tell_each.result _ _
    (λ told. same_asked (is_listed c.beyond-entries.result.now) (λ l. is_newer c.args.base.now (known l) c.args.origin) kept c.args.told.now.items c.tell_each.new.told.items
    (λ l. ap (λ n. nat_lt n (stamp_at (known l) c.args.origin)) (sym c.count.ensures) ∙ listed_is c.beyond-entries.result.now known c.args.origin c.count.result c.beyond-entries.ensures l)
    (subst (λ (hs : List HomeRecords). AreTold (is_listed c.beyond-entries.result.now) hs c.args.told.now.items c.tell_each.new.told.items) c.homes.ensures.homes told))
    c.tell_each.ensures
