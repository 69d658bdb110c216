use Rattle.std.proofs.Common.{◌≡◌, true, is_some, slice_get, Some}
use Rattle.state_forest.specs.Places.{count_below, with_number}
use Rattle.state_forest.proofs.RecordsReplaced.{back_is}
use Rattle.state_forest.proofs.Puts.{put_set}
use Rattle.state_forest.proofs.page.exchange_among.Goals as goal

pub returns-clause-items : goal.returns-clause-items
returns-clause-items c =
    let is = put_set c.args.next c.args.records.now.items c.requires.there in
    cc

pub returns-clause-back : goal.returns-clause-back
returns-clause-back c =
    let place : c.place_of-place.result ≡ count_below c.args.next.num c.args.records.now.items = cc in
    let there : is_some (with_number c.args.next.num (slice_get c.args.records.now.items c.place_of-place.result)) ≡ true = cc in
    let read : with_number c.args.next.num (slice_get c.args.records.now.items c.place_of-place.result) ≡ Some c.index_mut.result.now = back_is c.args.next.num c.args.records.now.items c.place_of-place.result c.index_mut.result.now there c.index_mut.ensures.value in
    cc
