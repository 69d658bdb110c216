use Rattle.std.proofs.Common.{◌≡◌, List, map, subst}
use Rattle.state_forest.specs.Forests.{HomeRecords}
use Rattle.wire_frames.specs.Sending.{part_of, part_without}
use Rattle.wire_frames.proofs.ToldSince.{told_parts, without_homes}
use Rattle.wire_frames.proofs.since.homes_since.Goals as goal

-- before any record is told
without : (c : goal.After-told-2-1) → map part_of c.in_ok-told.told.items ≡ map (part_without c.args.base.now c.args.purges.now) c.args.replica.now.homes
without c = subst (λ (hs : List HomeRecords). map part_of c.in_ok-told.told.items ≡ map (part_without c.args.base.now c.args.purges.now) hs) c.homes.ensures.homes c.in_ok-told.ensures

pub tell_all-requires : goal.tell_all-requires
tell_all-requires c = without_homes c.args.base.now c.args.purges.now c.in_ok-told.told.items c.args.replica.now.homes (without c) c.homes.ensures.state.numbered

pub returns-clause-parts : goal.returns-clause-parts
returns-clause-parts c =
    let before = subst (λ (hs : List HomeRecords). map part_of c.in_ok-told.told.items ≡ map (part_without c.args.base.now c.args.purges.now) hs) c.homes.ensures.homes c.in_ok-told.ensures in
    told_parts c.args.base.now c.args.purges.now c.args.replica.now.homes c.in_ok-told.told.items c.tell_all.new.told.items
    c.homes.ensures.state.numbered c.homes.ensures.state.ordered c.homes.ensures.state.indexed.few before c.in_ok-tell_all.ensures
