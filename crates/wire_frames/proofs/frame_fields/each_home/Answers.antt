use Rattle.std.proofs.Common.{◌∷◌, [], ℕ, Vec, Global, arith, subst}
use Rattle.state_forest.specs.declared.merging.Told.{Told}
use Rattle.state_forest.specs.RecordMerges.{held_numbers}
use Rattle.std.proofs.lemmas.Result.{err_from_is_err_and}
use Rattle.std.proofs.lemmas.List.{length-append}
use Rattle.wire_frames.specs.Order.{AreEmpty, lists, live_of_place, next_place}
use Rattle.wire_frames.proofs.Loop.{goes_on, ends, is_done}
use Rattle.wire_frames.proofs.ToldLists.{lists_more, none_more, told_more}
use Rattle.wire_frames.proofs.frame_fields.each_home.Goals as goal

pub returns-in_err-told : goal.returns-in_err-told
returns-in_err-told g c =
    let seen = g.I.Input.seen in
    let p = err_from_is_err_and c.from_residual.result c.from_residual.ensures.1 in
    rw (p.1, p.2) (record { empty = tt; gives = ends (live_of_place c.args.base.now c.args.purges.now c.args.front.now) next_place c.args.nodes 0 (seen c.args.input.now) (lists c.homes.list.items) c.homes.place c.homes.place (seen c.homes.input) (seen c.told_of.new.input) c.in_err-told.field-0.0 c.homes-test.true c.homes.invariant.so_far c.in_err-told.ensures.gives })

pub homes-preserved : goal.homes-preserved
homes-preserved g c =
    let seen = g.I.Input.seen in
    let told = c.in_ok-told.told in
    let inv = c.homes.invariant in
    let one = goes_on (live_of_place c.args.base.now c.args.purges.now c.args.front.now) next_place c.args.nodes 0 (seen c.args.input.now) (lists c.homes.list.items) c.homes.place c.homes.place (seen c.homes.input) (seen c.told_of.new.input) (λ (t : Told). held_numbers t.held) told c.homes-test.true inv.so_far c.in_ok-told.ensures.gives in
    rw c.in_ok-push.ensures.items (record {
      so_far = rw (lists_more c.homes.list.items told) one;
      len = omega (arith, length-append c.homes.list.items (told ∷ []), inv.len);
      empty = record {
        numbered = told_more 1 c.homes.list.items told inv.empty.numbered (omega (arith, c.in_ok-told.ensures.home.0, inv.len));
        none = none_more c.homes.place c.homes.list.items told inv.empty.none c.in_ok-told.ensures.home.1;
      };
    })

pub returns : goal.returns
returns g c =
    let seen = g.I.Input.seen in
    let inv = c.homes.invariant in
    record {
      gives = is_done (live_of_place c.args.base.now c.args.purges.now c.args.front.now) next_place c.args.nodes 0 (seen c.args.input.now) c.homes.place c.homes.place (seen c.homes.input) (λ (x : Vec Told Global). lists x.items) c.homes.list c.homes-test.false inv.so_far;
      empty = subst (λ (n : ℕ). AreEmpty n c.homes.list.items) (omega (arith, c.homes-test.false, c.homes.auto)) inv.empty;
    }
