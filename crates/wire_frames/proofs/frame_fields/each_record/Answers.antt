use Rattle.std.proofs.Common.{◌≡◌, ◌∙◌, ◌++◌, ◌∷◌, [], Err, ℕ, List, Ok, ap, length, subst, sym}
use Rattle.state_forest.specs.declared.record.Record.{Record}
use Rattle.wire_frames.specs.declared.order.Last.{Last}
use Rattle.wire_frames.specs.Rules.{Context, after, start, told_context}
use Rattle.wire_frames.specs.Reading.{read_record_at}
use Rattle.wire_frames.specs.Order.{AreInOrder, Follows, lists}
use Rattle.std.proofs.lemmas.Result.{err_from_is_err_and}
use Rattle.wire_frames.proofs.AtHomes.{home_of_next, last_of_home, put_next, reads_as_before}
use Rattle.wire_frames.proofs.Loop.{goes_on, ends, is_done}
use Rattle.wire_frames.proofs.ToldLists.{few_more, in_order_more, last_more, last_of}
use Rattle.wire_frames.proofs.frame_fields.each_record.Goals as goal

-- the records are in order with this one too
next_in_order : (nodes : ℕ) (done : List Record) (last : Last) (r : Record) → last ≡ last_of start done → AreInOrder nodes start done → Follows nodes last r → AreInOrder nodes start (done ++ r ∷ [])
next_in_order nodes done last r e order follows = in_order_more nodes start done r order (subst (λ (l : Last). Follows nodes l r) e follows)

pub returns-in_err-kept : goal.returns-in_err-kept
returns-in_err-kept g c =
    let seen = g.I.Input.seen in
    let k : Context = told_context c.args.version c.args.base.now c.args.front.now c.args.homes.now.items in
    let inv = c.records.invariant in
    let p = err_from_is_err_and c.from_residual.result c.from_residual.ensures.1 in
    let held : lists c.as_slice.result.now ≡ lists c.args.homes.now.items = ap lists c.as_slice.ensures.value ∙ inv.put.held in
    let read = reads_as_before (seen c.records.input) (seen c.record_of.new.input) (Err c.in_err-kept.field-0.0) c.args.version c.args.base.now c.args.front.now c.args.homes.now.items c.as_slice.result.now c.records.last held c.in_err-kept.ensures.gives in
    rw (p.1, p.2) (inv.done, ends (read_record_at k) after c.args.count start (seen c.args.input.now) inv.done c.records.counter c.records.last (seen c.records.input) (seen c.record_of.new.input) c.in_err-kept.field-0.0 c.records-test.true inv.so_far read, tt)

pub put_home-requires-clause-there : goal.put_home-requires-clause-there
put_home-requires-clause-there g c =
    let inv = c.records.invariant in
    home_of_next (length c.args.front.now) c.args.homes.now.items c.records.homes.items inv.done c.in_ok-kept.kept inv.put
    (next_in_order (length c.args.front.now) inv.done c.records.last c.in_ok-kept.kept inv.last inv.order c.in_ok-kept.ensures.follows)

pub put_home-requires-clause-last : goal.put_home-requires-clause-last
put_home-requires-clause-last g c =
    let inv = c.records.invariant in
    last_of_home (length c.args.front.now) c.args.homes.now.items c.records.homes.items inv.done c.in_ok-kept.kept inv.put
    (next_in_order (length c.args.front.now) inv.done c.records.last c.in_ok-kept.kept inv.last inv.order c.in_ok-kept.ensures.follows)

pub records-preserved : goal.records-preserved
records-preserved g c =
    let seen = g.I.Input.seen in
    let k : Context = told_context c.args.version c.args.base.now c.args.front.now c.args.homes.now.items in
    let inv = c.records.invariant in
    let kept = c.in_ok-kept.kept in
    let order = next_in_order (length c.args.front.now) inv.done c.records.last kept inv.last inv.order c.in_ok-kept.ensures.follows in
    let held : lists c.as_slice.result.now ≡ lists c.args.homes.now.items = ap lists c.as_slice.ensures.value ∙ inv.put.held in
    let read = reads_as_before (seen c.records.input) (seen c.record_of.new.input) (Ok kept) c.args.version c.args.base.now c.args.front.now c.args.homes.now.items c.as_slice.result.now c.records.last held c.in_ok-kept.ensures.gives in
    rw c.after-last.ensures (record {
      done = inv.done ++ kept ∷ [];
      so_far = goes_on (read_record_at k) after c.args.count start (seen c.args.input.now) inv.done c.records.counter c.records.last (seen c.records.input) (seen c.record_of.new.input) (λ (x : Record). x) kept c.records-test.true inv.so_far read;
      few = few_more c.records.last kept c.records.counter inv.few;
      last = ap (λ (last : Last). after last kept) inv.last ∙ sym (last_more start inv.done kept);
      order = order;
      put = put_next (length c.args.front.now) c.args.homes.now.items c.records.homes.items c.put_home.new.homes.items inv.done kept inv.put order c.in_ok-put_home.ensures.told c.in_ok-put_home.ensures.held c.in_ok-put_home.ensures.records;
    })

pub returns : goal.returns
returns g c =
    let seen = g.I.Input.seen in
    let k : Context = told_context c.args.version c.args.base.now c.args.front.now c.args.homes.now.items in
    let inv = c.records.invariant in (
      inv.done,
      is_done (read_record_at k) after c.args.count start (seen c.args.input.now) c.records.counter c.records.last (seen c.records.input) (λ (u : Unit {0}). inv.done) tt c.records-test.false inv.so_far,
      inv.put,
    )
