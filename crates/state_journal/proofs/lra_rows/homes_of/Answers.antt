use Rattle.std.proofs.Common.{◌≡◌, ◌∙◌, inr, true, false, length, refl, subst, arith}
use Rattle.state_journal.specs.LraRows.{AreRecordRows, told_at}
use Rattle.state_journal.proofs.RowLoop.{breaks_unordered, breaks_unread, home_of_row, no_record, only_one, order_more, rows_more, stands_there}
use Rattle.state_journal.proofs.lra_rows.homes_of.Goals as goal

pub returns-in-None-clause-refused : goal.returns-in-None-clause-refused
returns-in-None-clause-refused c =
    let row = c.index-rows-place.result in
    let there = stands_there c.args.rows.now c.rows.place row c.rows-test.true c.index-rows-place.is in
    inr (
      c.rows.place,
      refl,
      breaks_unread c.args.version c.args.front.now c.args.rows.now c.rows.place c.rows.homes.items c.rows.invariant.right c.rows-test.true
          (no_record c.args.version c.args.front.now c.args.rows.now c.rows.place row c.in_ok-kept.field-0 there c.in_ok-kept.ensures.only c.in-None.is),
    )

pub returns-then-not-branch-clause-refused : goal.returns-then-not-branch-clause-refused
returns-then-not-branch-clause-refused c =
    let row = c.index-rows-place.result in
    let there = stands_there c.args.rows.now c.rows.place row c.rows-test.true c.index-rows-place.is in
    let is = rw c.in-Some.is at c.in_ok-kept.ensures.some in
    let no : c.in_ok-put_home.field-0 ≡ false = c.if-not-branch.true in
    inr (
      c.rows.place,
      refl,
      breaks_unordered c.args.version c.args.front.now c.args.rows.now c.rows.place c.rows.homes.items c.rows.invariant.right c.rows-test.true c.in-Some.kept (home_of_row c.args.version c.args.front.now row c.in-Some.kept is).0
          (only_one c.args.version c.args.front.now c.args.rows.now c.rows.place row c.in_ok-kept.field-0 c.in-Some.kept there c.in_ok-kept.ensures.only c.in-Some.is) (c.in_ok-put_home.ensures.not_put no),
    )

pub rows-preserved : goal.rows-preserved
rows-preserved c =
    let row = c.index-rows-place.result in
    let there = stands_there c.args.rows.now c.rows.place row c.rows-test.true c.index-rows-place.is in
    let is = rw c.in-Some.is at c.in_ok-kept.ensures.some in
    let yes : c.in_ok-put_home.field-0 ≡ true = c.if-not-branch.false in
    let put = c.in_ok-put_home.ensures.put yes in
    let some = (home_of_row c.args.version c.args.front.now row c.in-Some.kept is).0 in
    record {
      told = put.told;
      count = put.count ∙ c.rows.invariant.count;
      order = order_more c.rows.homes.items _ c.in-Some.kept put c.rows.invariant.order some;
      right = rows_more c.args.version c.args.front.now c.args.rows.now c.rows.place c.rows.homes.items c.rows.invariant.right c.in-Some.kept (record { row = row; there = there; is = is })
          (only_one c.args.version c.args.front.now c.args.rows.now c.rows.place row c.in_ok-kept.field-0 c.in-Some.kept there c.in_ok-kept.ensures.only c.in-Some.is) _ put some;
    }

pub returns-clause-right : goal.returns-clause-right
returns-clause-right c =
    let all : c.rows.place ≡ length c.args.rows.now = omega (arith, c.rows-test.false, c.rows.auto) in
    subst (λ n. AreRecordRows c.args.version c.args.front.now c.args.rows.now n (told_at c.rows.homes.items)) all c.rows.invariant.right
