use Rattle.std.proofs.Common.{◌≡◌, ◌+◌, ◌++◌, ◌∷◌, [], sym, ap, subst, ◌∙◌, length, arith, List, Some, length-append, Bool}
use Rattle.state_replica.specs.declared.page.Row.{Row}
use Rattle.state_replica.specs.Pages.{IsPage, PageRows}
use Rattle.theory_history.specs.Readings.{by_view}
use Rattle.state_replica.specs.Replicas.{view_of}
use Rattle.state_replica.proofs.Paging.{AreRows, no_rows, row_more, page_last, page_full}
use Rattle.state_replica.proofs.replica.Replica.next_rows.Goals as goal

one_longer : (rows new : List Row) (row : Row) → new ≡ rows ++ row ∷ [] → length new ≡ length rows + 1
one_longer rows new row e = ap (λ (rs : List Row). length rs) e ∙ length-append rows (row ∷ [])

pub loop-init : goal.loop-init
loop-init c = record {
  count = ap (λ (rs : List Row). length rs) c.new-rows.ensures.items;
  rows = no_rows (by_view (view_of c.args.self.now)) c.args.after c.new-rows.result.items c.new-rows.ensures.items;
}

pub loop-preserved : goal.loop-preserved
loop-preserved c = record {
  count = let more = one_longer c.loop.rows.items c.push.new.self.items c.in-Some.row c.in_ok-push.ensures.items in omega (arith, more, c.loop.invariant.count);
  rows =
      subst (AreRows (by_view (view_of c.args.self.now)) c.args.after (Some c.in-Some.row.id)) (sym c.in_ok-push.ensures.items)
      (row_more (by_view (view_of c.args.self.now)) c.args.after c.loop.last c.loop.rows.items c.in-Some.row (c.loop.invariant.rows) (c.in-Some.ensures));
}

pub returns-in_default : goal.returns-in_default
returns-in_default c =
    page_last (by_view (view_of c.args.self.now)) c.args.after c.loop.last c.loop.rows.items (omega (arith, c.loop.invariant.count, c.loop.auto.counter-end)) (c.loop.invariant.rows) (c.in_default.ensures)

pub returns : goal.returns
returns c =
    let full : length c.loop.rows.items ≡ 64 = omega (arith, c.loop.invariant.count, c.loop.auto.counter-end, c.loop-test.false) in
    let page = page_full (by_view (view_of c.args.self.now)) c.args.after c.loop.last c.next_after.result c.loop.rows.items full (c.loop.invariant.rows) (c.next_after.ensures) in
    let said : Bool → PageRows = λ more. record { rows = c.loop.rows.items; more = more } in
    subst (λ (more : Bool). IsPage (by_view (view_of c.args.self.now)) c.args.after (said more)) (sym c.is_some-more.ensures) page
