use Rattle.std.proofs.Common.{◌≡◌, List, Some, rules, subst, sym}
use Rattle.std.specs.List.{AllByRecursion}
use Rattle.state_forest.specs.declared.record.Record.{Record}
use Rattle.state_forest.specs.Shape.{IsInPlace, found_at, records_after}
use Rattle.state_forest.proofs.ShapeOfAHome.{all_found}
use Rattle.state_forest.proofs.forest.Forest.are_changes_in_place.Goals as goal

pub loop-record-init : goal.loop-record-init
loop-record-init c =
    let own = c.args.self.now in
    let changes = c.args.changes.now in
    let after = records_after changes own in
    let those = λ (rs : List Record). AllByRecursion (λ r. IsInPlace c.args.front.now own.home after r.num r) rs in
    let is : c.into_iter-record-iterator.result ≡ changes.records.records = search rules in
    record {
      found = subst (λ (rs : List Record). AllByRecursion (λ r. found_at own.home after r.num ≡ Some r) rs) (sym is) (all_found own.home changes.records.home changes.removed.items changes.records.records own.records c.requires c.records-2.ensures.order c.records.ensures.order);
      all = subst those is;
      left = subst those (sym is);
    }
