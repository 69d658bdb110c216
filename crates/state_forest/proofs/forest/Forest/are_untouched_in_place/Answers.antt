use Rattle.std.proofs.Common.{◌≡◌, List, rules, subst, sym, true}
use Rattle.std.specs.List.{AllByRecursion}
use Rattle.state_facts.specs.Lists.{In}
use Rattle.state_forest.specs.declared.record.Record.{Record}
use Rattle.state_forest.specs.Shape.{IsInPlace, is_untouched, records_after}
use Rattle.state_forest.proofs.Bools.{all_from}
use Rattle.state_forest.proofs.forest.Forest.are_untouched_in_place.Goals as goal

pub loop-record-init : goal.loop-record-init
loop-record-init c =
    let own = c.args.self.now in
    let changes = c.args.changes.now in
    let those = λ (rs : List Record). AllByRecursion (λ r. is_untouched changes r ≡ true → IsInPlace c.args.front.now own.home (records_after changes own) r.num r) rs in
    let is : c.into_iter-record-iterator.result ≡ own.records = search rules in
    record {
      own = subst (λ (rs : List Record). AllByRecursion (λ r. In r own.records) rs) (sym is) (all_from (λ r. In r own.records) own.records (λ r i. i));
      all = subst those is;
      left = subst those (sym is);
    }
