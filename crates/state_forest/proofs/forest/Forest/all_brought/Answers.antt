use Rattle.std.proofs.Common.{List, subst}
use Rattle.state_forest.specs.declared.record.Record.{Record}
use Rattle.state_forest.proofs.TakenRecords.{IsBringing, IsRight, bringing_more}
use Rattle.state_forest.proofs.forest.Forest.all_brought.Goals as goal

pub loop-heard-preserved : goal.loop-heard-preserved
loop-heard-preserved c =
    let home = c.args.self.now.home in
    let own = c.args.self.now.records in
    let all = c.args.other.records in
    let before = subst (λ (rs : List Record). IsBringing (IsRight home c.args.mine own) home all rs c.loop-heard.records.records) c.in-Some.ensures.steps c.loop-heard.invariant.bringing in
    record {
      home = c.in_ok-bring.ensures.home;
      bringing = bringing_more (IsRight home c.args.mine own) home all c.next.new.self c.loop-heard.records.records c.bring.new.records.records c.in-Some.heard before c.in_ok-bring.ensures.order c.in_ok-bring.ensures.last c.in_ok-bring.ensures.put c.in_ok-bring.ensures.others;
    }
