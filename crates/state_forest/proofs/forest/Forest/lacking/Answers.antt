use Rattle.std.proofs.Common.{List, subst}
use Rattle.state_forest.specs.declared.record.Record.{Record}
use Rattle.state_forest.proofs.TakenRecords.{IsBringing, IsToldTo, bringing_more}
use Rattle.state_forest.proofs.forest.Forest.lacking.Goals as goal

pub loop-heard-preserved : goal.loop-heard-preserved
loop-heard-preserved c =
    let home = c.args.self.now.home in
    let own = c.args.self.now.records in
    let all = c.args.other.now.records in
    let before = subst (λ (rs : List Record). IsBringing (IsToldTo home own) home all rs c.loop-heard.news.records) c.in-Some.ensures.steps c.loop-heard.invariant.telling in
    record {
      home = c.in_ok-add_lacking.ensures.home;
      telling = bringing_more (IsToldTo home own) home all c.next.new.self c.loop-heard.news.records c.add_lacking.new.news.records c.in-Some.heard.now before c.in_ok-add_lacking.ensures.order c.in_ok-add_lacking.ensures.last c.in_ok-add_lacking.ensures.told c.in_ok-add_lacking.ensures.others;
    }
