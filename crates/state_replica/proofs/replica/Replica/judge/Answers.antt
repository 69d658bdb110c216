use Rattle.std.proofs.Common.{◌∙◌, ℕ, List, ap, sym}
use Rattle.theory_history.specs.Replies.{Denied, judge_by}
use Rattle.state_replica.specs.AtHome.{by_home, lost_by}
use Rattle.state_replica.specs.Replicas.{view_of}
use Rattle.state_replica.proofs.Homes.{home_records}
use Rattle.state_replica.proofs.JudgedAtHome.{judged_at_home, judged_nowhere}
use Rattle.state_replica.proofs.replica.Replica.judge.Goals as goal

pub returns-in-Some-clause-judged : goal.returns-in-Some-clause-judged
returns-in-Some-clause-judged c =
    let records = c.in-Some.home.now.records in
    judged_at_home (view_of c.args.self.now) c.args.me c.args.command.now c.home_of.result records c.home_of.ensures
    (home_records c.args.self.now c.home_of.result c.in-Some.home.now (sym c.in-Some.ensures.place))
    ∙ ap (λ (v : List ℕ). judge_by (by_home records) v c.args.me c.args.command.now) (sym c.front-front.ensures)
    ∙ c.judge.ensures.judged

pub returns-in-None-clause-judged : goal.returns-in-None-clause-judged
returns-in-None-clause-judged c =
    judged_nowhere c.args.self.now c.args.me c.args.command.now c.home_of.result c.home_of.ensures (sym c.in-None.ensures.place) c.requires (λ there. let wrong = c.in-None.ensures.there there in absurd cc)
    ∙ ap (λ r. Denied r) (sym (c.lost.ensures ∙ ap (λ (v : List ℕ). lost_by v c.args.command.now) c.front-front.ensures))
