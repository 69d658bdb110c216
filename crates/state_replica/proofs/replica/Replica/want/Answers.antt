use Rattle.std.proofs.Common.{◌∙◌, rules}
use Rattle.state_replica.specs.Replicas.{view_of}
use Rattle.theory_history.proofs.SameReadings.{want_alike}
use Rattle.state_replica.proofs.replica.Replica.want.Goals as goal

pub returns-clause-says : goal.returns-clause-says
returns-clause-says c = search rules

pub returns-in_err-home_of-clause-says : goal.returns-in_err-home_of-clause-says
returns-in_err-home_of-clause-says c = search rules

pub returns-clause-answer : goal.returns-clause-answer
returns-clause-answer c S settled stands = returns-clause-says c ∙ want_alike S (view_of c.args.self.now) c.args.id settled stands

pub returns-in_err-home_of-clause-answer : goal.returns-in_err-home_of-clause-answer
returns-in_err-home_of-clause-answer c S settled stands = returns-in_err-home_of-clause-says c ∙ want_alike S (view_of c.args.self.now) c.args.id settled stands
