use Rattle.state_replica.proofs.Homes.{home_is}
use Rattle.state_replica.proofs.replica.Replica.home.Goals as goal

pub returns-clause-found : goal.returns-clause-found
returns-clause-found c = home_is c.args.self.now c.args.home c.home_at.result c.home_at.ensures.state c.home_at.ensures.some c.home_at.ensures.place
