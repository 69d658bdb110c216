use Rattle.state_book.proofs.Clerked.{desk_outcome}
use Rattle.state_book.proofs.clerk.DeskClerkClerk.call.Goals as goal

pub returns : goal.returns
returns g c = desk_outcome g.J.Run.opening c.args.self.now.pass c.call.new.mine c.args.call c.args.now c.call.result c.call.ensures.called c.call.ensures.kept c.call.ensures.refused
