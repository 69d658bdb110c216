use Rattle.state_book.proofs.Clerked.{book_outcome}
use Rattle.state_book.proofs.clerk.BookClerkClerk.call.Goals as goal

pub returns : goal.returns
returns g c = book_outcome c.args.self.now c.enter.new.self c.args.call c.args.now c.enter.result c.enter.ensures.entered c.enter.ensures.refused
