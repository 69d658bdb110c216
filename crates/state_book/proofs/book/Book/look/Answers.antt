use Rattle.std.proofs.Common.{rules}
use Rattle.state_facts.specs.declared.refusal.Refusal.TheVariants.{TrailLost}
use Rattle.state_book.proofs.LostBelow.{look_lost}
use Rattle.state_book.proofs.book.Book.look.Goals as goal

pub returns-in-Some-clause-lost : goal.returns-in-Some-clause-lost
returns-in-Some-clause-lost g c are = look_lost c.args.self.now c.args.pass.now c.args.receipts.now (TrailLost c.in-Some.index) are (search rules)
