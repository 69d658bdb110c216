use Rattle.state_book.proofs.RepliesOfSets.{reply_of_set}
use Rattle.state_book.proofs.laws.a_reply_is_that_of_the_set.Goals as goal

pub returns : goal.returns
returns c = reply_of_set
