use Rattle.state_book.proofs.OneCall.{call_decides, reply_decides}
use Rattle.state_book.proofs.laws.calls_and_replies_are_compared_whole.Goals as goal

pub returns-clause-calls : goal.returns-clause-calls
returns-clause-calls c = call_decides

pub returns-clause-replies : goal.returns-clause-replies
returns-clause-replies c = reply_decides
