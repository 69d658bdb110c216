use Rattle.state_book.proofs.EachOnce.{each_once}
use Rattle.state_book.proofs.laws.nothing_is_strange_where_each_is_there_once.Goals as goal

pub returns : goal.returns
returns c = each_once
