use Rattle.state_book.proofs.FoundBehind.{found_behind}
use Rattle.state_book.proofs.laws.a_start_finds_the_records_before_or_after.Goals as goal

pub returns : goal.returns
returns g c old asked now left db found is ruled started = found_behind g.S.Store g.met.S.Store.settled old asked now left db found is ruled started
