-- A `First` owns nothing, so it may go to another thread.
use denote.RattleType.{RattleType}
use denote.Param.Send.{IsSend, owning_send, sendable}
use Rattle.sqlite_trees.specs.declared.store.Store.{Ghosts}
use Rattle.state_journal.specs.contracts.first.First.{the_row, the_type}

pub send : (S : RattleType) (g : Ghosts S.Denot) → IsSend S → IsSend (the_row S g)
send S g s = owning_send (the_type S g) (search sendable, tt) (λ d. tt) (λ k x w. tt)
