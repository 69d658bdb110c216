-- A `First` owns nothing, so threads may share it.
use denote.RattleType.{RattleType}
use denote.Param.Send.{IsSend, IsSync, owning_send, part_keyless, sendable}
use Rattle.sqlite_trees.specs.declared.store.Store.{Ghosts}
use Rattle.state_journal.specs.contracts.first.First.{the_row, the_type}

pub sync : (S : RattleType) (g : Ghosts S.Denot) → IsSync S → IsSync (the_row S g)
sync S g y =
    let s : IsSend (the_row S g) = owning_send (the_type S g) (search sendable, tt) (λ d. tt) (λ k x w. tt) in
    record { shared = λ d b o κ q. part_keyless (the_row S g) s q d b o }
