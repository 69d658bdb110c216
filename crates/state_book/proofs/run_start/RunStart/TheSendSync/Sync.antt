-- A `RunStart` owns nothing, so threads may share it.
use denote.Param.Send.{IsSend, IsSync, owning_send, part_keyless}
use Rattle.state_book.specs.contracts.run_start.RunStart.{the_row, the_type}

pub sync : IsSync the_row
sync =
    let s : IsSend the_row = owning_send the_type tt (λ d. tt) (λ k x w. tt) in
    record { shared = λ d b o κ q. part_keyless the_row s q d b o }
