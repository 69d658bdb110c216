use Rattle.std.proofs.Common.{take}
use Rattle.std.specs.List.{AllZip}
use Rattle.state_replica.specs.Replicas.{view_of}
use Rattle.state_replica.specs.Tellings.{IsToldBy}
use Rattle.state_replica.proofs.replica.Replica.tell_news.Given as goal

-- the homes so far are told
abbrev pub invariant-loop-home : goal.invariant-loop-home
invariant-loop-home l = AllZip (IsToldBy (view_of l.other)) (take l.home-index l.home-items) l.homes.items
