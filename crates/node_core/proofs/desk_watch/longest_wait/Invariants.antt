use Rattle.std.proofs.Common.{◌≡◌, drop, max}
use Rattle.std.specs.Duration.{as_nanos}
use Rattle.std.specs.List.{fold}
use Rattle.node_core.specs.Desks.{longest_wait, waited}
use Rattle.node_core.proofs.desk_watch.longest_wait.Given as goal

-- the longest so far, with those that are left, is the longest of all
abbrev pub invariant-loop-since : goal.invariant-loop-since
invariant-loop-since l = fold (λ time since. max time (waited l.now since)) (as_nanos l.longest) (drop l.since-index l.all) ≡ longest_wait l.now l.all
