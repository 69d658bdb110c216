use Rattle.std.proofs.Common.{◌++◌, take}
use Rattle.std.specs.List.{flat_map}
use Rattle.std.specs.Fmt.{decimal, HasWritten, IsPlainFormatter}
use Rattle.state_ids.specs.Fronts.{one_more_count}
use Rattle.state_ids.proofs.front.FrontDisplay.fmt.Given as goal

-- the first count and the counts so far were written
abbrev pub invariant-loop-count : goal.invariant-loop-count
invariant-loop-count g l =
    IsPlainFormatter l.fn.f → HasWritten g.W.Write.write_str_gives l.fn.f (decimal l.first ++ flat_map one_more_count (take l.count-index l.count-items)) l.f
