use Rattle.std.proofs.Common.{rules}
use Rattle.script_lines.proofs.calls.act_of_status.Goals as goal

pub returns : goal.returns
returns c S front h =
    let shown = c.in_ok-member.ensures.settled S h.settled h.stands in
    let counts = h.counts in
    let demanded = c.act_demanded.ensures S front h in
    search rules
