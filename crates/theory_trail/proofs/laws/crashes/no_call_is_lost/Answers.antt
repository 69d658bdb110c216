use Rattle.theory_trail.proofs.KeptCalls.{lost_keeps, next_called, servers_keep, world_keeps}
use Rattle.theory_trail.proofs.LastingCalls.{sets_keep}
use Rattle.theory_trail.proofs.laws.crashes.no_call_is_lost.Goals as goal

pub returns : goal.returns
returns c =
    let ends = c.what_is_at_its_end_stays_there.ensures in
    record {
      sets = sets_keep ends.wants ends.stays;
      world = world_keeps ends.wants ends.stays;
      servers = servers_keep ends.wants ends.stays;
      lost = lost_keeps ends.wants ends.stays;
      waits = next_called c.nothing_is_stuck.ensures.set;
    }
