use Rattle.theory_trail.proofs.LastingCompensations.{lost_compensations, servers_compensations, servers_each}
use Rattle.theory_trail.proofs.laws.crashes.no_crash_loses_a_compensation.Goals as goal

pub returns : goal.returns
returns c =
    let stuck = c.nothing_is_stuck.ensures.set in
    let ends = c.what_is_at_its_end_stays_there.ensures in
    record {
      each = servers_each stuck;
      lost = lost_compensations stuck ends.wants ends.stays;
      servers = servers_compensations stuck ends.wants ends.stays;
    }
