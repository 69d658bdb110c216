use Rattle.theory_trail.proofs.PurgedCalls.{servers_done}
use Rattle.theory_trail.proofs.laws.crashes.a_purge_loses_no_call.Goals as goal

pub returns : goal.returns
returns c =
    let ends = c.what_is_at_its_end_stays_there.ensures in
    servers_done c.a_tree_goes_on_until_it_is_purged.ensures.ended ends.wants ends.stays
