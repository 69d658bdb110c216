use Rattle.theory_trail.proofs.CallRoundsExist.{call_round}
use Rattle.theory_trail.proofs.laws.rounds.a_round_of_calls_can_be_made.Goals as goal

pub returns : goal.returns
returns c =
    let ends = c.what_is_at_its_end_stays_there.ensures in
    call_round ends.wants ends.stays c.a_tree_goes_on_until_it_is_purged.ensures.ended c.what_is_under_way_can_be_ended.ensures.ends
