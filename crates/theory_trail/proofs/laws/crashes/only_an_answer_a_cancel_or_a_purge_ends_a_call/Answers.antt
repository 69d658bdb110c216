use Rattle.theory_trail.proofs.LostCommands.{command_ends, servers_end, sets_end}
use Rattle.theory_trail.proofs.laws.crashes.only_an_answer_a_cancel_or_a_purge_ends_a_call.Goals as goal

pub returns : goal.returns
returns c =
    let ends = c.what_is_at_its_end_stays_there.ensures in
    record { sets = sets_end ends.wants ends.stays; servers = servers_end ends.wants ends.stays; lost = command_ends ends.wants ends.stays }
