use Rattle.node_schedule.proofs.Waiting.{by_turn, ended_ahead, forgotten_ahead, longest_ahead, noted_ahead, put_ahead, recalled_ahead, taken_ahead, waits_in_all}
use Rattle.node_schedule.proofs.laws.a_host_waits_for_those_before_it.Goals as goal

pub returns-clause-by_turn : goal.returns-clause-by_turn
returns-clause-by_turn c = by_turn

pub returns-clause-taken : goal.returns-clause-taken
returns-clause-taken c = taken_ahead

pub returns-clause-put : goal.returns-clause-put
returns-clause-put c = put_ahead

pub returns-clause-noted : goal.returns-clause-noted
returns-clause-noted c = noted_ahead

pub returns-clause-ended : goal.returns-clause-ended
returns-clause-ended c = ended_ahead

pub returns-clause-recalled : goal.returns-clause-recalled
returns-clause-recalled c = recalled_ahead

pub returns-clause-forgotten : goal.returns-clause-forgotten
returns-clause-forgotten c = forgotten_ahead

pub returns-clause-longest : goal.returns-clause-longest
returns-clause-longest c = longest_ahead

pub returns-clause-in_all : goal.returns-clause-in_all
returns-clause-in_all c = waits_in_all
