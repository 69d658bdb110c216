use Rattle.node_schedule.proofs.Waiting.{ended_leaves, forgotten_leaves, noted_leaves, put_leaves, recalled_leaves, taken_leaves}
use Rattle.node_schedule.proofs.laws.one_caller_is_left_to_quick_hosts.Goals as goal

pub returns-clause-taken : goal.returns-clause-taken
returns-clause-taken c = taken_leaves

pub returns-clause-ended : goal.returns-clause-ended
returns-clause-ended c = ended_leaves

pub returns-clause-put : goal.returns-clause-put
returns-clause-put c = put_leaves

pub returns-clause-noted : goal.returns-clause-noted
returns-clause-noted c = noted_leaves

pub returns-clause-recalled : goal.returns-clause-recalled
returns-clause-recalled c = recalled_leaves

pub returns-clause-forgotten : goal.returns-clause-forgotten
returns-clause-forgotten c = forgotten_leaves
