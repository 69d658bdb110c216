use Rattle.node_schedule.proofs.Between.{begun_pass}
use Rattle.node_schedule.proofs.laws.between_two_lists_only_what_the_first_names_is_called.Goals as goal

pub returns : goal.returns
returns c = begun_pass
