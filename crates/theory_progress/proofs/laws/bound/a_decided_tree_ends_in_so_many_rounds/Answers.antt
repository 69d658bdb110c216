use Rattle.theory_progress.proofs.CallRoundsEnd.{few_at, root_ends, root_falls}
use Rattle.theory_progress.proofs.laws.bound.a_decided_tree_ends_in_so_many_rounds.Goals as goal

pub returns : goal.returns
returns c = record { ends = root_ends; falls = root_falls; few = few_at }
