use Rattle.sim_env.proofs.model.Model.+is_free.Given as goal

abbrev pub decreases-is_free : goal.decreases-is_free
decreases-is_free l = l.levels
