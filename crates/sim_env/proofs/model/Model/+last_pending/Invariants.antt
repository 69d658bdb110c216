use Rattle.sim_env.proofs.model.Model.+last_pending.Given as goal

abbrev pub decreases-last_pending : goal.decreases-last_pending
decreases-last_pending l = l.levels
