use Rattle.sim_env.proofs.model.Model.+add_tree.Given as goal

abbrev pub decreases-add_tree : goal.decreases-add_tree
decreases-add_tree l = l.levels
