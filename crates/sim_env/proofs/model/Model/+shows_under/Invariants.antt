use Rattle.sim_env.proofs.model.Model.+shows_under.Given as goal

abbrev pub decreases-shows_under : goal.decreases-shows_under
decreases-shows_under l = l.levels
