use Rattle.theory_history.proofs.RanksRise.{rank_more}
use Rattle.theory_history.proofs.laws.rising.statuses_only_rise.Goals as goal

pub returns : goal.returns
returns c = λ h v w l lawful before after below covered.
    rank_more h v w (record { lawful = lawful; before = before; after = after; below = below }) l covered
