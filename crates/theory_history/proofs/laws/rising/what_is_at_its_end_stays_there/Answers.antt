use Rattle.theory_history.proofs.EndsStay.{end_stays, end_wants}
use Rattle.theory_history.proofs.laws.rising.what_is_at_its_end_stays_there.Goals as goal

pub returns-clause-wants : goal.returns-clause-wants
returns-clause-wants c = λ h v w l lawful before after below end.
    end_wants h v w (record { lawful = lawful; before = before; after = after; below = below }) l end

pub returns-clause-stays : goal.returns-clause-stays
returns-clause-stays c = λ h v w l lawful before after below end.
    end_stays h v w (record { lawful = lawful; before = before; after = after; below = below }) l end
