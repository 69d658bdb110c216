use Rattle.theory_trail.proofs.KilledOpenings.{found_same, found_still}
use Rattle.theory_trail.proofs.StopsInACall.{openings_after, openings_before}
use Rattle.theory_trail.proofs.laws.upgrades.an_upgrade_may_be_killed.Goals as goal

pub returns : goal.returns
returns g c =
    let rows = c.rows_stand_for_one_view.ensures in
    record {
      stands = λ me nodes before after openings view. found_still rows.view rows.version rows.rewritten g.S.Store g.met.S.Store.settled me nodes before after openings view;
      found = λ me nodes before after openings view next. found_same rows.view rows.version rows.rewritten g.S.Store g.met.S.Store.settled me nodes before after openings view next;
      before = openings_before g.S.Store g.met.S.Store.stays;
      after = openings_after g.S.Store g.met.S.Store.stays;
    }
