use Rattle.theory_trail.proofs.StoppedBooks.{stop_lost, typed_ruled}
use Rattle.theory_trail.proofs.StopsInACall.{started_after, started_before}
use Rattle.theory_trail.proofs.laws.crashes.a_stop_in_a_call_is_a_lost_call.Goals as goal

pub returns : goal.returns
returns g c =
    let behind = c.a_start_finds_the_records_before_or_after.ensures in
    let rules = c.what_a_node_holds_keeps_the_rules.ensures in
    record {
      lost = λ s old asked now frame left db found served is ruled started sent. stop_lost s old asked now frame found served (behind old asked now left db found is ruled started) sent;
      ruled = typed_ruled rules.held rules.next;
      before = started_before g.S.Store g.met.S.Store.stays;
      after = started_after g.S.Store g.met.S.Store.stays;
    }
