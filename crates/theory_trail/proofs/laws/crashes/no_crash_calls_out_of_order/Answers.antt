use Rattle.theory_trail.proofs.SagasOfServers.{servers_ended, servers_ordered}
use Rattle.theory_trail.proofs.laws.crashes.no_crash_calls_out_of_order.Goals as goal

pub returns : goal.returns
returns c =
    let order = c.a_saga_goes_backwards.ensures in
    record {
      ended = λ s t views ends happened node call d n trails is there to behind. servers_ended s t views ends happened node call trails is there to d n behind order.shown;
      listed = λ s t views ends happened node call next trails is there to behind later asks. servers_ordered s t views ends happened node call trails is there to next behind later asks order.asked;
    }
