use Rattle.state_replica.specs.Replicas.{view_of}
use Rattle.wire_callbacks.proofs.Unheld.{no_act_wanted}
use Rattle.wire_callbacks.proofs.duty.act_at.Goals as goal

pub returns-in-Err : goal.returns-in-Err
returns-in-Err c = no_act_wanted (view_of c.args.replica.now) c.args.id c.in-Err.field-0 c.in-Err.ensures.says
