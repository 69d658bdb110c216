use Rattle.std.proofs.Common.{sym}
use Rattle.wire_api.proofs.Ids.{id_of_text, no_id}
use Rattle.wire_api.proofs.names.id_of.Goals as goal

pub returns-in-Ok : goal.returns-in-Ok
returns-in-Ok c = sym (id_of_text c.args.text.now c.in-Ok.id c.in-Ok.ensures.found.0 c.in-Ok.ensures.found.1)

pub returns-in-Err : goal.returns-in-Err
returns-in-Err c = sym (no_id c.args.text.now c.in-Err.ensures.refused)
