use Rattle.std.proofs.Common.{arith}
use Rattle.wire_pulls.proofs.Coded.{is_found, is_only}
use Rattle.wire_pulls.proofs.bodies.front_of_pull.Goals as goal

pub returns-clause-found : goal.returns-clause-found
returns-clause-found c = is_found c.args.nodes c.args.body.now c.front_of_body.result (λ i. omega (arith, c.type_inv.body i)) c.front_of_body.ensures.value

pub returns-clause-only : goal.returns-clause-only
returns-clause-only c = is_only c.args.nodes c.args.body.now c.front_of_body.result c.requires.few c.front_of_body.ensures.value
