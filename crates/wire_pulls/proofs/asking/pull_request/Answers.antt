use Rattle.wire_pulls.proofs.Requested.{requested}
use Rattle.wire_pulls.proofs.asking.pull_request.Goals as goal

pub returns : goal.returns
returns c = requested c.args.query.now c.args.front.now c.parts_of.result c.parts_of.ensures
