use Rattle.wire_frames.proofs.HomeParts.{beyond_is}
use Rattle.wire_frames.proofs.record_fields.is_beyond.Goals as goal

pub returns : goal.returns
returns c = beyond_is c.args.base.now c.args.counts.now c.below.result c.below.ensures
