use Rattle.std.proofs.Common.{rules, []}
use Rattle.wire_frames.specs.Reading.{read_records_at}
use Rattle.wire_frames.proofs.frame_fields.records_of.Goals as goal

pub returns-in_err-count : goal.returns-in_err-count
unfolding read_records_at
returns-in_err-count g c = ([], search rules, search rules)

pub returns-then-not-count-nodes : goal.returns-then-not-count-nodes
unfolding read_records_at
returns-then-not-count-nodes g c = ([], search rules, search rules)
