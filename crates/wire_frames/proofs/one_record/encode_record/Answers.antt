use Rattle.wire_frames.proofs.Alone.{is_record_under}
use Rattle.wire_frames.proofs.one_record.encode_record.Goals as goal

pub returns-clause-rules : goal.returns-clause-rules
returns-clause-rules c front fits = is_record_under front c.args.kept.now c.put_record.ensures.typed fits
