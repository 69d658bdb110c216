use Rattle.std.proofs.Common.{arith}
use Rattle.wire_frames.proofs.Found.{is_found_alone, is_only_alone}
use Rattle.wire_frames.proofs.one_record.decode_record_with.Goals as goal

pub returns-clause-found : goal.returns-clause-found
returns-clause-found c = is_found_alone c.args.version c.args.front.now c.args.bytes.now c.record_in_slice.result (λ i. omega (arith, c.type_inv.bytes i)) c.record_in_slice.ensures

pub returns-clause-only : goal.returns-clause-only
returns-clause-only c = λ kept f e. is_only_alone c.args.version c.args.front.now c.args.bytes.now c.record_in_slice.result c.record_in_slice.ensures kept f e
