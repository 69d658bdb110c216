use Rattle.std.proofs.Common.{true≢false, sym}
use Rattle.state_ids.specs.Ids.{layout}
use Rattle.state_ids.proofs.Layouts.{read_as}
use Rattle.state_ids.proofs.lra.LraId.from_ascii.Goals as goal

pub returns-in_default-clause-refused : goal.returns-in_default-clause-refused
returns-in_default-clause-refused c = λ id valid reads. absurd (true≢false (sym (c.in_default.ensures.ok.1 (layout id, reads.bytes))))

pub returns-clause-found : goal.returns-clause-found
returns-clause-found c = read_as c.args.text.now c.in-Ok.uuid c.into_bytes.result c.from_bytes.result c.in-Ok.ensures.bytes c.into_bytes.ensures (c.is_prefix_lower.ensures.0 c.if-not-is_prefix_lower.false) c.from_bytes.ensures.found
