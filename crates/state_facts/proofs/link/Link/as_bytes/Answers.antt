use Rattle.std.proofs.Common.{subst}
use Rattle.std.specs.Str.{IsUtf8}
use Rattle.state_facts.proofs.KeptBytes.{kept_is}
use Rattle.state_facts.proofs.link.Link.as_bytes.Goals as goal

pub returns-clause-kept : goal.returns-clause-kept
returns-clause-kept c = kept_is c.args.self.now (subst IsUtf8 c.as_str.ensures.text c.as_str.utf8) c.as_str.ensures.kept
