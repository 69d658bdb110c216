use Rattle.std.proofs.Common.{◌≡◌, ◌++◌, codes, string_bytes, subst}
use Rattle.std.specs.Prelude.{IfOk}
use Rattle.std.specs.Fmt.{decimal}
use Rattle.wire_narayana.proofs.ids.recovery_of.Goals as goal

pub returns : goal.returns
returns c = subst (λ x. IfOk c.format.result (λ t. string_bytes t ≡ c.args.base.now ++ (codes "/lra-coordinator/recovery/" ++ (x ++ (codes "/" ++ decimal c.args.member))))) c.in_ok-id.ensures.value c.format.ensures.ok
