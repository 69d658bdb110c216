use Rattle.std.proofs.Common.{◌≡◌, ◌++◌, codes, string_bytes, subst}
use Rattle.std.specs.Prelude.{IfOk}
use Rattle.state_ids.specs.Ids.{text_of}
use Rattle.wire_narayana.specs.Naming.{Names}
use Rattle.wire_narayana.proofs.OwnIds.{if_written, names_own}
use Rattle.wire_narayana.proofs.ids.url_of.Goals as goal

pub returns-clause-value : goal.returns-clause-value
returns-clause-value c = subst (λ x. IfOk c.format.result (λ t. string_bytes t ≡ c.args.base.now ++ (codes "/lra-coordinator/" ++ x))) c.in_ok-id.ensures.value c.format.ensures.ok

pub returns-clause-read : goal.returns-clause-read
returns-clause-read c = λ clean.
    if_written string_bytes (c.args.base.now ++ (codes "/lra-coordinator/" ++ text_of c.args.id)) (λ t. Names t c.args.id) c.format.result
    (subst (λ x. IfOk c.format.result (λ t. string_bytes t ≡ c.args.base.now ++ (codes "/lra-coordinator/" ++ x))) c.in_ok-id.ensures.value c.format.ensures.ok)
    (names_own c.args.base.now c.args.id c.in_ok-id.ensures.read.0 c.in_ok-id.ensures.read.1 clean)
