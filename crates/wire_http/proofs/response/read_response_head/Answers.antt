use Rattle.std.proofs.Common.{sym, ◌∙◌, refl, length}
use Rattle.std.proofs.lemmas.Result.{err_from_is_err_and}
use Rattle.wire_http.proofs.Messages.{exit_bad_fields, exit_head, exit_no_head}
use Rattle.wire_http.proofs.response.read_response_head.Goals as goal

pub returns-in_err-head-clause-fault : goal.returns-in_err-head-clause-fault
returns-in_err-head-clause-fault g c =
    let p = err_from_is_err_and c.from_residual.result c.from_residual.ensures.1 in
    rw (p.1, p.2) (exit_no_head _ _ _ _ c.in_err-head.ensures.fault c.in_err-head.ensures.unread c.in_err-head.ensures.memory)

pub parts_of-spans-requires : goal.parts_of-spans-requires
parts_of-spans-requires g c =
    let final = c.in_ok-head.ensures.head.2 in
    (length final.head.fields, (final.head, final.valid, c.deref.ensures.value ∙ final.whole, refl), final.few)

pub returns-in_err-size-clause-fault : goal.returns-in_err-size-clause-fault
returns-in_err-size-clause-fault g c =
    let p = err_from_is_err_and c.from_residual-in_err-size.result c.from_residual-in_err-size.ensures.1 in
    rw (p.1, p.2) (
    exit_bad_fields _ _ _ _ _ _ c.parts_of-spans.result _ c.in_ok-head.ensures.head c.deref.ensures.value c.parts_of-spans.ensures
    (sym (rw c.deref-2.ensures.value at c.in_err-size.ensures.length)))

pub returns-clause-head : goal.returns-clause-head
returns-clause-head g c =
    exit_head _ _ _ _ _ _ c.parts_of-spans.result c.in_ok-size.size _ c.in_ok-head.ensures.head c.deref.ensures.value c.parts_of-spans.ensures
    (sym (rw c.deref-2.ensures.value at c.in_ok-size.ensures.length)) c.status_of.ensures
