use Rattle.std.proofs.Common.{sym, ◌∙◌, arith}
use Rattle.std.proofs.lemmas.Result.{err_from_is_err_and}
use Rattle.wire_http.proofs.Questions.{exit_head, exit_fields, exit_body, exit_memory, exit_taken}
use Rattle.wire_http.proofs.Calling.{well_then}
use Rattle.wire_http.proofs.request.read_request.Goals as goal

pub returns-in_err-head-clause-fault : goal.returns-in_err-head-clause-fault
returns-in_err-head-clause-fault g c =
    let p = err_from_is_err_and c.from_residual.result c.from_residual.ensures.1 in
    rw (p.1, p.2) (exit_head _ _ _ _ c.in_err-head.ensures.fault)

pub parts_of-spans-requires : goal.parts_of-spans-requires
parts_of-spans-requires g c =
    let read = c.in_ok-head.ensures.head.1 in
    let k = read.head.0 in (
      read.lines,
      (k, read.head.1, c.deref.ensures.value ∙ read.head.2, read.head.3),
      let few = read.few in let same = c.read_head.auto.headers in omega (arith, few, same),
    )

pub returns-in_err-size-clause-fault : goal.returns-in_err-size-clause-fault
returns-in_err-size-clause-fault g c =
    let p = err_from_is_err_and c.from_residual-in_err-size.result c.from_residual-in_err-size.ensures.1 in
    rw (p.1, p.2) (
    exit_fields _ _ _ _ _ _ c.parts_of-spans.result _ c.in_ok-head.ensures.head c.deref.ensures.value c.parts_of-spans.ensures
    (sym (rw c.deref-2.ensures.value at c.in_err-size.ensures.length)))

pub returns-in_err-body-clause-fault : goal.returns-in_err-body-clause-fault
returns-in_err-body-clause-fault g c =
    let p = err_from_is_err_and c.from_residual-in_err-body.result c.from_residual-in_err-body.ensures.1 in
    rw (p.1, p.2) (
    exit_body _ _ _ _ _ _ _ c.parts_of-spans.result c.in_ok-size.size _ c.in_ok-head.ensures.head c.deref.ensures.value c.parts_of-spans.ensures
    (sym (rw c.deref-2.ensures.value at c.in_ok-size.ensures.length)) c.in_ok-size.ensures.bound c.in_err-body.ensures.fault)

pub returns-clause-message : goal.returns-clause-message
returns-clause-message g c =
    exit_taken _ _ _ _ _ _ _ c.parts_of-spans.result c.in_ok-size.size _ _ c.in_ok-head.ensures.head c.deref.ensures.value c.parts_of-spans.ensures
    (sym (rw c.deref-2.ensures.value at c.in_ok-size.ensures.length)) c.new.ensures c.in_ok-body.ensures.ok.0 c.in_ok-body.ensures.ok.1
    (c.in_ok-method.ensures.ok ∙ (rw c.deref-3.ensures.value at c.of.ensures))
    (c.in_ok-target.ensures.ok ∙ (rw c.deref-4.ensures.value at c.of-2.ensures)) (rw c.deref-5.ensures.value at c.in_ok-fields.ensures.ok)

pub returns-in_err-target-clause-fault : goal.returns-in_err-target-clause-fault
returns-in_err-target-clause-fault g c =
    let p = err_from_is_err_and c.from_residual-in_err-target.result c.from_residual-in_err-target.ensures.1 in
    rw (p.1, p.2) (exit_memory _ _ _ _ _ _ _ _ c.in_ok-head.ensures.head c.in_ok-size.ensures.bound c.in_ok-body.ensures.ok c.in_err-target.ensures.memory)

pub returns-in_err-fields-clause-fault : goal.returns-in_err-fields-clause-fault
returns-in_err-fields-clause-fault g c =
    let p = err_from_is_err_and c.from_residual-in_err-fields.result c.from_residual-in_err-fields.ensures.1 in
    rw (p.1, p.2) (exit_memory _ _ _ _ _ _ _ _ c.in_ok-head.ensures.head c.in_ok-size.ensures.bound c.in_ok-body.ensures.ok c.in_err-fields.ensures.memory)

pub returns-clause-streams : goal.returns-clause-streams
returns-clause-streams g c =
    well_then _ _ _ _ _ _ _ _ (omega (arith, c.in_ok-size.ensures.bound)) c.in_ok-head.ensures.counted c.in_ok-head.ensures.streams c.in_ok-body.ensures.streams
