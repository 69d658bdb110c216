use Rattle.std.proofs.Common.{[], sym, ◌∙◌, arith, rules, ◌≤◌, ◌<◌, length}
use Rattle.std.proofs.lemmas.Grind.{common_steps}
use Rattle.std.proofs.lemmas.Result.{err_from_is_err_and}
use Rattle.wire_http.proofs.Calling.{well_none, well_then}
use Rattle.wire_http.proofs.Interims.{reaches_none}
use Rattle.wire_http.proofs.Known.{gives_none}
use Rattle.wire_http.proofs.Finals.{head_lost, head_unread, read_here, refused_here, is_switched, not_switched, some_read, reaches_more, final_is, switch_refused}
use Rattle.wire_http.proofs.response.read_final_head.Goals as goal

pub returns-in_err-head-clause-fault : goal.returns-in_err-head-clause-fault
returns-in_err-head-clause-fault g c =
    let p = err_from_is_err_and c.from_residual.result c.from_residual.ensures.1 in
    rw (p.1, p.2) (
    refused_here _ _ _ _ _ c.loop-head.headers _ c.loop-head.invariant.reached c.loop-head.invariant.lines c.loop-head.invariant.room c.in_err-head.ensures.fault)

pub returns-in_err-head-clause-unread : goal.returns-in_err-head-clause-unread
returns-in_err-head-clause-unread g c =
    let p = err_from_is_err_and c.from_residual.result c.from_residual.ensures.1 in
    rw (p.1, p.2) (λ lost. head_unread _ _ _ _ c.loop-head.invariant.reached (c.in_err-head.ensures.unread lost))

pub returns-in_err-head-clause-memory : goal.returns-in_err-head-clause-memory
returns-in_err-head-clause-memory g c =
    let p = err_from_is_err_and c.from_residual.result c.from_residual.ensures.1 in
    rw (p.1, p.2) (λ memory. head_lost _ _ _ _ c.loop-head.invariant.reached (c.in_err-head.ensures.memory memory))

pub returns-then-spans-eq101-clause-fault : goal.returns-then-spans-eq101-clause-fault
returns-then-spans-eq101-clause-fault g c =
    let read = read_here _ _ c.loop-head.headers _ _ _ _ c.loop-head.invariant.lines c.loop-head.invariant.room c.in_ok-head.ensures.head.1 c.deref.ensures.value c.parts_of-spans.ensures in
    switch_refused _ _ _ _ _ _ _ c.loop-head.invariant.reached c.in_ok-head.ensures.head.0 read (is_switched _ c.if-spans-eq101.true)

pub returns-then-not-is_interim_code-clause-head : goal.returns-then-not-is_interim_code-clause-head
returns-then-not-is_interim_code-clause-head g c =
    let read = read_here _ _ c.loop-head.headers _ _ _ _ c.loop-head.invariant.lines c.loop-head.invariant.room c.in_ok-head.ensures.head.1 c.deref.ensures.value c.parts_of-spans.ensures in
    final_is _ _ _ _ _ _ _ c.loop-head.invariant.reached c.in_ok-head.ensures.head.0 read (sym c.is_interim_code.ensures ∙ c.if-not-is_interim_code.true) c.loop-head.invariant.lines

pub overflow_sub-lines : goal.overflow_sub-lines
overflow_sub-lines g c =
    let read = read_here _ _ c.loop-head.headers _ _ _ _ c.loop-head.invariant.lines c.loop-head.invariant.room c.in_ok-head.ensures.head.1 c.deref.ensures.value c.parts_of-spans.ensures in
    read.few

pub loop-head-smaller : goal.loop-head-smaller
loop-head-smaller g c =
    let read = read_here _ _ c.loop-head.headers _ _ _ _ c.loop-head.invariant.lines c.loop-head.invariant.room c.in_ok-head.ensures.head.1 c.deref.ensures.value c.parts_of-spans.ensures in
    let some : 0 < length c.in_ok-head.head.items = some_read _ _ _ _ read in
    let short : length c.in_ok-head.head.items ≤ c.loop-head.most = read.short in
    grind (arith, common_steps)

pub loop-head-preserved : goal.loop-head-preserved
loop-head-preserved g c =
    let read = read_here _ _ c.loop-head.headers _ _ _ _ c.loop-head.invariant.lines c.loop-head.invariant.room c.in_ok-head.ensures.head.1 c.deref.ensures.value c.parts_of-spans.ensures in
    let short : length c.in_ok-head.head.items ≤ c.loop-head.most = read.short in
    let few : c.parts_of-spans.result.headers ≤ c.loop-head.lines = read.few in
    record {
      room = search rules;
      most = grind (arith, common_steps);
      lines = grind (arith, common_steps);
      reached = reaches_more _ _ _ _ _ _ _ _ c.loop-head.invariant.reached c.in_ok-head.ensures.head.0 read (sym c.is_interim_code.ensures ∙ c.if-not-is_interim_code.false)
          (not_switched _ c.if-spans-eq101.false) (grind (arith, common_steps)) (omega (arith, few));
      below = search rules;
      counted = grind (arith, common_steps);
      well = well_then _ _ _ _ _ _ _ _ (omega (arith, short)) c.loop-head.invariant.counted c.loop-head.invariant.well c.in_ok-head.ensures.each;
    }

pub loop-head-init : goal.loop-head-init
loop-head-init g c = record {
  room = search rules;
  most = omega arith;
  lines = omega arith;
  reached = ([], gives_none _, reaches_none);
  below = c.requires.below;
  counted = omega arith;
  well = well_none _ _ c.requires.below;
}
