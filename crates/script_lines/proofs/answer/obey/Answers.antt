use Rattle.std.proofs.Common.{refl}
use Rattle.std.proofs.lemmas.Result.{IfOk-weaker}
use Rattle.script_world.specs.Worlds.{front_of, set_of}
use Rattle.std.specs.Prelude.{string_bytes}
use Rattle.script_lines.proofs.Steps.{same_told}
use Rattle.script_lines.proofs.answer.obey.Goals as goal

pub returns-in-Tick-clause-ok : goal.returns-in-Tick-clause-ok
returns-in-Tick-clause-ok c s w = rw c.in-Tick.is (c.happen-in-Tick.ensures.ok s w)

pub returns-in-Deliver-clause-ok : goal.returns-in-Deliver-clause-ok
returns-in-Deliver-clause-ok c s w = rw c.in-Deliver.is (c.deliver.ensures.ok s w)

pub returns-in-Show-clause-ok : goal.returns-in-Show-clause-ok
returns-in-Show-clause-ok c s w =
    rw c.in-Show.is (IfOk-weaker c.show.result _ _ (λ text is. (s, (is, refl), w)) (c.show.ensures s w))

pub returns-in-Member-clause-ok : goal.returns-in-Member-clause-ok
returns-in-Member-clause-ok c s w =
    rw c.in-Member.is (IfOk-weaker c.show_member.result _ _ (λ text is. (s, (is, refl), w)) (c.show_member.ensures s w))

pub returns-in-Duties-clause-ok : goal.returns-in-Duties-clause-ok
returns-in-Duties-clause-ok c s w =
    let node = c.in-Duties.node in
    rw c.in-Duties.is
    (IfOk-weaker c.show_duties.result _ _ (λ text h. (s, (h.0, h.1, h.2, refl), w)) (c.show_duties.ensures (set_of s node) (front_of s node) (c.replica_at.ensures.holds s w)))

pub returns-in-Same-clause-ok : goal.returns-in-Same-clause-ok
returns-in-Same-clause-ok c s w =
    let node = c.in-Same.node in
    let other = c.in-Same.other in
    rw c.in-Same.is
    (IfOk-weaker c.show_same.result _ _
    (λ text told. (s, (same_told s node other c.replica_at-in-Same.result.now c.replica_at-in-Same-2.result.now (string_bytes text) (c.replica_at-in-Same.ensures.holds s w) (c.replica_at-in-Same-2.ensures.holds s w) told, refl), w))
    c.show_same.ensures)
