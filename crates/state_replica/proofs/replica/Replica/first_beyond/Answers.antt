use Rattle.std.proofs.Common.{length, arith}
use Rattle.theory_history.specs.Readings.{by_view}
use Rattle.state_replica.specs.Replicas.{view_of}
use Rattle.state_replica.proofs.Paging.{bare_more, first_found, first_none, kept_within}
use Rattle.state_replica.proofs.replica.Replica.first_beyond.Goals as goal

pub returns-in-Some-clause-first : goal.returns-in-Some-clause-first
returns-in-Some-clause-first c =
    first_found (by_view (view_of c.args.self.now)) c.args.home c.loop-place.place c.in-Ok.node c.in-Some.next (omega (arith, c.loop-place.auto.place)) c.in-Ok.ensures.value
    (c.loop-place.invariant) (c.in-Some.ensures)

pub loop-place-preserved : goal.loop-place-preserved
loop-place-preserved c =
    bare_more (by_view (view_of c.args.self.now)) c.args.home c.loop-place.place c.in-Ok.node c.in-Ok.ensures.value (c.loop-place.invariant) (c.in_default-next_at.ensures)

pub returns-clause-first : goal.returns-clause-first
returns-clause-first c =
    first_none (by_view (view_of c.args.self.now)) (length c.args.self.now.front) c.args.home c.loop-place.place (kept_within c.args.self.now c.nodes-place-end.ensures.state)
    (omega (arith, c.nodes-place-end.ensures.count, c.loop-place-test.false)) c.loop-place.invariant
