use Rattle.std.proofs.Common.{◌≡◌, List, [], ◌∷◌, ◌+◌, drop, sym, subst, arith}
use Rattle.std.proofs.lemmas.List.{drop_all}
use Rattle.state_facts.proofs.Chains.{drop_at}
use Rattle.script_world.specs.declared.event.Event.{Event}
use Rattle.script_world.specs.declared.event.EventReply.{EventReply}
use Rattle.script_world.specs.Machines.{StopsIn}
use Rattle.script_world.proofs.Happening.{IsRunning, running_ends, running_more, running_none, running_still, running_stops}
use Rattle.script_world.proofs.world.World.run.Goals as goal

pub loop-event-init : goal.loop-event-init
loop-event-init c s w =
    subst (λ (replies : List EventReply). IsRunning s c.args.events.now c.args.events.now replies c.args.self.now) (sym c.new-replies.ensures.items) (running_none s c.args.events.now c.args.self.now w)

pub loop-event-preserved : goal.loop-event-preserved
loop-event-preserved c s w =
    let all = c.args.events.now in
    let i = c.loop-event.event-index in
    let event = c.event-item.result in
    let r = subst (λ (left : List Event). IsRunning s all left c.loop-event.replies.items c.loop-event.self) (drop_at all i event c.loop-event-test.true c.event-item.is) (c.loop-event.invariant s w) in
    let h = c.in-Ok.ensures.ok r.state r.stands in
    subst (λ (replies : List EventReply). IsRunning s all (drop (i + 1) all) replies c.step_on.new.self) (sym h.2)
    (running_more s all (drop (i + 1) all) event c.loop-event.replies.items h.0 c.loop-event.self c.step_on.new.self r h.1)

pub returns-clause-headline : goal.returns-clause-headline
returns-clause-headline c s w =
    let none : drop c.loop-event.event-index c.args.events.now ≡ [] = drop_all c.loop-event.event-index c.args.events.now (omega (arith, c.loop-event-test.false)) in
    running_ends s c.args.events.now (drop c.loop-event.event-index c.args.events.now) c.loop-event.replies.items c.loop-event.self w.world (c.loop-event.invariant s w) none

pub returns-in_default-clause-err : goal.returns-in_default-clause-err
returns-in_default-clause-err c s w =
    let all = c.args.events.now in
    let i = c.loop-event.event-index in
    let event = c.event-item.result in
    let r = subst (λ (left : List Event). IsRunning s all left c.loop-event.replies.items c.loop-event.self) (drop_at all i event c.loop-event-test.true c.event-item.is) (c.loop-event.invariant s w) in
    let still = c.in_default.ensures.err r.state r.stands in
    subst (λ (replies : List EventReply). StopsIn s all replies c.step_on.new.self) (sym still.1)
    (running_stops s all (drop (i + 1) all) event c.loop-event.replies.items c.step_on.new.self w.world
    (running_still s all (event ∷ drop (i + 1) all) c.loop-event.replies.items c.loop-event.self c.step_on.new.self r still.0))
