use Rattle.std.proofs.Common.{sym, subst}
use Rattle.std.specs.Prelude.{IfOk}
use Rattle.script_world.specs.declared.event.Event.{Event}
use Rattle.script_world.specs.Machines.{Happens}
use Rattle.script_world.proofs.world.World.happen.Goals as goal

pub returns-in-Act-clause-step : goal.returns-in-Act-clause-step
returns-in-Act-clause-step c s w =
    subst (λ (e : Event). IfOk c.act.result (λ reply. Happens s e reply c.act.new.self)) (sym c.in-Act.is) (c.act.ensures.step s w)

pub returns-in-Tick-clause-step : goal.returns-in-Tick-clause-step
returns-in-Tick-clause-step c s w =
    subst (λ (e : Event). IfOk c.tick.result (λ reply. Happens s e reply c.tick.new.self)) (sym c.in-Tick.is) (c.tick.ensures.step s w)
