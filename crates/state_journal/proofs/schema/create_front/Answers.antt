use Rattle.sqlite.specs.Held.{state}
use Rattle.state_journal.proofs.CreateSteps.{front_made_new, front_not_again}
use Rattle.state_journal.proofs.schema.create_front.Goals as goal

pub returns-clause-made : goal.returns-clause-made
returns-clause-made g c clean making =
    let old = state g.S.Store c.args.tx.now.conn.now in
    let new = state g.S.Store c.execute.new.self.conn.now in
    let ran = c.in_ok-execute.ensures.runs clean making.inside in
    let made = front_made_new old new c.in_ok-execute.field-0 making.schema ran.0 in
    (ran.1, record { is_open = ran.1.is_open; inside = ran.1.mode; schema = made.0; empty = made.1 })

pub returns-clause-again : goal.returns-clause-again
returns-clause-again g c clean there =
    let old = state g.S.Store c.args.tx.now.conn.now in
    let new = state g.S.Store c.execute.new.self.conn.now in
    let ran = c.in_ok-execute.ensures.runs clean there.inside in
    front_not_again old new c.in_ok-execute.field-0 there.schema ran.0
