use Rattle.std.proofs.Common.{◌∙◌}
use Rattle.sqlite.specs.Held.{state}
use Rattle.state_journal.specs.NewStores.{HasNoRows}
use Rattle.state_journal.proofs.CreateSteps.{lra_made_new}
use Rattle.state_journal.proofs.EmptyTables.{no_rows_formed}
use Rattle.state_journal.proofs.schema.create_lra.Goals as goal

pub returns-clause-made : goal.returns-clause-made
returns-clause-made g c clean half =
    let old = state g.S.Store c.args.tx.now.conn.now in
    let new = state g.S.Store c.execute.new.self.conn.now in
    let ran = c.in_ok-execute.ensures.runs clean half.inside in
    let made = lra_made_new old new c.in_ok-execute.field-0 half.schema ran.0 in
    let none : HasNoRows new.now.trees = (made.2 ∙ half.empty, made.1) in
    record { shows = ran.1; writing = record { is_open = ran.1.is_open; inside = ran.1.mode; schema = made.0; formed = no_rows_formed _ none }; change = none }
