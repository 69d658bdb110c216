use Rattle.sqlite.specs.Held.{state}
use Rattle.state_journal.proofs.Stored.{keeps, stops, stored, survived}
use Rattle.state_journal.proofs.store.write_patch.Goals as goal

pub returns-clause-stands : goal.returns-clause-stands
returns-clause-stands g c me view clean was stands fits =
    let old = state g.S.Store c.args.connection.now in
    let new = state g.S.Store c.write.new.connection in
    stored me view c.args.patch.now old new c.write.result stands fits (c.write.ensures.ok clean was)

pub returns-clause-crash : goal.returns-clause-crash
returns-clause-crash g c =
    let old = state g.S.Store c.args.connection.now in
    let new = state g.S.Store c.write.new.connection in
    survived c.args.patch.now old new c.write.ensures.crash

pub returns-clause-keeps : goal.returns-clause-keeps
returns-clause-keeps g c me view held =
    let old = state g.S.Store c.args.connection.now in
    let new = state g.S.Store c.write.new.connection in
    keeps me view c.args.patch.now old new c.write.result c.write.ensures.crash c.write.ensures.was_open c.write.ensures.ok c.write.ensures.kept held

pub returns-clause-stops : goal.returns-clause-stops
returns-clause-stops g c me view clean was stands fits db may =
    stops me view c.args.patch.now (state g.S.Store c.args.connection.now).now.trees db stands fits (c.write.ensures.left clean was db may)
