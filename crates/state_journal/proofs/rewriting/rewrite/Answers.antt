use Rattle.sqlite.specs.Held.{state}
use Rattle.state_journal.proofs.Rewritten.{rewritten_crash, rewritten_ok}
use Rattle.state_replica.specs.Replicas.{view_of}
use Rattle.state_journal.proofs.rewriting.rewrite.Goals as goal

pub returns-clause-stands : goal.returns-clause-stands
returns-clause-stands g c clean was stands =
    let old = state g.S.Store c.args.connection.now in
    let new = state g.S.Store c.write_anew.new.connection in
    rewritten_ok c.args.me old new (view_of c.args.replica.now) c.write_anew.result stands (c.write_anew.ensures.ok clean was)

pub returns-clause-crash : goal.returns-clause-crash
returns-clause-crash g c =
    let old = state g.S.Store c.args.connection.now in
    let new = state g.S.Store c.write_anew.new.connection in
    rewritten_crash c.args.me old new (view_of c.args.replica.now) c.write_anew.ensures.crash_open c.write_anew.ensures.crash
