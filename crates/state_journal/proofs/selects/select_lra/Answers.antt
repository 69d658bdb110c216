use Rattle.sqlite.specs.Held.{state}
use Rattle.state_journal.proofs.Listed.{lra_listed, lra_same}
use Rattle.state_journal.proofs.KeptByQueries.{kept_by}
use Rattle.state_journal.proofs.QueryRefusals.{if_err, lra_refused}
use Rattle.state_journal.proofs.RowLoop.{if_ok}
use Rattle.state_journal.proofs.selects.select_lra.Goals as goal

pub returns-clause-listed : goal.returns-clause-listed
returns-clause-listed g c clean has =
    if_ok c.query_all.result _ _ (λ rows shown. lra_listed (state g.S.Store c.args.tx.now.conn.now) (state g.S.Store c.query_all.new.self.conn.now) rows.items has shown) (c.query_all.ensures.ok clean)

pub returns-clause-same : goal.returns-clause-same
returns-clause-same g c clean has =
    if_ok c.query_all.result _ _ (λ rows shown. lra_same (state g.S.Store c.args.tx.now.conn.now) (state g.S.Store c.query_all.new.self.conn.now) rows.items has shown) (c.query_all.ensures.ok clean)

pub returns-clause-kept : goal.returns-clause-kept
returns-clause-kept g c clean inside =
    kept_by (λ rows. rows.items) _ _ (state g.S.Store c.args.tx.now.conn.now) (state g.S.Store c.query_all.new.self.conn.now) c.query_all.result inside (c.query_all.ensures.ok clean) (c.query_all.ensures.err clean)

pub returns-clause-refused : goal.returns-clause-refused
returns-clause-refused g c clean on has free =
    if_err c.query_all.result _ _ (λ e failed. lra_refused (state g.S.Store c.args.tx.now.conn.now) (state g.S.Store c.query_all.new.self.conn.now) e on has free failed) (c.query_all.ensures.err clean)
