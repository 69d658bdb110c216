use Rattle.sqlite.specs.Held.{state}
use Rattle.state_journal.proofs.CreateSteps.{none_shown}
use Rattle.state_journal.proofs.Listed.{front_listed, front_same, shown_open}
use Rattle.state_journal.proofs.KeptByQueries.{kept_by, shown_inside}
use Rattle.state_journal.proofs.QueryRefusals.{front_refused, if_err, shown_still}
use Rattle.state_journal.proofs.RowLoop.{if_ok}
use Rattle.state_journal.proofs.selects.select_front.Goals as goal

pub returns-clause-listed : goal.returns-clause-listed
returns-clause-listed g c clean has =
    if_ok c.query_all.result _ _ (λ rows shown. front_listed (state g.S.Store c.args.tx.now.conn.now) (state g.S.Store c.query_all.new.self.conn.now) rows.items has shown) (c.query_all.ensures.ok clean)

pub returns-clause-same : goal.returns-clause-same
returns-clause-same g c clean has =
    if_ok c.query_all.result _ _ (λ rows shown. front_same (state g.S.Store c.args.tx.now.conn.now) (state g.S.Store c.query_all.new.self.conn.now) rows.items has shown) (c.query_all.ensures.ok clean)

pub returns-clause-none : goal.returns-clause-none
returns-clause-none g c clean has =
    if_ok c.query_all.result _ _ (λ rows shown. none_shown (state g.S.Store c.args.tx.now.conn.now) (state g.S.Store c.query_all.new.self.conn.now) rows.items has shown) (c.query_all.ensures.ok clean)

pub returns-clause-was_open : goal.returns-clause-was_open
returns-clause-was_open g c clean =
    if_ok c.query_all.result _ _ (λ rows shown. shown_open _ (state g.S.Store c.args.tx.now.conn.now) (state g.S.Store c.query_all.new.self.conn.now) rows.items shown) (c.query_all.ensures.ok clean)

pub returns-clause-kept : goal.returns-clause-kept
returns-clause-kept g c clean inside =
    kept_by (λ rows. rows.items) _ _ (state g.S.Store c.args.tx.now.conn.now) (state g.S.Store c.query_all.new.self.conn.now) c.query_all.result inside (c.query_all.ensures.ok clean) (c.query_all.ensures.err clean)

pub returns-clause-inside : goal.returns-clause-inside
returns-clause-inside g c clean inside =
    if_ok c.query_all.result _ _ (λ rows shown. shown_inside _ _ (state g.S.Store c.args.tx.now.conn.now) (state g.S.Store c.query_all.new.self.conn.now) rows.items inside shown) (c.query_all.ensures.ok clean)

pub returns-clause-still : goal.returns-clause-still
returns-clause-still g c clean has =
    if_ok c.query_all.result _ _ (λ rows shown. shown_still (state g.S.Store c.args.tx.now.conn.now) (state g.S.Store c.query_all.new.self.conn.now) rows.items has shown) (c.query_all.ensures.ok clean)

pub returns-clause-refused : goal.returns-clause-refused
returns-clause-refused g c clean on has free =
    if_err c.query_all.result _ _ (λ e failed. front_refused (state g.S.Store c.args.tx.now.conn.now) (state g.S.Store c.query_all.new.self.conn.now) e on has free failed) (c.query_all.ensures.err clean)
