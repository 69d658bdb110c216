use Rattle.std.proofs.Common.{◌∙◌, arith}
use Rattle.state_journal.proofs.EmptyTables.{rows_put}
use Rattle.state_journal.proofs.schema.put_rows.Goals as goal

pub returns-clause-put : goal.returns-clause-put
returns-clause-put g c clean writing =
    rows_put _ _ _ c.args.me c.args.nodes _ _ c.put_fronts.result (omega (arith, c.number.ensures.range)) (c.from.ensures ∙ c.number.ensures.value) c.zero-none.ensures
    (c.in_ok-put_front.ensures.ok (omega (arith, c.put_fronts.ensures.survives.clean, clean)) writing) (c.put_fronts.ensures.ok clean)
