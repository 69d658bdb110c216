use Rattle.std.proofs.Common.{arith}
use Rattle.state_journal.proofs.EmptyTables.{both_made}
use Rattle.state_journal.proofs.schema.create_tables.Goals as goal

pub returns-clause-made : goal.returns-clause-made
returns-clause-made g c clean making =
    both_made _ _ _ c.create_lra.result (c.in_ok-create_front.ensures.made (omega (arith, c.create_lra.ensures.survives.clean, clean)) making) (c.create_lra.ensures.made clean)
