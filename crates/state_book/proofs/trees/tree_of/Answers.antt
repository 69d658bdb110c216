use Rattle.state_replica.specs.Replicas.{view_of}
use Rattle.state_book.proofs.TreesOfSets.{refused_active}
use Rattle.state_book.proofs.trees.tree_of.Goals as goal

-- an LRA that is refused isn't held
pub returns-in-Err : goal.returns-in-Err
returns-in-Err c = refused_active (view_of c.args.replica.now) c.args.id c.in-Err.field-0 c.in-Err.ensures
