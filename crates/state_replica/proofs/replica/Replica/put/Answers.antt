use Rattle.std.proofs.Common.{◌∙◌, Some, sym}
use Rattle.state_forest.specs.Forests.{id_of}
use Rattle.state_stamps.specs.Indexes.{with_stamps}
use Rattle.state_stamps.proofs.OneIndex.{by_each}
use Rattle.state_replica.specs.Replicas.{records_in, stamps_in}
use Rattle.state_replica.proofs.replica.Replica.put.Goals as goal

pub invariant_of-self : goal.invariant_of-self
invariant_of-self c =
    let old = stamps_in (records_in c.self.inside.homes.items) in
    let put = c.put_among-was.ensures in
    record {
      purges = c.self.invariant.purges;
      homes = put.count ∙ c.self.invariant.homes;
      numbered = put.numbered;
      ordered = put.ordered;
      origins = c.reindex.ensures.nodes ∙ c.self.invariant.origins;
      indexed = by_each c.reindex.new.self.origins (with_stamps (id_of c.args.added) (Some c.args.added.stamps) old) (stamps_in (records_in c.put_among-was.new.homes.items)) put.indexed
          (c.reindex.ensures.entries old c.self.invariant.indexed (sym put.was));
    }
