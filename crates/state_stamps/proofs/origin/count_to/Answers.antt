use Rattle.std.proofs.Common.{nat_le, rules}
use Rattle.std.proofs.lemmas.List.Sorted.{IsPartitionPoint-from_clause}
use Rattle.state_stamps.specs.declared.stamp_entry.StampEntry.{StampEntry}
use Rattle.state_stamps.proofs.Places.{parted_to, rest_is}
use Rattle.state_stamps.proofs.origin.count_to.Goals as goal

pub returns-clause-rest : goal.returns-clause-rest
returns-clause-rest c =
    rest_is c.args.count c.args.entries.now _ c.partition_point.ensures.bound
    (IsPartitionPoint-from_clause (λ (q : StampEntry). nat_le q.stamp c.args.count) _ _ c.partition_point.ensures.partitioned (parted_to c.args.count c.args.entries.now c.requires) (λ a r q k. search rules))
