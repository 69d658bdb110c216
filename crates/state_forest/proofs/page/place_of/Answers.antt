use Rattle.std.proofs.Common.{nat_lt, rules}
use Rattle.std.proofs.lemmas.List.Sorted.{IsPartitionPoint-from_clause, IsPartitionedBy-ltb}
use Rattle.state_forest.specs.declared.record.Record.{Record}
use Rattle.state_forest.proofs.Places.{place_is, rises}
use Rattle.state_forest.proofs.page.place_of.Goals as goal

pub returns : goal.returns
returns c =
    let parted = IsPartitionedBy-ltb (λ (r : Record). r.num) _ c.args.num (rises _ c.requires) in
    place_is _ _ _ c.partition_point.ensures.bound
    (IsPartitionPoint-from_clause (λ (r : Record). nat_lt r.num c.args.num) _ _ c.partition_point.ensures.partitioned parted (λ a r q k. search rules))
