use Rattle.std.proofs.Common.{rules}
use Rattle.std.proofs.lemmas.List.Sorted.{IsPartitionPoint-from_clause}
use Rattle.state_stamps.specs.declared.stamp_entry.StampEntry.{StampEntry}
use Rattle.state_stamps.specs.Entries.{is_before}
use Rattle.state_stamps.proofs.Places.{parted_before, place_is}
use Rattle.state_stamps.proofs.origin.place_of.Goals as goal

pub returns : goal.returns
returns c =
    place_is c.args.entry.now c.args.entries.now _ c.partition_point.ensures.bound
    (IsPartitionPoint-from_clause (λ (q : StampEntry). is_before q c.args.entry.now) _ _ c.partition_point.ensures.partitioned (parted_before c.args.entry.now c.args.entries.now c.requires) (λ a r q k. search rules))
