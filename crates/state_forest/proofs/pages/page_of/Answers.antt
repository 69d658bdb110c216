use Rattle.std.proofs.Common.{rules}
use Rattle.std.proofs.lemmas.List.Sorted.{IsPartitionPoint-from_clause}
use Rattle.state_forest.specs.Pages.{lies_below}
use Rattle.state_forest.proofs.PageOrder.{page_is, parted}
use Rattle.state_forest.proofs.pages.page_of.Goals as goal

pub returns : goal.returns
returns c =
    page_is _ _ _ c.partition_point.ensures.bound
    (IsPartitionPoint-from_clause (lies_below c.args.num) _ _ c.partition_point.ensures.partitioned (parted c.args.num _ c.requires.order c.requires.last) (λ a r q k. search rules))
