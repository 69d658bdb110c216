use Rattle.std.proofs.Common.{◌≡◌, ◌≤◌, ℕ, length}
use Rattle.std.specs.List.{AllByRecursion}
use Rattle.state_forest.specs.declared.record.Record.{Record}
use Rattle.state_replica.specs.Replicas.{count_of_home, spare_at, view_of}
use Rattle.theory_history.specs.Changes.{put_each}
use Rattle.state_replica.proofs.replica.Replica.put_all.Given as goal

-- putting what is left onto what was put gives the result
abbrev pub invariant-loop-added : goal.invariant-loop-added
invariant-loop-added l =
    (l.self.front ≡ l.fn.self.front)
    × (l.self.purges ≡ l.fn.self.purges)
    × (put_each l.added-iterator.rest.items (view_of l.self).records ≡ put_each l.fn.records.items (view_of l.fn.self).records)
    × AllByRecursion (λ (r : Record). r.home ≤ length l.fn.self.front) l.added-iterator.rest.items
    × ((home : ℕ) → 1 ≤ home → count_of_home home l.added-iterator.rest.items ≤ spare_at l.self.homes home)
    × (length l.added-iterator.rest.items ≤ l.self.index.spare)
