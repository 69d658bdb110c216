use Rattle.std.proofs.Common.{◌≡◌, ◌-◌, ◌&&◌, ℕ, Bool, is_none}
use Rattle.std.specs.List.{list_any}
use Rattle.state_forest.specs.declared.record.Record.{Record}
use Rattle.state_forest.specs.Said.{records_up}
use Rattle.state_forest.specs.Shape.{found_at}
use Rattle.state_forest.proofs.forest.Forest.root_met.Given as goal

-- the root is among the LRAs that are left
abbrev pub invariant-loop : goal.invariant-loop
invariant-loop l =
    let at = found_at l.self.home l.self.records in
    (passes : ℕ → Bool) → list_any (λ (r : Record). is_none r.parent && passes r.num) (records_up 8 at l.num) ≡ list_any (λ (r : Record). is_none r.parent && passes r.num) (records_up (8 - l.counter) at l.at)
