use Rattle.std.proofs.Common.{◌≡◌, ◌+◌, ◌≤◌, ◌++◌, vec_capacity, vec_len}
use Rattle.state_forest.proofs.page.part_records.Given as goal

-- the records that were moved stand behind those that are left
abbrev pub invariant-down : goal.invariant-down
invariant-down l = record {
  items : l.lower.items ++ l.upper.items ≡ l.initial.lower.items;
  all : vec_len l.lower + vec_len l.upper ≡ 32;
  lower : 16 ≤ vec_len l.lower;
  lower_room : vec_capacity l.lower ≡ vec_capacity l.initial.lower;
  upper_room : vec_capacity l.upper ≡ vec_capacity l.initial.upper;
}

abbrev pub decreases-down : goal.decreases-down
decreases-down l = vec_len l.lower
