-- How many LRAs of a home show each status.
use Rattle.std.specs.Prelude.{◌+◌, ℕ, List, if◌then◌else◌, min, nat_lt, replicate, slice_index, slice_set}
use Rattle.state_ids.specs.States.{rank}
use Rattle.state_ids.specs.declared.status.LraStatus.{LraStatus}

-- how many LRAs a look has found so far, how many of them show each status, by rank, and how many
-- showed each at the end of the last look
pub record Counts : Type 0 where
  pub counted : ℕ
  pub showing : List ℕ
  pub held : List ℕ

abbrev pub none_counted : Counts
none_counted = record { counted = 0; showing = replicate 7 0; held = replicate 7 0 }

-- one more, as far as 64 bits reach
abbrev pub one_more : ℕ → ℕ
one_more n = min (n + 1) 18_446_744_073_709_551_615

-- one more shows the status with this rank
abbrev pub counted_at : ℕ → List ℕ → List ℕ
counted_at place counts = if nat_lt place 7 then slice_set counts place (one_more (slice_index counts place)) else counts

-- after one was found that shows this; after a look began; and after it is over
abbrev pub with_one : LraStatus → Counts → Counts
with_one status c = record { counted = one_more c.counted; showing = counted_at (rank status) c.showing; held = c.held }

abbrev pub counting : Counts → Counts
counting c = record { counted = 0; showing = replicate 7 0; held = c.held }

abbrev pub counted_over : Counts → Counts
counted_over c = record { counted = c.counted; showing = c.showing; held = c.showing }
