-- How much of a run is used up.
use Rattle.std.specs.Prelude.{◌+◌, ◌-◌, ◌^◌, ◌&&◌, ◌||◌, ℕ, Bool, false, if◌then◌else◌, min, nat_le, not, true}

-- How many calls, and how many that move a frame, end a run early; how many were made; whether a fact
-- was stored in this run; and whether the journal failed since a fact was last stored
pub record Tally : Type 0 where
  pub max_calls : ℕ
  pub max_moves : ℕ
  pub calls : ℕ
  pub moves : ℕ
  pub has_stored : Bool
  pub has_failed : Bool

abbrev pub unused : (max_calls max_moves : ℕ) → Tally
unused max_calls max_moves = record { max_calls = max_calls; max_moves = max_moves; calls = 0; moves = 0; has_stored = false; has_failed = false }

abbrev pub begun : Tally → Tally
begun t = record t { calls = 0; moves = 0; has_stored = false }

abbrev pub counted : (calls : ℕ) → (is_move is_stored : Bool) → Tally → Tally
counted calls is_move is_stored t = record t {
  calls = min (t.calls + calls) (2 ^ 64 - 1);
  moves = min (t.moves + (if is_move then 1 else 0)) (2 ^ 64 - 1);
  has_stored = t.has_stored || is_stored;
  has_failed = t.has_failed && not is_stored;
}

abbrev pub failed : Tally → Tally
failed t = record t { has_failed = true }

abbrev pub is_spent : Tally → Bool
is_spent t = nat_le t.max_calls t.calls || nat_le t.max_moves t.moves
