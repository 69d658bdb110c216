-- How a key is written.
use Rattle.std.specs.Prelude.{◌≡◌, ◌<◌, ◌+◌, ◌*◌, ℕ, List, length, slice_index}
use Rattle.std.specs.Char.{digit_value}

-- two hexadecimal digits spell a byte; a digit is one if its value is below 16
abbrev pub SpellByte : (high low byte : ℕ) → Type 0
SpellByte high low byte = (digit_value high < 16) × (digit_value low < 16) × (byte ≡ 16 * digit_value high + digit_value low)

-- 64 hexadecimal digits spell 32 bytes, two digits for each
pub record SpellKey (text key : List ℕ) : Type 0 where
  pub digits : length text ≡ 64
  pub bytes : (place : ℕ) → place < 32 → SpellByte (slice_index text (2 * place)) (slice_index text (2 * place + 1)) (slice_index key place)
