-- The names of groups of nodes.
use Rattle.std.specs.Prelude.{◌&&◌, ◌||◌, ◌==◌, ℕ, Bool, List, length, nat_le}
use Rattle.std.specs.Char.{is_ascii_alphanumeric}
use Rattle.std.specs.List.{list_all}

-- a letter, a digit, a dot, an underscore or a hyphen
abbrev pub is_name_byte : ℕ → Bool
is_name_byte b = is_ascii_alphanumeric b || ((b == 46) || ((b == 95) || (b == 45)))

-- 1 to 64 of these bytes
abbrev pub is_group_name : List ℕ → Bool
is_group_name text = nat_le 1 (length text) && (nat_le (length text) 64 && list_all is_name_byte text)
