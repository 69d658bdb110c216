-- Numbers by which names are quickly told apart.
use Rattle.std.specs.Prelude.{◌+◌, ◌*◌, ◌%◌, ◌^◌, ◌∷◌, [], ℕ, List}

-- the number of a name, continued from the number of what stands before it
abbrev pub key_from : ℕ → List ℕ → ℕ
key_from key [] = key
key_from key (byte ∷ bytes) = key_from ((key * 31 % 2 ^ 64 + byte) % 2 ^ 64) bytes

-- the number of a name: equal names have the same number
abbrev pub key_of : List ℕ → ℕ
key_of name = key_from 0 name
