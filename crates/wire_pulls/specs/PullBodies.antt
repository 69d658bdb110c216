-- The body of a pull: the number of nodes in 1 byte, and how many facts of each node the asker has,
-- in 8 bytes each.
use Rattle.std.specs.Prelude.{◌≡◌, ◌+◌, ◌*◌, ◌==◌, ◌++◌, ℕ, zero, suc, true, List, [], ◌∷◌, Result, Ok, Err, if◌then◌else◌, drop, length, nat_lt, take}
use Rattle.std.specs.Int.{w64, from_be_bytes}
use Rattle.state_facts.specs.declared.refusal.Refusal.{Refusal}
use Rattle.state_facts.specs.declared.refusal.Refusal.TheVariants.{BadFrame}
use Rattle.wire_frames.specs.Rules.{are_counts}
use Rattle.wire_frames.specs.Encoding.{byte, vector}

-- the one encoding of a front from which a node asks
abbrev pub pull_body : List ℕ → List ℕ
pull_body front = byte (length front) ++ vector front

-- a front of this many nodes, with counts of 48 bits
pub record IsAsked (nodes : ℕ) (front : List ℕ) : Type 0 where
  pub count : length front ≡ nodes
  pub small : are_counts front ≡ true

-- this many numbers of 8 bytes each, from the start of the bytes
abbrev pub counts_in : ℕ → List ℕ → List ℕ
counts_in zero bytes = []
counts_in (suc n) bytes = from_be_bytes w64 (take 8 bytes) ∷ counts_in n (drop 8 bytes)

-- Behind the number of nodes: the front, or E16 at 1 if it is cut or has a number that counts no
-- facts, and just past it if bytes are left over
abbrev pub front_in : ℕ → List ℕ → Result (List ℕ) Refusal
front_in nodes bytes =
    if nat_lt (length bytes) (8 * nodes) then Err (BadFrame 1)
    else if are_counts (counts_in nodes bytes) then (if nat_lt (8 * nodes) (length bytes) then Err (BadFrame (1 + 8 * nodes)) else Ok (counts_in nodes bytes))
    else Err (BadFrame 1)

-- What a body asks of a node that counts this many nodes: a front, or E16 at the first fault
abbrev pub asked : ℕ → List ℕ → Result (List ℕ) Refusal
asked nodes [] = Err (BadFrame 0)
asked nodes (count ∷ bytes) = if count == nodes then front_in nodes bytes else Err (BadFrame 0)
