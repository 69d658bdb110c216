use Rattle.std.proofs.Common.{◌≡◌, ◌++◌, map, drop}
use Rattle.std.specs.Prelude.{bit_xor}
use Rattle.wire_narayana.proofs.seal.pad.Given as goal

-- together with what is left it makes up the whole
abbrev pub invariant-loop-byte : goal.invariant-loop-byte
invariant-loop-byte l = l.block.items ++ map (λ b. bit_xor b l.mask) (drop l.byte-index l.key) ≡ map (λ b. bit_xor b l.mask) l.key
