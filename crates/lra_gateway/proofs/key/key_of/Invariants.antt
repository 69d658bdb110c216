use Rattle.std.proofs.Common.{◌≡◌, ◌<◌, ℕ, ◌+◌, ◌*◌, length, slice_index}
use Rattle.lra_gateway.specs.Keys.{SpellByte}
use Rattle.lra_gateway.proofs.key.key_of.Given as goal

-- each byte so far is spelled
abbrev pub invariant-loop-place : goal.invariant-loop-place
invariant-loop-place l = (length l.bytes ≡ 32) × ((k : ℕ) → k < l.place → SpellByte (slice_index l.text (2 * k)) (slice_index l.text (2 * k + 1)) (slice_index l.bytes k))
