-- Bytes that are copied, and lines.
use Rattle.std.proofs.Common.{◌≡◌, ℕ, ◌≤◌, List, ◌++◌, length, take, ap, sym, ◌∙◌, arith}
use Rattle.std.proofs.Math.Seq.{take-append_seam}
use Rattle.std.proofs.lemmas.List.{length-take-le, length-take}

-- a prefix of some bytes is no longer than the bytes
pub within : (most count : ℕ) (bytes : List ℕ) → count ≤ length (take most bytes) → count ≤ length bytes
within most count bytes le = omega (arith, le, length-take most bytes)

-- what was copied to the start of a buffer
pub copied : (count : ℕ) (bytes piece rest : List ℕ) → count ≤ length bytes → piece ≡ take count bytes
    → take count (piece ++ rest) ≡ take count bytes
copied count bytes piece rest le e =
    let size : length piece ≡ count = ap length e ∙ length-take-le count bytes le in
    ap (λ n. take n (piece ++ rest)) (sym size) ∙ take-append_seam piece rest ∙ e
