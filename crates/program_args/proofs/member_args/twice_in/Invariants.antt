use Rattle.std.proofs.Common.{◌≢◌, ◌<◌, ℕ, List, get_or, map, string_bytes}
use Rattle.program_args.proofs.member_args.twice_in.Given as goal

abbrev pub invariant-loop-place : goal.invariant-loop-place
invariant-loop-place l = (j : ℕ) → j < l.place → (i : ℕ) (d : List ℕ) → i < j → get_or (map string_bytes l.words) i d ≢ get_or (map string_bytes l.words) j d
