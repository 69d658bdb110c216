use Rattle.std.proofs.Common.{◌≡◌, ◌<◌, ℕ, List, get_or, map, string_bytes}
use Rattle.program_args.proofs.member_args.stands_in.Given as goal

abbrev pub invariant-loop-other : goal.invariant-loop-other
invariant-loop-other l = (k : ℕ) → k < l.other-index → (d : List ℕ) → get_or (map string_bytes l.words) k d ≡ l.word → ⊥
