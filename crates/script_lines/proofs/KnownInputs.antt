-- What a script has written, if the bytes of its input are known.
use Rattle.std.proofs.Common.{◌≡◌, ◌∙◌, ℕ, List, [], ◌++◌, Option, Some, None, IfSome, ap, append-nil, subst, sym}
use Rattle.std.specs.Io.KnownBytes.{Consumes, IsAtEnd}
use Rattle.wire_http.specs.Streams.{Calls, FoundEnd, GivenBytes, TakenBytes, TakesPart}
use Rattle.script_lines.specs.LineParts.{lines_of}
use Rattle.script_lines.specs.ScriptEnds.{HasRun, IsPut, WritesPart}
use Rattle.script_lines.specs.Scripts.{Plays}

-- what holds for the bytes that were given, whatever follows, holds for all that were left
of_left : (P : List ℕ → Type 0) (left after : Option (List ℕ)) (bytes : List ℕ) (Ended : Type 0) → Consumes left after bytes → (Ended → IsAtEnd after)
    → ((more : List ℕ) → (Ended → more ≡ []) → P (bytes ++ more)) → IfSome left P
of_left P None after bytes Ended took end holds = tt
of_left P (Some input) None bytes Ended took end holds = absurd took
of_left P (Some input) (Some rest) bytes Ended took end holds = subst P (sym took) (holds rest end)

-- what holds for the bytes that were given to the end holds for all that were left
of_all : (P : List ℕ → Type 0) (left after : Option (List ℕ)) (bytes : List ℕ) → Consumes left after bytes → IsAtEnd after → P bytes → IfSome left P
of_all P None after bytes took end holds = tt
of_all P (Some input) None bytes took end holds = absurd took
of_all P (Some input) (Some rest) bytes took end holds = subst P (sym (took ∙ ap (λ (l : List ℕ). bytes ++ l) end ∙ append-nil bytes)) holds

pub text_of_input : (nodes : ℕ) (old new : GivenBytes) (before after : TakenBytes) (reads_before reads writes_before writes : Calls)
    → HasRun nodes old new before after reads_before reads writes_before writes
    → IfSome old.left (λ input. (out : List ℕ) × Plays nodes (lines_of input) out × IsPut before after out)
text_of_input nodes old new before after reads_before reads writes_before writes run =
    of_all (λ input. (out : List ℕ) × Plays nodes (lines_of input) out × IsPut before after out) old.left new.left run.bytes
    run.gives.left run.ended.1 (run.out, run.plays, run.put)

pub part_of_input : (nodes : ℕ) (old new : GivenBytes) (before after : TakenBytes) → WritesPart nodes old new before after
    → IfSome old.left (λ input. (out : List ℕ) × Plays nodes (lines_of input) out × TakesPart before after out)
part_of_input nodes old new before after (bytes, gives, part) =
    of_left (λ input. (out : List ℕ) × Plays nodes (lines_of input) out × TakesPart before after out) old.left new.left bytes (FoundEnd new)
    gives.left (λ ended. ended.1) part
