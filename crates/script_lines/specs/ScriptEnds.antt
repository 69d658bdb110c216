-- How a script ends: what it was given, what it wrote for that, and how the calls turned out.
use Rattle.std.specs.Prelude.{◌≡◌, ℕ, ◌+◌, ◌-◌, ◌*◌, ◌^◌, ◌≤◌, ◌⊎◌, List, [], ◌∷◌, ◌++◌, length, take, Bool, true, false, Result, MatchResult}
use Rattle.wire_http.specs.Streams.{Calls, FoundEnd, GivenBytes, Gives, GivesWhat, HasCause, IsFlushed, TakenBytes, Takes, TakesPart, too_many_interrupted}
use Rattle.script_lines.specs.declared.course.ScriptFault.{ScriptFault}
use Rattle.script_lines.specs.declared.course.ScriptFault.TheVariants.{Read, Write, NoMemory}
use Rattle.script_lines.specs.LineParts.{HasNone, lines_of}
use Rattle.script_lines.specs.Scripts.{Plays, max_line_bytes}

-- ---- calls

-- no call failed, and for each of this many lines fewer calls were interrupted than make a fault
pub record WentWell (lines : ℕ) (before after : Calls) : Type 0 where
  pub none_failed : after.failed ≡ before.failed
  pub counted : before.interrupted ≤ after.interrupted
  pub few : after.interrupted ≤ before.interrupted + (too_many_interrupted - 1) * lines

-- how the calls of one line turned out: a fault has its cause
abbrev pub LineCalls : {A E : Type 0} → Calls → Calls → Result A E → Type 0
LineCalls before after result = MatchResult result (λ _. WentWell 1 before after) (λ _. HasCause 0 before after)

-- the same for reads, of which this many may still be made
abbrev pub LineReads : {A E : Type 0} → Calls → Calls → ℕ → Result A E → Type 0
LineReads before after reads_left result =
    MatchResult result (λ _. WentWell 1 before after) (λ _. HasCause 0 before after ⊎ ((after.failed ≡ before.failed) × (reads_left ≡ 0)))

-- the last call failed, and no other did; or as many were interrupted as make a fault
abbrev pub IsStopped : Calls → Calls → Type 0
IsStopped before after =
    ((after.failed ≡ before.failed + 1) × (after.last_failed ≡ 1))
    ⊎ ((after.failed ≡ before.failed) × (before.interrupted + too_many_interrupted ≤ after.interrupted))

-- the most bytes that are read
abbrev pub max_reads : ℕ
max_reads = 2 ^ 64 - 1

-- the cause of each fault of a script: on the other side no call failed, and if memory ran out, no
-- call was made
abbrev pub HasStopped : (reads_before reads writes_before writes : Calls) → (untouched : Type 0) → ScriptFault → Type 0
HasStopped reads_before reads writes_before writes untouched Read =
    (IsStopped reads_before reads ⊎ ((reads.failed ≡ reads_before.failed) × (reads_before.made + max_reads ≤ reads.made)))
    × (writes.failed ≡ writes_before.failed)
HasStopped reads_before reads writes_before writes untouched Write =
    IsStopped writes_before writes × (reads.failed ≡ reads_before.failed)
HasStopped reads_before reads writes_before writes untouched NoMemory = untouched

-- ---- lines

-- A line was given, and enough of it is kept to notice if it is too long. `more` says whether a
-- line feed ended it, or the end of the input.
abbrev pub ReadsLine : Bool → List ℕ → GivenBytes → GivenBytes → Type 0
ReadsLine true kept old new =
    GivesWhat old new (λ bytes. (line : List ℕ) × (kept ≡ take (max_line_bytes + 1) line) × HasNone 10 line × (bytes ≡ line ++ 10 ∷ []))
ReadsLine false kept old new =
    GivesWhat old new (λ line. (kept ≡ take (max_line_bytes + 1) line) × HasNone 10 line) × FoundEnd new

-- a part of a line was given
abbrev pub ReadsPart : GivenBytes → GivenBytes → Type 0
ReadsPart old new = GivesWhat old new (HasNone 10)

-- ---- texts

-- all of the text was taken and flushed
abbrev pub IsPut : TakenBytes → TakenBytes → List ℕ → Type 0
IsPut old new text = Takes old new text × IsFlushed new

-- The input was given to its end. What its lines print was taken and flushed. No call failed, and
-- for each line fewer calls were interrupted than make a fault.
pub record HasRun (nodes : ℕ) (old new : GivenBytes) (before after : TakenBytes) (reads_before reads writes_before writes : Calls) : Type 0 where
  pub bytes : List ℕ
  pub gives : Gives old new bytes
  pub ended : FoundEnd new
  pub out : List ℕ
  pub plays : Plays nodes (lines_of bytes) out
  pub put : IsPut before after out
  pub reads_well : WentWell (length (lines_of bytes)) reads_before reads
  pub writes_well : WentWell (length (lines_of bytes)) writes_before writes

-- what was taken is a part of the text of the lines that were given, whatever follows them; after
-- the end of the input nothing follows
abbrev pub WritesPart : ℕ → (old new : GivenBytes) → (before after : TakenBytes) → Type 0
WritesPart nodes old new before after =
    GivesWhat old new (λ bytes. (more : List ℕ) → (FoundEnd new → more ≡ [])
    → (out : List ℕ) × Plays nodes (lines_of (bytes ++ more)) out × TakesPart before after out)

-- The text of all lines that were given whole was taken, and flushed if everything before it was.
-- The last line of what was given, `cut`, was not whole.
abbrev pub AnswersWhole : ℕ → (old new : GivenBytes) → (before after : TakenBytes) → Type 0
AnswersWhole nodes old new before after =
    GivesWhat old new (λ bytes. (cut out : List ℕ) × (whole : List (List ℕ)) × (lines_of bytes ≡ whole ++ cut ∷ [])
    × Plays nodes whole out × Takes before after out × (IsFlushed before → IsFlushed after))
