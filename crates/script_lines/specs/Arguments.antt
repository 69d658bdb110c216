-- What the arguments of a program that runs scripts ask for, and how it ended.
use Rattle.std.specs.Prelude.{◌≡◌, ◌⊎◌, ℕ, List, [], ◌∷◌, codes}
use Rattle.std.specs.Fmt.{decimal}
use Rattle.state_ids.specs.declared.TheConstants.{MAX_NODES}
use Rattle.wire_http.specs.Streams.{Calls, GivenBytes, TakenBytes}
use Rattle.script_lines.specs.declared.course.ScriptFault.TheVariants.{Read}
use Rattle.script_lines.specs.declared.playing.Ended.{Ended}
use Rattle.script_lines.specs.declared.playing.Ended.TheVariants.{NotAsked, Ran, Stopped}
use Rattle.script_lines.specs.Asks.{IsNodeOf}
use Rattle.script_lines.specs.ScriptEnds.{AnswersWhole, HasRun, HasStopped, WritesPart}

-- the words that ask for a script of this many nodes
abbrev pub asked_words : ℕ → List (List ℕ)
asked_words nodes = codes "script" ∷ decimal nodes ∷ []

-- the words ask for a script of this many nodes, 1 to 8
abbrev pub AskScript : List (List ℕ) → ℕ → Type 0
AskScript words nodes = IsNodeOf MAX_NODES nodes × (words ≡ asked_words nodes)

-- the exit status of a program that ended so
abbrev pub exit_status : Ended → ℕ
exit_status Ran = 0
exit_status (Stopped fault) = 1
exit_status NotAsked = 2

-- A script of this many nodes ended so. Either it ran to the end of its input, or it stopped at a
-- fault that has its cause, and what it wrote is a part of what such a run writes. After a read
-- fault, each line that was read whole has its whole answer
abbrev pub EndsWith : (old new : GivenBytes) (before after : TakenBytes) (reads_before reads writes_before writes : Calls) (untouched : Type 0) → (nodes : ℕ) → Ended → Type 0
EndsWith old new before after reads_before reads writes_before writes untouched nodes Ran = HasRun nodes old new before after reads_before reads writes_before writes
EndsWith old new before after reads_before reads writes_before writes untouched nodes (Stopped fault) =
    WritesPart nodes old new before after × (fault ≡ Read → AnswersWhole nodes old new before after) × HasStopped reads_before reads writes_before writes untouched fault
EndsWith old new before after reads_before reads writes_before writes untouched nodes NotAsked = ⊥

-- what is asked for has ended so; or nothing is asked for, and nothing was touched
abbrev pub IsRunOf : (asked : ℕ → Type 0) (ends : Type 0 → ℕ → Ended → Type 0) (untouched : Type 0) → Ended → Type 0
IsRunOf asked ends untouched ended =
    ((nodes : ℕ) × asked nodes × ends untouched nodes ended)
    ⊎ (((nodes : ℕ) → asked nodes → ⊥) × (ended ≡ NotAsked) × untouched)
