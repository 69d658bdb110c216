-- Which calls of a node are repeated, given their outcome.
use Rattle.std.specs.Prelude.{⊤, Bool, true, false}
use Rattle.wire_narayana.specs.declared.repeat.NodeResult.{NodeResult}
use Rattle.wire_narayana.specs.declared.repeat.NodeResult.TheVariants as came
use Rattle.wire_narayana.specs.declared.repeat.Repeat.{Repeat}
use Rattle.wire_narayana.specs.declared.repeat.Repeat.TheVariants as calls

-- a node may have acted on the call
abbrev pub MayBeMade : NodeResult → Type 0
MayBeMade came.DidNothing = ⊥
MayBeMade came.Unsure = ⊤
MayBeMade came.Answered = ⊤
MayBeMade came.Unsent = ⊥
MayBeMade came.Unheard = ⊤
MayBeMade came.NoMemory = ⊥

-- A call that wasn't sent is repeated, except a begin, which goes to another node.
abbrev pub is_again_unsent : Repeat → Bool
is_again_unsent calls.Never = false
is_again_unsent calls.Unsent = true
is_again_unsent calls.Always = true

-- A call that may have been made is repeated if that does no harm.
abbrev pub is_harmless : Repeat → Bool
is_harmless calls.Never = false
is_harmless calls.Unsent = false
is_harmless calls.Always = true

-- a call with this outcome is repeated
abbrev pub is_again : NodeResult → Repeat → Bool
is_again came.DidNothing repeat = true
is_again came.Unsure repeat = is_harmless repeat
is_again came.Answered repeat = false
is_again came.Unsent repeat = is_again_unsent repeat
is_again came.Unheard repeat = is_harmless repeat
is_again came.NoMemory repeat = false
