-- What a call of the desk resulted in, given what was known of it before it was made.
use Rattle.std.specs.Prelude.{ℕ}
use Rattle.state_book.specs.declared.calls.Reply.{Reply}
use Rattle.node_core.specs.declared.calls.CallResult.{CallResult}
use Rattle.node_effects.specs.Noting.{noted_by}
use Rattle.node_effects.specs.Results.{result_of}
use Rattle.node_effects.specs.declared.call_notes.CallNotes.{CallNotes}

-- counted as this many calls of a run
abbrev pub result_with : (weight : ℕ) → CallNotes → Reply → CallResult
result_with weight notes reply = result_of (noted_by notes.completes notes.freed notes.heard reply) weight notes.is_move reply
