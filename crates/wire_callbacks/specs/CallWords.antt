-- The words for the kinds of calls, and for what an answer means.
use Rattle.std.specs.Prelude.{ℕ, List, codes}
use Rattle.state_ids.specs.declared.outcome.Outcome.TheVariants.{Busy, Done, Failed}
use Rattle.wire_callbacks.specs.declared.answer.Heard.{Heard}
use Rattle.wire_callbacks.specs.declared.answer.Heard.TheVariants.{Outcome, Forgot, Told, Again}
use Rattle.wire_callbacks.specs.declared.answer.Kind.{Kind}
use Rattle.wire_callbacks.specs.declared.answer.Kind.TheVariants.{Complete, Compensate, Status, Forget, After}

abbrev pub kind_name : Kind → List ℕ
kind_name Complete = codes "complete"
kind_name Compensate = codes "compensate"
kind_name Status = codes "status"
kind_name Forget = codes "forget"
kind_name After = codes "after"

abbrev pub heard_name : Heard → List ℕ
heard_name (Outcome Busy) = codes "Busy"
heard_name (Outcome Done) = codes "Done"
heard_name (Outcome Failed) = codes "Failed"
heard_name Forgot = codes "Forgotten"
heard_name Told = codes "Told"
heard_name Again = codes "Again"
