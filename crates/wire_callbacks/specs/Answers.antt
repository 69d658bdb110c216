-- What a participant's answer means: the table of answers (this project's profile).
use Rattle.std.specs.Prelude.{◌==◌, ◌-◌, ◌||◌, ◌&&◌, ℕ, Bool, List, [], ◌∷◌, if◌then◌else◌, length, nat_le, reverse, slice_index, slice_range}
use Rattle.std.specs.Str.{bytes_eq}
use Rattle.state_ids.specs.declared.outcome.Act.{Act}
use Rattle.state_ids.specs.declared.outcome.Act.TheVariants.{Complete as CompleteAct, Compensate as CompensateAct}
use Rattle.state_ids.specs.declared.outcome.Outcome.TheVariants.{Busy, Done, Failed}
use Rattle.state_ids.specs.declared.status.MemberStatus.{MemberStatus}
use Rattle.state_ids.specs.declared.status.MemberStatus.TheVariants.{Completed, FailedToComplete, Compensated, FailedToCompensate}
use Rattle.state_ids.specs.Names.{member_name}
use Rattle.wire_callbacks.specs.declared.answer.Answer.{Answer}
use Rattle.wire_callbacks.specs.declared.answer.Answer.TheVariants.{Code, Broken}
use Rattle.wire_callbacks.specs.declared.answer.Heard.{Heard}
use Rattle.wire_callbacks.specs.declared.answer.Heard.TheVariants.{Outcome, Forgot, Told, Again}
use Rattle.wire_callbacks.specs.declared.answer.Kind.{Kind}
use Rattle.wire_callbacks.specs.declared.answer.Kind.TheVariants.{Complete, Compensate, Status, Forget, After}

-- a code, and what it means
pub record Row : Type 0 where
  pub code : ℕ
  pub heard : Heard

-- what a table says of a code: a code that is not in it counts for nothing
abbrev pub heard_in : List Row → ℕ → Heard
heard_in [] n = Again
heard_in (row ∷ rows) n = if n == row.code then row.heard else heard_in rows n

-- for calls to complete and to compensate; the body is ignored
abbrev pub act_rows : List Row
act_rows =
    record { code = 200; heard = Outcome Done }
    ∷ record { code = 204; heard = Outcome Done }
    ∷ record { code = 410; heard = Outcome Done }
    ∷ record { code = 202; heard = Outcome Busy }
    ∷ record { code = 409; heard = Outcome Failed }
    ∷ []

-- for calls to forget
abbrev pub forget_rows : List Row
forget_rows =
    record { code = 200; heard = Forgot }
    ∷ record { code = 204; heard = Forgot }
    ∷ record { code = 404; heard = Forgot }
    ∷ record { code = 410; heard = Forgot }
    ∷ []

-- for the notification that the LRA has ended
abbrev pub after_rows : List Row
after_rows =
    record { code = 200; heard = Told }
    ∷ record { code = 204; heard = Told }
    ∷ record { code = 410; heard = Told }
    ∷ []

abbrev pub heard_by_after : ℕ → Heard
heard_by_after n = heard_in after_rows n

abbrev pub heard_by_act : ℕ → Heard
heard_by_act n = heard_in act_rows n

abbrev pub heard_by_forget : ℕ → Heard
heard_by_forget n = heard_in forget_rows n

-- The status that a body names

-- a space, CR or LF
abbrev pub is_blank : ℕ → Bool
is_blank b = (b == 32) || ((b == 13) || (b == 10))

abbrev pub without_leading : List ℕ → List ℕ
without_leading [] = []
without_leading (b ∷ bs) = if is_blank b then without_leading bs else b ∷ bs

abbrev pub without_trailing : List ℕ → List ℕ
without_trailing bs = reverse (without_leading (reverse bs))

-- without the blanks at both ends
abbrev pub trimmed : List ℕ → List ℕ
trimmed bs = without_trailing (without_leading bs)

-- the text begins and ends with a double quote, and these are two
abbrev pub is_quoted : List ℕ → Bool
is_quoted bs = nat_le 2 (length bs) && ((slice_index bs 0 == 34) && (slice_index bs (length bs - 1) == 34))

-- without one pair of double quotes around it
abbrev pub unquoted : List ℕ → List ℕ
unquoted bs = if is_quoted bs then slice_range bs 1 (length bs - 1) else bs

-- the name that a body has within blanks and quotes
abbrev pub bare : List ℕ → List ℕ
bare bs = unquoted (trimmed bs)

abbrev pub done_status : Act → MemberStatus
done_status CompleteAct = Completed
done_status CompensateAct = Compensated

abbrev pub failed_status : Act → MemberStatus
failed_status CompleteAct = FailedToComplete
failed_status CompensateAct = FailedToCompensate

-- what a name means for the act: the name of another act's status means nothing
abbrev pub heard_of_name : Act → List ℕ → Heard
heard_of_name act name =
    if bytes_eq name (member_name (done_status act)) then Outcome Done
    else (if bytes_eq name (member_name (failed_status act)) then Outcome Failed else Again)

-- for calls for the status of an act
abbrev pub heard_by_status : Act → ℕ → List ℕ → Heard
heard_by_status act n body = heard_in (record { code = 200; heard = heard_of_name act (bare body) } ∷ record { code = 410; heard = Outcome Done } ∷ []) n

-- The table

abbrev pub heard_of : Act → Kind → Answer → Heard
heard_of act kind Broken = Again
heard_of act Complete (Code n body) = heard_by_act n
heard_of act Compensate (Code n body) = heard_by_act n
heard_of act Status (Code n body) = heard_by_status act n body
heard_of act Forget (Code n body) = heard_by_forget n
heard_of act After (Code n body) = heard_by_after n
