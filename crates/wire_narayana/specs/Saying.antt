-- What a participant says by its answer, and what a node is told about it.
use Rattle.std.specs.Prelude.{◌≡◌, ◌==◌, ◌||◌, ◌&&◌, ◌-◌, ◌⊎◌, ⊤, ℕ, Bool, List, [], ◌∷◌, Option, Some, None, if◌then◌else◌, length, nat_le, reverse, slice_index, slice_range}
use Rattle.state_ids.specs.declared.status.MemberStatus.{MemberStatus}
use Rattle.state_ids.specs.declared.status.MemberStatus.TheVariants as word
use Rattle.wire_narayana.specs.declared.link_kind.LinkKind.{LinkKind}
use Rattle.wire_narayana.specs.declared.link_kind.LinkKind.TheVariants.{Compensate, Complete, Status, Forget, After}
use Rattle.wire_narayana.specs.declared.answers.ParticipantAnswer.{ParticipantAnswer}
use Rattle.wire_narayana.specs.declared.answers.ParticipantAnswer.TheVariants.{Whole, Broken, Unreached, Late}
use Rattle.wire_narayana.specs.declared.answers.AnswerToNode.{AnswerToNode}

-- The status that a body names

-- a space, a tab, CR or LF
abbrev pub is_blank : ℕ → Bool
is_blank b = (b == 32) || ((b == 9) || ((b == 13) || (b == 10)))

abbrev pub without_leading : List ℕ → List ℕ
without_leading [] = []
without_leading (b ∷ bs) = if is_blank b then without_leading bs else b ∷ bs

abbrev pub without_trailing : List ℕ → List ℕ
without_trailing bs = reverse (without_leading (reverse bs))

-- the text begins and ends with a double quote, and these are two different ones
abbrev pub is_quoted : List ℕ → Bool
is_quoted bs = nat_le 2 (length bs) && ((slice_index bs 0 == 34) && (slice_index bs (length bs - 1) == 34))

-- the text without one pair of double quotes around it
abbrev pub unquoted : List ℕ → List ℕ
unquoted bs = if is_quoted bs then slice_range bs 1 (length bs - 1) else bs

-- the name in a body, without blanks and quotes around it
abbrev pub bare : List ℕ → List ℕ
bare bs = unquoted (without_trailing (without_leading bs))

-- The table

-- this code, without a word
abbrev pub plain : ℕ → AnswerToNode
plain code = record { code = code; word = None }

-- the node calls again
abbrev pub again : AnswerToNode
again = plain 503

-- a code, and what a node is told for it
pub record Row : Type 0 where
  pub code : ℕ
  pub told : AnswerToNode

-- what a table has for a code; if the code is not in it, the node calls again
abbrev pub told_in : List Row → ℕ → AnswerToNode
told_in [] n = again
told_in (row ∷ rows) n = if n == row.code then row.told else told_in rows n

-- the node is told the code itself
abbrev pub passed : ℕ → Row
passed code = record { code = code; told = plain code }

-- for each word in the answer to compensate: only the words of this act mean that it is done, goes
-- on or failed
abbrev pub told_compensate : MemberStatus → AnswerToNode
told_compensate word.Compensated = plain 200
told_compensate word.Compensating = plain 202
told_compensate word.FailedToCompensate = plain 409
told_compensate word.Active = again
told_compensate word.Completing = again
told_compensate word.Completed = again
told_compensate word.FailedToComplete = again

-- for each word in the answer to complete
abbrev pub told_complete : MemberStatus → AnswerToNode
told_complete word.Completed = plain 200
told_complete word.Completing = plain 202
told_complete word.FailedToComplete = plain 409
told_complete word.Active = again
told_complete word.Compensating = again
told_complete word.Compensated = again
told_complete word.FailedToCompensate = again

-- the act is done, unless a word says otherwise
abbrev pub told_by_word : (MemberStatus → AnswerToNode) → Option MemberStatus → AnswerToNode
told_by_word told None = plain 200
told_by_word told (Some w) = told w

-- for calls to complete and to compensate
abbrev pub act_rows : AnswerToNode → List Row
act_rows good =
    record { code = 200; told = good }
    ∷ record { code = 204; told = good }
    ∷ passed 202
    ∷ passed 404
    ∷ passed 409
    ∷ passed 410
    ∷ []

-- the node is told a status by its word
abbrev pub told_word : Option MemberStatus → AnswerToNode
told_word None = again
told_word (Some w) = record { code = 200; word = Some w }

-- for the question about the status
abbrev pub status_rows : AnswerToNode → List Row
status_rows good = record { code = 200; told = good } ∷ passed 202 ∷ passed 404 ∷ passed 410 ∷ []

-- for calls to forget, and for notices that the LRA has ended
abbrev pub passed_rows : List Row
passed_rows = passed 200 ∷ passed 202 ∷ passed 204 ∷ passed 404 ∷ passed 410 ∷ []

-- what a node is told about a whole answer
abbrev pub told_of_whole : LinkKind → ℕ → Option MemberStatus → AnswerToNode
told_of_whole Compensate code word = told_in (act_rows (told_by_word told_compensate word)) code
told_of_whole Complete code word = told_in (act_rows (told_by_word told_complete word)) code
told_of_whole Status code word = told_in (status_rows (told_word word)) code
told_of_whole Forget code word = told_in passed_rows code
told_of_whole After code word = told_in passed_rows code

-- what a node is told
abbrev pub told_of : LinkKind → ParticipantAnswer → AnswerToNode
told_of kind (Whole code word) = told_of_whole kind code word
told_of kind Broken = again
told_of kind Unreached = plain 502
told_of kind Late = plain 504

-- What the participant said

-- a call is to complete or to compensate
abbrev pub IsAct : LinkKind → Type 0
IsAct Compensate = ⊤
IsAct Complete = ⊤
IsAct Status = ⊥
IsAct Forget = ⊥
IsAct After = ⊥

-- the words for an act that is done, that goes on, and that failed
abbrev pub IsDoneWord : LinkKind → MemberStatus → Type 0
IsDoneWord Compensate w = w ≡ word.Compensated
IsDoneWord Complete w = w ≡ word.Completed
IsDoneWord Status w = ⊥
IsDoneWord Forget w = ⊥
IsDoneWord After w = ⊥

abbrev pub IsBusyWord : LinkKind → MemberStatus → Type 0
IsBusyWord Compensate w = w ≡ word.Compensating
IsBusyWord Complete w = w ≡ word.Completing
IsBusyWord Status w = ⊥
IsBusyWord Forget w = ⊥
IsBusyWord After w = ⊥

abbrev pub IsFailedWord : LinkKind → MemberStatus → Type 0
IsFailedWord Compensate w = w ≡ word.FailedToCompensate
IsFailedWord Complete w = w ≡ word.FailedToComplete
IsFailedWord Status w = ⊥
IsFailedWord Forget w = ⊥
IsFailedWord After w = ⊥

abbrev pub IsGood : ℕ → Type 0
IsGood code = (code ≡ 200) ⊎ (code ≡ 204)

-- the participant said that the act is done: by 410, or by 200 or 204 with the word for it or
-- without a word
abbrev pub SaysDone : LinkKind → ParticipantAnswer → Type 0
SaysDone kind (Whole code None) = (code ≡ 410) ⊎ IsGood code
SaysDone kind (Whole code (Some w)) = (code ≡ 410) ⊎ (IsGood code × IsDoneWord kind w)
SaysDone kind Broken = ⊥
SaysDone kind Unreached = ⊥
SaysDone kind Late = ⊥

-- the participant said that the act goes on: by 202, or by 200 or 204 with the word for it
abbrev pub SaysBusy : LinkKind → ParticipantAnswer → Type 0
SaysBusy kind (Whole code None) = code ≡ 202
SaysBusy kind (Whole code (Some w)) = (code ≡ 202) ⊎ (IsGood code × IsBusyWord kind w)
SaysBusy kind Broken = ⊥
SaysBusy kind Unreached = ⊥
SaysBusy kind Late = ⊥

-- the participant said that the act failed: by 409, or by 200 or 204 with the word for it
abbrev pub SaysFailed : LinkKind → ParticipantAnswer → Type 0
SaysFailed kind (Whole code None) = code ≡ 409
SaysFailed kind (Whole code (Some w)) = (code ≡ 409) ⊎ (IsGood code × IsFailedWord kind w)
SaysFailed kind Broken = ⊥
SaysFailed kind Unreached = ⊥
SaysFailed kind Late = ⊥

-- a node takes this code, for a call to complete or to compensate, to mean that the act is done
abbrev pub IsHeardDone : ℕ → Type 0
IsHeardDone code = (code ≡ 200) ⊎ ((code ≡ 204) ⊎ (code ≡ 410))
