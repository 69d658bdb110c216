-- What one call over a connection results in.
use Rattle.std.specs.Prelude.{◌≡◌, ◌≢◌, ℕ, ◌+◌, List, length}
use Rattle.http.specs.StatusCode.{IsStatusCode}
use Rattle.wire_http.specs.declared.fault.Fault.{Fault}
use Rattle.wire_http.specs.declared.fault.Fault.TheVariants.{NoMemory}
use Rattle.wire_http.specs.ByteResponses.{Response}
use Rattle.wire_http.specs.Bodies.{max_body_bytes}
use Rattle.wire_http.specs.Faults.{Stops}
use Rattle.wire_http.specs.Heads.{max_head_bytes}
use Rattle.wire_http.specs.Responses.{IsResponseMessage, ShowsNoResponse}
use Rattle.wire_http.specs.Streams.{AllWell, Calls, GivenBytes, GivesWhat, IsFlushed, IsLost, OnReadFault, TakenBytes, Takes, TakesPart}
use Rattle.wire_callbacks.specs.declared.answer.Answer.{Answer}
use Rattle.wire_callbacks.specs.declared.answer.Answer.TheVariants.{Code, Broken}

-- the two ends of a connection
pub record Ends (R W : Type 0) : Type 0 where
  pub reader : R
  pub writer : W

-- the most reads of an answer, apart from the interrupted ones
abbrev pub answer_reads : ℕ
answer_reads = max_head_bytes + 1 + max_body_bytes

-- the bytes are exactly a whole response with this code and this body
pub record HasAnswered (bytes : List ℕ) (code : ℕ) (body : List ℕ) : Type 0 where
  pub response : Response
  pub whole : IsResponseMessage max_body_bytes bytes response
  pub code_is : code ≡ response.status
  pub body_is : body ≡ response.body

-- the code and the body are those of the response that was given
abbrev pub IsCodeOf : (old new : GivenBytes) → Answer → Type 0
IsCodeOf old new (Code code body) = GivesWhat old new (λ bytes. HasAnswered bytes code body)
IsCodeOf old new Broken = Unit {0}

-- what was given shows why there is no whole response, or a read failed
abbrev pub IsUnanswered : (old new : GivenBytes) (before after : Calls) → Type 0
IsUnanswered old new before after =
    (fault : Fault) × (fault ≢ NoMemory) × Stops old new (ShowsNoResponse max_body_bytes) fault
    × OnReadFault (IsLost answer_reads 0 before after) (AllWell answer_reads 0 before after) fault

-- what was given determines the answer, and the reads came out accordingly
abbrev pub IsTold : (old new : GivenBytes) (before after : Calls) → Answer → Type 0
IsTold old new before after (Code code body) = IsCodeOf old new (Code code body) × AllWell answer_reads 0 before after
IsTold old new before after Broken = IsUnanswered old new before after

-- a write failed behind some prefix of the request
abbrev pub IsUnsent : (old new : TakenBytes) (before after : Calls) → List ℕ → Type 0
IsUnsent old new before after text = TakesPart old new text × IsLost (length text + 1) 0 before after

abbrev pub IsBroken : Answer → Type 0
IsBroken (Code code body) = ⊥
IsBroken Broken = Unit {0}

-- a code has three digits
abbrev pub IsOfStatus : Answer → Type 0
IsOfStatus (Code code body) = IsStatusCode code
IsOfStatus Broken = Unit {0}
