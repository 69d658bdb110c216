-- What is learned from a participant that is called for a duty.
use Rattle.std.specs.Prelude.{◌≡◌, ◌≢◌, ◌⊎◌}
use Rattle.wire_http.specs.declared.message.CallRequest.{CallRequest}
use Rattle.wire_callbacks.specs.declared.answer.Answer.{Answer}
use Rattle.wire_callbacks.specs.declared.answer.Answer.TheVariants.{Broken, Code}
use Rattle.wire_callbacks.specs.declared.answer.Heard.{Heard}
use Rattle.wire_callbacks.specs.declared.answer.Heard.TheVariants.{Again}
use Rattle.wire_callbacks.specs.declared.call.Caller.{Ghosts as OfCaller}
use Rattle.wire_callbacks.specs.declared.duty.Duty.{Duty}
use Rattle.wire_callbacks.specs.Answers.{heard_of}
use Rattle.wire_callbacks.specs.CallRequests.{IsRequestOf}
use Rattle.node_schedule.specs.declared.plight.CallFailure.{CallFailure}
use Rattle.node_schedule.specs.declared.plight.CallFailure.TheVariants.{Broken as NoAnswer, Code as OtherCode}

-- for which duty a participant was called, and what was learned
pub record Said : Type 0 where
  pub duty : Duty
  pub heard : Heard

-- some answer to a call for this duty means this, and counts for something: so a call to complete
-- never yields a forgetting
pub record IsHeard (duty : Duty) (heard : Heard) : Type 0 where
  pub answer : Answer
  pub is : heard ≡ heard_of duty.act duty.kind answer
  pub counts : heard ≢ Again

-- the result of an answer that counts for nothing: its code, or no whole answer
abbrev pub came_of : Answer → CallFailure
came_of (Code code body) = OtherCode code
came_of Broken = NoAnswer

-- the caller gave this answer when it was called with the request for a duty
abbrev pub Answers : {C : Type 0} → OfCaller C → (old new : C) → Duty → Answer → Type 0
Answers caller old new duty answer = (request : CallRequest) × IsRequestOf duty request × caller.answered old new request answer

-- the caller was called with that request, and memory for an answer ran out
abbrev pub Starves : {C : Type 0} → OfCaller C → (old new : C) → Duty → Type 0
Starves caller old new duty = (request : CallRequest) × IsRequestOf duty request × caller.unanswered old new request

-- what was learned, from the answer to the request for this duty
abbrev pub IsHeardIn : {C : Type 0} → OfCaller C → (old new : C) → Duty → Said → Type 0
IsHeardIn caller old new duty said =
    (said.duty ≡ duty) × ((answer : Answer) × Answers caller old new duty answer × (said.heard ≡ heard_of duty.act duty.kind answer))

-- why nothing was learned: the answer to that request counts for nothing; or memory ran out for the
-- request, and nobody was called; or memory ran out for the answer
abbrev pub IsUnheardIn : {C : Type 0} → OfCaller C → (old new : C) → Duty → CallFailure → Type 0
IsUnheardIn caller old new duty came =
    ((answer : Answer) × Answers caller old new duty answer × (heard_of duty.act duty.kind answer ≡ Again) × (came ≡ came_of answer))
    ⊎ ((came ≡ NoAnswer) × ((new ≡ old) ⊎ Starves caller old new duty))
