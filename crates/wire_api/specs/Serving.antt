-- What serving one request over a connection results in.
use Rattle.std.specs.Prelude.{◌≡◌, ◌⊎◌, ⊤, ℕ, List, Option, Some, None, Result, Ok, Err}
use Rattle.state_facts.specs.declared.refusal.Refusal.{Refusal}
use Rattle.state_facts.specs.declared.refusal.Refusal.TheVariants.{NoMemory}
use Rattle.wire_http.specs.MessageTexts.{response_text}
use Rattle.wire_http.specs.declared.Sink.{Ghosts as OfSink}
use Rattle.wire_http.specs.declared.fault.Fault.{Fault}
use Rattle.wire_http.specs.declared.fault.Fault.TheVariants as fault
use Rattle.wire_http.specs.declared.message.Request.{Request}
use Rattle.wire_http.specs.ByteResponses.{Response}
use Rattle.state_book.specs.Clerks.{IsOutcome}
use Rattle.state_book.specs.declared.calls.Call.{Call}
use Rattle.state_book.specs.declared.clerk.Clerk.{Ghosts as OfClerk}
use Rattle.state_book.specs.declared.calls.Reply.{Reply}
use Rattle.wire_api.specs.declared.routing.Unrouted.{Unrouted}
use Rattle.wire_api.specs.declared.serving.ServeError.{ServeError}
use Rattle.wire_api.specs.declared.serving.ServeError.TheVariants.{Refused, Cut, ReadFault, WriteFault}
use Rattle.wire_api.specs.Answers.{answer_of, fault_answer, refusal_answer, unrouted_answer, why_answer}
use Rattle.wire_api.specs.Routes.{routed}
use Rattle.wire_api.specs.Streams.{Sends, SendsNothing, SendsPart}
use Rattle.wire_api.specs.BodyFaults.{why_in}

-- the text of E17 was written; or, if a write failed, a part of it; or nothing
abbrev pub WritesNoMemory : {W : Type 0} → OfSink W → (old new : W) → Type 0
WritesNoMemory sink old new =
    SendsNothing old new
    ⊎ (Sends sink old new (response_text (refusal_answer NoMemory))
    ⊎ SendsPart sink old new (response_text (refusal_answer NoMemory)))

-- the result after an answer: a clerk's refusal takes precedence over how writing ended
abbrev pub told_first : Option Refusal → Result ⊤ ServeError → Result ⊤ ServeError
told_first None ended = ended
told_first (Some refusal) ended = Err (Refused refusal)

-- memory was refused, and the text for that is written, or a part of it, or nothing
abbrev pub EndsNoMemory : {W : Type 0} → OfSink W → (old new : W) → Option Refusal → Result ⊤ ServeError → Type 0
EndsNoMemory sink old new refusal result = (result ≡ told_first refusal (Err (Refused NoMemory))) × WritesNoMemory sink old new

-- the text of an answer was written; or, if a write failed, a part of it; or memory was refused
abbrev pub Ends : {W : Type 0} → OfSink W → (old new : W) → Response → Option Refusal → Result ⊤ ServeError → Type 0
Ends sink old new response refusal result =
    ((result ≡ told_first refusal (Ok tt)) × Sends sink old new (response_text response))
    ⊎ (((result ≡ told_first refusal (Err WriteFault)) × SendsPart sink old new (response_text response))
    ⊎ EndsNoMemory sink old new refusal result)

-- Serving. `same`: no call is made. `makes`: this call is made, once, with this result

-- one call of a clerk, and its receipt
abbrev pub Makes : {C : Type 0} → OfClerk C → (old new : C) → (now : ℕ) → Call → Result Reply Refusal → Type 0
Makes clerk old new now call outcome = IsOutcome (clerk.receipts old) (clerk.receipts new) call outcome × clerk.called old new call now outcome

-- the answer to the result of a call, and the refusal that it is for
abbrev pub answer_to : Result Reply Refusal → Response
answer_to (Ok reply) = answer_of reply
answer_to (Err refusal) = refusal_answer refusal

abbrev pub refusal_in : Result Reply Refusal → Option Refusal
refusal_in (Ok reply) = None
refusal_in (Err refusal) = Some refusal

-- a call is made, and the answer to its result is written
abbrev pub ServesCall : {W : Type 0} → (makes : Result Reply Refusal → Type 0) → OfSink W → (old new : W) → Result ⊤ ServeError → Type 0
ServesCall makes sink old new result =
    (outcome : Result Reply Refusal) × makes outcome × Ends sink old new (answer_to outcome) (refusal_in outcome) result

-- a request is served that asks for this call, or for none
abbrev pub ServesRequest : {W : Type 0} → (same : Type 0) → (makes : Call → Result Reply Refusal → Type 0) → OfSink W → (old new : W) → Result Call Unrouted → Result ⊤ ServeError → Type 0
ServesRequest same makes sink old new (Ok call) result =
    ServesCall (makes call) sink old new result ⊎ (same × EndsNoMemory sink old new None result)
ServesRequest same makes sink old new (Err unrouted) result =
    same × Ends sink old new (unrouted_answer unrouted) None result

-- A request is served unless something is wrong with its body: then no call is made, and the answer that says why is written
abbrev pub ServesUnless : {W : Type 0} → (why : Option (List ℕ)) → (same : Type 0) → (makes : Call → Result Reply Refusal → Type 0) → OfSink W → (old new : W) → Result Call Unrouted → Result ⊤ ServeError → Type 0
ServesUnless (Some why) same makes sink old new asked result = same × Ends sink old new (why_answer why) None result
ServesUnless None same makes sink old new asked result = ServesRequest same makes sink old new asked result

abbrev pub ServesOrExplains : {W : Type 0} → (same : Type 0) → (makes : Call → Result Reply Refusal → Type 0) → OfSink W → (old new : W) → (now : ℕ) → Request → Result ⊤ ServeError → Type 0
ServesOrExplains same makes sink old new now request result = ServesUnless (why_in now request) same makes sink old new (routed now request) result

-- input that is not a whole request is served: nothing is written if the input ended or a read
-- failed
abbrev pub ServesFault : {W : Type 0} → OfSink W → (old new : W) → Fault → Result ⊤ ServeError → Type 0
ServesFault sink old new fault.Cut result = (result ≡ Err Cut) × SendsNothing old new
ServesFault sink old new fault.ReadFault result = (result ≡ Err ReadFault) × SendsNothing old new
ServesFault sink old new fault.NoMemory result = EndsNoMemory sink old new None result
ServesFault sink old new fault.WriteFault result = ⊥
ServesFault sink old new fault.BadHead result = Ends sink old new (fault_answer fault.BadHead) None result
ServesFault sink old new fault.BodyTooLong result = Ends sink old new (fault_answer fault.BodyTooLong) None result
ServesFault sink old new fault.HeadTooLong result = Ends sink old new (fault_answer fault.HeadTooLong) None result
ServesFault sink old new fault.LengthNeeded result = Ends sink old new (fault_answer fault.LengthNeeded) None result
ServesFault sink old new fault.NotOffered result = Ends sink old new (fault_answer fault.NotOffered) None result

abbrev pub Serves : {W : Type 0} → (same : Type 0) → (makes : Call → Result Reply Refusal → Type 0) → OfSink W → (old new : W) → (now : ℕ) → Result Request Fault → Result ⊤ ServeError → Type 0
Serves same makes sink old new now (Ok request) result = ServesRequest same makes sink old new (routed now request) result
Serves same makes sink old new now (Err f) result = same × ServesFault sink old new f result
