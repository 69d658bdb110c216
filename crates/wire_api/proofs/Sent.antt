-- What was written, given the result of writing a response.
use Rattle.std.specs.Prelude.{⊤}
use Rattle.std.proofs.Common.{◌≡◌, ◌+◌, ℕ, List, length, inl, inr, Option, Some, None, Result, Ok, Err, OnOk, OnErr, subst}
use Rattle.state_facts.specs.declared.refusal.Refusal.{Refusal}
use Rattle.state_facts.specs.declared.refusal.Refusal.TheVariants.{NoMemory}
use Rattle.wire_http.specs.MessageTexts.{response_text}
use Rattle.wire_http.specs.declared.Sink.{Ghosts as OfSink}
use Rattle.wire_http.specs.Streams.{IsFlushed, Takes, TakesPart, Writes}
use Rattle.wire_http.specs.declared.fault.Fault.{Fault}
use Rattle.wire_http.specs.declared.fault.Fault.TheVariants as fault
use Rattle.wire_http.specs.ByteResponses.{Response}
use Rattle.wire_api.specs.Answers.{answer_of, refusal_answer, why_answer}
use Rattle.wire_api.specs.Serving.{Ends, EndsNoMemory, ServesCall, ServesRequest, ServesUnless, WritesNoMemory}
use Rattle.wire_api.specs.Streams.{Sends, SendsPart}
use Rattle.wire_api.specs.declared.routing.Unrouted.{Unrouted}
use Rattle.state_book.specs.declared.calls.Call.{Call}
use Rattle.state_book.specs.declared.calls.Reply.{Reply}
use Rattle.wire_api.specs.declared.serving.ServeError.{ServeError}

-- the writing of E17's text, whatever its result
pub no_memory_written : {W : Type 0} (sink : OfSink W) (old new : W) (response : Response) (r : Result ⊤ Fault)
    → response ≡ refusal_answer NoMemory
    → OnOk r (Takes (sink.stream old) (sink.stream new) (response_text response) × IsFlushed (sink.stream new))
    → OnErr r (TakesPart (sink.stream old) (sink.stream new) (response_text response))
    → Writes (length (response_text response) + 1) (sink.calls old) (sink.calls new) (new ≡ old) r
    → WritesNoMemory sink old new
no_memory_written sink old new response (Ok u) is ok part streams =
    inr (inl (subst (λ (x : Response). Sends sink old new (response_text x)) is (ok.0, ok.1, streams)))
no_memory_written sink old new response (Err fault.WriteFault) is ok part streams =
    inr (inr (subst (λ (x : Response). SendsPart sink old new (response_text x)) is (streams, part)))
no_memory_written sink old new response (Err fault.NoMemory) is ok part streams = inl streams
no_memory_written sink old new response (Err fault.ReadFault) is ok part streams = absurd streams
no_memory_written sink old new response (Err fault.Cut) is ok part streams = absurd streams
no_memory_written sink old new response (Err fault.BadHead) is ok part streams = absurd streams
no_memory_written sink old new response (Err fault.HeadTooLong) is ok part streams = absurd streams
no_memory_written sink old new response (Err fault.BodyTooLong) is ok part streams = absurd streams
no_memory_written sink old new response (Err fault.LengthNeeded) is ok part streams = absurd streams
no_memory_written sink old new response (Err fault.NotOffered) is ok part streams = absurd streams

-- if the memory was refused before any call, it doesn't matter what was asked for
pub no_memory_served : {W : Type 0} (same : Type 0) (makes : Call → Result Reply Refusal → Type 0) (sink : OfSink W) (old new : W)
    (right : Result Call Unrouted) (result : Result ⊤ ServeError)
    → same → EndsNoMemory sink old new None result → ServesRequest same makes sink old new right result
no_memory_served same makes sink old new (Ok call) result s ends = inr (s, ends)
no_memory_served same makes sink old new (Err u) result s ends = (s, inr (inr ends))

-- nor whether something is wrong with the body
pub no_memory_unless : {W : Type 0} (why : Option (List ℕ)) (same : Type 0) (makes : Call → Result Reply Refusal → Type 0) (sink : OfSink W) (old new : W)
    (right : Result Call Unrouted) (result : Result ⊤ ServeError)
    → same → EndsNoMemory sink old new None result → ServesUnless why same makes sink old new right result
no_memory_unless (Some why) same makes sink old new right result s ends = (s, inr (inr ends))
no_memory_unless None same makes sink old new right result s ends = no_memory_served same makes sink old new right result s ends

-- the answer that says why a body is wrong
pub explained : {W : Type 0} (same : Type 0) (makes : Call → Result Reply Refusal → Type 0) (sink : OfSink W) (old new : W) (shown text : List ℕ)
    (why : Option (List ℕ)) (right : Result Call Unrouted) (result : Result ⊤ ServeError)
    → same → shown ≡ text → Some text ≡ why → Ends sink old new (why_answer shown) None result → ServesUnless why same makes sink old new right result
explained same makes sink old new shown text why right result s is wrong ends =
    subst (λ (w : Option (List ℕ)). ServesUnless w same makes sink old new right result) wrong
    (s, subst (λ (t : List ℕ). Ends sink old new (why_answer t) None result) is ends)

-- the answer to the result of a call
pub replied : {W : Type 0} (makes : Result Reply Refusal → Type 0) (sink : OfSink W) (old new : W) (seen reply : Reply) (result : Result ⊤ ServeError)
    → makes (Ok reply) → seen ≡ reply → Ends sink old new (answer_of seen) None result → ServesCall makes sink old new result
replied makes sink old new seen reply result made is ends = (Ok reply, made, subst (λ (r : Reply). Ends sink old new (answer_of r) None result) is ends)
