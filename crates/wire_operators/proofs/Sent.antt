-- What was written at an operator's port.
use Rattle.std.specs.Prelude.{⊤}
use Rattle.std.proofs.Common.{◌≡◌, inl, inr, ℕ, Option, Some, None, Result, Ok, Err, IfErr, IfOk, refl, subst, sym}
use Rattle.state_facts.specs.declared.refusal.Refusal.{Refusal}
use Rattle.wire_http.specs.declared.Sink.{Ghosts as OfSink}
use Rattle.wire_http.specs.ByteResponses.{Response}
use Rattle.wire_http.specs.declared.message.Request.{Request}
use Rattle.wire_api.specs.Serving.{Ends, EndsNoMemory}
use Rattle.wire_api.specs.declared.serving.ServeError.{ServeError}
use Rattle.state_book.specs.declared.calls.Call.{Call}
use Rattle.state_book.specs.declared.calls.Reply.{Reply}
use Rattle.wire_operators.specs.Serving.{EndsTold, ServesCall, ServesWanted, answer_at, call_of}
use Rattle.wire_operators.specs.declared.wanted.Topic.{Topic}
use Rattle.wire_operators.specs.declared.wanted.Wanted.{Wanted}

-- the answer to what came of a call
pub replied : {W : Type 0} (w : Wanted) (makes : Result Reply Refusal → Type 0) (sink : OfSink W) (old new : W) (seen reply : Reply) (result : Result ⊤ ServeError)
    → makes (Ok reply) → seen ≡ reply → Ends sink old new (answer_at w seen) None result → ServesCall w makes sink old new result
replied w makes sink old new seen reply result made is ends =
    (Ok reply, made, subst (λ (r : Reply). Ends sink old new (answer_at w r) None result) is ends)

-- an answer that is the right one tells of what that does
pub tells : {E : Type 0} (made : Result Response E) (right : Response) (told : Response → Type 0) → told right → IfOk made (λ (response : Response). response ≡ right) → IfOk made told
tells (Ok response) right told so is = subst told (sym is) so
tells (Err e) right told so is = tt

-- the answer that was made is written; if none was, the memory was refused
pub ended : {E W : Type 0} (told : Response → Type 0) (made : Result Response E) (sink : OfSink W) (old new : W) (result : Result ⊤ ServeError)
    → IfOk made told → ((right : Response) → IfOk made (λ (response : Response). response ≡ right) → Ends sink old new right None result)
    → IfErr made (λ e. EndsNoMemory sink old new None result) → EndsTold told sink old new result
ended told (Ok response) sink old new result is right none = inl (response, is, right response refl)
ended told (Err e) sink old new result is right none = inr none

-- a call was made for what is wanted
pub called : {W : Type 0} (same : Type 0) (makes : Call → Result Reply Refusal → Type 0) (told : Topic → Response → Type 0) (sink : OfSink W) (old new : W) (now : ℕ) (request : Request)
    (w seen : Wanted) (c : Call) (result : Result ⊤ ServeError)
    → seen ≡ w → call_of seen ≡ Some c → ServesCall seen (makes c) sink old new result
    → ServesWanted same makes told sink old new now request w (call_of w) result
called same makes told sink old new now request w seen c result is calls served =
    subst (λ (v : Wanted). ServesWanted same makes told sink old new now request v (call_of v) result) is
    (subst (λ (o : Option Call). ServesWanted same makes told sink old new now request seen o result) (sym calls) served)
