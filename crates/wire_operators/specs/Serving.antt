-- What serving one request at an operator's port results in.
use Rattle.std.specs.Prelude.{◌≡◌, ◌⊎◌, ⊤, ℕ, true, false, List, [], ◌∷◌, ◌++◌, codes, Option, Some, None, MatchBool, Result, Ok, Err}
use Rattle.state_facts.specs.declared.refusal.Refusal.{Refusal}
use Rattle.state_facts.specs.declared.refusal.Refusal.TheVariants.{BadText}
use Rattle.state_facts.specs.declared.command.Command.TheVariants as command
use Rattle.wire_http.specs.declared.Sink.{Ghosts as OfSink}
use Rattle.wire_http.specs.declared.fault.Fault.{Fault}
use Rattle.wire_http.specs.declared.message.Field.{Field}
use Rattle.wire_http.specs.declared.message.Request.{Request}
use Rattle.wire_http.specs.ByteResponses.{Response}
use Rattle.state_book.specs.declared.calls.Call.{Call}
use Rattle.state_book.specs.declared.calls.Call.TheVariants as call
use Rattle.state_book.specs.declared.calls.Reply.{Reply}
use Rattle.state_book.specs.declared.calls.Reply.TheVariants.{Held, Surveyed}
use Rattle.wire_api.specs.Answers.{answer_of, ok_json, refusal_answer, with_body}
use Rattle.wire_api.specs.Routes.{routed}
use Rattle.wire_api.specs.Serving.{Ends, EndsNoMemory, ServesFault, ServesRequest, refusal_in}
use Rattle.wire_api.specs.declared.serving.ServeError.{ServeError}
use Rattle.wire_operators.specs.Doors.{foreign_answer, is_foreign}
use Rattle.wire_operators.specs.Json.{named, opened, truth, word}
use Rattle.wire_operators.specs.Records.{record_body}
use Rattle.wire_operators.specs.Surveys.{survey_body}
use Rattle.wire_operators.specs.Wanted.{wanted}
use Rattle.wire_operators.specs.declared.page.TheConstants.{PAGE}
use Rattle.wire_operators.specs.declared.state.State.{Ghosts as OfState}
use Rattle.wire_operators.specs.declared.wanted.Topic.{Topic}
use Rattle.wire_operators.specs.declared.wanted.Topic.TheVariants.{Page, Health, Ready, Metrics, Calls}
use Rattle.wire_operators.specs.declared.wanted.Wanted.{Wanted}
use Rattle.wire_operators.specs.declared.wanted.Wanted.TheVariants.{Tell, List as AskList, Record, Forgot, Told, Broken, Other}

-- the call that is wanted, if a call is
abbrev pub call_of : Wanted → Option Call
call_of (AskList f) = Some (call.Survey f.after)
call_of (Record id) = Some (call.Record id)
call_of (Forgot id m) = Some (call.Command (command.Forgot id m))
call_of (Told id m) = Some (call.Command (command.Told id m))
call_of (Tell topic) = None
call_of Broken = None
call_of Other = None

-- the answer to its reply: a list shows the rows of its filter, a record everything that is held;
-- otherwise the interface's answer
abbrev pub answer_at : Wanted → Reply → Response
answer_at (AskList f) (Surveyed s) = ok_json (survey_body f s)
answer_at (Record id) (Held h) = ok_json (record_body h)
answer_at w reply = answer_of reply

abbrev pub answer_to : Wanted → Result Reply Refusal → Response
answer_to w (Ok reply) = answer_at w reply
answer_to w (Err refusal) = refusal_answer refusal

-- a call is made, and the answer to its result is written
abbrev pub ServesCall : {W : Type 0} → Wanted → (makes : Result Reply Refusal → Type 0) → OfSink W → (old new : W) → Result ⊤ ServeError → Type 0
ServesCall w makes sink old new result =
    (outcome : Result Reply Refusal) × makes outcome × Ends sink old new (answer_to w outcome) (refusal_in outcome) result

-- the page, which no other page may show in a frame
abbrev pub frame_options : Field
frame_options = record { name = codes "X-Frame-Options"; value = codes "DENY" }

abbrev pub page_answer : List ℕ → Response
page_answer text = with_body 200 (frame_options ∷ []) (codes "text/html; charset=utf-8") text

-- the counts
abbrev pub counts_answer : List ℕ → Response
counts_answer text = with_body 200 [] (codes "text/plain; version=0.0.4") text

-- whether the node accepts commands, and why not
unfoldable pub ready_text : Option (List ℕ) → List ℕ
ready_text None = opened (codes "ready") (truth true) ++ codes "}"
ready_text (Some cause) = opened (codes "ready") (truth false) ++ (named (codes "cause") (word cause) ++ codes "}")

abbrev pub ready_answer : Option (List ℕ) → Response
ready_answer None = ok_json (ready_text None)
ready_answer (Some cause) = with_body 503 [] (codes "application/json") (ready_text (Some cause))

-- The answer about a topic: the page, or a text of the state. Each state says which texts it may
-- give for a topic
abbrev pub IsTold : {T : Type 0} → OfState T → T → Topic → Response → Type 0
IsTold of state Page response = response ≡ page_answer PAGE.now
IsTold of state Health response = (text : List ℕ) × of.tells state Health text × (response ≡ ok_json text)
IsTold of state Ready response = (cause : Option (List ℕ)) × of.causes state cause × (response ≡ ready_answer cause)
IsTold of state Metrics response = (text : List ℕ) × of.tells state Metrics text × (response ≡ counts_answer text)
IsTold of state Calls response = (text : List ℕ) × of.tells state Calls text × (response ≡ ok_json text)

-- that answer is written, or memory was refused
abbrev pub EndsTold : {W : Type 0} → (told : Response → Type 0) → OfSink W → (old new : W) → Result ⊤ ServeError → Type 0
EndsTold told sink old new result =
    ((response : Response) × told response × Ends sink old new response None result) ⊎ EndsNoMemory sink old new None result

-- What is wanted is served if it is not a call: what the interface offers is served as it serves
-- it, a topic is answered, and anything else is a broken text, E1. `told`: which answers there may
-- be about a topic
abbrev pub ServesOther : {W : Type 0} → (same : Type 0) → (makes : Call → Result Reply Refusal → Type 0) → (told : Topic → Response → Type 0) → OfSink W → (old new : W) → ℕ → Request → Wanted
    → Result ⊤ ServeError → Type 0
ServesOther same makes told sink old new now request Other result = ServesRequest same makes sink old new (routed now request) result
ServesOther same makes told sink old new now request (Tell topic) result = same × EndsTold (told topic) sink old new result
ServesOther same makes told sink old new now request _ result = same × Ends sink old new (refusal_answer BadText) None result

abbrev pub ServesWanted : {W : Type 0} → (same : Type 0) → (makes : Call → Result Reply Refusal → Type 0) → (told : Topic → Response → Type 0) → OfSink W → (old new : W) → ℕ → Request → Wanted
    → Option Call → Result ⊤ ServeError → Type 0
ServesWanted same makes told sink old new now request w (Some c) result = ServesCall w (makes c) sink old new result
ServesWanted same makes told sink old new now request w None result = ServesOther same makes told sink old new now request w result

-- a request that is foreign to a node with these names is refused; any other is served by what it
-- wants
abbrev pub ServesAsked : {W : Type 0} → (same : Type 0) → (makes : Call → Result Reply Refusal → Type 0) → (told : Topic → Response → Type 0) → OfSink W → (old new : W) → ℕ → Request → (names : List (List ℕ))
    → Result ⊤ ServeError → Type 0
ServesAsked same makes told sink old new now request names result =
    MatchBool (is_foreign names request.fields)
    (same × Ends sink old new foreign_answer None result)
    (ServesWanted same makes told sink old new now request (wanted request) (call_of (wanted request)) result)

-- What was read is served: a request by what it wants, unless it is foreign, and a fault as the
-- interface does. `same`: no call is made. `makes`: this call is made, once, with this result.
-- `told`: which answers there may be about a topic. `named`: the names that the node may have
abbrev pub Serves : {W : Type 0} → (same : Type 0) → (makes : Call → Result Reply Refusal → Type 0) → (told : Topic → Response → Type 0) → (named : List (List ℕ) → Type 0) → OfSink W → (old new : W) → ℕ
    → Result Request Fault → Result ⊤ ServeError → Type 0
Serves same makes told named sink old new now (Ok request) result =
    (names : List (List ℕ)) × named names × ServesAsked same makes told sink old new now request names result
Serves same makes told named sink old new now (Err f) result = same × ServesFault sink old new f result
