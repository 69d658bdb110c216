-- What a worker does: it serves connection after connection, until the arrivals end or a refusal
-- ends the run.
use Rattle.std.specs.Prelude.{◌≡◌, ⊤, ℕ, List, [], ◌∷◌, MatchBool, Option, Some, None, Result, Ok, Err}
use Rattle.state_facts.specs.declared.refusal.Refusal.{Refusal}
use Rattle.state_facts.specs.declared.refusal.Refusal.TheVariants.{JournalFailed, Stopped, RunFull, TrailLost}
use Rattle.wire_http.specs.declared.Sink.{Ghosts as OfSink}
use Rattle.wire_http.specs.declared.Source.{Ghosts as OfSource}
use Rattle.wire_http.specs.declared.fault.Fault.{Fault}
use Rattle.wire_http.specs.declared.message.Request.{Request}
use Rattle.state_book.specs.declared.calls.Call.{Call}
use Rattle.state_book.specs.declared.calls.Reply.{Reply}
use Rattle.state_book.specs.declared.clerk.Clerk.{Ghosts as OfClerk}
use Rattle.wire_api.specs.Routes.{routed}
use Rattle.wire_api.specs.Serving.{Makes}
use Rattle.wire_api.specs.Serving as serving
use Rattle.wire_api.specs.Streams.{IsReading}
use Rattle.wire_api.specs.declared.serving.ServeError.{ServeError}
use Rattle.wire_api.specs.declared.serving.ServeError.TheVariants.{Refused}
use Rattle.node_worker.specs.Addressees.{is_misdirected, misdirected_answer}
use Rattle.node_worker.specs.declared.addressee.Addressee.{Addressee}
use Rattle.node_worker.specs.declared.addressee.Addressee.TheVariants.{Anyone, Node}
use Rattle.node_worker.specs.declared.addressee.NodeName.{NodeName}
use Rattle.node_worker.specs.declared.arrivals.Connection.{Connection}

-- a refusal, if it ends the run in which it came: E18 to E21
abbrev pub ending_by : Refusal → Option Refusal
ending_by JournalFailed = Some JournalFailed
ending_by Stopped = Some Stopped
ending_by RunFull = Some RunFull
ending_by (TrailLost number) = Some (TrailLost number)
ending_by _ = None

-- the refusal that ends the run, if there was one
abbrev pub ending_of : Result ⊤ ServeError → Option Refusal
ending_of (Err (Refused refusal)) = ending_by refusal
ending_of _ = None

-- Serving. `same`: no call is made. `makes`: this call is made, once, with this result

-- A request is served by a node with a name: for a pull that is meant for another node no call is
-- made, and the text of that answer is written; each other request is served by the interface,
-- unless something is wrong with its body
abbrev pub ServesNamed : {W : Type 0} → NodeName → (same : Type 0) → (makes : Call → Result Reply Refusal → Type 0) → OfSink W → (old new : W) → (now : ℕ) → Request → Result ⊤ ServeError → Type 0
ServesNamed node same makes sink old new now request result =
    MatchBool (is_misdirected node request)
    (same × serving.Ends sink old new (misdirected_answer node) None result)
    (serving.ServesOrExplains same makes sink old new now request result)

-- if any node may be meant, the interface serves everything
abbrev pub ServesRequest : {W : Type 0} → Addressee → (same : Type 0) → (makes : Call → Result Reply Refusal → Type 0) → OfSink W → (old new : W) → (now : ℕ) → Request → Result ⊤ ServeError → Type 0
ServesRequest Anyone same makes sink old new now request result = serving.ServesRequest same makes sink old new (routed now request) result
ServesRequest (Node node) same makes sink old new now request result = ServesNamed node same makes sink old new now request result

-- what was read is served: a request in this way, and a fault by the interface
abbrev pub ServesRead : {W : Type 0} → Addressee → (same : Type 0) → (makes : Call → Result Reply Refusal → Type 0) → OfSink W → (old new : W) → (now : ℕ) → Result Request Fault → Result ⊤ ServeError → Type 0
ServesRead addressee same makes sink old new now (Ok request) result = ServesRequest addressee same makes sink old new now request result
ServesRead addressee same makes sink old new now (Err f) result = same × serving.ServesFault sink old new f result

-- One connection is served, with this ending: one request is read, the call that it asks for is
-- made at the connection's moment, once, unless it is misdirected or its body is wrong, and one
-- answer is written
abbrev pub Serves : {R W C : Type 0} → Addressee → OfSource R → OfSink W → OfClerk C → Connection R W → (old new : C) → Option Refusal → Type 0
Serves {R} {W} addressee source sink clerk c old new ending =
    (reader : R) × (writer : W) × (read : Result Request Fault) × (result : Result ⊤ ServeError)
    × IsReading source c.reader reader read
    × ServesRead addressee (new ≡ old) (Makes clerk old new c.now) sink c.writer writer c.now read result
    × (ending ≡ ending_of result)

-- each of the connections was given and served, in order, and none ended the run
abbrev pub ServesEach : {A R W C : Type 0} → Addressee → (A → Option (Connection R W) → A → Type 0) → OfSource R → OfSink W → OfClerk C → A → C → List (Connection R W) → A → C → Type 0
ServesEach addressee gives source sink clerk a old [] b new = (b ≡ a) × (new ≡ old)
ServesEach addressee gives source sink clerk a old (c ∷ cs) b new =
    (between : _) × (then_ : _) × gives a (Some c) between × Serves addressee source sink clerk c old then_ None × ServesEach addressee gives source sink clerk between then_ cs b new

-- the last arrival: none, or a connection whose service ended the run
abbrev pub Ends : {A R W C : Type 0} → Addressee → (A → Option (Connection R W) → A → Type 0) → OfSource R → OfSink W → OfClerk C → A → C → A → C → Option Refusal → Type 0
Ends addressee gives source sink clerk a old b new None = gives a None b × (new ≡ old)
Ends addressee gives source sink clerk a old b new (Some refusal) =
    (c : Connection _ _) × gives a (Some c) b × Serves addressee source sink clerk c old new (Some refusal)

-- What a worker did between the arrivals a and b, with its clerk before and after
abbrev pub Works : {A R W C : Type 0} → Addressee → (A → Option (Connection R W) → A → Type 0) → OfSource R → OfSink W → OfClerk C → A → C → A → C → Option Refusal → Type 0
Works addressee gives source sink clerk a old b new ending =
    (cs : List (Connection _ _)) × (last : _) × (then_ : _) × ServesEach addressee gives source sink clerk a old cs last then_ × Ends addressee gives source sink clerk last then_ b new ending
