-- One more connection; and a worker's clerk without its gate.
use Rattle.std.specs.Prelude.{⊤, Bool, true, false, MatchBool}
use Rattle.std.proofs.Common.{ℕ, List, [], ◌∷◌, ◌++◌, Option, Some, None, Result, Ok, Err, inl, inr, refl, ap, subst}
use Rattle.state_facts.specs.declared.refusal.Refusal.{Refusal}
use Rattle.wire_http.specs.declared.Sink.{Ghosts as OfSink}
use Rattle.wire_http.specs.declared.Source.{Ghosts as OfSource}
use Rattle.wire_http.specs.declared.fault.Fault.{Fault}
use Rattle.wire_http.specs.declared.message.Request.{Request}
use Rattle.state_book.specs.declared.calls.Call.{Call}
use Rattle.state_book.specs.declared.calls.Reply.{Reply}
use Rattle.state_book.specs.declared.clerk.Clerk.{Ghosts as OfClerk}
use Rattle.wire_api.specs.Routes.{routed}
use Rattle.wire_api.specs.Serving.{Makes}
use Rattle.wire_api.specs.Serving as serving
use Rattle.wire_api.specs.BodyFaults.{why_in}
use Rattle.wire_api.specs.declared.routing.Unrouted.{Unrouted}
use Rattle.wire_api.specs.declared.serving.ServeError.{ServeError}
use Rattle.node_worker.specs.Addressees.{is_misdirected, misdirected_answer}
use Rattle.node_worker.specs.Working.{Serves, ServesEach, ServesRead}
use Rattle.node_worker.specs.declared.addressee.Addressee.{Addressee}
use Rattle.node_worker.specs.declared.addressee.Addressee.TheVariants.{Anyone, Node}
use Rattle.node_worker.specs.declared.arrivals.Connection.{Connection}

-- after connections that were served, one more is given and served
pub served_next : {A R W C : Type 0} (addressee : Addressee) (gives : A → Option (Connection R W) → A → Type 0) (source : OfSource R) (sink : OfSink W) (clerk : OfClerk C) (a : A) (old : C) (cs : List (Connection R W)) (b : A) (new : C) (c : Connection R W) (b' : A) (new' : C) → ServesEach addressee gives source sink clerk a old cs b new → gives b (Some c) b' → Serves addressee source sink clerk c new new' None → ServesEach addressee gives source sink clerk a old (cs ++ c ∷ []) b' new'
served_next {A = A} {C = C} addressee gives source sink clerk a old [] b new c b' new' same given served =
    (b', new', subst (λ (x : A). gives x (Some c) b') same.0 given, subst (λ (x : C). Serves addressee source sink clerk c x new' None) same.1 served, (refl, refl))
served_next addressee gives source sink clerk a old (x ∷ cs) b new c b' new' (a', old', g, s, rest) given served =
    (a', old', g, s, served_next addressee gives source sink clerk a' old' cs b new c b' new' rest given served)

-- what is served if no call is made holds wherever that follows
request_by : {W A B : Type 0} → (A → B) → (makes : Call → Result Reply Refusal → Type 0) (sink : OfSink W) (old new : W) (asked : Result Call Unrouted) (result : Result ⊤ ServeError) → serving.ServesRequest A makes sink old new asked result → serving.ServesRequest B makes sink old new asked result
request_by f makes sink old new (Ok call) result (inl made) = inl made
request_by f makes sink old new (Ok call) result (inr (same, ends)) = inr (f same, ends)
request_by f makes sink old new (Err unrouted) result (same, ends) = (f same, ends)

strictly_by : {W A B : Type 0} → (why : Option (List ℕ)) → (A → B) → (makes : Call → Result Reply Refusal → Type 0) (sink : OfSink W) (old new : W) (asked : Result Call Unrouted) (result : Result ⊤ ServeError) → serving.ServesUnless why A makes sink old new asked result → serving.ServesUnless why B makes sink old new asked result
strictly_by (Some why) f makes sink old new asked result (same, ends) = (f same, ends)
strictly_by None f makes sink old new asked result served = request_by f makes sink old new asked result served

pub serves_by : {W A B : Type 0} → (addressee : Addressee) → (A → B) → (makes : Call → Result Reply Refusal → Type 0) (sink : OfSink W) (old new : W) (now : ℕ) (read : Result Request Fault) (result : Result ⊤ ServeError) → ServesRead addressee A makes sink old new now read result → ServesRead addressee B makes sink old new now read result
serves_by Anyone f makes sink old new now (Ok request) result served = request_by f makes sink old new (routed now request) result served
serves_by {A = A} {B = B} (Node node) f makes sink old new now (Ok request) result served = settle (is_misdirected node request) served
  where
    settle : (is : Bool) → MatchBool is (A × serving.Ends sink old new (misdirected_answer node) None result) (serving.ServesOrExplains A makes sink old new now request result)
        → MatchBool is (B × serving.Ends sink old new (misdirected_answer node) None result) (serving.ServesOrExplains B makes sink old new now request result)
    settle true (same, ends) = (f same, ends)
    settle false by_interface = strictly_by (why_in now request) f makes sink old new (routed now request) result by_interface
serves_by addressee f makes sink old new now (Err fault) result (same, ends) = (f same, ends)

-- a worker's clerk behind a gate makes the calls of the clerk
pub ungated : {R W C G : Type 0} (addressee : Addressee) (source : OfSource R) (sink : OfSink W) (clerk : OfClerk C) (inner : G → C) (c : Connection R W) (old new : G) (ending : Option Refusal) → Serves addressee source sink (record { receipts = λ g. clerk.receipts (inner g); called = λ a b. clerk.called (inner a) (inner b) }) c old new ending → Serves addressee source sink clerk c (inner old) (inner new) ending
ungated addressee source sink clerk inner c old new ending (reader, writer, read, result, reading, served, is) =
    (reader, writer, read, result, reading, serves_by addressee (ap inner) (Makes clerk (inner old) (inner new) c.now) sink c.writer writer c.now read result served, is)
