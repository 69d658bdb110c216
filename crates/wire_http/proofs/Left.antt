-- What was given is what was left before, if that is known.
use Rattle.std.proofs.Common.{◌≡◌, ℕ, ◌⊎◌, List, [], ◌++◌, sym, ◌∙◌, ap, refl, append_assoc, append-nil, Option, Some, None, IfSome, subst}
use Rattle.std.specs.Io.KnownBytes.{Consumes, IsAtEnd}
use Rattle.httparse.specs.Grammar.{RequestHead, ResponseHead, print_request}
use Rattle.wire_http.specs.declared.fault.Fault.{Fault}
use Rattle.wire_http.specs.declared.fault.Fault.TheVariants.{Cut, ReadFault, NoMemory}
use Rattle.wire_http.specs.declared.message.Request.{Request as Question}
use Rattle.wire_http.specs.ByteResponses.{Response as Answer}
use Rattle.wire_http.specs.Faults.{Stops}
use Rattle.wire_http.specs.Streams.{GivenBytes, GivesWhat}
use Rattle.wire_http.specs.Requests.{HasHead, IsRequest, IsRequestMessage, RefusesRequest, ShowsNoRequest}
use Rattle.wire_http.specs.Responses.{head_room, HasFinal, IsResponse, IsResponseMessage, RefusesResponse, ShowsNoResponse}
use Rattle.wire_http.proofs.Cuts.{final_more}
use Rattle.wire_http.proofs.Messages.{no_fault as no_response_fault}
use Rattle.wire_http.proofs.Questions.{no_fault as no_request_fault}

-- ---- faults

told : (Refuses : List ℕ → Fault → Type 0) (left after : Option (List ℕ)) (bytes : List ℕ) (fault : Fault) → Consumes left after bytes
    → ((more : List ℕ) → (fault ≡ Cut → more ≡ []) → Refuses (bytes ++ more) fault) → (fault ≡ Cut → IsAtEnd after) → IfSome left (λ input. Refuses input fault)
told Refuses None after bytes fault taken shown ended = tt
told Refuses (Some input) None bytes fault taken shown ended = absurd taken
told Refuses (Some input) (Some more) bytes fault taken shown ended = subst (λ (l : List ℕ). Refuses l fault) (sym taken) (shown more ended)

pub request_refused : (limit : ℕ) (old new : GivenBytes) (fault : Fault) → Stops old new (ShowsNoRequest limit) fault → IfSome old.left (λ input. RefusesRequest limit input fault)
request_refused limit old new fault s = told (RefusesRequest limit) old.left new.left s.bytes fault s.gives.left s.is.shown (λ e. (s.ended e).1)

pub response_refused : (limit : ℕ) (old new : GivenBytes) (fault : Fault) → Stops old new (ShowsNoResponse limit) fault → IfSome old.left (λ input. RefusesResponse head_room limit input fault)
response_refused limit old new fault s = told (RefusesResponse head_room limit) old.left new.left s.bytes fault s.gives.left s.is.shown (λ e. (s.ended e).1)

-- ---- a whole message is taken

weaker : (left : Option (List ℕ)) (P Q : List ℕ → Type 0) → ((input : List ℕ) → P input → Q input) → IfSome left P → IfSome left Q
weaker None P Q f h = tt
weaker (Some input) P Q f h = f input h

pub request_found : (limit : ℕ) (old new : GivenBytes) (fault : Fault) → Stops old new (ShowsNoRequest limit) fault
    → IfSome old.left (λ input. (h : RequestHead) (body rest : List ℕ) → IsRequest limit input h body rest → (fault ≡ ReadFault) ⊎ (fault ≡ NoMemory))
request_found limit old new fault s =
    weaker old.left _ _ (λ input refuses h body rest whole. no_request_fault limit input fault h body rest refuses whole) (request_refused limit old new fault s)

pub response_found : (limit : ℕ) (old new : GivenBytes) (fault : Fault) → Stops old new (ShowsNoResponse limit) fault
    → IfSome old.left (λ input. (h : ResponseHead) (body rest : List ℕ) → IsResponse head_room limit input h body rest → (fault ≡ ReadFault) ⊎ (fault ≡ NoMemory))
response_found limit old new fault s =
    weaker old.left _ _ (λ input refuses h body rest whole. no_response_fault limit input fault h body rest refuses whole) (response_refused limit old new fault s)

-- ---- what is taken is what the rest began with

taken_off : (Stands : List ℕ → List ℕ → Type 0) (left after : Option (List ℕ)) (bytes : List ℕ) → Consumes left after bytes
    → ((rest : List ℕ) → Stands (bytes ++ rest) rest) → IfSome left (λ input. (rest : List ℕ) × Stands input rest × (after ≡ Some rest))
taken_off Stands None after bytes taken f = tt
taken_off Stands (Some input) None bytes taken f = absurd taken
taken_off Stands (Some input) (Some rest) bytes taken f = (rest, subst (λ (l : List ℕ). Stands l rest) (sym taken) (f rest), refl)

-- a head with no byte behind the body, and more
request_more : (bytes body rest : List ℕ) (h : RequestHead) → HasHead bytes h (body ++ []) → HasHead (bytes ++ rest) h (body ++ rest)
request_more bytes body rest h has = record {
  reads = (
    has.reads.0,
    ap (λ (l : List ℕ). l ++ rest) (has.reads.1 ∙ ap (λ (l : List ℕ). print_request h ++ l) (append-nil body)) ∙ append_assoc (print_request h) body rest,
  );
  bytes = has.bytes;
  lines = has.lines;
}

pub request_taken : (limit : ℕ) (old new : GivenBytes) (question : Question) → GivesWhat old new (λ bytes. IsRequestMessage limit bytes question)
    → IfSome old.left (λ input. (rest : List ℕ) × ((h : RequestHead) × IsRequest limit input h question.body rest) × (new.left ≡ Some rest))
request_taken limit old new question (bytes, gives, is) =
    taken_off (λ input rest. (h : RequestHead) × IsRequest limit input h question.body rest) old.left new.left bytes gives.left
    (λ rest. (is.head, (request_more bytes question.body rest is.head is.whole.0, is.whole.1)))

pub response_taken : (limit : ℕ) (old new : GivenBytes) (answer : Answer) → GivesWhat old new (λ bytes. IsResponseMessage limit bytes answer)
    → IfSome old.left (λ input. (rest : List ℕ) × ((h : ResponseHead) × IsResponse head_room limit input h answer.body rest) × (new.left ≡ Some rest))
response_taken limit old new answer (bytes, gives, is) =
    taken_off (λ input rest. (h : ResponseHead) × IsResponse head_room limit input h answer.body rest) old.left new.left bytes gives.left
    (λ rest. (
      is.head,
      (
        subst (λ (l : List ℕ). HasFinal head_room (bytes ++ rest) is.head (l ++ rest)) (append-nil answer.body) (final_more head_room bytes (answer.body ++ []) rest is.head is.whole.0),
        is.whole.1,
      ),
    ))
