-- the result of a call
use Rattle.std.proofs.Common.{◌≡◌, ◌≢◌, ◌⊎◌, inl, inr, ℕ, List, refl, Option, Some, None, IfSome}
use Rattle.wire_http.specs.declared.fault.Fault.{Fault}
use Rattle.wire_http.specs.declared.fault.Fault.TheVariants.{Cut, ReadFault, WriteFault, HeadTooLong, BodyTooLong, BadHead, LengthNeeded, NotOffered, NoMemory}
use Rattle.wire_http.specs.Responses.{HasNoResponse, IsResponse, head_room}
use Rattle.wire_http.specs.Streams.{AllWell, Calls, GivenBytes, IsLost, OnReadFault}
use Rattle.wire_http.proofs.Left.{response_found}
use Rattle.wire_http.specs.Bodies.{max_body_bytes}
use Rattle.wire_callbacks.specs.OneCall.{IsUnanswered, answer_reads}

-- if a whole message P is refused only for these two faults, any other fault shows that there is
-- none
none_there : {H : Type 0} (P : List ℕ → H → List ℕ → List ℕ → Type 0) (old : Option (List ℕ)) (fault : Fault)
    → IfSome old (λ input. (h : H) (body rest : List ℕ) → P input h body rest → (fault ≡ ReadFault) ⊎ (fault ≡ NoMemory))
    → (fault ≡ ReadFault → ⊥) → (fault ≡ NoMemory → ⊥) → IfSome old (λ input. (h : H) (body rest : List ℕ) → P input h body rest → ⊥)
none_there P None fault found read memory = tt
none_there P (Some input) fault found read memory = λ h body rest whole. elim (found h body rest whole) [
  | inl e ↦ read e
  | inr e ↦ memory e
]

-- why nothing was read
not_read : {H : Type 0} (P : List ℕ → H → List ℕ → List ℕ → Type 0) (old : Option (List ℕ)) (fault : Fault) (Lost Well : Type 0)
    → IfSome old (λ input. (h : H) (body rest : List ℕ) → P input h body rest → (fault ≡ ReadFault) ⊎ (fault ≡ NoMemory))
    → OnReadFault Lost Well fault → fault ≢ NoMemory → Lost ⊎ IfSome old (λ input. (h : H) (body rest : List ℕ) → P input h body rest → ⊥)
not_read P old ReadFault Lost Well found calls memory = inl calls
not_read P old NoMemory Lost Well found calls memory = absurd (memory refl)
not_read P old WriteFault Lost Well found calls memory = absurd calls
not_read P old Cut Lost Well found calls memory = inr (none_there P old Cut found (λ e. absurd (cc)) memory)
not_read P old HeadTooLong Lost Well found calls memory = inr (none_there P old HeadTooLong found (λ e. absurd (cc)) memory)
not_read P old BodyTooLong Lost Well found calls memory = inr (none_there P old BodyTooLong found (λ e. absurd (cc)) memory)
not_read P old BadHead Lost Well found calls memory = inr (none_there P old BadHead found (λ e. absurd (cc)) memory)
not_read P old LengthNeeded Lost Well found calls memory = inr (none_there P old LengthNeeded found (λ e. absurd (cc)) memory)
not_read P old NotOffered Lost Well found calls memory = inr (none_there P old NotOffered found (λ e. absurd (cc)) memory)

pub broken_so : (old new : GivenBytes) (before after : Calls) → IsUnanswered old new before after
    → IsLost answer_reads 0 before after ⊎ IfSome old.left (HasNoResponse head_room max_body_bytes)
broken_so old new before after (fault, memory, stops, calls) =
    not_read (IsResponse head_room max_body_bytes) old.left fault (IsLost answer_reads 0 before after) (AllWell answer_reads 0 before after)
    (response_found max_body_bytes old new fault stops) calls memory
