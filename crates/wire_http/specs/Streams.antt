-- What a source has given and a sink has taken, how their calls came out, and why many calls ended
-- in a fault.
use Rattle.std.specs.Prelude.{◌≡◌, ℕ, ◌+◌, ◌<◌, ◌≤◌, ◌⊎◌, ◌&&◌, ◌==◌, if◌then◌else◌, nat_lt, List, [], ◌++◌, length, take, Option, Result, Ok, Err, MatchResult}
use Rattle.std.specs.Io.KnownBytes.{Appends, Consumes, IsAtEnd}
use Rattle.wire_http.specs.declared.CallError.{CallError}
use Rattle.wire_http.specs.declared.CallError.TheVariants.{Interrupted, Failed}
use Rattle.wire_http.specs.declared.fault.Fault.{Fault}
use Rattle.wire_http.specs.declared.fault.Fault.TheVariants.{Cut, ReadFault, WriteFault, HeadTooLong, BodyTooLong, BadHead, LengthNeeded, NotOffered, NoMemory}

-- ---- bytes

-- the bytes that a source has given so far, 1 if its last call found the end, and the bytes that
-- are left, if they are known
pub record GivenBytes : Type 0 where
  pub given : List ℕ
  pub ended : ℕ
  pub left : Option (List ℕ)

-- the bytes that a sink has taken so far, those of them that it has passed on, and those that it
-- holds, if they are known
pub record TakenBytes : Type 0 where
  pub taken : List ℕ
  pub flushed : List ℕ
  pub written : Option (List ℕ)

-- everything that was taken was passed on
abbrev pub IsFlushed : TakenBytes → Type 0
IsFlushed sink = sink.flushed ≡ sink.taken

-- exactly these bytes were given
pub record Gives (old new : GivenBytes) (bytes : List ℕ) : Type 0 where
  pub given : new.given ≡ old.given ++ bytes
  pub left : Consumes old.left new.left bytes

-- exactly these bytes were taken
pub record Takes (old new : TakenBytes) (bytes : List ℕ) : Type 0 where
  pub taken : new.taken ≡ old.taken ++ bytes
  pub written : Appends old.written new.written bytes

-- the last call found the end
abbrev pub FoundEnd : GivenBytes → Type 0
FoundEnd source = (source.ended ≡ 1) × IsAtEnd source.left

-- `Is` holds of what was given
abbrev pub GivesWhat : GivenBytes → GivenBytes → (List ℕ → Type 0) → Type 0
GivesWhat old new Is = (bytes : List ℕ) × Gives old new bytes × Is bytes

-- a prefix of the bytes was taken
abbrev pub TakesPart : TakenBytes → TakenBytes → List ℕ → Type 0
TakesPart old new bytes = (prefix rest : List ℕ) × (bytes ≡ prefix ++ rest) × Takes old new prefix

-- one call gave as many bytes as it says: none only if it found the end or had no room, and nothing
-- if it gave up
abbrev pub CallGives : {E : Type 0} → GivenBytes → GivenBytes → Result ℕ E → List ℕ → Type 0
CallGives old new result buffer =
    MatchResult result (λ n. Gives old new (take n buffer) × (n ≡ 0 → 0 < length buffer → FoundEnd new)) (λ _. Gives old new [])

-- a call that gave some bytes, or gave up, found no end
abbrev pub FoundNoEnd : {E : Type 0} → GivenBytes → Result ℕ E → Type 0
FoundNoEnd new result = MatchResult result (λ n. 0 < n → new.ended ≡ 0) (λ _. new.ended ≡ 0)

-- one call took as many bytes as it says, and nothing if it gave up
abbrev pub CallTakes : {E : Type 0} → TakenBytes → TakenBytes → Result ℕ E → List ℕ → Type 0
CallTakes old new result bytes = MatchResult result (λ n. Takes old new (take n bytes)) (λ _. Takes old new [])

-- ---- calls

-- how many calls were made so far, how many of them failed, how many were interrupted, and 1 if the
-- last one failed
pub record Calls : Type 0 where
  pub made : ℕ
  pub failed : ℕ
  pub interrupted : ℕ
  pub last_failed : ℕ

abbrev pub no_calls : Calls
no_calls = record { made = 0; failed = 0; interrupted = 0; last_failed = 0 }

-- 1 for a call that failed, and 0 for one that succeeded or was interrupted
abbrev pub failed_calls : {A : Type 0} → Result A CallError → ℕ
failed_calls (Ok n) = 0
failed_calls (Err Interrupted) = 0
failed_calls (Err Failed) = 1

-- 1 for a call that was interrupted
abbrev pub interrupted_calls : {A : Type 0} → Result A CallError → ℕ
interrupted_calls (Ok n) = 0
interrupted_calls (Err Interrupted) = 1
interrupted_calls (Err Failed) = 0

-- the bytes that a call gave
abbrev pub given_bytes : {E : Type 0} → Result ℕ E → List ℕ → List ℕ
given_bytes (Ok n) buffer = take n buffer
given_bytes (Err e) buffer = []

-- 1 for a call that found the end: it had room, and gave nothing
abbrev pub ended_calls : {E : Type 0} → Result ℕ E → List ℕ → ℕ
ended_calls (Ok n) buffer = if (n == 0) && nat_lt 0 (length buffer) then 1 else 0
ended_calls (Err e) buffer = 0

-- one more call was made, with this result
pub record OneMore {A : Type 0} (old new : Calls) (result : Result A CallError) : Type 0 where
  pub made : new.made ≡ old.made + 1
  pub failed : new.failed ≡ old.failed + failed_calls result
  pub interrupted : new.interrupted ≡ old.interrupted + interrupted_calls result
  pub last_failed : new.last_failed ≡ failed_calls result

-- this many interrupted calls in one message are a fault
abbrev pub too_many_interrupted : ℕ
too_many_interrupted = 1024

-- no call failed, the interrupted calls of the message, with `before` that came before, are fewer
-- than the limit, and apart from the interrupted ones at most `most` calls were made
pub record AllWell (most before : ℕ) (old new : Calls) : Type 0 where
  pub none_failed : new.failed ≡ old.failed
  pub few_interrupted : new.interrupted + before < old.interrupted + too_many_interrupted
  pub few : new.made + old.interrupted ≤ old.made + most + new.interrupted

-- either the last call failed and no other did, or the last call was interrupted and was one too
-- many
abbrev pub HasCause : (before : ℕ) (old new : Calls) → Type 0
HasCause before old new =
    ((new.failed ≡ old.failed + 1) × (new.last_failed ≡ 1) × (new.interrupted + before < old.interrupted + too_many_interrupted))
    ⊎ ((new.failed ≡ old.failed) × (new.interrupted + before ≡ old.interrupted + too_many_interrupted))

-- a fault of the stream has its cause, and apart from the interrupted calls at most `most` were
-- made
pub record IsLost (most before : ℕ) (old new : Calls) : Type 0 where
  pub cause : HasCause before old new
  pub few : new.made + old.interrupted ≤ old.made + most + new.interrupted

-- how the calls came out if only the stream can be at fault
abbrev pub Streams : {A E : Type 0} → (most before : ℕ) → Calls → Calls → Result A E → Type 0
Streams most before old new result = MatchResult result (λ _. AllWell most before old new) (λ _. IsLost most before old new)

-- P holds of a read fault, Q of every other fault, and there is no write fault
abbrev pub OnReadFault : (P Q : Type 0) → Fault → Type 0
OnReadFault P Q ReadFault = P
OnReadFault P Q WriteFault = ⊥
OnReadFault P Q Cut = Q
OnReadFault P Q BadHead = Q
OnReadFault P Q HeadTooLong = Q
OnReadFault P Q BodyTooLong = Q
OnReadFault P Q LengthNeeded = Q
OnReadFault P Q NotOffered = Q
OnReadFault P Q NoMemory = Q

-- how the calls came out that read a message
abbrev pub Reads : {A : Type 0} → (most before : ℕ) → Calls → Calls → Result A Fault → Type 0
Reads most before old new result =
    MatchResult result (λ _. AllWell most before old new) (OnReadFault (IsLost most before old new) (AllWell most before old new))

-- P holds of a write fault, Q if memory was refused, and there is no other fault
abbrev pub OnWriteFault : (P Q : Type 0) → Fault → Type 0
OnWriteFault P Q WriteFault = P
OnWriteFault P Q NoMemory = Q
OnWriteFault P Q ReadFault = ⊥
OnWriteFault P Q Cut = ⊥
OnWriteFault P Q BadHead = ⊥
OnWriteFault P Q HeadTooLong = ⊥
OnWriteFault P Q BodyTooLong = ⊥
OnWriteFault P Q LengthNeeded = ⊥
OnWriteFault P Q NotOffered = ⊥

-- how the calls came out that were to write at most this many bytes: no call was made if memory was
-- refused
abbrev pub Writes : {A : Type 0} → (most : ℕ) → Calls → Calls → (Unchanged : Type 0) → Result A Fault → Type 0
Writes most old new Unchanged result =
    MatchResult result (λ _. AllWell most 0 old new) (OnWriteFault (IsLost most 0 old new) Unchanged)

-- all of the text was taken and passed on, and no write failed
abbrev pub IsSent : (old new : TakenBytes) (before after : Calls) → List ℕ → Type 0
IsSent old new before after text = Takes old new text × IsFlushed new × AllWell (length text + 1) 0 before after
