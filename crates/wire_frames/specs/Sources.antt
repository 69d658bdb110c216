-- a source as an input, and what a reading of it ensures
use Rattle.std.specs.Prelude.{◌≡◌, ◌+◌, ◌<◌, ◌≤◌, ℕ, List, [], ◌++◌, length, get_or, take, Option, None, Some, Result, Ok, Err, IfOk, IfErr}
use Rattle.std.specs.Borrow.{MutBor}
use Rattle.std.specs.Io.KnownBytes.{Consumes, IsAtEnd}
use Rattle.std.proofs.Props.{props}
use Rattle.wire_http.specs.Streams.{AllWell, Calls, FoundEnd, GivenBytes, Gives, IsLost, too_many_interrupted}
use Rattle.wire_frames.specs.declared.input.Stop.{Stop}
use Rattle.wire_frames.specs.declared.input.Stop.TheVariants.{Fault, Cut, ReadFault, Memory}
use Rattle.wire_frames.specs.declared.stream.Progress.{Progress}
use Rattle.wire_frames.specs.declared.stream.Progress.TheVariants.{Going, Ended, Failed}
use Rattle.wire_frames.specs.FrameFields.{Broken}
use Rattle.wire_frames.specs.Reading.{looking, read_of}
use Rattle.wire_frames.specs.Seen.{HasReason, Seen, Standing, StaysWell, IsWell}

-- the state of a source, by what is known of sources
abbrev pub standing : {S : Type 0} → (S → GivenBytes) → (S → Calls) → S → ℕ → Standing
standing stream calls s counted = record { stream = stream s; calls = calls s; counted = counted }

-- a source of which nothing was read yet and this many bytes may be read
abbrev pub of_source : {S : Type 0} → (S → GivenBytes) → (S → Calls) → MutBor S → S → ℕ → ℕ → Seen
of_source stream calls source s counted bytes = record {
  first = record { standing = standing stream calls s counted; bytes = bytes; source = source.ghost_name };
  now = standing stream calls s counted;
  taken = [];
  limit = bytes;
}

-- a stream over a source, with the source's state at the start and now
abbrev pub of_stream : {S : Type 0} → (S → GivenBytes) → (S → Calls) → S → ℕ → MutBor S → ℕ → ℕ → List ℕ → ℕ → Seen
of_stream stream calls start begun source counted bytes taken limit = record {
  first = record { standing = standing stream calls start begun; bytes = bytes; source = source.ghost_name };
  now = standing stream calls source.now counted;
  taken = taken;
  limit = limit;
}

-- the results of the calls so far: none failed; or the last one found the end; or the last one
-- failed, or one too many was interrupted
abbrev pub Stands : Progress → GivenBytes → Calls → Calls → ℕ → Type 0
Stands Going stream old new counted = (new.failed ≡ old.failed) × (counted < too_many_interrupted)
Stands Ended stream old new counted = (new.failed ≡ old.failed) × (counted < too_many_interrupted) × FoundEnd stream
Stands Failed stream old new counted =
    (counted < too_many_interrupted → (new.failed ≡ old.failed + 1) × (new.last_failed ≡ 1))
    × (too_many_interrupted ≤ counted → (new.failed ≡ old.failed) × (counted ≡ too_many_interrupted))

-- the greatest number of calls that gave bytes, found the end or failed
abbrev pub most_calls : Progress → ℕ → ℕ
most_calls Going place = place
most_calls Ended place = place + 1
most_calls Failed place = place + 1

pub consumes_is_fact : (old new : Option (List ℕ)) (bytes : List ℕ) → IsProp (Consumes old new bytes)
consumes_is_fact None new bytes = hlevel props
consumes_is_fact (Some xs) None bytes = hlevel props
consumes_is_fact (Some xs) (Some ys) bytes = hlevel props

pub end_is_fact : (left : Option (List ℕ)) → IsProp (IsAtEnd left)
end_is_fact None = hlevel props
end_is_fact (Some xs) = hlevel props

pub stands_is_fact : (progress : Progress) (stream : GivenBytes) (old new : Calls) (counted : ℕ) → IsProp (Stands progress stream old new counted)
stands_is_fact Going stream old new counted = hlevel props
stands_is_fact Ended stream old new counted = hlevel (end_is_fact stream.left, props)
stands_is_fact Failed stream old new counted = hlevel props

-- the input gave no more
abbrev pub IsEnd : Stop → Type 0
IsEnd Cut = Unit {0}
IsEnd ReadFault = Unit {0}
IsEnd (Fault place) = ⊥
IsEnd Memory = ⊥

-- some bytes were taken, or none
abbrev pub Takes : Seen → Seen → Result ℕ Stop → List ℕ → Type 0
Takes old new result buffer =
    (new.first ≡ old.first) × (new.limit ≡ old.limit)
    × IfOk result (λ n. new.taken ≡ old.taken ++ take n buffer)
    × IfErr result (λ e. (new.taken ≡ old.taken) × IsEnd e × HasReason e new)
    × (IsWell old → StaysWell result new)

-- what was taken was given; it is no more than allowed, came in no more calls than bytes, and the
-- interrupted calls were counted
pub record IsSound (s : Seen) : Type 0 where
  pub gives : Gives s.first.standing.stream s.now.stream s.taken
  pub short : length s.taken ≤ s.first.bytes
  pub inside : s.limit ≤ s.first.bytes
  pub counted : s.now.calls.interrupted + s.first.standing.counted ≡ s.first.standing.calls.interrupted + s.now.counted
  pub few : s.now.calls.made + s.first.standing.calls.interrupted ≤ s.first.standing.calls.made + s.first.bytes + s.now.calls.interrupted
  pub bytes : (i : ℕ) → get_or s.taken i 0 < 256

-- ---- what reading a frame ensures

-- The given bytes show why no frame of this many bytes stands there, whatever follows them; after
-- the end nothing follows. At a fault they are exactly those that have to be looked at.
abbrev pub Refuses : ℕ → Stop → List ℕ → Type 0
Refuses bytes (Fault place) given =
    ((more : List ℕ) → looking bytes (given ++ more) ≡ Err (Broken place (length given))) × (place ≤ length given)
Refuses bytes Cut given = (read_of bytes given ≡ Err Cut) × (length given < bytes)
Refuses bytes ReadFault given = read_of bytes given ≡ Err Cut
Refuses bytes Memory given = Unit {0}

-- what was given refuses a frame so, has at most this many bytes, and is cut only if the last call
-- found the end
pub record StopsReading (bytes : ℕ) (old new : GivenBytes) (stop : Stop) : Type 0 where
  pub given : List ℕ
  pub gives : Gives old new given
  pub short : length given ≤ bytes
  pub refuses : Refuses bytes stop given
  pub ended : stop ≡ Cut → FoundEnd new

-- P holds for a read fault, and Q for each other stop
abbrev pub OnReadFault : (P Q : Type 0) → Stop → Type 0
OnReadFault P Q ReadFault = P
OnReadFault P Q Cut = Q
OnReadFault P Q (Fault place) = Q
OnReadFault P Q Memory = Q

-- the results of the calls by which a frame of at most this many bytes was read
abbrev pub ReadsCalls : {A : Type 0} → (bytes before : ℕ) → Calls → Calls → Result A Stop → Type 0
ReadsCalls bytes before old new (Ok x) = AllWell bytes before old new
ReadsCalls bytes before old new (Err e) = OnReadFault (IsLost bytes before old new) (AllWell bytes before old new) e

-- the result of reading known bytes; nothing is said if memory ran out or a read failed
abbrev pub Says : {A : Type 0} → Result A Stop → Result A Stop → Type 0
Says (Ok x) read = read ≡ Ok x
Says (Err (Fault place)) read = read ≡ Err (Fault place)
Says (Err Cut) read = read ≡ Err Cut
Says (Err ReadFault) read = Unit {0}
Says (Err Memory) read = Unit {0}
