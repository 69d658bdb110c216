-- What a pull results in.
use Rattle.std.specs.Prelude.{◌≡◌, ◌≢◌, ◌⊎◌, ℕ, ◌+◌, ◌≤◌, List, [], ◌++◌, length, take, Result, Ok, Err, IfErr, IfOk, IfSome, MatchResult, if◌then◌else◌, ◌==◌}
use Rattle.httparse.specs.Grammar.{ResponseHead, status_code}
use Rattle.wire_frames.specs.declared.version.Version.{Version}
use Rattle.wire_frames.specs.Frames.{Frame}
use Rattle.wire_frames.specs.Reading.{read_of}
use Rattle.wire_frames.specs.Sources.{ReadsCalls, Refuses, Says, StopsReading}
use Rattle.wire_frames.specs.Rules.{IsDeltaAs}
use Rattle.wire_frames.specs.Encoding.{encoding_as}
use Rattle.wire_frames.specs.declared.input.Stop.{Stop}
use Rattle.wire_frames.specs.declared.input.Stop.TheVariants.{Fault as FaultAt, Cut as CutShort, ReadFault as ReadFailed, Memory}
use Rattle.wire_http.specs.Heads.{max_head_bytes}
use Rattle.wire_http.specs.Responses.{IsHeadRead, IsResponse, ShowsNoHead, head_room}
use Rattle.wire_http.specs.Streams.{AllWell, Calls, FoundEnd, GivenBytes, Gives, GivesWhat, IsLost, OnReadFault, TakenBytes, TakesPart}
use Rattle.wire_http.specs.declared.fault.Fault.{Fault as HttpFault}
use Rattle.wire_http.specs.declared.fault.Fault.TheVariants.{Cut, NoMemory, NotOffered, ReadFault, WriteFault}
use Rattle.wire_pulls.specs.declared.error.PullError.{PullError}
use Rattle.wire_pulls.specs.declared.error.PullError.TheVariants.{Fault, BadFrame, Misdirected}

-- the most bytes of a frame
abbrev pub max_frame_bytes : ℕ
max_frame_bytes = 67108864

-- the most reads of an answer, apart from the interrupted ones
abbrev pub pull_reads : ℕ
pull_reads = max_head_bytes + 1 + max_frame_bytes

-- ---- the request

-- Not all of the text was taken: either a write failed, and nothing was read; or memory ran out
-- before, and nothing was read or written.
abbrev pub IsUnsent : (old new : TakenBytes) (before after : Calls) → List ℕ → (unread untouched : Type 0) → HttpFault → Type 0
IsUnsent old new before after text unread untouched fault =
    ((fault ≡ WriteFault) × TakesPart old new text × IsLost (length text + 1) 0 before after × unread)
    ⊎ ((fault ≡ NoMemory) × untouched)

abbrev pub IsUnsentBy : (old new : TakenBytes) (before after : Calls) → List ℕ → (unread untouched : Type 0) → PullError → Type 0
IsUnsentBy old new before after text unread untouched (Fault fault) = IsUnsent old new before after text unread untouched fault
IsUnsentBy old new before after text unread untouched (BadFrame place) = ⊥
IsUnsentBy old new before after text unread untouched Misdirected = ⊥

-- ---- the answer

-- the bytes are exactly a whole response with this status and this body
pub record IsAnswer (bytes : List ℕ) (status : ℕ) (body : List ℕ) : Type 0 where
  pub head : ResponseHead
  pub whole : IsResponse head_room max_frame_bytes bytes head body []
  pub status_is : status_code head ≡ status

-- the error for a status other than 200: 421 says that another node answered than the one that was
-- asked
abbrev pub other_of : ℕ → PullError
other_of status = if status == 421 then Misdirected else Fault NotOffered

-- the heads state a status other than 200, which is the error, and no byte of the body was given
abbrev pub IsOther : List ℕ → PullError → Type 0
IsOther bytes error = (status : ℕ) × (size : ℕ) × IsHeadRead max_frame_bytes bytes status size × (status ≢ 200) × (error ≡ other_of status)

-- the heads state status 200 and a body of this size, of which these bytes were given, and no byte
-- behind it
pub record IsOffered (bytes : List ℕ) (size : ℕ) (body : List ℕ) : Type 0 where
  pub heads : List ℕ
  pub split : bytes ≡ heads ++ body
  pub short : length body ≤ size
  pub head : IsHeadRead max_frame_bytes heads 200 size

-- what stops the reading of a frame, as an error
abbrev pub error_of : Stop → PullError
error_of (FaultAt place) = BadFrame place
error_of CutShort = Fault Cut
error_of ReadFailed = Fault ReadFault
error_of Memory = Fault NoMemory

-- What was given of the body shows why it is not a frame, whatever follows. Of a bad field, no more
-- bytes were given than show that it is bad. Before a cut or a failed read, no field had broken its
-- rule.
abbrev pub RefusesBody : List ℕ → PullError → Type 0
RefusesBody bytes error =
    (size : ℕ) × (body : List ℕ) × (stop : Stop) × IsOffered bytes size body × Refuses size stop body × (error ≡ error_of stop)

-- the bytes show why no head with a body of at most the limit stands there
abbrev pub RefusesHead : List ℕ → PullError → Type 0
RefusesHead bytes error = (fault : HttpFault) × ShowsNoHead max_frame_bytes bytes fault × (error ≡ Fault fault)

-- why the bytes hold no delta: because of their heads, which come first, because of another status,
-- or because of the body
abbrev pub RefusesPull : List ℕ → PullError → Type 0
RefusesPull bytes error = RefusesHead bytes error ⊎ (IsOther bytes error ⊎ RefusesBody bytes error)

-- how the reads came out before an error
abbrev pub Reads : Calls → Calls → PullError → Type 0
Reads before after (Fault fault) = OnReadFault (IsLost pull_reads 0 before after) (AllWell pull_reads 0 before after) fault
Reads before after (BadFrame place) = AllWell pull_reads 0 before after
Reads before after Misdirected = AllWell pull_reads 0 before after

-- what was given holds no delta, and a cut comes only if the last call found the end
pub record StopsPull (old new : GivenBytes) (before after : Calls) (error : PullError) : Type 0 where
  pub bytes : List ℕ
  pub gives : Gives old new bytes
  pub refuses : RefusesPull bytes error
  pub ended : error ≡ Fault Cut → FoundEnd new
  pub reads : Reads before after error

-- what was given is exactly a whole response with status 200, whose body encodes the delta in some
-- version
abbrev pub TellsDelta : (old new : GivenBytes) (before after : Calls) → Frame → Type 0
TellsDelta old new before after delta =
    ((version : Version) × IsDeltaAs version delta × GivesWhat old new (λ bytes. IsAnswer bytes 200 (encoding_as version delta))) × AllWell pull_reads 0 before after

-- the error lies in a call or in the memory, and not in the bytes that came
abbrev pub IsOfStreams : PullError → Type 0
IsOfStreams error = (error ≡ Fault WriteFault) ⊎ ((error ≡ Fault ReadFault) ⊎ (error ≡ Fault NoMemory))

-- what the reading of a body results in
abbrev pub told_by : Result Frame Stop → Result Frame PullError
told_by (Ok delta) = Ok delta
told_by (Err stop) = Err (error_of stop)

-- what reading a body of this size gave
pub record IsBodyRead (size before : ℕ) (old new : GivenBytes) (calls_before calls_after : Calls) (read : Result Frame Stop) : Type 0 where
  pub frame : IfOk read (λ delta. (version : Version) × IsDeltaAs version delta × (length (encoding_as version delta) ≡ size) × Gives old new (encoding_as version delta))
  pub stop : IfErr read (StopsReading size old new)
  pub known : IfSome old.left (λ ahead. Says read (read_of size (take size ahead)))
  pub calls : ReadsCalls size before calls_before calls_after read

-- a whole frame at the start of the input is the result, unless a call fails or memory runs out
abbrev pub IsFound : List ℕ → Result Frame PullError → Type 0
IsFound input result =
    (bytes rest : List ℕ) (version : Version) (frame : Frame) → input ≡ bytes ++ rest → IsDeltaAs version frame → IsAnswer bytes 200 (encoding_as version frame) → MatchResult result (λ delta. delta ≡ frame) IsOfStreams
