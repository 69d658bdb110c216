-- What was read from a source and written to a sink. Only this file uses the words of streams.
use Rattle.std.specs.Prelude.{◌≡◌, ◌+◌, ℕ, List, Result, Ok, Err, length}
use Rattle.wire_http.specs.declared.Sink.{Ghosts as OfSink}
use Rattle.wire_http.specs.declared.Source.{Ghosts as OfSource}
use Rattle.wire_http.specs.declared.fault.Fault.{Fault}
use Rattle.wire_http.specs.declared.message.Request.{Request}
use Rattle.wire_http.specs.Bodies.{max_body_bytes}
use Rattle.wire_http.specs.Requests.{IsRequestMessage, ShowsNoRequest}
use Rattle.wire_http.specs.Faults.{Stops}
use Rattle.wire_http.specs.Streams.{AllWell, GivesWhat, IsFlushed, IsLost, Reads, Takes, TakesPart}

-- Reading

-- the most calls that take bytes of a request: that a head is too long shows one byte beyond its
-- limit
abbrev pub max_reads : ℕ
max_reads = 16385 + max_body_bytes

-- What was given is exactly one whole request, or it shows a fault, whatever follows. A fault of
-- the stream has its cause, no call follows a failed one, and the number of calls is bounded
abbrev pub IsReading : {R : Type 0} → OfSource R → (old new : R) → Result Request Fault → Type 0
IsReading source old new (Ok request) =
    GivesWhat (source.stream old) (source.stream new) (λ bytes. IsRequestMessage max_body_bytes bytes request) × AllWell max_reads 0 (source.calls old) (source.calls new)
IsReading source old new (Err f) =
    Stops (source.stream old) (source.stream new) (ShowsNoRequest max_body_bytes) f × Reads {A = Request} max_reads 0 (source.calls old) (source.calls new) (Err f)

-- Writing

-- no call was made
abbrev pub SendsNothing : {W : Type 0} → (old new : W) → Type 0
SendsNothing old new = new ≡ old

-- a text was written and passed on, and no call failed
abbrev pub Sends : {W : Type 0} → OfSink W → (old new : W) → List ℕ → Type 0
Sends sink old new text =
    Takes (sink.stream old) (sink.stream new) text × IsFlushed (sink.stream new) × AllWell (length text + 1) 0 (sink.calls old) (sink.calls new)

-- a write failed, or 1,024 writes were interrupted, and a prefix of a text was written
abbrev pub SendsPart : {W : Type 0} → OfSink W → (old new : W) → List ℕ → Type 0
SendsPart sink old new text = IsLost (length text + 1) 0 (sink.calls old) (sink.calls new) × TakesPart (sink.stream old) (sink.stream new) text
