-- The result of a pull depends on what was given.
use Rattle.std.proofs.Common.{◌≡◌, ◌≢◌, ◌∙◌, ◌⊎◌, ℕ, ◌+◌, List, [], ◌++◌, Option, None, Some, Result, Ok, Err, IfErr, IfOk, IfSome, MatchResult, OnErr, OnOk, ◌≤◌, ap, append-nil, arith, inl, inr, length, refl, subst, sym, take}
use Rattle.std.specs.Prelude.{⊤, Bool, true, false, ◌==◌, if◌then◌else◌}
use Rattle.std.specs.Io.KnownBytes.{Consumes}
use Rattle.std.proofs.lemmas.Bool.{cases_eq}
use Rattle.std.proofs.lemmas.List.{take_at}
use Rattle.httparse.specs.Grammar.{ResponseHead, status_code}
use Rattle.wire_frames.specs.Frames.{Frame}
use Rattle.wire_frames.specs.Reading.{read_of}
use Rattle.wire_frames.specs.Sources.{OnReadFault as OnReadStop, Says}
use Rattle.wire_frames.specs.declared.input.Stop.{Stop}
use Rattle.wire_frames.specs.declared.input.Stop.TheVariants.{Fault as FaultAt, Cut as CutShort, ReadFault as ReadFailed, Memory}
use Rattle.wire_frames.proofs.FrameCodes.{frame_again}
use Rattle.wire_frames.specs.Encoding.{encoding_as}
use Rattle.wire_http.specs.Faults.{Stops}
use Rattle.wire_http.specs.Responses.{HasFinal, IsHeadRead, IsResponse, ShowsNoResponse, ShowsNoHead, head_room, stated}
use Rattle.wire_http.specs.Streams.{AllWell, Calls, GivenBytes, GivesWhat, IsFlushed, IsLost, IsSent, OnReadFault, OnWriteFault, TakenBytes, Takes, TakesPart, Writes}
use Rattle.wire_http.specs.declared.fault.Fault.{Fault as HttpFault}
use Rattle.wire_http.specs.declared.fault.Fault.TheVariants.{Cut, ReadFault, WriteFault, HeadTooLong, BodyTooLong, BadHead, LengthNeeded, NotOffered, NoMemory}
use Rattle.wire_http.proofs.Calling.{fault_then, lost_then, well_none, well_then}
use Rattle.wire_http.proofs.Cuts.{final_more}
use Rattle.wire_http.proofs.Known.{gives_more}
use Rattle.wire_http.proofs.Left.{response_found}
use Rattle.wire_http.proofs.Messages.{unique_final}
use Rattle.wire_pulls.specs.PullAnswers.{IsAnswer, IsBodyRead, IsFound, IsOfStreams, IsUnsent, Reads, StopsPull, TellsDelta, error_of, max_frame_bytes, other_of, pull_reads, told_by}
use Rattle.wire_pulls.specs.declared.error.PullError.{PullError}
use Rattle.wire_pulls.specs.declared.error.PullError.TheVariants.{Fault, Misdirected}

-- ---- what was written

pub sent : (old new : TakenBytes) (before after : Calls) (whole text : List ℕ) → whole ≡ text → Takes old new whole × IsFlushed new
    → AllWell (length whole + 1) 0 before after → IsSent old new before after text
sent old new before after whole text is taken well = (
  subst (λ (t : List ℕ). Takes old new t) is taken.0,
  taken.1,
  subst (λ (t : List ℕ). AllWell (length t + 1) 0 before after) is well,
)

-- ---- what was written, by the result of the write

pub sent_of : (old new : TakenBytes) (before after : Calls) (whole text : List ℕ) (Unchanged : Type 0) (result : Result ⊤ HttpFault) → whole ≡ text
    → OnOk result (Takes old new whole × IsFlushed new) → Writes (length whole + 1) before after Unchanged result → OnOk result (IsSent old new before after text)
sent_of old new before after whole text Unchanged (Ok done) is taken calls = sent old new before after whole text is taken calls
sent_of old new before after whole text Unchanged (Err fault) is taken calls = tt

unsent_by : (old new : TakenBytes) (before after : Calls) (text : List ℕ) (Unchanged : Type 0) (fault : HttpFault) → TakesPart old new text
    → OnWriteFault (IsLost (length text + 1) 0 before after) Unchanged fault → IsUnsent old new before after text ⊤ Unchanged fault
unsent_by old new before after text Unchanged WriteFault part lost = inl (refl, part, lost, tt)
unsent_by old new before after text Unchanged NoMemory part same = inr (refl, same)
unsent_by old new before after text Unchanged ReadFault part never = absurd never
unsent_by old new before after text Unchanged Cut part never = absurd never
unsent_by old new before after text Unchanged BadHead part never = absurd never
unsent_by old new before after text Unchanged HeadTooLong part never = absurd never
unsent_by old new before after text Unchanged BodyTooLong part never = absurd never
unsent_by old new before after text Unchanged LengthNeeded part never = absurd never
unsent_by old new before after text Unchanged NotOffered part never = absurd never

pub unsent_of : (old new : TakenBytes) (before after : Calls) (whole text : List ℕ) (Unchanged : Type 0) (result : Result ⊤ HttpFault) → whole ≡ text
    → OnErr result (TakesPart old new whole) → Writes (length whole + 1) before after Unchanged result
    → IfErr result (λ fault. IsUnsent old new before after text ⊤ Unchanged fault)
unsent_of old new before after whole text Unchanged (Ok done) is part calls = tt
unsent_of old new before after whole text Unchanged (Err fault) is part calls =
    subst (λ (t : List ℕ). IsUnsent old new before after t ⊤ Unchanged fault) is (unsent_by old new before after whole Unchanged fault part calls)

-- nothing else was touched either
pub unsent_all : (old new : TakenBytes) (before after : Calls) (text : List ℕ) (T U : Type 0) (fault : HttpFault) → U → IsUnsent old new before after text ⊤ T fault
    → IsUnsent old new before after text U (T × U) fault
unsent_all old new before after text T U fault u (inl (is, part, lost, done)) = inl (is, part, lost, u)
unsent_all old new before after text T U fault u (inr (is, same)) = inr (is, (same, u))

abbrev sized : ℕ → Result ℕ HttpFault
sized n = Ok n

ok_size : (a b : ℕ) → sized a ≡ sized b → a ≡ b
ok_size a b e = cc

-- an input begins with a whole response
stands_in : (input bytes rest body : List ℕ) (h : ResponseHead) → input ≡ bytes ++ rest → IsResponse head_room max_frame_bytes bytes h body []
    → IsResponse head_room max_frame_bytes input h body rest
stands_in input bytes rest body h split whole =
    subst (λ (l : List ℕ). IsResponse head_room max_frame_bytes l h body rest) (sym split) (
      subst (λ (l : List ℕ). HasFinal head_room (bytes ++ rest) h (l ++ rest)) (append-nil body) (final_more head_room bytes (body ++ []) rest h whole.0),
      whole.1,
    )

-- ---- an answer whose heads were read, and then its body

whole_answer : (heads body : List ℕ) (size : ℕ) → IsHeadRead max_frame_bytes heads 200 size → length body ≡ size → IsAnswer (heads ++ body) 200 body
whole_answer heads body size h len = record {
  head = h.head;
  whole = (
    subst (λ (l : List ℕ). HasFinal head_room (heads ++ body) h.head l) (sym (append-nil body)) (h.first body),
    h.states ∙ ap sized (sym len),
  );
  status_is = sym h.status;
}

-- the fault is in the status: nothing was cut, and each read succeeded
no_cut : (is : Bool) → (if is then Misdirected else Fault NotOffered) ≡ Fault Cut → ⊥
no_cut true e = cc
no_cut false e = cc

other_reads : (old new : Calls) (is : Bool) → AllWell pull_reads 0 old new → Reads old new (if is then Misdirected else Fault NotOffered)
other_reads old new true well = well
other_reads old new false well = well

abbrev stopped : PullError → Result Frame PullError
stopped error = Err error

is_cut : (stop : Stop) → error_of stop ≡ Fault Cut → stop ≡ CutShort
is_cut (FaultAt place) e = absurd cc
is_cut CutShort e = refl
is_cut ReadFailed e = absurd cc
is_cut Memory e = absurd cc

fault_is : (a b : HttpFault) → Fault a ≡ Fault b → a ≡ b
fault_is a b e = cc

abbrev given_frame : Frame → Result Frame Stop
given_frame frame = Ok frame

same_frame : (x y : Frame) → given_frame x ≡ given_frame y → x ≡ y
same_frame x y e = cc

says_found : (frame : Frame) (read : Result Frame Stop) → Says read (Ok frame) → MatchResult (told_by read) (λ delta. delta ≡ frame) IsOfStreams
says_found frame (Ok x) says = same_frame x frame (sym says)
says_found frame (Err (FaultAt place)) says = absurd cc
says_found frame (Err CutShort) says = absurd cc
says_found frame (Err ReadFailed) says = inr (inl refl)
says_found frame (Err Memory) says = inr (inr refl)

-- the calls of the heads, and then those of the body
module _ (old mid new : Calls) (size count : ℕ) (fits : size ≤ max_frame_bytes) (counted : mid.interrupted ≡ old.interrupted + count) (well : AllWell 16385 0 old mid) where
  all_calls : AllWell size count mid new → AllWell pull_reads 0 old new
  all_calls = well_then 16385 size pull_reads 0 count old mid new (omega (arith, fits)) (omega (arith, counted)) well

  lost_calls : IsLost size count mid new → IsLost pull_reads 0 old new
  lost_calls = lost_then 16385 size pull_reads 0 count old mid new (omega (arith, fits)) (omega (arith, counted)) well

  stop_calls : (stop : Stop) → OnReadStop (IsLost size count mid new) (AllWell size count mid new) stop → Reads old new (error_of stop)
  stop_calls (FaultAt place) h = all_calls h
  stop_calls CutShort h = all_calls h
  stop_calls ReadFailed h = lost_calls h
  stop_calls Memory h = all_calls h

head_calls : (old new : Calls) (fault : HttpFault) → OnReadFault (IsLost 16385 0 old new) (AllWell 16385 0 old new) fault → Reads old new (Fault fault)
head_calls old new fault h = fault_then 0 16385 pull_reads 0 0 old old new (omega arith) (omega arith) (well_none 0 old (omega arith)) fault h

head_well : (old new : Calls) → AllWell 16385 0 old new → AllWell pull_reads 0 old new
head_well old new h = well_then 0 16385 pull_reads 0 0 old old new (omega arith) (omega arith) (well_none 0 old (omega arith)) h

-- the input begins with an answer that has a frame
found_body : (left after : Option (List ℕ)) (given : List ℕ) (status size : ℕ) (result : Result Frame PullError) → Consumes left after given → IsHeadRead max_frame_bytes given status size
    → (status ≡ 200 → (read : Result Frame Stop) × (result ≡ told_by read) × IfSome after (λ ahead. Says read (read_of size (take size ahead))))
    → IfSome left (λ input. IsFound input result)
found_body None after given status size result took h body = tt
found_body (Some input) None given status size result took h body = absurd took
found_body (Some input) (Some more) given status size result took h body = λ bytes rest version frame split rules stands.
    let whole = stands_in input bytes rest (encoding_as version frame) stands.head split stands.whole in
    let mine : HasFinal head_room input h.head more = subst (λ (l : List ℕ). HasFinal head_room l h.head more) (sym took) (h.first more) in
    let same = unique_final head_room input h.head more stands.head (encoding_as version frame ++ rest) mine whole.0 in
    let size_is : size ≡ length (encoding_as version frame) = ok_size size (length (encoding_as version frame)) (sym h.states ∙ ap (stated max_frame_bytes) same.0 ∙ whole.1) in
    let told = body (h.status ∙ ap status_code same.0 ∙ stands.status_is) in
    let ahead : take size more ≡ encoding_as version frame = ap (take size) same.1 ∙ take_at (encoding_as version frame) rest size (sym size_is) in
    let read : read_of size (take size more) ≡ Ok frame =
    ap (read_of size) ahead ∙ ap (λ (n : ℕ). read_of n (encoding_as version frame)) size_is ∙ frame_again version frame rules in
    subst (λ (r : Result Frame PullError). MatchResult r (λ delta. delta ≡ frame) IsOfStreams) (sym told.1)
    (says_found frame told.0 (subst (Says told.0) read told.2))

module _ {R : Type 0} (stream : R → GivenBytes) (calls : R → Calls) (r0 r1 r2 : R) (status size count : ℕ) (result : Result Frame PullError)
    (head : GivesWhat (stream r0) (stream r1) (λ given. IsHeadRead max_frame_bytes given status size)) (fits : size ≤ max_frame_bytes)
    (well : AllWell 16385 0 (calls r0) (calls r1)) (counted : (calls r1).interrupted ≡ (calls r0).interrupted + count)
    (other : status ≢ 200 → (result ≡ Err (other_of status)) × (r2 ≡ r1))
    (body : status ≡ 200 → (read : Result Frame Stop) × (result ≡ told_by read) × IsBodyRead size count (stream r1) (stream r2) (calls r1) (calls r2) read) where
  offered : status ≡ 200 → IsHeadRead max_frame_bytes head.0 200 size
  offered ok = subst (λ (s : ℕ). IsHeadRead max_frame_bytes head.0 s size) ok head.2

  told_message : status ≡ 200 → (read : Result Frame Stop) → IsBodyRead size count (stream r1) (stream r2) (calls r1) (calls r2) read → IfOk (told_by read) (TellsDelta (stream r0) (stream r2) (calls r0) (calls r2))
  told_message ok (Err stop) is = tt
  told_message ok (Ok delta) is =
      let text = encoding_as is.frame.0 delta in (
        (
          is.frame.0,
          is.frame.1,
          (
            head.0 ++ text,
            gives_more (stream r0) (stream r1) (stream r2) head.0 text head.1 is.frame.3,
            whole_answer head.0 text size (offered ok) is.frame.2,
          ),
        ),
        all_calls (calls r0) (calls r1) (calls r2) size count fits counted well is.calls,
      )

  told_error : status ≡ 200 → (read : Result Frame Stop) → IsBodyRead size count (stream r1) (stream r2) (calls r1) (calls r2) read → IfErr (told_by read) (StopsPull (stream r0) (stream r2) (calls r0) (calls r2))
  told_error ok (Ok delta) is = tt
  told_error ok (Err stop) is =
      let s = is.stop in
      record {
        bytes = head.0 ++ s.given;
        gives = gives_more (stream r0) (stream r1) (stream r2) head.0 s.given head.1 s.gives;
        refuses = inr (inr (size, s.given, stop, record { heads = head.0; split = refl; short = s.short; head = offered ok }, s.refuses, refl));
        ended = λ e. s.ended (is_cut stop e);
        reads = stop_calls (calls r0) (calls r1) (calls r2) size count fits counted well stop is.calls;
      }

  other_error : status ≢ 200 → (r : R) → r ≡ r1 → StopsPull (stream r0) (stream r) (calls r0) (calls r) (other_of status)
  other_error not r same = subst (λ (x : R). StopsPull (stream r0) (stream x) (calls r0) (calls x) (other_of status)) (sym same) (record {
    bytes = head.0;
    gives = head.1;
    refuses = inr (inl (status, size, head.2, not, refl));
    ended = λ e. absurd (no_cut (status == 421) e);
    reads = other_reads (calls r0) (calls r1) (status == 421) (head_well (calls r0) (calls r1) well);
  })

  pub answer_message : IfOk result (TellsDelta (stream r0) (stream r2) (calls r0) (calls r2))
  answer_message = settle (cases_eq status 200)
    where
      settle : (status ≡ 200) ⊎ (status ≢ 200) → IfOk result (TellsDelta (stream r0) (stream r2) (calls r0) (calls r2))
      settle (inl ok) =
          let b = body ok in
          subst (λ (r : Result Frame PullError). IfOk r (TellsDelta (stream r0) (stream r2) (calls r0) (calls r2))) (sym b.1) (told_message ok b.0 b.2)
      settle (inr not) = subst (λ (r : Result Frame PullError). IfOk r (TellsDelta (stream r0) (stream r2) (calls r0) (calls r2))) (sym (other not).0) tt

  pub answer_error : IfErr result (StopsPull (stream r0) (stream r2) (calls r0) (calls r2))
  answer_error = settle (cases_eq status 200)
    where
      settle : (status ≡ 200) ⊎ (status ≢ 200) → IfErr result (StopsPull (stream r0) (stream r2) (calls r0) (calls r2))
      settle (inl ok) =
          let b = body ok in
          subst (λ (r : Result Frame PullError). IfErr r (StopsPull (stream r0) (stream r2) (calls r0) (calls r2))) (sym b.1) (told_error ok b.0 b.2)
      settle (inr not) =
          subst (λ (r : Result Frame PullError). IfErr r (StopsPull (stream r0) (stream r2) (calls r0) (calls r2))) (sym (other not).0)
          (other_error not r2 (other not).1)

  pub answer_found : IfSome (stream r0).left (λ input. IsFound input result)
  answer_found = found_body (stream r0).left (stream r1).left head.0 status size result head.1.left head.2 (λ ok. let b = body ok in (b.0, b.1, b.2.known))

-- ---- the heads say why there is no delta

shown : (old new : GivenBytes) (fault : HttpFault) → Stops old new (ShowsNoHead max_frame_bytes) fault → Stops old new (ShowsNoResponse max_frame_bytes) fault
shown old new fault s = record { bytes = s.bytes; gives = s.gives; is = s.is.shows; ended = s.ended }

pub head_error : (old new : GivenBytes) (before after : Calls) (fault : HttpFault) → Stops old new (ShowsNoHead max_frame_bytes) fault
    → OnReadFault (IsLost 16385 0 before after) (AllWell 16385 0 before after) fault → StopsPull old new before after (Fault fault)
head_error old new before after fault s calls = record {
  bytes = s.bytes;
  gives = s.gives;
  refuses = inl (fault, s.is, refl);
  ended = λ e. s.ended (fault_is fault Cut e);
  reads = head_calls before after fault calls;
}

of_unsent : (old new : TakenBytes) (before after : Calls) (text : List ℕ) (unread untouched : Type 0) (fault : HttpFault)
    → IsUnsent old new before after text unread untouched fault → IsOfStreams (Fault fault)
of_unsent old new before after text unread untouched fault (inl u) = inl (ap (λ (f : HttpFault). Fault f) u.0)
of_unsent old new before after text unread untouched fault (inr u) = inr (inr (ap (λ (f : HttpFault). Fault f) u.0))

anywhere : (left : Option (List ℕ)) (P : List ℕ → Type 0) → ((input : List ℕ) → P input) → IfSome left P
anywhere None P f = tt
anywhere (Some input) P f = f input

found_stopped : (left : Option (List ℕ)) (fault : HttpFault)
    → IfSome left (λ input. (h : ResponseHead) (body rest : List ℕ) → IsResponse head_room max_frame_bytes input h body rest → (fault ≡ ReadFault) ⊎ (fault ≡ NoMemory))
    → IfSome left (λ input. IsFound input (stopped (Fault fault)))
found_stopped None fault found = tt
found_stopped (Some input) fault found = λ bytes rest version frame split rules stands.
    settle (found stands.head (encoding_as version frame) rest (stands_in input bytes rest (encoding_as version frame) stands.head split stands.whole))
  where
    settle : (fault ≡ ReadFault) ⊎ (fault ≡ NoMemory) → IsOfStreams (Fault fault)
    settle (inl read) = inr (inl (ap (λ (f : HttpFault). Fault f) read))
    settle (inr memory) = inr (inr (ap (λ (f : HttpFault). Fault f) memory))

pub found_head : (old new : GivenBytes) (fault : HttpFault) → Stops old new (ShowsNoHead max_frame_bytes) fault → IfSome old.left (λ input. IsFound input (stopped (Fault fault)))
found_head old new fault s = found_stopped old.left fault (response_found max_frame_bytes old new fault (shown old new fault s))

pub found_unsent : (left : Option (List ℕ)) (old new : TakenBytes) (before after : Calls) (text : List ℕ) (unread untouched : Type 0) (fault : HttpFault)
    → IsUnsent old new before after text unread untouched fault → IfSome left (λ input. IsFound input (stopped (Fault fault)))
found_unsent left old new before after text unread untouched fault u =
    anywhere left _ (λ input bytes rest version frame split rules stands. of_unsent old new before after text unread untouched fault u)
