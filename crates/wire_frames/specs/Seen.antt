-- what is known of an input, and what a reading of it ensures
use Rattle.std.specs.Prelude.{◌≡◌, ◌+◌, ◌<◌, ◌≤◌, ℕ, min, List, [], ◌++◌, length, take, drop, Some, Result, Ok, Err, IfErr}
use Rattle.std.specs.Borrow.{GName}
use Rattle.wire_http.specs.Streams.{Calls, FoundEnd, GivenBytes, HasCause, no_calls, too_many_interrupted}
use Rattle.wire_frames.specs.declared.input.Stop.{Stop}
use Rattle.wire_frames.specs.declared.input.Stop.TheVariants.{Fault, Cut, ReadFault, Memory}
use Rattle.wire_frames.specs.FrameFields.{Rest, Read, Gives, value_of}

-- the state of a source: what it has given, the results of its calls, and the count of interrupted
-- calls of the message
pub record Standing : Type 0 where
  pub stream : GivenBytes
  pub calls : Calls
  pub counted : ℕ

-- the source's state at the start, how many bytes of it the frame may take, and which source it is
pub record Start : Type 0 where
  pub standing : Standing
  pub bytes : ℕ
  pub source : GName

-- the start, the source's state now, what was taken of it since, and where the frame must end
pub record Seen : Type 0 where
  pub first : Start
  pub now : Standing
  pub taken : List ℕ
  pub limit : ℕ

-- the whole begins with these bytes
unfoldable pub Begins : List ℕ → List ℕ → Type 0
Begins front whole = (more : List ℕ) × (whole ≡ front ++ more)

-- what is left of the whole, after what was taken of it
abbrev pub rest_in : List ℕ → Seen → Rest
rest_in whole s = record { place = length s.taken; limit = s.limit; ahead = drop (length s.taken) whole }

-- After a stop the whole may go on after what was taken, unless the input gave no more.
abbrev pub MayBe : Stop → Seen → List ℕ → Type 0
MayBe (Fault place) s whole = Begins s.taken whole
MayBe Cut s whole = whole ≡ s.taken
MayBe ReadFault s whole = whole ≡ s.taken
MayBe Memory s whole = Begins s.taken whole

-- the whole, as far as a result tells
abbrev pub Whole : {X : Type 0} → Result X Stop → Seen → List ℕ → Type 0
Whole (Ok x) s whole = Begins s.taken whole
Whole (Err e) s whole = MayBe e s whole

-- the cause of a stop
abbrev pub HasReason : Stop → Seen → Type 0
HasReason (Fault place) s = place ≤ length s.taken
HasReason Cut s = (length s.taken < s.limit) × FoundEnd s.now.stream
HasReason ReadFault s = HasCause s.first.standing.counted s.first.standing.calls s.now.calls
HasReason Memory s = Unit {0}

-- no call has failed since, and the count of interrupted calls is below the limit
unfoldable pub GoesWell : Standing → Standing → Type 0
GoesWell first now = (now.calls.failed ≡ first.calls.failed) × (now.counted < too_many_interrupted)

abbrev pub IsWell : Seen → Type 0
IsWell s = GoesWell s.first.standing s.now

-- the same after each stop except a read fault
abbrev pub StopsWell : Stop → Seen → Type 0
StopsWell (Fault place) s = IsWell s
StopsWell Cut s = IsWell s
StopsWell ReadFault s = Unit {0}
StopsWell Memory s = IsWell s

abbrev pub StaysWell : {X : Type 0} → Result X Stop → Seen → Type 0
StaysWell (Ok x) s = IsWell s
StaysWell (Err e) s = StopsWell e s

abbrev pub Reads : {X Y : Type 0} → Seen → Seen → (X → Y) → Result X Stop → (Rest → Read Y) → Type 0
Reads old new view result scan =
    (new.first ≡ old.first)
    × IfErr result (λ e. HasReason e new)
    × ((whole : List ℕ) → Whole result new whole → Begins old.taken whole × Gives (length new.taken) (λ x. (view x, rest_in whole new)) result (scan (rest_in whole old)))
    × (IsWell old → StaysWell result new)

-- like `Reads`, but without what is left
abbrev pub Answers : {X Y : Type 0} → Seen → Seen → (X → Y) → Result X Stop → (Rest → Read Y) → Type 0
Answers old new view result scan =
    (new.first ≡ old.first)
    × IfErr result (λ e. HasReason e new)
    × ((whole : List ℕ) → Whole result new whole → Begins old.taken whole × Gives (length new.taken) view result (value_of (scan (rest_in whole old))))
    × (IsWell old → StaysWell result new)

-- the frame ends at most this many bytes further on
abbrev pub within : ℕ → Seen → Seen
within len s = record { first = s.first; now = s.now; taken = s.taken; limit = min s.limit (length s.taken + len) }

-- a source that still has these bytes to give, and on which no call was made
abbrev pub telling : List ℕ → Standing
telling bytes = record { stream = record { given = []; ended = 0; left = Some bytes }; calls = no_calls; counted = 0 }

-- a slice that was read up to a place
abbrev pub of_slice : List ℕ → ℕ → ℕ → Seen
of_slice bytes place limit = record { first = record { standing = telling bytes; bytes = length bytes; source = 0 }; now = telling (drop place bytes); taken = take place bytes; limit = limit }
