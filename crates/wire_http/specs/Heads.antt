-- Heads of messages of either kind, as texts at the start of some bytes.
use Rattle.std.specs.Prelude.{◌≡◌, ℕ, ◌+◌, ◌<◌, ◌≤◌, ◌⊎◌, IsTrue, Bool, true, false, ◌||◌, ◌==◌, List, [], ◌∷◌, ◌++◌, length, eqb}
use Rattle.std.specs.Io.{StopsAt}
use Rattle.std.specs.List.{ends_with}
use Rattle.httparse.specs.Ascii.{carriage_return, line_feed, space}
use Rattle.httparse.specs.Grammar.{RequestHead, ResponseHead, IsRequestHead, IsResponseHead, print_request, print_response, HasNoRequest, HasNoResponse, NeverHasRequest, NeverHasResponse, MayBecomeRequest, MayBecomeResponse}
use Rattle.httparse.specs.Spans.{RequestExceeds, RequestOverflows, ResponseExceeds, ResponseOverflows}
use Rattle.wire_http.specs.Streams.{GivenBytes, Gives}
use Rattle.wire_http.specs.declared.fault.Fault.{Fault}
use Rattle.wire_http.specs.declared.fault.Fault.TheVariants.{Cut, ReadFault, WriteFault, HeadTooLong, BodyTooLong, BadHead, LengthNeeded, NotOffered, NoMemory}
use Rattle.wire_http.specs.declared.head.HeadKind.{HeadKind}
use Rattle.wire_http.specs.declared.head.HeadKind.TheVariants.{Request, Response}
use Rattle.wire_http.specs.declared.head.HeadState.{HeadState}
use Rattle.wire_http.specs.declared.head.HeadState.TheVariants.{More, Whole, Bad, Long}

-- the most bytes and field lines of a message's heads
abbrev pub max_head_bytes : ℕ
max_head_bytes = 16384

abbrev pub max_head_lines : ℕ
max_head_lines = 64

-- the text is a head of this kind with this many field lines
abbrev pub IsHead : HeadKind → List ℕ → ℕ → Type 0
IsHead Request text lines = (h : RequestHead) × IsRequestHead h × (text ≡ print_request h) × (lines ≡ length h.fields)
IsHead Response text lines = (h : ResponseHead) × IsResponseHead h × (text ≡ print_response h) × (lines ≡ length h.fields)

-- no prefix of the bytes is a head
abbrev pub HasNoHead : HeadKind → List ℕ → Type 0
HasNoHead Request bytes = HasNoRequest bytes
HasNoHead Response bytes = HasNoResponse bytes

-- no prefix of the bytes is a head, except all of them
abbrev pub HasNoShorterHead : HeadKind → List ℕ → Type 0
HasNoShorterHead kind bytes =
    (text rest : List ℕ) (lines : ℕ) → IsHead kind text lines → bytes ≡ text ++ rest → rest ≡ []

-- whatever bytes follow, no prefix is a head
abbrev pub NeverHasHead : HeadKind → List ℕ → Type 0
NeverHasHead Request bytes = NeverHasRequest bytes
NeverHasHead Response bytes = NeverHasResponse bytes

-- some bytes can follow that complete these to a head (or the bytes end in a request's target,
-- whose text is tested at its end)
abbrev pub MayBecomeHead : HeadKind → List ℕ → Type 0
MayBecomeHead Request bytes = MayBecomeRequest bytes
MayBecomeHead Response bytes = MayBecomeResponse bytes

-- more than this many field lines have come
abbrev pub Exceeds : HeadKind → ℕ → List ℕ → Type 0
Exceeds Request room bytes = RequestExceeds room bytes
Exceeds Response room bytes = ResponseExceeds room bytes

-- each head that the bytes begin has more than this many field lines
abbrev pub Overflows : HeadKind → ℕ → List ℕ → Type 0
Overflows Request room bytes = RequestOverflows room bytes
Overflows Response room bytes = ResponseOverflows room bytes

-- a prefix of the bytes is a head with at most this many field lines
abbrev pub HasHead : HeadKind → ℕ → List ℕ → Type 0
HasHead kind room bytes =
    (text rest : List ℕ) × (lines : ℕ) × IsHead kind text lines × (bytes ≡ text ++ rest) × (lines ≤ room)

-- no prefix of the bytes is a head within the limits
abbrev pub HasNoHeadWithin : HeadKind → ℕ → ℕ → List ℕ → Type 0
HasNoHeadWithin kind most room bytes =
    (text rest : List ℕ) (lines : ℕ) → IsHead kind text lines → bytes ≡ text ++ rest → length text ≤ most → ¬ (lines ≤ room)

-- a prefix of the bytes is a head, or the bytes may become one
abbrev pub IsOpen : HeadKind → List ℕ → Type 0
IsOpen kind bytes =
    MayBecomeHead kind bytes ⊎ ((text rest : List ℕ) × (lines : ℕ) × IsHead kind text lines × (bytes ≡ text ++ rest))

-- what the bytes of a head so far are
abbrev pub IsHeadState : HeadKind → ℕ → ℕ → List ℕ → HeadState → Type 0
IsHeadState kind most room bytes More = HasNoHead kind bytes × MayBecomeHead kind bytes × (length bytes ≤ most)
IsHeadState kind most room bytes Whole = HasHead kind room bytes × (length bytes ≤ most)
IsHeadState kind most room bytes Bad = NeverHasHead kind bytes
IsHeadState kind most room bytes Long =
    ((most < length bytes) × IsOpen kind bytes) ⊎ (Exceeds kind room bytes × Overflows kind room bytes)

-- the last line is empty, and another line stands before it
abbrev pub ends_empty : List ℕ → Bool
ends_empty bytes =
    ends_with eqb bytes (line_feed ∷ line_feed ∷ []) || ends_with eqb bytes (line_feed ∷ carriage_return ∷ line_feed ∷ [])

abbrev pub is_space : ℕ → Bool
is_space byte = byte == space

-- if the parser isn't asked about the bytes, they are within the limit and, if they have a space,
-- don't end in an empty line
abbrev pub MayLack : Bool → List ℕ → ℕ → Bool → Type 0
MayLack spaced bytes most true = Unit {0}
MayLack spaced bytes most false = (IsTrue spaced → ends_empty bytes ≡ false) × (length bytes ≤ most)

-- at most `most` bytes were given, and nothing behind a line feed
pub record IsPart (most : ℕ) (old new : GivenBytes) (part : List ℕ) : Type 0 where
  pub gives : Gives old new part
  pub line : StopsAt part line_feed
  pub short : length part ≤ most

-- a failed read gave nothing
abbrev pub FailsAt : Fault → List ℕ → Type 0
FailsAt ReadFault part = part ≡ []
FailsAt NoMemory part = Unit {0}
FailsAt WriteFault part = ⊥
FailsAt Cut part = ⊥
FailsAt BadHead part = ⊥
FailsAt HeadTooLong part = ⊥
FailsAt BodyTooLong part = ⊥
FailsAt LengthNeeded part = ⊥
FailsAt NotOffered part = ⊥

-- the bytes that were taken are a head within the limits
pub record IsHeadWithin (kind : HeadKind) (most room : ℕ) (bytes : List ℕ) : Type 0 where
  pub lines : ℕ
  pub head : IsHead kind bytes lines
  pub short : length bytes ≤ most
  pub few : lines ≤ room

-- a prefix of the input, at most one byte longer than a head may be, that no further bytes can make
-- a head
pub record IsNoHead (kind : HeadKind) (most : ℕ) (input : List ℕ) : Type 0 where
  pub prefix : List ℕ
  pub rest : List ℕ
  pub whole : input ≡ prefix ++ rest
  pub short : length prefix ≤ most + 1
  pub never : NeverHasHead kind prefix

-- the input has at least one byte more than a head may have, and up to there it could be a head
pub record IsLong (kind : HeadKind) (most : ℕ) (input : List ℕ) : Type 0 where
  pub prefix : List ℕ
  pub rest : List ℕ
  pub whole : input ≡ prefix ++ rest
  pub long : length prefix ≡ most + 1
  pub may : MayBecomeHead kind prefix

-- no head within the limits, and more bytes or field lines than the limits allow
abbrev pub IsHeadTooLong : HeadKind → ℕ → ℕ → List ℕ → Type 0
IsHeadTooLong kind most room input =
    (IsLong kind most input ⊎ Exceeds kind room input) × HasNoHeadWithin kind most room input

-- when each fault of a head comes
abbrev pub RefusesHead : HeadKind → ℕ → ℕ → List ℕ → Fault → Type 0
RefusesHead kind most room input Cut = HasNoHead kind input × MayBecomeHead kind input × (length input ≤ most)
RefusesHead kind most room input BadHead = IsNoHead kind most input
RefusesHead kind most room input HeadTooLong = IsHeadTooLong kind most room input
RefusesHead kind most room input ReadFault = Unit {0}
RefusesHead kind most room input NoMemory = Unit {0}
RefusesHead kind most room input BodyTooLong = ⊥
RefusesHead kind most room input LengthNeeded = ⊥
RefusesHead kind most room input NotOffered = ⊥
RefusesHead kind most room input WriteFault = ⊥
