-- A whole request: a head, and the body that its fields state.
use Rattle.std.specs.Prelude.{◌≡◌, ℕ, ◌+◌, ◌<◌, ◌≤◌, ◌⊎◌, List, [], ◌++◌, length, map, Result, Ok, Err}
use Rattle.httparse.specs.Grammar.{RequestHead, ReadsRequest, NeverHasRequest, EndsInTarget, print_request}
use Rattle.httparse.specs.Spans.{name_and_value, IsRequestAt, IsRequestWithin}
use Rattle.httparse.specs.declared.spans.HeaderSpan.{HeaderSpan}
use Rattle.httparse.specs.declared.spans.RequestSpans.{RequestSpans}
use Rattle.wire_http.specs.declared.fault.Fault.{Fault}
use Rattle.wire_http.specs.declared.fault.Fault.TheVariants.{Cut, ReadFault, WriteFault, HeadTooLong, BodyTooLong, BadHead, LengthNeeded, NotOffered, NoMemory}
use Rattle.wire_http.specs.declared.head.HeadKind.TheVariants.{Request}
use Rattle.wire_http.specs.declared.message.Request.{Request as Question}
use Rattle.wire_http.specs.Heads.{RefusesHead, max_head_bytes, max_head_lines}
use Rattle.wire_http.specs.HeadFields.{field_bytes, request_length}

-- the length that the fields of a head state, or their fault
abbrev pub stated : ℕ → RequestHead → Result ℕ Fault
stated limit h = request_length limit h.minor (map name_and_value h.fields)

-- the input begins with this head, which is within the limits
pub record HasHead (input : List ℕ) (h : RequestHead) (rest : List ℕ) : Type 0 where
  pub reads : ReadsRequest input h rest
  pub bytes : length (print_request h) ≤ max_head_bytes
  pub lines : length h.fields ≤ max_head_lines

-- the input is a whole request and then rest
abbrev pub IsRequest : ℕ → List ℕ → RequestHead → List ℕ → List ℕ → Type 0
IsRequest limit input h body rest = HasHead input h (body ++ rest) × (stated limit h ≡ Ok (length body))

abbrev pub HasNoRequest : ℕ → List ℕ → Type 0
HasNoRequest limit input = (h : RequestHead) (body rest : List ℕ) → ¬ (IsRequest limit input h body rest)

-- the fields of the head have this fault
abbrev pub HasFault : ℕ → List ℕ → Fault → Type 0
HasFault limit input fault =
    (h : RequestHead) × (rest : List ℕ) × HasHead input h rest × (stated limit h ≡ Err fault)

-- the input ends in the body
abbrev pub IsCutInBody : ℕ → List ℕ → Type 0
IsCutInBody limit input =
    (h : RequestHead) × (rest : List ℕ) × (size : ℕ) × HasHead input h rest × (stated limit h ≡ Ok size) × (length rest < size)

-- when each fault comes
abbrev pub RefusesRequest : ℕ → List ℕ → Fault → Type 0
RefusesRequest limit input Cut = HasNoRequest limit input × (RefusesHead Request max_head_bytes max_head_lines input Cut ⊎ IsCutInBody limit input)
RefusesRequest limit input BadHead = RefusesHead Request max_head_bytes max_head_lines input BadHead ⊎ HasFault limit input BadHead
RefusesRequest limit input HeadTooLong = RefusesHead Request max_head_bytes max_head_lines input HeadTooLong
RefusesRequest limit input BodyTooLong = HasFault limit input BodyTooLong
RefusesRequest limit input NotOffered = HasFault limit input NotOffered
RefusesRequest limit input LengthNeeded = ⊥
RefusesRequest limit input WriteFault = ⊥
RefusesRequest limit input ReadFault = Unit {0}
RefusesRequest limit input NoMemory = Unit {0}

-- what has come of a target so far can still be a text
abbrev pub IsTextSoFar : List ℕ → Type 0
IsTextSoFar input = (prefix rest : List ℕ) → input ≡ prefix ++ rest → EndsInTarget prefix → ¬ (NeverHasRequest prefix)

-- the bytes are exactly this whole request
pub record IsRequestMessage (limit : ℕ) (bytes : List ℕ) (question : Question) : Type 0 where
  pub head : RequestHead
  pub whole : IsRequest limit bytes head question.body []
  pub method : question.method ≡ head.method
  pub target : question.target ≡ head.target
  pub fields : map field_bytes question.fields ≡ map name_and_value head.fields

-- the bytes are a head, and its fields have this fault
abbrev pub IsFaultyHead : ℕ → List ℕ → Fault → Type 0
IsFaultyHead limit bytes fault = (h : RequestHead) × HasHead bytes h [] × (stated limit h ≡ Err fault)

-- what was given before each fault: of the head at most one byte more than it may have, and nothing
-- of a body that isn't wanted
abbrev pub Spends : ℕ → List ℕ → Fault → Type 0
Spends limit bytes BadHead = length bytes ≤ max_head_bytes + 1
Spends limit bytes HeadTooLong = length bytes ≤ max_head_bytes + 1
Spends limit bytes BodyTooLong = IsFaultyHead limit bytes BodyTooLong
Spends limit bytes NotOffered = IsFaultyHead limit bytes NotOffered
Spends limit bytes Cut = length bytes ≤ max_head_bytes + limit
Spends limit bytes ReadFault = length bytes ≤ max_head_bytes + 1 + limit
Spends limit bytes NoMemory = length bytes ≤ max_head_bytes + 1 + limit
Spends limit bytes LengthNeeded = ⊥
Spends limit bytes WriteFault = ⊥

-- the bytes show the fault, whatever follows, and are no more than it takes; nothing follows a cut
pub record ShowsNoRequest (limit : ℕ) (bytes : List ℕ) (fault : Fault) : Type 0 where
  pub shown : (more : List ℕ) → (fault ≡ Cut → more ≡ []) → RefusesRequest limit (bytes ++ more) fault
  pub spent : Spends limit bytes fault

-- the bytes are a head, whose parts the spans cover
pub record ArePartsOfRequest (bytes : List ℕ) (headers : List HeaderSpan) (spans : RequestSpans) : Type 0 where
  pub head : RequestHead
  pub at : IsRequestAt bytes headers spans head
  pub within : IsRequestWithin bytes headers spans
  pub whole : bytes ≡ print_request head
