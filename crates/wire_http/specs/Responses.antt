-- A whole response: skipped interim heads, a final head, and the body that its fields state.
use Rattle.std.specs.Prelude.{◌≡◌, ℕ, ◌+◌, ◌<◌, ◌≤◌, ◌⊎◌, List, [], ◌∷◌, ◌++◌, length, map, Bool, ◌==◌, ◌&&◌, nat_lt, nat_le, Result, Ok, Err, IsTrue, IsFalse}
use Rattle.httparse.specs.Grammar.{ResponseHead, IsResponseHead, ReadsResponse, MayBecomeResponse, print_response, status_code}
use Rattle.httparse.specs.Spans.{name_and_value, IsResponseAt, IsResponseWithin}
use Rattle.httparse.specs.declared.spans.HeaderSpan.{HeaderSpan}
use Rattle.httparse.specs.declared.spans.ResponseSpans.{ResponseSpans}
use Rattle.wire_http.specs.declared.fault.Fault.{Fault}
use Rattle.wire_http.specs.declared.fault.Fault.TheVariants.{Cut, ReadFault, WriteFault, HeadTooLong, BodyTooLong, BadHead, LengthNeeded, NotOffered, NoMemory}
use Rattle.wire_http.specs.declared.head.HeadKind.TheVariants.{Response}
use Rattle.wire_http.specs.ByteResponses.{Response as Answer}
use Rattle.wire_http.specs.Heads.{HasNoHead, IsNoHead, IsLong, Exceeds, max_head_bytes, max_head_lines}
use Rattle.wire_http.specs.HeadFields.{field_bytes, response_length}

-- how many bytes and field lines heads may have
pub record Room : Type 0 where
  pub bytes : ℕ
  pub lines : ℕ

-- the room for all heads of a message
abbrev pub head_room : Room
head_room = record { bytes = max_head_bytes; lines = max_head_lines }

-- an interim head is skipped, except the one that switches protocols
abbrev pub is_interim : ℕ → Bool
is_interim code = nat_le 100 code && nat_lt code 200

abbrev pub is_switch : ℕ → Bool
is_switch code = code == 101

-- these interim heads stand at the start, and `rest` follows
abbrev pub Skips : List ResponseHead → List ℕ → List ℕ → Type 0
Skips [] input rest = input ≡ rest
Skips (h ∷ heads) input rest =
    (middle : List ℕ) × ReadsResponse input h middle × IsTrue (is_interim (status_code h))
    × IsFalse (is_switch (status_code h)) × Skips heads middle rest

-- how many bytes, and how many field lines, some heads have
abbrev pub bytes_of : List ResponseHead → ℕ
bytes_of [] = 0
bytes_of (h ∷ heads) = length (print_response h) + bytes_of heads

abbrev pub lines_of : List ResponseHead → ℕ
lines_of [] = 0
lines_of (h ∷ heads) = length h.fields + lines_of heads

-- behind some interim heads, P holds of the room that they leave and of the bytes that follow
pub record Behind (room : Room) (P : Room → List ℕ → Type 0) (input : List ℕ) : Type 0 where
  pub skipped : List ResponseHead
  pub middle : List ℕ
  pub left : Room
  pub skips : Skips skipped input middle
  pub bytes : bytes_of skipped + left.bytes ≡ room.bytes
  pub lines : lines_of skipped + left.lines ≡ room.lines
  pub holds : P left middle

-- the bytes begin with this head, which fits in the room
pub record Begins (h : ResponseHead) (rest : List ℕ) (room : Room) (bytes : List ℕ) : Type 0 where
  pub reads : ReadsResponse bytes h rest
  pub short : length (print_response h) ≤ room.bytes
  pub few : length h.fields ≤ room.lines

-- the final head of the input is h, within the limits
abbrev pub HasFinal : Room → List ℕ → ResponseHead → List ℕ → Type 0
HasFinal room input h rest = Behind room (Begins h rest) input × IsFalse (is_interim (status_code h))

-- the length of the body that the final head states, or the first fault of its fields
abbrev pub stated : ℕ → ResponseHead → Result ℕ Fault
stated limit h = response_length limit (status_code h) (map name_and_value h.fields)

-- the input is a whole response and then `rest`
abbrev pub IsResponse : Room → ℕ → List ℕ → ResponseHead → List ℕ → List ℕ → Type 0
IsResponse room limit input h body rest =
    HasFinal room input h (body ++ rest) × (stated limit h ≡ Ok (length body))

abbrev pub HasNoFinal : Room → List ℕ → Type 0
HasNoFinal room input = (h : ResponseHead) (rest : List ℕ) → ¬ (HasFinal room input h rest)

-- none of the bytes stands behind a final head
abbrev pub IsOfHeads : Room → List ℕ → Type 0
IsOfHeads room bytes = (h : ResponseHead) (rest : List ℕ) → HasFinal room bytes h rest → rest ≡ []

abbrev pub HasNoResponse : Room → ℕ → List ℕ → Type 0
HasNoResponse room limit input =
    (h : ResponseHead) (body rest : List ℕ) → ¬ (IsResponse room limit input h body rest)

-- no head stands there yet, some bytes can follow that complete one, and the room allows the bytes
-- so far
abbrev pub IsUnfinished : Room → List ℕ → Type 0
IsUnfinished room bytes = HasNoHead Response bytes × MayBecomeResponse bytes × (length bytes ≤ room.bytes)

-- whatever bytes follow, neither the bytes nor a prefix of them becomes a head
abbrev pub IsHopeless : Room → List ℕ → Type 0
IsHopeless room bytes = IsNoHead Response room.bytes bytes

-- the head switches protocols
abbrev pub IsSwitched : Room → List ℕ → Type 0
IsSwitched room bytes =
    (h : ResponseHead) × (rest : List ℕ) × Begins h rest room bytes × IsTrue (is_switch (status_code h))

-- more field lines than the room allows
abbrev pub IsCrowded : Room → List ℕ → Type 0
IsCrowded room bytes = Exceeds Response room.lines bytes

-- more bytes or field lines than the room allows
abbrev pub IsOver : Room → List ℕ → Type 0
IsOver room bytes = IsLong Response room.bytes bytes ⊎ IsCrowded room bytes

-- when each fault of the heads comes
abbrev pub RefusesHeads : Room → List ℕ → Fault → Type 0
RefusesHeads room input Cut = HasNoFinal room input × Behind room IsUnfinished input
RefusesHeads room input BadHead = Behind room IsHopeless input ⊎ Behind room IsSwitched input
RefusesHeads room input HeadTooLong = HasNoFinal room input × Behind room IsOver input
RefusesHeads room input ReadFault = Unit {0}
RefusesHeads room input NoMemory = Unit {0}
RefusesHeads room input BodyTooLong = ⊥
RefusesHeads room input LengthNeeded = ⊥
RefusesHeads room input NotOffered = ⊥
RefusesHeads room input WriteFault = ⊥

-- the fields of the final head have this fault
abbrev pub HasFault : Room → ℕ → List ℕ → Fault → Type 0
HasFault room limit input fault =
    (h : ResponseHead) × (rest : List ℕ) × HasFinal room input h rest × (stated limit h ≡ Err fault)

-- the input ends in the body
abbrev pub IsCutInBody : Room → ℕ → List ℕ → Type 0
IsCutInBody room limit input =
    (h : ResponseHead) × (rest : List ℕ) × (size : ℕ)
    × HasFinal room input h rest × (stated limit h ≡ Ok size) × (length rest < size)

-- when each fault comes
abbrev pub RefusesResponse : Room → ℕ → List ℕ → Fault → Type 0
RefusesResponse room limit input Cut =
    HasNoResponse room limit input × (Behind room IsUnfinished input ⊎ IsCutInBody room limit input)
RefusesResponse room limit input BadHead = RefusesHeads room input BadHead ⊎ HasFault room limit input BadHead
RefusesResponse room limit input HeadTooLong = RefusesHeads room input HeadTooLong
RefusesResponse room limit input BodyTooLong = HasFault room limit input BodyTooLong
RefusesResponse room limit input NotOffered = HasFault room limit input NotOffered
RefusesResponse room limit input LengthNeeded = HasFault room limit input LengthNeeded
RefusesResponse room limit input WriteFault = ⊥
RefusesResponse room limit input ReadFault = Unit {0}
RefusesResponse room limit input NoMemory = Unit {0}

-- the bytes are exactly this whole response
pub record IsResponseMessage (limit : ℕ) (bytes : List ℕ) (answer : Answer) : Type 0 where
  pub head : ResponseHead
  pub whole : IsResponse head_room limit bytes head answer.body []
  pub status : answer.status ≡ status_code head
  pub fields : map field_bytes answer.fields ≡ map name_and_value head.fields

-- the bytes are skipped heads and a final head whose fields have this fault
abbrev pub IsFaultyHead : ℕ → List ℕ → Fault → Type 0
IsFaultyHead limit bytes fault = (h : ResponseHead) × HasFinal head_room bytes h [] × (stated limit h ≡ Err fault)

-- what was given before each fault: of the heads at most one byte more than they may have, and
-- nothing of a body that isn't wanted
abbrev pub Spends : ℕ → List ℕ → Fault → Type 0
Spends limit bytes BadHead = length bytes ≤ max_head_bytes + 1
Spends limit bytes HeadTooLong = length bytes ≤ max_head_bytes + 1
Spends limit bytes BodyTooLong = IsFaultyHead limit bytes BodyTooLong
Spends limit bytes NotOffered = IsFaultyHead limit bytes NotOffered
Spends limit bytes LengthNeeded = IsFaultyHead limit bytes LengthNeeded
Spends limit bytes Cut = length bytes ≤ max_head_bytes + 1 + limit
Spends limit bytes ReadFault = length bytes ≤ max_head_bytes + 1 + limit
Spends limit bytes NoMemory = length bytes ≤ max_head_bytes + 1 + limit
Spends limit bytes WriteFault = ⊥

-- the bytes show the fault, whatever follows, and are no more than it takes; nothing follows a cut
pub record ShowsNoResponse (limit : ℕ) (bytes : List ℕ) (fault : Fault) : Type 0 where
  pub shown : (more : List ℕ) → (fault ≡ Cut → more ≡ []) → RefusesResponse head_room limit (bytes ++ more) fault
  pub spent : Spends limit bytes fault

-- ---- what the reader's parts give

-- the bytes are a head, whose parts the spans cover
pub record ArePartsOfResponse (bytes : List ℕ) (headers : List HeaderSpan) (spans : ResponseSpans) : Type 0 where
  pub head : ResponseHead
  pub at : IsResponseAt bytes headers spans head
  pub within : IsResponseWithin bytes headers spans
  pub whole : bytes ≡ print_response head
  pub count : spans.headers ≡ length head.fields

-- what was given is skipped heads and then the final head, which is these bytes
pub record IsFinalRead (given bytes : List ℕ) : Type 0 where
  pub head : ResponseHead
  pub valid : IsResponseHead head
  pub whole : bytes ≡ print_response head
  pub few : length head.fields ≤ max_head_lines
  pub first : (rest : List ℕ) → HasFinal head_room (given ++ rest) head rest
  pub short : length given ≤ max_head_bytes

-- the bytes are skipped heads and then a final head with this code, which states a body of this
-- size
pub record IsHeadRead (limit : ℕ) (given : List ℕ) (code size : ℕ) : Type 0 where
  pub head : ResponseHead
  pub first : (rest : List ℕ) → HasFinal head_room (given ++ rest) head rest
  pub states : stated limit head ≡ Ok size
  pub status : code ≡ status_code head
  pub short : length given ≤ max_head_bytes

-- the bytes, none of which is behind a final head, show why no final head that states a body stands
-- there; if they ended or a read failed, no final head had come
pub record ShowsNoHead (limit : ℕ) (bytes : List ℕ) (fault : Fault) : Type 0 where
  pub shows : ShowsNoResponse limit bytes fault
  pub short : length bytes ≤ max_head_bytes + 1
  pub heads : IsOfHeads head_room bytes
  pub unfinished : fault ≡ Cut → HasNoFinal head_room bytes
  pub unread : fault ≡ ReadFault → HasNoFinal head_room bytes
