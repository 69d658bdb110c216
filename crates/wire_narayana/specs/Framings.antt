-- How a body ends, and which text of a message is its body (RFC 9112, section 6).
use Rattle.std.specs.Prelude.{◌≡◌, ◌≤◌, ◌<◌, ◌⊎◌, ℕ, List, [], ◌∷◌, ◌++◌, length, map, codes, if◌then◌else◌}
use Rattle.std.specs.List.{AllByRecursion, flat_map}
use Rattle.std.specs.Char.{to_ascii_lowercase}
use Rattle.std.specs.Str.Parse.{AllDigits, digits_value}
use Rattle.httparse.specs.Grammar.{IsRequestHead, IsResponseHead, RequestHead, ResponseHead, print_request, print_response, status_code}
use Rattle.httparse.specs.Spans.{name_and_value}
use Rattle.wire_http.specs.HeadFields.{is_bare, values}
use Rattle.wire_narayana.specs.Chunks.{IsChunked}
use Rattle.wire_narayana.specs.declared.message.ServiceFields.{ServiceFields}
use Rattle.wire_narayana.specs.declared.fields.Framing.{Framing}
use Rattle.wire_narayana.specs.declared.fields.Framing.TheVariants.{Length, Chunks, End}

-- the last value, or nothing if there is none
abbrev pub last_value : List (List ℕ) → List ℕ
last_value [] = []
last_value (text ∷ []) = text
last_value (text ∷ next ∷ texts) = last_value (next ∷ texts)

-- digits, and their value
pub record IsLength (text : List ℕ) (size : ℕ) : Type 0 where
  pub digits : AllDigits 10 text
  pub some : 0 < length text
  pub value : size ≡ digits_value 10 text

-- the word `chunked`, ignoring case
abbrev pub IsChunkedWord : List ℕ → Type 0
IsChunkedWord text = map to_ascii_lowercase text ≡ map to_ascii_lowercase (codes "chunked")

-- given these values of Content-Length and of Transfer-Encoding, a body ends so: one of the two
-- fields says it, or neither does
abbrev pub SaysFraming : Framing → List (List ℕ) → List (List ℕ) → Framing → Type 0
SaysFraming unsaid lengths codings (Length size) =
    ((lengths ≡ []) × (codings ≡ []) × (unsaid ≡ Length size)) ⊎ ((text : List ℕ) × (lengths ≡ text ∷ []) × (codings ≡ []) × IsLength text size)
SaysFraming unsaid lengths codings Chunks =
    ((lengths ≡ []) × (codings ≡ []) × (unsaid ≡ Chunks)) ⊎ ((text : List ℕ) × (lengths ≡ []) × (codings ≡ text ∷ []) × IsChunkedWord text)
SaysFraming unsaid lengths codings End = (lengths ≡ []) × (codings ≡ []) × (unsaid ≡ End)

-- the fields of a head say that the body ends so
abbrev pub SayFraming : Framing → List (List ℕ × List ℕ) → Framing → Type 0
SayFraming unsaid fields framing = SaysFraming unsaid (values (codes "content-length") fields) (values (codes "transfer-encoding") fields) framing

-- the text is a body of this framing: of the stated length, in chunks, or, if it ends with the
-- connection, not read
abbrev pub IsFramed : Framing → List ℕ → List ℕ → Type 0
IsFramed (Length size) body text = (text ≡ body) × (length body ≡ size)
IsFramed Chunks body text = IsChunked body text
IsFramed End body text = (text ≡ []) × (body ≡ [])

-- Answers

-- a head of this code, whose fields say that the body ends so; if they don't say, it ends with the
-- connection
pub record IsHeadOf (h : ResponseHead) (text : List ℕ) (code : ℕ) (framing : Framing) : Type 0 where
  pub head : IsResponseHead h
  pub text_is : text ≡ print_response h
  pub code_is : code ≡ status_code h
  pub framing_is : SayFraming End (map name_and_value h.fields) framing

-- a head of this code and framing, as a text
abbrev pub IsHeadText : ℕ → Framing → List ℕ → Type 0
IsHeadText code framing text = (h : ResponseHead) × IsHeadOf h text code framing

-- an interim head, such as 100
pub record IsInterim (h : ResponseHead) : Type 0 where
  pub head : IsResponseHead h
  pub code : status_code h < 200

-- interim heads, one after another
abbrev pub AreInterim : List ℕ → Type 0
AreInterim text = (heads : List ResponseHead) × AllByRecursion IsInterim heads × (text ≡ flat_map print_response heads)

-- interim heads, and then a final one
abbrev pub IsFinal : ℕ → Framing → List ℕ → Type 0
IsFinal code framing text = (front head : List ℕ) × AreInterim front × IsHeadText code framing head × (200 ≤ code) × (text ≡ front ++ head)

-- a response of a bare code has no body, whatever its fields say
abbrev pub framing_for : ℕ → Framing → Framing
framing_for code said = if is_bare code then End else said

-- heads and a body of this framing, and nothing more
abbrev pub IsAnswer : ℕ → Framing → List ℕ → List ℕ → Type 0
IsAnswer code framing body text = (said : Framing) × (head behind : List ℕ) × IsFinal code said head × (framing ≡ framing_for code said) × IsFramed framing body behind × (text ≡ head ++ behind)

-- Requests

-- the fields that are used: the last of each name, or nothing if there is none
pub record AreFields (f : ServiceFields) (fields : List (List ℕ × List ℕ)) : Type 0 where
  pub link : f.link.bytes.items ≡ last_value (values (codes "link") fields)
  pub lra : f.lra.bytes.items ≡ last_value (values (codes "long-running-action") fields)
  pub ended : f.ended.bytes.items ≡ last_value (values (codes "long-running-action-ended") fields)
  pub parent : f.parent.bytes.items ≡ last_value (values (codes "long-running-action-parent") fields)
  pub recovery : f.recovery.bytes.items ≡ last_value (values (codes "long-running-action-recovery") fields)

-- a head of this method and target, whose fields say that the body ends so; if they don't say,
-- there is no body
pub record IsAskedBy (h : RequestHead) (text method target : List ℕ) (f : ServiceFields) (framing : Framing) : Type 0 where
  pub head : IsRequestHead h
  pub text_is : text ≡ print_request h
  pub method_is : method ≡ h.method
  pub target_is : target ≡ h.target
  pub fields_are : AreFields f (map name_and_value h.fields)
  pub framing_is : SayFraming (Length 0) (map name_and_value h.fields) framing

-- a head and a body, and nothing more
abbrev pub IsRequest : List ℕ → List ℕ → ServiceFields → List ℕ → List ℕ → Type 0
IsRequest method target f body text =
    (h : RequestHead) × (framing : Framing) × (head behind : List ℕ) × IsAskedBy h head method target f framing × IsFramed framing body behind × (text ≡ head ++ behind)
