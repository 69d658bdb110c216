-- The text of a message (RFC 9112, sections 2 to 6): each line ends with CR and LF.
use Rattle.std.specs.Prelude.{ℕ, List, [], ◌∷◌, ◌++◌, codes, unwrap_or}
use Rattle.http.specs.StatusCode.{code_digits, reason_phrase}
use Rattle.wire_http.specs.declared.message.CallRequest.{CallRequest}
use Rattle.wire_http.specs.declared.message.Field.{Field}
use Rattle.wire_http.specs.ByteResponses.{Response}
use Rattle.wire_http.specs.declared.message.Response.{Response as WithBody}

-- CR and LF
abbrev pub line_end : List ℕ
line_end = 13 ∷ 10 ∷ []

abbrev pub field_line : Field → List ℕ
field_line f = f.name ++ (codes ": " ++ (f.value ++ line_end))

abbrev pub field_lines : List Field → List ℕ
field_lines [] = []
field_lines (f ∷ fs) = field_line f ++ field_lines fs

-- the phrase that http gives to a code, empty if it has none
unfoldable pub phrase : ℕ → List ℕ
phrase code = unwrap_or (reason_phrase code) []

abbrev pub status_line : ℕ → List ℕ
status_line code = codes "HTTP/1.1 " ++ (code_digits code ++ (codes " " ++ (phrase code ++ line_end)))

-- the status line, the fields in order, and an empty line
abbrev pub response_head : {B : Type 0} → WithBody B → List ℕ
response_head r = status_line r.status ++ (field_lines r.fields ++ line_end)

abbrev pub response_text : Response → List ℕ
response_text r = response_head r ++ r.body

-- the text of a response, given the bytes of its body
abbrev pub text_with : {B : Type 0} → (B → List ℕ) → WithBody B → List ℕ
text_with bytes r = response_head r ++ bytes r.body

abbrev pub request_line : (method target : List ℕ) → List ℕ
request_line method target = method ++ (codes " " ++ (target ++ (codes " HTTP/1.1" ++ line_end)))

abbrev pub host_line : List ℕ → List ℕ
host_line host = codes "Host: " ++ (host ++ line_end)

-- the request line, the host, the fields in order, and an empty line
abbrev pub request_head : CallRequest → List ℕ
request_head r = request_line r.method r.target ++ (host_line r.host ++ (field_lines r.fields ++ line_end))

abbrev pub request_text : CallRequest → List ℕ
request_text r = request_head r ++ r.body
