-- Messages whose text reads back as a whole message.
use Rattle.std.specs.Prelude.{◌≡◌, ℕ, ◌<◌, ◌≤◌, List, ◌∷◌, length, map, All, IsUtf8, codes, Ok}
use Rattle.httparse.specs.Grammar.{IsToken, AllPass, is_value_byte, is_uri_byte, trim_ows}
use Rattle.wire_http.specs.declared.message.CallRequest.{CallRequest}
use Rattle.wire_http.specs.declared.message.Field.{Field}
use Rattle.wire_http.specs.ByteResponses.{Response}
use Rattle.wire_http.specs.HeadFields.{field_bytes, request_length, response_length}
use Rattle.wire_http.specs.Heads.{max_head_bytes, max_head_lines}
use Rattle.wire_http.specs.MessageTexts.{request_head, response_head}

-- the name is a token, and the value has no control byte but the tab, and no white space at its
-- ends (RFC 9110, section 5.5)
pub record IsPlain (f : Field) : Type 0 where
  pub name : IsToken f.name
  pub value : AllPass is_value_byte f.value
  pub trimmed : trim_ows f.value ≡ f.value

-- a final status, plain fields within the limits, and among them the length of the body or a field
-- that says there is none
pub record IsSound (limit : ℕ) (r : Response) : Type 0 where
  pub final : 200 ≤ r.status
  pub status : r.status < 1000
  pub fields : All IsPlain r.fields
  pub stated : response_length limit r.status (map field_bytes r.fields) ≡ Ok (length r.body)
  pub short : length (response_head r) ≤ max_head_bytes
  pub few : length r.fields ≤ max_head_lines

-- the host as a field
abbrev pub host_field : List ℕ → Field
host_field host = record { name = codes "Host"; value = host }

-- the same for a request, whose host is one of its fields
pub record IsSoundCall (limit : ℕ) (r : CallRequest) : Type 0 where
  pub method : IsToken r.method
  pub target : (0 < length r.target) × AllPass is_uri_byte r.target
  pub text : IsUtf8 r.target
  pub fields : All IsPlain (host_field r.host ∷ r.fields)
  pub stated : request_length limit 1 (map field_bytes (host_field r.host ∷ r.fields)) ≡ Ok (length r.body)
  pub short : length (request_head r) ≤ max_head_bytes
  pub few : length (host_field r.host ∷ r.fields) ≤ max_head_lines
