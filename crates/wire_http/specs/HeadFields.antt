-- What the fields of a head say about the body.
use Rattle.std.specs.Prelude.{◌≡◌, ℕ, ◌≤◌, List, [], ◌∷◌, length, map, Bool, true, false, ◌==◌, ◌&&◌, ◌||◌, nat_lt, not, if◌then◌else◌, codes, Option, Some, None, Result, Ok, Err}
use Rattle.std.specs.List.{list_all}
use Rattle.std.specs.Str.{bytes_eq}
use Rattle.std.specs.Char.{is_ascii_digit, to_ascii_lowercase}
use Rattle.std.specs.Str.Parse.{digits_value}
use Rattle.wire_http.specs.declared.fault.Fault.{Fault}
use Rattle.wire_http.specs.declared.fault.Fault.TheVariants.{BodyTooLong, BadHead, LengthNeeded, NotOffered}
use Rattle.wire_http.specs.declared.message.Field.{Field}
use Rattle.wire_http.specs.declared.fields.Found.{Found}
use Rattle.wire_http.specs.declared.fields.Found.TheVariants.{Absent, Sole, Several}

-- what the search for a field found, given all values with the field's name
abbrev pub IsFound : Found → List (List ℕ) → Type 0
IsFound Absent found = found ≡ []
IsFound (Sole text) found = found ≡ text.now ∷ []
IsFound Several found = 2 ≤ length found

-- the name and the value of a field
abbrev pub field_bytes : Field → List ℕ × List ℕ
field_bytes field = (field.name, field.value)

-- the field has this name, ignoring case
abbrev pub is_named : List ℕ → List ℕ × List ℕ → Bool
is_named name field = bytes_eq (map to_ascii_lowercase field.0) (map to_ascii_lowercase name)

-- the values of the fields with this name, ignoring case
abbrev pub values : List ℕ → List (List ℕ × List ℕ) → List (List ℕ)
values name [] = []
values name (field ∷ fields) =
    if is_named name field then field.1 ∷ values name fields else values name fields

-- the value of the first field with this name
abbrev pub first_value : List ℕ → List (List ℕ × List ℕ) → Option (List ℕ)
first_value name [] = None
first_value name (field ∷ fields) = if is_named name field then Some field.1 else first_value name fields

-- one or more digits and nothing else
abbrev pub is_number : List ℕ → Bool
is_number text = nat_lt 0 (length text) && list_all is_ascii_digit text

-- the length that a Content-Length field states
abbrev pub length_in : ℕ → List ℕ → Result ℕ Fault
length_in limit text =
    if is_number text then (if nat_lt limit (digits_value 10 text) then Err BodyTooLong else Ok (digits_value 10 text))
    else Err BadHead

-- a response of this code has no body
abbrev pub is_bare : ℕ → Bool
is_bare code = code == 204 || code == 304

-- no body, whatever length is stated, if the code is bare
abbrev pub without_body : Bool → Result ℕ Fault → Result ℕ Fault
without_body true (Ok size) = Ok 0
without_body true (Err fault) = Err fault
without_body false length = length

-- the length that the Content-Length fields of a response state
abbrev pub stated_length : ℕ → Bool → List (List ℕ) → Result ℕ Fault
stated_length limit bare [] = if bare then Ok 0 else Err LengthNeeded
stated_length limit bare (text ∷ []) = without_body bare (length_in limit text)
stated_length limit bare (_ ∷ _ ∷ _) = Err BadHead

-- the length of the body behind a final head, or the first fault of the head: a code below 100 is
-- no status (RFC 9110, section 15)
abbrev pub response_length : ℕ → ℕ → List (List ℕ × List ℕ) → Result ℕ Fault
response_length limit code fields =
    if nat_lt code 100 then Err BadHead
    else if nat_lt 0 (length (values (codes "transfer-encoding") fields)) then Err NotOffered
    else stated_length limit (is_bare code) (values (codes "content-length") fields)

-- the length that the Content-Length fields of a request state: 0 if there is none
abbrev pub asked_length : ℕ → List (List ℕ) → Result ℕ Fault
asked_length limit [] = Ok 0
asked_length limit (text ∷ []) = length_in limit text
asked_length limit (_ ∷ _ ∷ _) = Err BadHead

-- a request of version 1.1 has one Host field, and one of version 1.0 at most one
abbrev pub has_right_hosts : ℕ → List (List ℕ) → Bool
has_right_hosts minor hosts = length hosts == 1 || (length hosts == 0 && minor == 0)

-- the length of a request's body, or the first fault of its fields
abbrev pub request_length : ℕ → ℕ → List (List ℕ × List ℕ) → Result ℕ Fault
request_length limit minor fields =
    if nat_lt 0 (length (values (codes "transfer-encoding") fields)) then Err NotOffered
    else if not (has_right_hosts minor (values (codes "host") fields)) then Err BadHead
    else asked_length limit (values (codes "content-length") fields)
