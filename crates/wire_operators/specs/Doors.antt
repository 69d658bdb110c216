-- Whose requests an operator's port takes: those of operators, and of their page.
use Rattle.std.specs.Prelude.{◌==◌, ◌&&◌, ◌||◌, ℕ, Bool, true, false, List, [], codes, drop, length, map, nat_le, nat_lt, not, slice_index, take, Option, Some, None, is_some}
use Rattle.std.specs.Char.{is_ascii_digit, to_ascii_lowercase}
use Rattle.std.specs.List.{list_any, position_from}
use Rattle.std.specs.Str.{bytes_eq}
use Rattle.wire_api.specs.Answers.{with_body}
use Rattle.wire_http.specs.ByteResponses.{Response}
use Rattle.wire_http.specs.HeadFields.{field_bytes, first_value}
use Rattle.wire_http.specs.declared.message.Field.{Field}

-- whether two texts are equal, ignoring case
abbrev pub is_same : List ℕ → List ℕ → Bool
is_same one other = bytes_eq (map to_ascii_lowercase one) (map to_ascii_lowercase other)

-- what stands before the colon of a port
abbrev pub is_colon : ℕ → Bool
is_colon byte = byte == 58

abbrev pub up_to : Option ℕ → List ℕ → List ℕ
up_to (Some place) host = take place host
up_to None host = host

abbrev pub host_part : List ℕ → List ℕ
host_part host = up_to (position_from is_colon 0 host) host

-- an address is in brackets, or has only digits and dots before its port
abbrev pub is_other_byte : ℕ → Bool
is_other_byte byte = not (byte == 46) && not (is_ascii_digit byte)

abbrev pub is_bracketed : List ℕ → Bool
is_bracketed host = nat_lt 0 (length host) && (slice_index host 0 == 91)

abbrev pub is_address : List ℕ → Bool
is_address host = is_bracketed host || not (list_any is_other_byte (host_part host))

abbrev pub is_named : List (List ℕ) → List ℕ → Bool
is_named names part = list_any (is_same part) names

-- a host is the node's: an address, `localhost`, or one of its names
abbrev pub is_own_host : List (List ℕ) → List ℕ → Bool
is_own_host names host = is_address host || (is_same (host_part host) (codes "localhost") || is_named names (host_part host))

-- an origin is a page of the host that was asked for, or of one of the node's names, at any port: a
-- proxy may ask for another host than the page's
abbrev pub is_page_of : List (List ℕ) → (host page : List ℕ) → Bool
is_page_of names host page = is_same page host || is_named names (host_part page)

abbrev pub is_behind : (scheme : List ℕ) → List (List ℕ) → (host origin : List ℕ) → Bool
is_behind scheme names host origin =
    nat_le (length scheme) (length origin) && (is_same (take (length scheme) origin) scheme && is_page_of names host (drop (length scheme) origin))

abbrev pub is_own_origin : List (List ℕ) → (host origin : List ℕ) → Bool
is_own_origin names host origin = is_behind (codes "http://") names host origin || is_behind (codes "https://") names host origin

-- a request is for another host, or comes from a page of another host
abbrev pub is_foreign_host : List (List ℕ) → Option (List ℕ) → Bool
is_foreign_host names None = false
is_foreign_host names (Some host) = not (is_own_host names host)

abbrev pub is_foreign_origin : List (List ℕ) → (host origin : Option (List ℕ)) → Bool
is_foreign_origin names host None = false
is_foreign_origin names None (Some origin) = true
is_foreign_origin names (Some host) (Some origin) = not (is_own_origin names host origin)

-- the value of the first field with a name
abbrev pub value_in : List ℕ → List Field → Option (List ℕ)
value_in name fields = first_value name (map field_bytes fields)

-- the request is the coordinator's own call to a link of a participant, in an LRA or at its end
abbrev pub is_of_a_call : List Field → Bool
is_of_a_call fields = is_some (value_in (codes "Long-Running-Action") fields) || is_some (value_in (codes "Long-Running-Action-Ended") fields)

-- a request comes neither from an operator nor from the operators' page: it is the coordinator's
-- own call to a link, is for another host, or comes from a page of another host
abbrev pub is_foreign : List (List ℕ) → List Field → Bool
is_foreign names fields =
    is_of_a_call fields
    || (is_foreign_host names (value_in (codes "Host") fields) || is_foreign_origin names (value_in (codes "Host") fields) (value_in (codes "Origin") fields))

abbrev pub foreign_answer : Response
foreign_answer = with_body 403 [] (codes "application/json") (codes "{\"refused\":\"Foreign\"}")
