-- The text of a pull is a whole request.
use Rattle.std.proofs.Common.{◌≡◌, ◌∙◌, ℕ, zero, suc, ◌+◌, ◌*◌, ◌<◌, ◌≤◌, true, List, [], ◌∷◌, ◌++◌, length, codes, Ok, Result, refl, ap, arith, subst, All, IsTrue}
use Rattle.std.specs.Prelude.{IsUtf8}
use Rattle.std.specs.Fmt.{decimal, digits}
use Rattle.std.specs.List.{list_all}
use Rattle.std.specs.Str.Parse.{digits_value}
use Rattle.std.proofs.lemmas.Bool.{le-ltb}
use Rattle.std.proofs.lemmas.List.{length-append}
use Rattle.std.proofs.lemmas.List.Elements.{All-append, All-from_recursion}
use Rattle.std.proofs.lemmas.List.Sums.{AllPass-from_list_all}
use Rattle.std.proofs.lemmas.Str.{IsUtf8-append, IsUtf8-nil}
use Rattle.httparse.specs.Grammar.{AllPass, RequestHead, is_token_byte, is_uri_byte, is_value_byte, trim_ows}
use Rattle.wire_http.specs.declared.fault.Fault.{Fault}
use Rattle.wire_http.specs.HeadFields.{is_number, length_in}
use Rattle.wire_http.specs.Requests.{IsRequest}
use Rattle.wire_http.specs.MessageTexts.{line_end}
use Rattle.wire_http.specs.WholeMessages.{IsPlain, IsSoundCall, host_field}
use Rattle.wire_http.proofs.WholeMessages.{whole_request}
use Rattle.wire_frames.proofs.RecordCodes.{length-vector}
use Rattle.wire_pulls.specs.PullBodies.{pull_body}
use Rattle.wire_pulls.specs.Texts.{IsQuery, field, pull_fields, pull_request, pull_target, pull_text}
use Rattle.wire_pulls.proofs.Requested.{text_is}

-- the length of a pull's body as it is written
record IsSize (n : ℕ) : Type 0 where
  number : is_number (decimal n) ≡ true
  value : digits_value 10 (decimal n) ≡ n
  passes : list_all is_value_byte (decimal n) ≡ true
  trimmed : trim_ows (decimal n) ≡ decimal n
  short : length (decimal n) ≤ 2

size_of : (k : ℕ) → k ≤ 8 → IsSize (1 + 8 * k)
unfolding trim_ows digits
size_of zero low = record { number = refl; value = refl; passes = refl; trimmed = refl; short = omega arith }
size_of (suc zero) low = record { number = refl; value = refl; passes = refl; trimmed = refl; short = omega arith }
size_of (suc (suc zero)) low = record { number = refl; value = refl; passes = refl; trimmed = refl; short = omega arith }
size_of (suc (suc (suc zero))) low = record { number = refl; value = refl; passes = refl; trimmed = refl; short = omega arith }
size_of (suc (suc (suc (suc zero)))) low = record { number = refl; value = refl; passes = refl; trimmed = refl; short = omega arith }
size_of (suc (suc (suc (suc (suc zero))))) low = record { number = refl; value = refl; passes = refl; trimmed = refl; short = omega arith }
size_of (suc (suc (suc (suc (suc (suc zero)))))) low = record { number = refl; value = refl; passes = refl; trimmed = refl; short = omega arith }
size_of (suc (suc (suc (suc (suc (suc (suc zero))))))) low = record { number = refl; value = refl; passes = refl; trimmed = refl; short = omega arith }
size_of (suc (suc (suc (suc (suc (suc (suc (suc zero)))))))) low = record { number = refl; value = refl; passes = refl; trimmed = refl; short = omega arith }
size_of (suc (suc (suc (suc (suc (suc (suc (suc (suc k))))))))) low = absurd (omega (arith, low))

plain_of : (name value : List ℕ) → 0 < length name → list_all is_token_byte name ≡ true → list_all is_value_byte value ≡ true → trim_ows value ≡ value
    → IsPlain (field name value)
plain_of name value some token passes trimmed = record {
  name = (some, AllPass-from_list_all is_token_byte name token);
  value = AllPass-from_list_all is_value_byte value passes;
  trimmed = trimmed;
}

all_plain : (front : List ℕ) → IsSize (1 + 8 * length front) → All IsPlain (host_field (codes "peer") ∷ pull_fields (1 + 8 * length front))
unfolding trim_ows is_token_byte
all_plain front size =
    let host = plain_of (codes "Host") (codes "peer") (omega arith) refl refl refl in
    let kind = plain_of (codes "Content-Type") (codes "application/octet-stream") (omega arith) refl refl refl in
    let size = plain_of (codes "Content-Length") (decimal (1 + 8 * length front)) (omega arith) refl size.passes size.trimmed in
    let last = plain_of (codes "Connection") (codes "close") (omega arith) refl refl refl in
    All-from_recursion IsPlain (host_field (codes "peer") ∷ pull_fields (1 + 8 * length front)) (host, (kind, (size, (last, tt))))

abbrev sized : ℕ → Result ℕ Fault
sized n = Ok n

length_is : (limit n : ℕ) → IsSize n → n ≤ limit → length_in limit (decimal n) ≡ sized n
length_is limit n size fits =
    let value = size.value in
    let low = le-ltb limit n fits in
    rw (size.number, size.value, low) refl

body_length : (front : List ℕ) → 1 + 8 * length front ≡ length (pull_body front)
body_length front = omega (arith, length-vector front)

-- what comes between the line of the request and the length
abbrev behind_line : List ℕ → List ℕ
behind_line rest =
    codes "Host: peer" ++ (line_end
    ++ (codes "Content-Type: application/octet-stream" ++ (line_end
    ++ (codes "Content-Length: " ++ rest))))

-- apart from the query, the head has few bytes
head_short : (query digits : List ℕ) → length query ≤ 16000 → length digits ≤ 2
    → length (codes "POST /peer/pull" ++ ((query ++ (codes " HTTP/1.1" ++ line_end)) ++ behind_line (((digits ++ line_end) ++ (codes "Connection: close" ++ line_end)) ++ line_end))) ≤ 16384
head_short query digits low few =
    let last : List ℕ = codes "Connection: close" ++ line_end in
    let version : List ℕ = codes " HTTP/1.1" ++ line_end in
    let rest : List ℕ = behind_line (((digits ++ line_end) ++ last) ++ line_end) in
    let one = length-append digits line_end in
    let two = length-append (digits ++ line_end) last in
    let three = length-append ((digits ++ line_end) ++ last) line_end in
    let four = length-append query version in
    let five = length-append (query ++ version) rest in
    omega (arith, low, few, one, two, three, four, five)

target_bytes : (query : List ℕ) → AllPass is_uri_byte query → AllPass is_uri_byte (pull_target query)
target_bytes query bytes = All-append (λ b. IsTrue (is_uri_byte b)) (codes "/peer/pull") query (AllPass-from_list_all is_uri_byte (codes "/peer/pull") refl) bytes

path_text : IsUtf8 (codes "/peer/pull")
unfolding lib.Utf8.encode
path_text = (codes "/peer/pull", (refl, refl))

sound : (limit : ℕ) (query front : List ℕ) → 65 ≤ limit → IsQuery query → length front ≤ 8 → IsSoundCall limit (pull_request query front)
unfolding is_token_byte
sound limit query front most asks few =
    let size = size_of (length front) few in
    record {
      method = (omega arith, AllPass-from_list_all is_token_byte (codes "POST") refl);
      target = (omega arith, target_bytes query asks.bytes);
      text = IsUtf8-append (codes "/peer/pull") query path_text asks.text;
      fields = all_plain front size;
      stated = length_is limit (1 + 8 * length front) size (omega (arith, most, few)) ∙ ap sized (body_length front);
      short = head_short query (decimal (1 + 8 * length front)) asks.short size.short;
      few = omega arith;
    }

pub whole_pull : (limit : ℕ) (query front rest : List ℕ) → 65 ≤ limit → IsQuery query → length front ≤ 8
    → (h : RequestHead) × IsRequest limit (pull_text query front ++ rest) h (pull_body front) rest
    × (h.method ≡ codes "POST") × (h.target ≡ pull_target query)
whole_pull limit query front rest most asks few =
    let w = whole_request limit (pull_request query front) rest (sound limit query front most asks few) in
    (w.0, subst (λ (text : List ℕ). IsRequest limit (text ++ rest) w.0 (pull_body front) rest) (text_is query front) w.1, w.2, w.3)

-- without a query
no_query : IsQuery []
no_query = record { text = IsUtf8-nil; bytes = AllPass-from_list_all is_uri_byte [] refl; short = omega arith }

pub bare_pull : (limit : ℕ) (front rest : List ℕ) → 65 ≤ limit → length front ≤ 8
    → (h : RequestHead) × IsRequest limit (pull_text [] front ++ rest) h (pull_body front) rest
    × (h.method ≡ codes "POST") × (h.target ≡ codes "/peer/pull")
bare_pull limit front rest most few = whole_pull limit [] front rest most no_query few
