-- What is written is a whole message.
use Rattle.std.proofs.Common.{◌≡◌, ℕ, zero, suc, ◌<◌, ◌≤◌, Bool, true, false, ◌&&◌, ◌==◌, List, [], ◌∷◌, ◌++◌, length, map, codes, All, Some, refl, sym, ap, subst, ◌∙◌, arith, append_assoc, IsTrue, IsFalse}
use Rattle.std.proofs.lemmas.Bool.Decides.{nat_tests, Decides-below_and}
use Rattle.std.proofs.lemmas.List.{length-map}
use Rattle.std.proofs.lemmas.List.Elements.{All-from_recursion, recursion_from_All}
use Rattle.std.proofs.lemmas.List.Sums.{AllPass-from_list_all}
use Rattle.std.specs.List.{AllByRecursion, list_all, flat_map}
use Rattle.std.specs.Char.{is_ascii_digit}
use Rattle.std.specs.Str.Parse.{digits_value}
use Rattle.http.specs.StatusCode.{code_digits}
use Rattle.httparse.specs.Grammar.{crlf, AllPass, IsField, RequestHead, ResponseHead, is_value_byte, print_field, print_section, print_request, print_response, status_code, trim_ows}
use Rattle.httparse.specs.Grammar.{Field as ReadField}
use Rattle.httparse.specs.Spans.{name_and_value}
use Rattle.wire_http.specs.declared.message.CallRequest.{CallRequest}
use Rattle.wire_http.specs.declared.message.Field.{Field}
use Rattle.wire_http.specs.ByteResponses.{Response as Answer}
use Rattle.wire_http.specs.HeadFields.{field_bytes, request_length, response_length}
use Rattle.wire_http.specs.Requests.{IsRequest}
use Rattle.wire_http.specs.Responses.{head_room, is_interim, Begins, IsResponse}
use Rattle.wire_http.specs.MessageTexts.{line_end, field_line, field_lines, phrase, request_head, request_line, request_text, response_head, response_text, status_line}
use Rattle.wire_http.specs.WholeMessages.{IsPlain, IsSound, IsSoundCall, host_field}
use Rattle.wire_http.proofs.Interims.{behind_none}

-- ---- fields

-- the field as the grammar has it
abbrev pub as_read : Field → ReadField
as_read f = record { name = f.name; raw = 32 ∷ f.value; end = crlf }

line_is : (f : Field) → print_field (as_read f) ≡ field_line f
line_is f = append_assoc f.name (58 ∷ 32 ∷ f.value) line_end

lines_are : (fs : List Field) → flat_map print_field (map as_read fs) ≡ field_lines fs
lines_are [] = refl
lines_are (f ∷ fs) =
    ap (λ (t : List ℕ). t ++ flat_map print_field (map as_read fs)) (line_is f) ∙ ap (λ (t : List ℕ). field_line f ++ t) (lines_are fs)

section_is : (fs : List Field) → print_section (map as_read fs) crlf ≡ field_lines fs ++ line_end
section_is fs = ap (λ (t : List ℕ). t ++ line_end) (lines_are fs)

trimmed_is : (value : List ℕ) → trim_ows (32 ∷ value) ≡ trim_ows value
unfolding trim_ows
trimmed_is value = refl

value_is : (f : Field) → IsPlain f → name_and_value (as_read f) ≡ field_bytes f
value_is f plain = ap (λ (v : List ℕ). (f.name, v)) (trimmed_is f.value ∙ plain.trimmed)

values_by : (fs : List Field) → AllByRecursion IsPlain fs → map name_and_value (map as_read fs) ≡ map field_bytes fs
values_by [] plain = refl
values_by (f ∷ fs) plain =
    ap (λ (t : List ℕ × List ℕ). t ∷ map name_and_value (map as_read fs)) (value_is f plain.0)
    ∙ ap (λ (l : List (List ℕ × List ℕ)). field_bytes f ∷ l) (values_by fs plain.1)

values_are : (fs : List Field) → All IsPlain fs → map name_and_value (map as_read fs) ≡ map field_bytes fs
values_are fs plain = values_by fs (recursion_from_All IsPlain fs plain)

space_passes : IsTrue (is_value_byte 32)
space_passes = refl

raw_by : (value : List ℕ) → AllByRecursion (λ b. IsTrue (is_value_byte b)) value → AllByRecursion (λ b. IsTrue (is_value_byte b)) (32 ∷ value)
raw_by value all = (space_passes, all)

raw_is : (value : List ℕ) → AllPass is_value_byte value → AllPass is_value_byte (32 ∷ value)
raw_is value all =
    All-from_recursion (λ b. IsTrue (is_value_byte b)) (32 ∷ value)
    (raw_by value (recursion_from_All (λ b. IsTrue (is_value_byte b)) value all))

field_is : (f : Field) → IsPlain f → IsField (as_read f)
field_is f plain = record { name = plain.name; raw = raw_is f.value plain.value }

fields_by : (fs : List Field) → AllByRecursion IsPlain fs → AllByRecursion IsField (map as_read fs)
fields_by [] plain = plain
fields_by (f ∷ fs) plain = (field_is f plain.0, fields_by fs plain.1)

fields_are : (fs : List Field) → All IsPlain fs → All IsField (map as_read fs)
fields_are fs plain = All-from_recursion IsField (map as_read fs) (fields_by fs (recursion_from_All IsPlain fs plain))

-- ---- statuses

-- the digits of a code are digits, and write it; and its phrase may stand in a status line
abbrev is_fine : ℕ → Bool
is_fine n = (digits_value 10 (code_digits n) == n) && (list_all is_ascii_digit (code_digits n) && list_all is_value_byte (phrase n))

fine_below : ℕ → Bool
fine_below zero = true
fine_below (suc n) = is_fine n && fine_below n

all_fine : fine_below 1000 ≡ true
unfolding phrase fine_below
all_fine = refl

fine : (n : ℕ) → n < 1000 → is_fine n ≡ true
unfolding fine_below
fine n h = (Decides-below_and is_fine (λ k. is_fine k ≡ true) fine_below (λ k. (λ x. x, λ x. x)) refl (λ _. refl) 1000).0 all_fine n h

and_three : (a b c : Bool) → (a && (b && c)) ≡ true → (a ≡ true) × (b ≡ true) × (c ≡ true)
and_three true true true h = (refl, refl, refl)
and_three true true false h = absurd (let e : false ≡ true = h in cc)
and_three true false c h = absurd (let e : false ≡ true = h in cc)
and_three false b c h = absurd (let e : false ≡ true = h in cc)

-- ---- a response

abbrev head_of : Answer → ResponseHead
head_of r = record {
  blank = [];
  minor = 1;
  digits = code_digits r.status;
  reason = Some (phrase r.status);
  line_end = crlf;
  fields = map as_read r.fields;
  last = crlf;
}

response_is : (r : Answer) → print_response (head_of r) ≡ response_head r
unfolding print_response
response_is r = ap (λ (t : List ℕ). status_line r.status ++ t) (section_is r.fields)

same_number : (a b : ℕ) → (a == b) ≡ true → a ≡ b
same_number a b e = grind (arith, nat_tests)

no_interim : (n : ℕ) → 200 ≤ n → IsFalse (is_interim n)
no_interim n h = grind (arith, nat_tests)

pub whole_response : (limit : ℕ) (r : Answer) (rest : List ℕ) → IsSound limit r
    → (h : ResponseHead) × IsResponse head_room limit (response_text r ++ rest) h r.body rest
    × (status_code h ≡ r.status) × (map name_and_value h.fields ≡ map field_bytes r.fields)
whole_response limit r rest s =
    let h = head_of r in
    let good = and_three _ _ _ (fine r.status s.status) in
    let code : status_code h ≡ r.status = same_number _ _ good.0 in
    let values : map name_and_value h.fields ≡ map field_bytes r.fields = values_are r.fields s.fields in
    let size = s.short in
    let few = s.few in
    let begins : Begins h (r.body ++ rest) head_room (response_text r ++ rest) = record {
      reads = (
        record {
          minor = omega arith;
          digits = (refl, AllPass-from_list_all is_ascii_digit (code_digits r.status) good.1);
          reason = AllPass-from_list_all is_value_byte (phrase r.status) good.2;
          fields = fields_are r.fields s.fields;
        },
        append_assoc (response_head r) r.body rest ∙ ap (λ (t : List ℕ). t ++ (r.body ++ rest)) (sym (response_is r)),
      );
      short = let same : length (print_response h) ≡ length (response_head r) = ap length (response_is r) in omega (arith, same, size);
      few = omega (arith, length-map r.fields as_read, few);
    } in (
      h,
      (
        (behind_none head_room (response_text r ++ rest) (Begins h (r.body ++ rest)) begins, subst (λ (c : ℕ). IsFalse (is_interim c)) (sym code) (no_interim r.status s.final)),
        ap (λ (c : ℕ). response_length limit c (map name_and_value h.fields)) code ∙ ap (response_length limit r.status) values ∙ s.stated,
      ),
      code,
      values,
    )

-- ---- a request

abbrev call_head : CallRequest → RequestHead
call_head r = record {
  blank = [];
  method = r.method;
  target = r.target;
  minor = 1;
  line_end = crlf;
  fields = map as_read (host_field r.host ∷ r.fields);
  last = crlf;
}

line_grouped : (m t v e : List ℕ) → ((m ++ (32 ∷ t)) ++ (32 ∷ v)) ++ e ≡ m ++ (32 ∷ (t ++ ((32 ∷ v) ++ e)))
line_grouped m t v e = append_assoc (m ++ (32 ∷ t)) (32 ∷ v) e ∙ append_assoc m (32 ∷ t) ((32 ∷ v) ++ e)

request_is : (r : CallRequest) → print_request (call_head r) ≡ request_head r
unfolding print_request
request_is r =
    ap (λ (t : List ℕ). t ++ print_section (map as_read (host_field r.host ∷ r.fields)) crlf) (line_grouped r.method r.target (codes "HTTP/1.1") line_end)
    ∙ ap (λ (t : List ℕ). request_line r.method r.target ++ t)
    (section_is (host_field r.host ∷ r.fields) ∙ append_assoc (field_line (host_field r.host)) (field_lines r.fields) line_end)

pub whole_request : (limit : ℕ) (r : CallRequest) (rest : List ℕ) → IsSoundCall limit r
    → (h : RequestHead) × IsRequest limit (request_text r ++ rest) h r.body rest
    × (h.method ≡ r.method) × (h.target ≡ r.target) × (map name_and_value h.fields ≡ map field_bytes (host_field r.host ∷ r.fields))
whole_request limit r rest s =
    let h = call_head r in
    let all = host_field r.host ∷ r.fields in
    let values : map name_and_value h.fields ≡ map field_bytes all = values_are all s.fields in
    let size = s.short in
    let few = s.few in (
      h,
      (
        record {
          reads = (
            record { method = s.method; target = s.target; target_text = s.text; minor = omega arith; fields = fields_are all s.fields },
            append_assoc (request_head r) r.body rest ∙ ap (λ (t : List ℕ). t ++ (r.body ++ rest)) (sym (request_is r)),
          );
          bytes = let same : length (print_request h) ≡ length (request_head r) = ap length (request_is r) in omega (arith, same, size);
          lines = omega (arith, length-map all as_read, few);
        },
        ap (request_length limit 1) values ∙ s.stated,
      ),
      refl,
      refl,
      values,
    )
