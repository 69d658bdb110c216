-- The text of the request for a duty is one whole request: each byte of a link's parts is visible, so none ends a line.
use Rattle.std.proofs.Common.{◌≡◌, ◌∙◌, ◌<◌, ◌≤◌, ◌+◌, ◌^◌, ◌&&◌, ◌==◌, ℕ, zero, suc, Bool, true, false, IsTrue, List, [], ◌∷◌, ◌++◌, Option, Some, None, Ok, Err, Result, OnOk, All, ap, append_assoc, arith, codes, get_or, is_some, length, map, nat_le, nat_lt, not, option_map, refl, subst, sym}
use Rattle.std.specs.Prelude.{unwrap_or}
use Rattle.std.specs.Fmt.{decimal, digits}
use Rattle.std.specs.List.{concat}
use Rattle.std.specs.Option.{option_map_or}
use Rattle.std.specs.Str.{bytes_eq}
use Rattle.std.proofs.lemmas.Bool.Decides.{nat_tests}
use Rattle.std.proofs.lemmas.Fmt.{length-decimal-le}
use Rattle.std.proofs.lemmas.List.{length-append}
use Rattle.std.proofs.lemmas.List.Elements.{All-append, All-cons, All-nil, All-weaker}
use Rattle.std.proofs.lemmas.List.Sums.{AllPass-from_list_all}
use Rattle.std.proofs.lemmas.Slice.Eq.{bytes_eq-Decides}
use Rattle.std.proofs.lemmas.Str.{IsUtf8-from_ascii}
use Rattle.std.proofs.lemmas.Str.Ascii.{IsAscii-from_all}
use Rattle.httparse.specs.Grammar.{IsToken, is_token_byte, is_uri_byte}
use Rattle.percent_encoding.specs.declared.ascii_set.TheConstants.{CONTROLS}
use Rattle.percent_encoding.specs.Percent.{IsKept}
use Rattle.url.specs.declared.sets.TheConstants.{FORBIDDEN_DOMAIN, FORBIDDEN_HOST, PATH, QUERY, SPECIAL_QUERY}
use Rattle.url.specs.declared.host.Host.{Host}
use Rattle.url.specs.declared.host.Host.TheVariants.{Domain}
use Rattle.url.specs.declared.scheme.SchemeType.{SchemeType}
use Rattle.url.specs.declared.scheme.SchemeType.TheVariants.{File, SpecialNotFile, NotSpecial}
use Rattle.url.specs.Host.{IsHostOf, host_text}
use Rattle.url.specs.Input.{is_empty}
use Rattle.url.specs.Parts.{IsPortOf, IsValid, IsValidHead, Parts, host_or_empty, kind_of, pieces, query_set, serialize}
use Rattle.url.specs.Parser.{parse_url}
use Rattle.url.specs.Scheme.{default_port, is_special, scheme_type}
use Rattle.url.proofs.HostLemmas.{All-host_text}
use Rattle.url.proofs.SetLemmas.{passes_from_kept}
use Rattle.url.proofs.TextLemmas.{All_kept, All_part}
use Rattle.url.proofs.ValidLemmas.{base_from_authority, hierarchical, segment_list_kept, special_has_authority}
use Rattle.state_ids.specs.Ids.{Id, text_of}
use Rattle.state_ids.proofs.VisibleTexts.{text_length, text_visible}
use Rattle.state_facts.specs.LinkTexts.{is_link, kept_of, kept_text}
use Rattle.wire_http.specs.declared.message.Field.{Field}
use Rattle.wire_http.specs.HeadFields.{field_bytes, length_in, request_length}
use Rattle.wire_http.specs.MessageTexts.{field_lines, host_line, line_end, request_line}
use Rattle.wire_http.specs.WholeMessages.{IsPlain, IsSoundCall, host_field}
use Rattle.wire_http.proofs.PlainValues.{Short, decimal_visible, is_visible, length_is, lines_short, literal_visible, plain_visible, sized}
use Rattle.wire_http.proofs.WholeMessages.{whole_request}
use Rattle.state_ids.specs.declared.status.LraStatus.{LraStatus}
use Rattle.state_ids.specs.declared.status.LraStatus.TheVariants.{Active, Closing, Closed, FailedToClose, Cancelling, Cancelled, FailedToCancel}
use Rattle.wire_callbacks.specs.declared.answer.Kind.{Kind}
use Rattle.wire_callbacks.specs.declared.answer.Kind.TheVariants.{Complete, Compensate, Status, Forget, After}
use Rattle.wire_callbacks.specs.declared.duty.Duty.{Duty}
use Rattle.wire_callbacks.specs.declared.request.RequestField.{RequestField}
use Rattle.wire_callbacks.specs.declared.request.RequestField.TheVariants.{Action, Ended, Parent, Recovery, ContentType, ContentLength, Connection}
use Rattle.wire_callbacks.specs.CallRequests.{IsOneRequest, IsUrlOf, field, field_name, fields_of, host_of, action_name, body_of, length_fields, method_of, parent_fields, recovery_path, request_by, target_of, told_body, urn}

abbrev Visible : ℕ → Type 0
Visible b = IsTrue (is_visible b)

-- The parts of a link

first_of : (a b : Bool) → (a && b) ≡ true → a ≡ true
first_of true b e = refl
first_of false b e = absurd cc

last_of_five : (a b c d e : Bool) → (a && (b && (c && (d && e)))) ≡ true → e ≡ true
last_of_five true true true true e h = h
last_of_five false b c d e h = absurd cc
last_of_five true false c d e h = absurd cc
last_of_five true true false d e h = absurd cc
last_of_five true true true false e h = absurd cc

link_kind : (url : Parts) → is_link url ≡ true → kind_of url ≡ SpecialNotFile
unfolding scheme_type default_port
link_kind url link =
    let scheme : url.scheme ≡ codes "http" = (bytes_eq-Decides url.scheme (codes "http")).0 (first_of (bytes_eq url.scheme (codes "http")) _ link) in
    ap scheme_type scheme

link_short : (url : Parts) → is_link url ≡ true → length (serialize url) ≤ 127
link_short url link =
    let short : nat_le (length (serialize url)) 127 ≡ true = last_of_five (bytes_eq url.scheme (codes "http")) (is_empty url.username) (is_empty url.password) (not (is_some url.fragment)) (nat_le (length (serialize url)) 127) link in
    grind (arith, nat_tests, short)

domain_visible : (b : ℕ) → IsKept FORBIDDEN_DOMAIN b → Visible b
domain_visible b kept = passes_from_kept FORBIDDEN_DOMAIN is_visible refl b kept

opaque_visible : (b : ℕ) → IsKept FORBIDDEN_HOST b → IsKept CONTROLS b → Visible b
opaque_visible b allowed visible =
    let no_space = passes_from_kept FORBIDDEN_HOST (λ x. not (x == 32)) refl b allowed in
    let above = passes_from_kept CONTROLS (λ x. nat_le 32 x && nat_lt x 127) refl b visible in
    grind (arith, nat_tests)

host_visible : (url : Parts) → IsValidHead url → All Visible (host_text (host_or_empty url))
host_visible url valid = by url.host refl
  where
    by : (o : Option (Host (List ℕ))) → url.host ≡ o → All Visible (host_text (unwrap_or url.host (Domain [])))
    by None e = subst (λ (h : Option (Host (List ℕ))). All Visible (host_text (unwrap_or h (Domain [])))) (sym e) (All-nil Visible)
    by (Some host) e =
        let is_host : IsHostOf (kind_of url) host = rw e at valid.host in
        subst (λ (h : Option (Host (List ℕ))). All Visible (host_text (unwrap_or h (Domain [])))) (sym e)
        (All-host_text Visible (kind_of url) host domain_visible opaque_visible (λ b digit. grind (arith, nat_tests)) (λ b hex. grind (arith, nat_tests)) refl refl is_host)

port_visible : (scheme : List ℕ) (port : Option ℕ) → IsPortOf scheme port → All Visible (option_map_or (λ n. codes ":" ++ decimal n) port [])
port_visible scheme None valid = All-nil Visible
port_visible scheme (Some n) valid =
    All-append Visible (codes ":") (decimal n) (literal_visible (codes ":") refl) (decimal_visible n (omega (arith, valid.0)))

address_visible : (url : Parts) → IsValid url → All Visible (host_of url)
address_visible url valid =
    All-append Visible (host_text (host_or_empty url)) _ (host_visible url valid.head) (port_visible url.scheme url.port valid.head.port)

path_visible : (url : Parts) → IsValid url → is_link url ≡ true → All Visible url.path × (0 < length url.path)
path_visible url valid link =
    let special : is_special (kind_of url) ≡ true = ap is_special (link_kind url link) in
    let path = hierarchical url valid.path (base_from_authority url (special_has_authority url valid.head special)) in
    (All_kept is_visible PATH refl url.path (segment_list_kept (kind_of url) url.path path.0), path.1 special)

query_byte_visible : (kind : SchemeType) (b : ℕ) → IsKept (query_set kind) b → Visible b
query_byte_visible File = passes_from_kept SPECIAL_QUERY is_visible refl
query_byte_visible SpecialNotFile = passes_from_kept SPECIAL_QUERY is_visible refl
query_byte_visible NotSpecial = passes_from_kept QUERY is_visible refl

query_visible : (query : Option (List ℕ)) → All Visible (unwrap_or query []) → All Visible (option_map_or (λ q. codes "?" ++ q) query [])
query_visible None h = All-nil Visible
query_visible (Some q) h = All-append Visible (codes "?") q (literal_visible (codes "?") refl) h

target_visible : (url : Parts) → IsValid url → is_link url ≡ true → All Visible (target_of url)
target_visible url valid link =
    All-append Visible url.path _ (path_visible url valid link).0
    (query_visible url.query (All_part Visible (query_set (kind_of url)) url.query (query_byte_visible (kind_of url)) valid.query))

uri_byte : (b : ℕ) → Visible b → IsTrue (is_uri_byte b)
uri_byte b h = grind (arith, nat_tests)

below_128 : (b : ℕ) → Visible b → b < 128
below_128 b h = grind (arith, nat_tests)

-- Their lengths

piece_short : (xs : List (List ℕ)) (i : ℕ) → length (get_or xs i []) ≤ length (concat xs)
piece_short [] i = omega arith
piece_short (x ∷ xs) zero = omega (arith, length-append x (concat xs))
piece_short (x ∷ xs) (suc i) = omega (arith, length-append x (concat xs), piece_short xs i)

host_short : (url : Parts) → length (serialize url) ≤ 127 → length (host_of url) ≤ 255
host_short url short = by url.port (piece_short (pieces url) 8)
  where
    host : length (host_text (host_or_empty url)) ≤ 127
    host = omega (arith, short, piece_short (pieces url) 6)

    by : (o : Option ℕ) → length (unwrap_or (option_map decimal o) []) ≤ length (serialize url)
        → length (host_text (host_or_empty url) ++ option_map_or (λ n. codes ":" ++ decimal n) o []) ≤ 255
    by None few = omega (arith, host, length-append (host_text (host_or_empty url)) [])
    by (Some n) few = omega (arith, host, short, few, length-append (host_text (host_or_empty url)) (codes ":" ++ decimal n))

target_short : (url : Parts) → length (serialize url) ≤ 127 → length (target_of url) ≤ 255
target_short url short = by url.query (piece_short (pieces url) 12)
  where
    path : length url.path ≤ 127
    path = omega (arith, short, piece_short (pieces url) 10)

    by : (o : Option (List ℕ)) → length (unwrap_or o []) ≤ length (serialize url)
        → length (url.path ++ option_map_or (λ q. codes "?" ++ q) o []) ≤ 255
    by None few = omega (arith, path, length-append url.path [])
    by (Some q) few = omega (arith, path, short, few, length-append url.path (codes "?" ++ q))

-- Fields

field_plain : (name : RequestField) (value : List ℕ) → All Visible value → IsPlain (field name value)
unfolding is_token_byte
field_plain Action value h = plain_visible (field_name Action) value (omega arith) refl h
field_plain Ended value h = plain_visible (field_name Ended) value (omega arith) refl h
field_plain Parent value h = plain_visible (field_name Parent) value (omega arith) refl h
field_plain Recovery value h = plain_visible (field_name Recovery) value (omega arith) refl h
field_plain ContentType value h = plain_visible (field_name ContentType) value (omega arith) refl h
field_plain ContentLength value h = plain_visible (field_name ContentLength) value (omega arith) refl h
field_plain Connection value h = plain_visible (field_name Connection) value (omega arith) refl h

host_plain : (host : List ℕ) → All Visible host → IsPlain (host_field host)
unfolding is_token_byte
host_plain host h = plain_visible (codes "Host") host (omega arith) refl h

urn_visible : (id : Id) → All Visible (urn id)
urn_visible id = All-append Visible (codes "urn:uuid:") (text_of id) (literal_visible (codes "urn:uuid:") refl) (text_visible id)

urn_short : (id : Id) → length (urn id) ≤ 200
urn_short id = omega (arith, text_length id)

path_seen : (id : Id) (m : ℕ) → m < 2 ^ 64 → All Visible (recovery_path id m)
path_seen id m fits =
    All-append Visible (codes "/lra/") _ (literal_visible (codes "/lra/") refl)
    (All-append Visible (text_of id) _ (text_visible id)
    (All-append Visible (codes "/member/") _ (literal_visible (codes "/member/") refl) (decimal_visible m fits)))

recovery_short : (id : Id) (m : ℕ) → m < 2 ^ 64 → length (recovery_path id m) ≤ 200
recovery_short id m fits =
    let size : length (decimal m) ≤ 20 = length-decimal-le 20 m (omega arith) (omega arith) fits in
    omega (arith, text_length id, size, length-append (text_of id) (codes "/member/" ++ decimal m))

parents_plain : (p : Option Id) → All IsPlain (parent_fields p)
parents_plain None = All-nil IsPlain
parents_plain (Some p) = All-cons IsPlain (field Parent (urn p)) [] (field_plain Parent (urn p) (urn_visible p)) (All-nil IsPlain)

zero_plain : All IsPlain (field ContentLength (codes "0") ∷ [])
zero_plain = All-cons IsPlain (field ContentLength (codes "0")) [] (field_plain ContentLength (codes "0") (literal_visible (codes "0") refl)) (All-nil IsPlain)

body_small : (shows : Option LraStatus) → length (body_of shows) ≤ 14
body_small None = omega arith
body_small (Some Active) = omega arith
body_small (Some Closing) = omega arith
body_small (Some Closed) = omega arith
body_small (Some FailedToClose) = omega arith
body_small (Some Cancelling) = omega arith
body_small (Some Cancelled) = omega arith
body_small (Some FailedToCancel) = omega arith

lengths_plain : (k : Kind) (shows : Option LraStatus) → All IsPlain (length_fields k shows)
lengths_plain Complete shows = zero_plain
lengths_plain Compensate shows = zero_plain
lengths_plain Status shows = All-nil IsPlain
lengths_plain Forget shows = All-nil IsPlain
lengths_plain After shows =
    All-cons IsPlain (field ContentType (codes "text/plain")) (field ContentLength (decimal (length (body_of shows))) ∷ []) (field_plain ContentType (codes "text/plain") (literal_visible (codes "text/plain") refl))
    (All-cons IsPlain (field ContentLength (decimal (length (body_of shows)))) [] (field_plain ContentLength (decimal (length (body_of shows))) (decimal_visible (length (body_of shows)) (omega (arith, body_small shows)))) (All-nil IsPlain))

-- one field, and one more where the last is added
pub both_added : {X E : Type 0} (r : Result X E) (before middle after : List Field) (a b : Field) → middle ≡ before ++ (a ∷ []) → OnOk r (after ≡ middle ++ (b ∷ [])) → OnOk r (after ≡ before ++ (a ∷ b ∷ []))
both_added (Ok x) before middle after a b one two = two ∙ (ap (λ fields. fields ++ (b ∷ [])) one ∙ append_assoc before (a ∷ []) (b ∷ []))
both_added (Err x) before middle after a b one two = tt

close_plain : All IsPlain (field Connection (codes "close") ∷ [])
close_plain = All-cons IsPlain (field Connection (codes "close")) [] (field_plain Connection (codes "close") (literal_visible (codes "close") refl)) (All-nil IsPlain)

all_plain : (d : Duty) (host : List ℕ) → d.member < 2 ^ 64 → All Visible host → All IsPlain (host_field host ∷ fields_of d)
all_plain d host fits visible =
    All-cons IsPlain (host_field host) (fields_of d) (host_plain host visible)
    (All-cons IsPlain (field (action_name d.kind) (urn d.id)) _ (field_plain (action_name d.kind) (urn d.id) (urn_visible d.id))
    (All-append IsPlain (parent_fields d.parent) _ (parents_plain d.parent)
    (All-cons IsPlain (field Recovery (recovery_path d.id d.member)) _ (field_plain Recovery (recovery_path d.id d.member) (path_seen d.id d.member fits))
    (All-append IsPlain (length_fields d.kind d.shows) _ (lengths_plain d.kind d.shows) close_plain))))

-- the fields, from the data that determine them
abbrev fields_by : Id → ℕ → Option Id → Kind → Option LraStatus → List Field
fields_by id m parent kind shows =
    field (action_name kind) (urn id) ∷ (parent_fields parent ++ (field Recovery (recovery_path id m) ∷ (length_fields kind shows ++ (field Connection (codes "close") ∷ []))))

action_short : (kind : Kind) (id : Id) → length (field_name (action_name kind)) + length (urn id) ≤ 300
action_short Complete id = omega (arith, urn_short id)
action_short Compensate id = omega (arith, urn_short id)
action_short Status id = omega (arith, urn_short id)
action_short Forget id = omega (arith, urn_short id)
action_short After id = omega (arith, urn_short id)

counted_short : (n : ℕ) → n ≤ 14 → length (field_name ContentLength) + length (decimal n) ≤ 300
counted_short n small = let size : length (decimal n) ≤ 20 = length-decimal-le 20 n (omega arith) (omega arith) (omega (arith, small)) in omega (arith, size)

length_short : (shows : Option LraStatus) → length (field_name ContentLength) + length (decimal (length (body_of shows))) ≤ 300
length_short shows = counted_short (length (body_of shows)) (body_small shows)

fields_short : (id : Id) (m : ℕ) (parent : Option Id) (kind : Kind) (shows : Option LraStatus) → m < 2 ^ 64
    → Short (fields_by id m parent kind shows) × (length (fields_by id m parent kind shows) ≤ 6)
fields_short id m None kind shows fits = by kind
  where
    two : length (field_name Recovery) + length (recovery_path id m) ≤ 300
    two = omega (arith, recovery_short id m fits)

    by : (k : Kind) → Short (fields_by id m None k shows) × (length (fields_by id m None k shows) ≤ 6)
    by Complete = ((action_short Complete id, (two, (omega arith, (omega arith, tt)))), omega arith)
    by Compensate = ((action_short Compensate id, (two, (omega arith, (omega arith, tt)))), omega arith)
    by Status = ((action_short Status id, (two, (omega arith, tt))), omega arith)
    by Forget = ((action_short Forget id, (two, (omega arith, tt))), omega arith)
    by After = ((action_short After id, (two, (omega arith, (length_short shows, (omega arith, tt))))), omega arith)
fields_short id m (Some p) kind shows fits = by kind
  where
    above : length (field_name Parent) + length (urn p) ≤ 300
    above = omega (arith, urn_short p)

    two : length (field_name Recovery) + length (recovery_path id m) ≤ 300
    two = omega (arith, recovery_short id m fits)

    by : (k : Kind) → Short (fields_by id m (Some p) k shows) × (length (fields_by id m (Some p) k shows) ≤ 6)
    by Complete = ((action_short Complete id, (above, (two, (omega arith, (omega arith, tt))))), omega arith)
    by Compensate = ((action_short Compensate id, (above, (two, (omega arith, (omega arith, tt))))), omega arith)
    by Status = ((action_short Status id, (above, (two, (omega arith, tt)))), omega arith)
    by Forget = ((action_short Forget id, (above, (two, (omega arith, tt)))), omega arith)
    by After = ((action_short After id, (above, (two, (omega arith, (length_short shows, (omega arith, tt)))))), omega arith)

zero_length : (limit : ℕ) → length_in limit (codes "0") ≡ sized 0
unfolding digits
zero_length limit = length_is limit 0 (omega arith) (omega arith)

stated_by : (limit : ℕ) (host : List ℕ) (id : Id) (m : ℕ) (parent : Option Id) (kind : Kind) (shows : Option LraStatus) → length (told_body kind shows) ≤ limit
    → request_length limit 1 (map field_bytes (host_field host ∷ fields_by id m parent kind shows)) ≡ sized (length (told_body kind shows))
stated_by limit host id m None Complete shows some = zero_length limit
stated_by limit host id m None Compensate shows some = zero_length limit
stated_by limit host id m None Status shows some = refl
stated_by limit host id m None Forget shows some = refl
stated_by limit host id m None After shows some = length_is limit (length (body_of shows)) (omega (arith, body_small shows)) some
stated_by limit host id m (Some p) Complete shows some = zero_length limit
stated_by limit host id m (Some p) Compensate shows some = zero_length limit
stated_by limit host id m (Some p) Status shows some = refl
stated_by limit host id m (Some p) Forget shows some = refl
stated_by limit host id m (Some p) After shows some = length_is limit (length (body_of shows)) (omega (arith, body_small shows)) some

-- The request

method_token : (k : Kind) → IsToken (method_of k)
unfolding is_token_byte
method_token Complete = (omega arith, AllPass-from_list_all is_token_byte (codes "PUT") refl)
method_token Compensate = (omega arith, AllPass-from_list_all is_token_byte (codes "PUT") refl)
method_token Status = (omega arith, AllPass-from_list_all is_token_byte (codes "GET") refl)
method_token After = (omega arith, AllPass-from_list_all is_token_byte (codes "PUT") refl)
method_token Forget = (omega arith, AllPass-from_list_all is_token_byte (codes "DELETE") refl)

method_short : (k : Kind) → length (method_of k) ≤ 6
method_short Complete = omega arith
method_short Compensate = omega arith
method_short Status = omega arith
method_short Forget = omega arith
method_short After = omega arith

head_short : (method target host : List ℕ) (fields : List Field) → length method ≤ 6 → length target ≤ 255 → length host ≤ 255
    → Short fields → length fields ≤ 6 → length (request_line method target ++ (host_line host ++ (field_lines fields ++ line_end))) ≤ 16384
head_short method target host fields m t h short few =
    let one = length-append (request_line method target) (host_line host ++ (field_lines fields ++ line_end)) in
    let two = length-append (host_line host) (field_lines fields ++ line_end) in
    let three = length-append (field_lines fields) line_end in
    let four = length-append method (codes " " ++ (target ++ (codes " HTTP/1.1" ++ line_end))) in
    let five = length-append target (codes " HTTP/1.1" ++ line_end) in
    let six = length-append host line_end in
    let lines = lines_short fields short in
    omega (arith, one, two, three, four, five, six, lines, m, t, h, few)

sound_call : (limit : ℕ) (d : Duty) (url : Parts) → IsValid url → is_link url ≡ true → d.member < 2 ^ 64 → length (told_body d.kind d.shows) ≤ limit → IsSoundCall limit (request_by d url)
sound_call limit d url valid link fits some =
    let target = target_visible url valid link in
    let short = link_short url link in
    let fields = fields_short d.id d.member d.parent d.kind d.shows fits in
    record {
      method = method_token d.kind;
      target = (target_some, All-weaker Visible (λ b. IsTrue (is_uri_byte b)) uri_byte (target_of url) target);
      text = IsUtf8-from_ascii (target_of url) (IsAscii-from_all (target_of url) (All-weaker Visible (λ b. b < 128) below_128 (target_of url) target));
      fields = all_plain d (host_of url) fits (address_visible url valid);
      stated = stated_by limit (host_of url) d.id d.member d.parent d.kind d.shows some;
      short = head_short (method_of d.kind) (target_of url) (host_of url) (fields_of d) (method_short d.kind) (target_short url short) (host_short url short) fields.0 fields.1;
      few = omega (arith, fields.1);
    }
  where
    target_some : 0 < length (target_of url)
    target_some = omega (arith, (path_visible url valid link).1, length-append url.path (option_map_or (λ q. codes "?" ++ q) url.query []))

whole_call : (d : Duty) (url : Parts) → IsUrlOf d.link url → d.member < 2 ^ 8 → IsOneRequest (request_by d url)
whole_call d url parts fits = λ limit rest some. whole_request limit (request_by d url) rest (sound_call limit d url parts.valid parts.link (omega (arith, fits)) some)

-- a request with these parts
pub whole_of : (d : Duty) (url : Parts) (method target host body : List ℕ) (fields : List Field) → IsUrlOf d.link url → d.member < 2 ^ 8
    → method ≡ method_of d.kind → target ≡ target_of url → host ≡ host_of url → fields ≡ fields_of d → body ≡ told_body d.kind d.shows
    → IsOneRequest (record { method = method; target = target; host = host; fields = fields; body = body })
whole_of d url method target host body fields parts fits em et eh ef eb =
    let same : request_by d url ≡ record { method = method; target = target; host = host; fields = fields; body = body } =
    λ i. record { method = sym em i; target = sym et i; host = sym eh i; fields = sym ef i; body = sym eb i } in
    subst IsOneRequest same (whole_call d url parts fits)

-- what a stored link is parsed as is a link
pub read_link : (link : List ℕ) (url : Parts) → kept_text link ≡ Some link → parse_url None link ≡ Ok url → is_link url ≡ true
read_link link url kept read = by (nat_le (length link) 127) refl
  where
    among : (b : Bool) → is_link url ≡ b → kept_of (Ok url) ≡ Some link → is_link url ≡ true
    among true e k = e
    among false e k = absurd (let none : kept_of (Ok url) ≡ None = rw e refl in let wrong : None ≡ Some link = sym none ∙ k in cc)

    by : (b : Bool) → nat_le (length link) 127 ≡ b → is_link url ≡ true
    by true e = among (is_link url) refl (ap kept_of (sym read) ∙ (rw e at kept))
    by false e = absurd (let none : kept_text link ≡ None = rw e refl in let wrong : None ≡ Some link = sym none ∙ kept in cc)
