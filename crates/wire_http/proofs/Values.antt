-- The values of the fields with a name, and numbers.
use Rattle.std.proofs.Common.{◌≡◌, ℕ, suc, ◌+◌, ◌*◌, ◌<◌, ◌≤◌, Bool, true, false, cond, List, [], ◌∷◌, ◌++◌, length, take, drop, get_or, map, min, sym, ◌∙◌, ap, refl, arith, subst, ◌-◌, Some, None, take_all, append-nil, ◌&&◌, nat_lt}
use Rattle.std.proofs.lemmas.List.{take_more, map-append}
use Rattle.std.proofs.lemmas.Slice.Eq.{bytes_eq-Decides}
use Rattle.std.proofs.lemmas.Int.Digits.{digits_value_more}
use Rattle.std.proofs.lemmas.Str.{digit_value_digit}
use Rattle.std.specs.Str.Parse.{digits_value}
use Rattle.std.specs.Char.{is_ascii_digit, to_ascii_lowercase}
use Rattle.std.specs.List.{list_all}
use Rattle.std.specs.Int.{IsInRange}
use Rattle.std.proofs.lemmas.List.Sums.{AllPass-from_list_all}
use Rattle.std.proofs.lemmas.Bool.Decides.{nat_tests}
use Rattle.httparse.specs.Spans.{header_bytes, span_bytes}
use Rattle.httparse.specs.declared.spans.HeaderSpan.{HeaderSpan}
use Rattle.wire_http.specs.declared.fields.Found.{Found}
use Rattle.wire_http.specs.HeadFields.{IsFound}
use Rattle.std.proofs.Math.Seq.{drop-cons}
use Rattle.wire_http.specs.declared.message.Field.{Field}
use Rattle.wire_http.specs.HeadFields.{values, field_bytes, first_value, is_named, is_number}

-- one more field
pub values_push : (name : List ℕ) (fields : List (List ℕ × List ℕ)) (field : List ℕ × List ℕ) (b : Bool) → is_named name field ≡ b
    → values name (fields ++ field ∷ []) ≡ values name fields ++ cond b (field.1 ∷ []) []
values_push name [] field b e = ap (λ (t : Bool). cond t (field.1 ∷ []) []) e
values_push name (x ∷ fields) field b e =
    let rest = values_push name fields field b e in
    elim (is_named name x) as (λ (t : Bool). cond t (x.1 ∷ values name (fields ++ field ∷ [])) (values name (fields ++ field ∷ []))
    ≡ cond t (x.1 ∷ values name fields) (values name fields) ++ cond b (field.1 ∷ []) [])
    [ true ↦ ap (λ (l : List (List ℕ)). x.1 ∷ l) rest | false ↦ rest ]

-- the values of one more header
pub values_more : (name bytes : List ℕ) (headers : List HeaderSpan) (i : ℕ) (d : HeaderSpan) (b : Bool) → i < length headers
    → is_named name (header_bytes bytes (get_or headers i d)) ≡ b
    → values name (map (header_bytes bytes) (take (i + 1) headers))
    ≡ values name (map (header_bytes bytes) (take i headers)) ++ cond b ((header_bytes bytes (get_or headers i d)).1 ∷ []) []
values_more name bytes headers i d b below e =
    ap (λ (l : List HeaderSpan). values name (map (header_bytes bytes) l)) (take_more headers i d below)
    ∙ ap (values name) (map-append (header_bytes bytes) (take i headers) (get_or headers i d ∷ []))
    ∙ values_push name (map (header_bytes bytes) (take i headers)) (header_bytes bytes (get_or headers i d)) b e

-- a name that is the same except for its case, and one that isn't
pub named : (name : List ℕ) (field : List ℕ × List ℕ) → map to_ascii_lowercase field.0 ≡ map to_ascii_lowercase name → is_named name field ≡ true
named name field e = (bytes_eq-Decides _ _).1 e

pub not_named : (name : List ℕ) (field : List ℕ × List ℕ) → ¬ (map to_ascii_lowercase field.0 ≡ map to_ascii_lowercase name) → is_named name field ≡ false
not_named name field h =
    let same = bytes_eq-Decides (map to_ascii_lowercase field.0) (map to_ascii_lowercase name) in
    elim (is_named name field) as (λ (b : Bool). (b ≡ true → map to_ascii_lowercase field.0 ≡ map to_ascii_lowercase name) → b ≡ false)
    [ true ↦ λ f. absurd (h (f refl)) | false ↦ λ f. refl ] same.0

-- both tests of a pair passed
and_true : (a b : Bool) → (a && b) ≡ true → (a ≡ true) × (b ≡ true)
and_true true b h = (refl, h)
and_true false b h = (h, absurd (cc))

abbrev pub no_span : HeaderSpan
no_span = record { name = record { start = 0; end = 0 }; value = record { start = 0; end = 0 } }

-- a header with the name, and one with another
pub found_hit : (old new : Found) (name bytes own text : List ℕ) (headers : List HeaderSpan) (i : ℕ) → i < length headers
    → own ≡ span_bytes bytes (get_or headers i no_span).name → map to_ascii_lowercase own ≡ map to_ascii_lowercase name
    → text ≡ span_bytes bytes (get_or headers i no_span).value
    → ((texts : List (List ℕ)) → IsFound old texts → IsFound new (texts ++ text ∷ []))
    → IsFound old (values name (map (header_bytes bytes) (take i headers)))
    → IsFound new (values name (map (header_bytes bytes) (take (i + 1) headers)))
found_hit old new name bytes own text headers i below is same value goes known =
    let here = values_more name bytes headers i no_span true below
    (named name (header_bytes bytes (get_or headers i no_span)) (ap (map to_ascii_lowercase) (sym is) ∙ same)) in
    rw here (subst (λ (t : List ℕ). IsFound new (values name (map (header_bytes bytes) (take i headers)) ++ t ∷ [])) value (goes _ known))

pub found_miss : (old : Found) (name bytes own : List ℕ) (headers : List HeaderSpan) (i : ℕ) → i < length headers
    → own ≡ span_bytes bytes (get_or headers i no_span).name → ¬ (map to_ascii_lowercase own ≡ map to_ascii_lowercase name)
    → IsFound old (values name (map (header_bytes bytes) (take i headers)))
    → IsFound old (values name (map (header_bytes bytes) (take (i + 1) headers)))
found_miss old name bytes own headers i below is other known =
    let here = values_more name bytes headers i no_span false below
    (not_named name (header_bytes bytes (get_or headers i no_span)) (λ e. other (ap (map to_ascii_lowercase) is ∙ e))) in
    rw (here, append-nil) known

-- one more digit of a number with a greatest value
pub number_more : (text : List ℕ) (i n m most digit : ℕ) → i < length text → list_all is_ascii_digit text ≡ true → n ≡ min (digits_value 10 (take i text)) most
    → digit ≡ get_or text i 0 - 48 → m ≡ min (n * 10 + digit) most → m ≡ min (digits_value 10 (take (i + 1) text)) most
number_more text i n m most digit below all is dig e =
    let more = digits_value_more 10 text i below in
    let pass : is_ascii_digit (get_or text i 0) ≡ true = AllPass-from_list_all is_ascii_digit text all i 0 below in
    let within : IsInRange 48 57 (get_or text i 0) = grind (arith, nat_tests) in
    let value = digit_value_digit (get_or text i 0) within in
    rw more (omega arith)

pub digits_of_number : (text : List ℕ) → is_number text ≡ true → list_all is_ascii_digit text ≡ true
digits_of_number text h = (and_true (nat_lt 0 (length text)) (list_all is_ascii_digit text) h).1

pub number_whole : (text : List ℕ) (i n most : ℕ) → length text ≤ i → is_number text ≡ true → n ≡ min (digits_value 10 (take i text)) most
    → Some n ≡ cond (is_number text) (Some (min (digits_value 10 text) most)) None
number_whole text i n most long is e = rw is (ap Some (e ∙ ap (λ (t : List ℕ). min (digits_value 10 t) most) (take_all i text long)))

-- ---- the first value with a name

first_of : (name : List ℕ) (field : Field) (fields : List Field) (b : Bool) → is_named name (field_bytes field) ≡ b
    → first_value name (map field_bytes (field ∷ fields)) ≡ cond b (Some field.value) (first_value name (map field_bytes fields))
first_of name field fields b e = ap (λ (t : Bool). cond t (Some field.value) (first_value name (map field_bytes fields))) e

-- the field at a place, before those that are left
at_place : (items fields : List Field) (i : ℕ) (field : Field) → items ≡ fields → i < length items → field ≡ get_or items i field
    → drop i fields ≡ field ∷ drop (i + 1) fields
at_place items fields i field same below is =
    let within : i < length fields = subst (λ (l : List Field). i < length l) same below in
    let here : field ≡ get_or fields i field = is ∙ ap (λ (l : List Field). get_or l i field) same in
    let next : suc i ≡ i + 1 = omega arith in
    drop-cons fields i field within ∙ ap (λ (n : ℕ). get_or fields i field ∷ drop n fields) next ∙ ap (λ (f : Field). f ∷ drop (i + 1) fields) (sym here)

pub value_hit : (name : List ℕ) (items fields : List Field) (i : ℕ) (field : Field) (own text : List ℕ) → items ≡ fields → i < length items
    → field ≡ get_or items i field → own ≡ field.name → map to_ascii_lowercase own ≡ map to_ascii_lowercase name → text ≡ field.value
    → first_value name (map field_bytes (drop i fields)) ≡ first_value name (map field_bytes fields)
    → Some text ≡ first_value name (map field_bytes fields)
value_hit name items fields i field own text equal below is own_is same text_is known =
    ap Some text_is
    ∙ sym (first_of name field (drop (i + 1) fields) true (named name (field_bytes field) (ap (map to_ascii_lowercase) (sym own_is) ∙ same)))
    ∙ ap (λ (l : List Field). first_value name (map field_bytes l)) (sym (at_place items fields i field equal below is)) ∙ known

pub value_miss : (name : List ℕ) (items fields : List Field) (i : ℕ) (field : Field) (own : List ℕ) → items ≡ fields → i < length items
    → field ≡ get_or items i field → own ≡ field.name → ¬ (map to_ascii_lowercase own ≡ map to_ascii_lowercase name)
    → first_value name (map field_bytes (drop i fields)) ≡ first_value name (map field_bytes fields)
    → first_value name (map field_bytes (drop (i + 1) fields)) ≡ first_value name (map field_bytes fields)
value_miss name items fields i field own equal below is own_is other known =
    sym (first_of name field (drop (i + 1) fields) false (not_named name (field_bytes field) (λ e. other (ap (map to_ascii_lowercase) own_is ∙ e))))
    ∙ ap (λ (l : List Field). first_value name (map field_bytes l)) (sym (at_place items fields i field equal below is)) ∙ known
