-- The values of the fields with a name.
use Rattle.std.proofs.Common.{◌≡◌, ℕ, ◌+◌, ◌<◌, Bool, true, false, cond, List, [], ◌∷◌, ◌++◌, length, take, get_or, map, sym, ◌∙◌, ap, refl, append-nil}
use Rattle.std.proofs.lemmas.List.{take_more, map-append}
use Rattle.std.proofs.lemmas.Slice.Eq.{bytes_eq-Decides}
use Rattle.std.specs.Char.{to_ascii_lowercase}
use Rattle.httparse.specs.Spans.{header_bytes, span_bytes}
use Rattle.httparse.specs.declared.spans.HeaderSpan.{HeaderSpan}
use Rattle.wire_http.specs.HeadFields.{values, is_named}
use Rattle.wire_narayana.specs.Framings.{last_value}

-- one more field
pub values_push : (name : List ℕ) (fields : List (List ℕ × List ℕ)) (field : List ℕ × List ℕ) (b : Bool) → is_named name field ≡ b
    → values name (fields ++ field ∷ []) ≡ values name fields ++ cond b (field.1 ∷ []) []
values_push name [] field b e = ap (λ (t : Bool). cond t (field.1 ∷ []) []) e
values_push name (x ∷ fields) field b e =
    let rest = values_push name fields field b e in
    elim (is_named name x) as (λ (t : Bool). cond t (x.1 ∷ values name (fields ++ field ∷ [])) (values name (fields ++ field ∷ []))
    ≡ cond t (x.1 ∷ values name fields) (values name fields) ++ cond b (field.1 ∷ []) [])
    [ true ↦ ap (λ (l : List (List ℕ)). x.1 ∷ l) rest | false ↦ rest ]

-- the values of one more header
pub values_more : (name bytes : List ℕ) (headers : List HeaderSpan) (i : ℕ) (d : HeaderSpan) (b : Bool) → i < length headers
    → is_named name (header_bytes bytes (get_or headers i d)) ≡ b
    → values name (map (header_bytes bytes) (take (i + 1) headers))
    ≡ values name (map (header_bytes bytes) (take i headers)) ++ cond b ((header_bytes bytes (get_or headers i d)).1 ∷ []) []
values_more name bytes headers i d b below e =
    ap (λ (l : List HeaderSpan). values name (map (header_bytes bytes) l)) (take_more headers i d below)
    ∙ ap (values name) (map-append (header_bytes bytes) (take i headers) (get_or headers i d ∷ []))
    ∙ values_push name (map (header_bytes bytes) (take i headers)) (header_bytes bytes (get_or headers i d)) b e

-- a name that is the same except for its case, and one that isn't
pub named : (name : List ℕ) (field : List ℕ × List ℕ) → map to_ascii_lowercase field.0 ≡ map to_ascii_lowercase name → is_named name field ≡ true
named name field e = (bytes_eq-Decides _ _).1 e

pub not_named : (name : List ℕ) (field : List ℕ × List ℕ) → ¬ (map to_ascii_lowercase field.0 ≡ map to_ascii_lowercase name) → is_named name field ≡ false
not_named name field h =
    let same = bytes_eq-Decides (map to_ascii_lowercase field.0) (map to_ascii_lowercase name) in
    elim (is_named name field) as (λ (b : Bool). (b ≡ true → map to_ascii_lowercase field.0 ≡ map to_ascii_lowercase name) → b ≡ false)
    [ true ↦ λ f. absurd (h (f refl)) | false ↦ λ f. refl ] same.0

abbrev pub no_span : HeaderSpan
no_span = record { name = record { start = 0; end = 0 }; value = record { start = 0; end = 0 } }

last_push : (texts : List (List ℕ)) (text : List ℕ) → last_value (texts ++ text ∷ []) ≡ text
last_push [] text = refl
last_push (first ∷ []) text = refl
last_push (first ∷ next ∷ texts) text = last_push (next ∷ texts) text

-- a value with the name is the last so far, and a field with another name is ignored
pub value_hit : (name bytes own text : List ℕ) (headers : List HeaderSpan) (i : ℕ) → i < length headers
    → own ≡ span_bytes bytes (get_or headers i no_span).name → map to_ascii_lowercase own ≡ map to_ascii_lowercase name
    → text ≡ span_bytes bytes (get_or headers i no_span).value
    → text ≡ last_value (values name (map (header_bytes bytes) (take (i + 1) headers)))
value_hit name bytes own text headers i below is same value =
    let here = values_more name bytes headers i no_span true below
    (named name (header_bytes bytes (get_or headers i no_span)) (ap (map to_ascii_lowercase) (sym is) ∙ same)) in
    value ∙ sym (last_push (values name (map (header_bytes bytes) (take i headers))) (header_bytes bytes (get_or headers i no_span)).1) ∙ ap last_value (sym here)

pub value_miss : (last name bytes own : List ℕ) (headers : List HeaderSpan) (i : ℕ) → i < length headers
    → own ≡ span_bytes bytes (get_or headers i no_span).name → ¬ (map to_ascii_lowercase own ≡ map to_ascii_lowercase name)
    → last ≡ last_value (values name (map (header_bytes bytes) (take i headers)))
    → last ≡ last_value (values name (map (header_bytes bytes) (take (i + 1) headers)))
value_miss last name bytes own headers i below is other known =
    let here = values_more name bytes headers i no_span false below
    (not_named name (header_bytes bytes (get_or headers i no_span)) (λ e. other (ap (map to_ascii_lowercase) is ∙ e))) in
    rw (here, append-nil) known
