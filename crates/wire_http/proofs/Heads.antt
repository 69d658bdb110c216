-- Heads at the start of what was read.
use Rattle.std.proofs.Common.{◌≡◌, ◌≢◌, ℕ, ◌+◌, ◌-◌, ◌<◌, ◌≤◌, ◌⊎◌, inl, inr, All, List, [], ◌∷◌, ◌++◌, get_or, length, take, drop, sym, ◌∙◌, ap, refl, append_assoc, arith, length-append, append-nil, subst, Bool, true, false, cond, nat_le, IsTrue, IsFalse, ◌||◌, eqb}
use Rattle.std.proofs.Math.Seq.{drop-append_seam, take-append_seam}
use Rattle.std.proofs.lemmas.List.{take-append-le, take-append-drop, take_all, take_more, length-take, length-map}
use Rattle.std.proofs.lemmas.Bool.Decides.{leb_tells, Decides-eqb}
use Rattle.std.proofs.lemmas.List.Folds.{list_any-append}
use Rattle.std.proofs.lemmas.List.Elements.{All-head, All-tail}
use Rattle.std.proofs.lemmas.Slice.Eq.{ends_is}
use Rattle.std.specs.List.{list_any, flat_map, ends_with}
use Rattle.std.specs.Io.{StopsAt}
use Rattle.httparse.specs.Ascii.{carriage_return, colon, line_feed, space}
use Rattle.httparse.specs.Grammar.{LineEnd, crlf, lf, print_end, Field, print_field, print_section, RequestHead, ResponseHead, print_request, print_response}
use Rattle.httparse.specs.Spans.{IsRequestOf, IsResponseOf, IsRequestWithin, IsResponseWithin}
use Rattle.httparse.specs.declared.spans.HeaderSpan.{HeaderSpan}
use Rattle.httparse.specs.declared.spans.RequestSpans.{RequestSpans}
use Rattle.httparse.specs.declared.spans.ResponseSpans.{ResponseSpans}
use Rattle.wire_http.specs.declared.head.HeadKind.{HeadKind}
use Rattle.wire_http.specs.declared.head.HeadKind.TheVariants.{Request, Response}
use Rattle.wire_http.specs.declared.head.HeadState.{HeadState}
use Rattle.wire_http.specs.declared.head.HeadState.TheVariants.{Whole, Long}
use Rattle.wire_http.specs.Heads.{IsHeadState, IsHead, HasNoHead, HasNoShorterHead, MayBecomeHead, Exceeds, Overflows, HasHead, ends_empty, is_space, IsHeadWithin, IsHeadTooLong, IsOpen, IsPart, RefusesHead, max_head_bytes}
use Rattle.wire_http.specs.Faults.{Shows, Stops}
use Rattle.wire_http.specs.Streams.{FoundEnd, GivenBytes, Gives, GivesWhat}
use Rattle.wire_http.specs.declared.fault.Fault.{Fault}
use Rattle.wire_http.specs.declared.fault.Fault.TheVariants.{Cut, HeadTooLong}
use Rattle.wire_http.proofs.Known.{gives_more}

-- ---- the two kinds as one

pub none_of : (kind : HeadKind) (bytes text rest : List ℕ) (lines : ℕ) → HasNoHead kind bytes → IsHead kind text lines → bytes ≡ text ++ rest → ⊥
none_of Request bytes text rest lines none (h, valid, e, count) same = none h rest (valid, same ∙ ap (λ (t : List ℕ). t ++ rest) e)
none_of Response bytes text rest lines none (h, valid, e, count) same = none h rest (valid, same ∙ ap (λ (t : List ℕ). t ++ rest) e)

pub none_from : (kind : HeadKind) (bytes : List ℕ) → ((text rest : List ℕ) (lines : ℕ) → IsHead kind text lines → bytes ≡ text ++ rest → ⊥) → HasNoHead kind bytes
none_from Request bytes f = λ h rest reads. f (print_request h) rest (length h.fields) (h, reads.0, refl, refl) reads.1
none_from Response bytes f = λ h rest reads. f (print_response h) rest (length h.fields) (h, reads.0, refl, refl) reads.1

pub over_of : (kind : HeadKind) (room : ℕ) (bytes more text rest : List ℕ) (lines : ℕ) → Overflows kind room bytes → IsHead kind text lines
    → bytes ++ more ≡ text ++ rest → room < lines
over_of Request room bytes more text rest lines over (h, valid, e, count) same =
    let many : room < length h.fields = over more h rest (valid, same ∙ ap (λ (t : List ℕ). t ++ rest) e) in
    omega (arith, count)
over_of Response room bytes more text rest lines over (h, valid, e, count) same =
    let many : room < length h.fields = over more h rest (valid, same ∙ ap (λ (t : List ℕ). t ++ rest) e) in
    omega (arith, count)

pub exceeds_more : (kind : HeadKind) (room : ℕ) (bytes more : List ℕ) → Exceeds kind room bytes → Exceeds kind room (bytes ++ more)
exceeds_more Request room bytes more (prefix, rest, same, h, reads, many) =
    (prefix, rest ++ more, ap (λ (t : List ℕ). t ++ more) same ∙ append_assoc prefix rest more, h, reads, many)
exceeds_more Response room bytes more (prefix, rest, same, h, reads, many) =
    (prefix, rest ++ more, ap (λ (t : List ℕ). t ++ more) same ∙ append_assoc prefix rest more, h, reads, many)

-- ---- a head ends in an empty line

or_true : (a : Bool) → (a || true) ≡ true
or_true true = refl
or_true false = refl

-- a line's end, and the end of an empty line
abbrev pub EndsInEmpty : List ℕ → Type 0
EndsInEmpty text = (prefix : List ℕ) × (end : LineEnd) × (text ≡ prefix ++ line_feed ∷ print_end end)

ends_append : (a b : List ℕ) → EndsInEmpty b → EndsInEmpty (a ++ b)
ends_append a b (prefix, end, e) =
    (a ++ prefix, end, ap (λ (t : List ℕ). a ++ t) e ∙ sym (append_assoc a prefix (line_feed ∷ print_end end)))

-- this holds whatever text comes before the two pieces
ends_behind : (front a b : List ℕ) → EndsInEmpty (a ++ b) → EndsInEmpty ((front ++ a) ++ b)
ends_behind front a b ends = subst EndsInEmpty (sym (append_assoc front a b)) (ends_append front (a ++ b) ends)

-- the end of a start line, and what follows it
ends_section : (first : LineEnd) (fields : List Field) (last : LineEnd) → EndsInEmpty (print_end first ++ print_section fields last)
ends_section crlf [] last = (13 ∷ [], last, refl)
ends_section lf [] last = ([], last, refl)
ends_section first (f ∷ fields) last =
    let next : EndsInEmpty (print_field f ++ print_section fields last) =
    ends_behind (f.name ++ colon ∷ f.raw) (print_end f.end) (print_section fields last) (ends_section f.end fields last) in
    let same : print_section (f ∷ fields) last ≡ print_field f ++ print_section fields last =
    append_assoc (print_field f) (flat_map print_field fields) (print_end last) in
    ends_append (print_end first) (print_section (f ∷ fields) last) (subst EndsInEmpty (sym same) next)

ends_request : (h : RequestHead) → EndsInEmpty (print_request h)
unfolding print_request
ends_request h = ends_behind _ (print_end h.line_end) (print_section h.fields h.last) (ends_section h.line_end h.fields h.last)

ends_response : (h : ResponseHead) → EndsInEmpty (print_response h)
unfolding print_response
ends_response h = ends_behind _ (print_end h.line_end) (print_section h.fields h.last) (ends_section h.line_end h.fields h.last)

pub ends_head : (kind : HeadKind) (text : List ℕ) (lines : ℕ) → IsHead kind text lines → EndsInEmpty text
ends_head Request text lines (h, valid, e, count) = subst EndsInEmpty (sym e) (ends_request h)
ends_head Response text lines (h, valid, e, count) = subst EndsInEmpty (sym e) (ends_response h)

-- the test `ends_empty` says so
empty_seen : (text : List ℕ) → EndsInEmpty text → ends_empty text ≡ true
empty_seen text (prefix, lf, e) = rw ((ends_is Decides-eqb text (line_feed ∷ line_feed ∷ []) _ refl).1 prefix e) refl
empty_seen text (prefix, crlf, e) =
    rw ((ends_is Decides-eqb text (line_feed ∷ carriage_return ∷ line_feed ∷ []) _ refl).1 prefix e)
    (or_true (ends_with eqb text (line_feed ∷ line_feed ∷ [])))

-- its last byte
last_byte : (text : List ℕ) → EndsInEmpty text → (prefix : List ℕ) × (text ≡ prefix ++ line_feed ∷ [])
last_byte text (prefix, lf, e) = (prefix ++ line_feed ∷ [], e ∙ sym (append_assoc prefix (line_feed ∷ []) (line_feed ∷ [])))
last_byte text (prefix, crlf, e) =
    (prefix ++ line_feed ∷ carriage_return ∷ [], e ∙ sym (append_assoc prefix (line_feed ∷ carriage_return ∷ []) (line_feed ∷ [])))

pub some_head : (kind : HeadKind) (text : List ℕ) (lines : ℕ) → IsHead kind text lines → 0 < length text
some_head kind text lines is =
    let last = last_byte text (ends_head kind text lines is) in
    let size : length text ≡ length last.0 + 1 = ap length last.1 ∙ length-append last.0 (line_feed ∷ []) in
    omega arith

-- ---- one byte more

-- a head of a longer text that is no longer than the prefix is a head of the prefix
pub short_head : (kind : HeadKind) (prefix more text rest : List ℕ) (lines : ℕ) → HasNoHead kind prefix → IsHead kind text lines
    → prefix ++ more ≡ text ++ rest → length text ≤ length prefix → ⊥
short_head kind prefix more text rest lines none is e short =
    let n = length text in
    let same : text ≡ take n prefix =
    sym (take-append_seam text rest) ∙ ap (take n) (sym e) ∙ take-append-le n prefix more short in
    none_of kind prefix text (drop n prefix) lines none is (sym (take-append-drop n prefix) ∙ ap (λ (t : List ℕ). t ++ drop n prefix) (sym same))

pub nothing : (kind : HeadKind) → HasNoHead kind []
nothing kind = none_from kind [] (λ text rest lines is e.
    let some = some_head kind text lines is in
    let size : 0 ≡ length text + length rest = ap length e ∙ length-append text rest in
    omega (arith, some, size))

-- a list with no element
no_element : (xs : List ℕ) → length xs ≡ 0 → xs ≡ []
no_element [] e = refl
no_element (x ∷ xs) e = absurd (omega arith)

-- the last elements of equal lists
same_last : (a b : List ℕ) (x y : ℕ) → a ++ x ∷ [] ≡ b ++ y ∷ [] → x ≡ y
same_last [] [] x y e = cc
same_last [] (z ∷ b) x y e = absurd (let n : 1 ≡ length (z ∷ b ++ y ∷ []) = ap length e in omega (arith, n, length-append b (y ∷ [])))
same_last (z ∷ a) [] x y e = absurd (let n : length (z ∷ a ++ x ∷ []) ≡ 1 = ap length e in omega (arith, n, length-append a (x ∷ [])))
same_last (z ∷ a) (w ∷ b) x y e = same_last a b x y (cc)

-- with one byte more, no head is followed by anything
none_shorter : (kind : HeadKind) (head : List ℕ) (byte : ℕ) → HasNoHead kind head → HasNoShorterHead kind (head ++ byte ∷ [])
none_shorter kind head byte none = λ text rest lines is same.
    let sizes : length head + 1 ≡ length text + length rest =
    sym (length-append head (byte ∷ [])) ∙ ap length same ∙ length-append text rest in
    let long : length text ≤ length head → ⊥ = λ le. short_head kind head (byte ∷ []) text rest lines none is same le in
    no_element rest (grind (arith, long, sizes))

-- if no head is there, no head is followed by anything
pub none_is_shorter : (kind : HeadKind) (bytes : List ℕ) → HasNoHead kind bytes → HasNoShorterHead kind bytes
none_is_shorter kind bytes none = λ text rest lines is same. absurd (none_of kind bytes text rest lines none is same)

-- a byte doesn't end a head unless an empty line ends with it
pub none_more : (kind : HeadKind) (head items : List ℕ) (byte : ℕ) → items ≡ head ++ byte ∷ [] → HasNoHead kind head
    → (byte ≡ line_feed → ends_empty items ≡ false) → HasNoHead kind items
none_more kind head items byte e none other = none_from kind items (λ text rest lines is same.
    let ends = ends_head kind text lines is in
    let last = last_byte text ends in
    let whole : head ++ byte ∷ [] ≡ text ++ rest = sym e ∙ same in
    let exact : head ++ byte ∷ [] ≡ text =
    whole ∙ ap (λ (r : List ℕ). text ++ r) (none_shorter kind head byte none text rest lines is whole) ∙ append-nil text in
    let seen : ends_empty items ≡ true = ap ends_empty (e ∙ exact) ∙ empty_seen text ends in
    let missed : ends_empty items ≡ false = other (same_last head last.0 byte line_feed (exact ∙ last.1)) in
    let clash : true ≡ false = sym seen ∙ missed in
    absurd (cc))

-- ---- a head has a space

-- bytes that have no space
abbrev pub Unspaced : Bool → List ℕ → Type 0
Unspaced spaced bytes = IsFalse spaced → list_any is_space bytes ≡ false

abbrev pub HasSpace : List ℕ → Type 0
HasSpace text = (a b : List ℕ) × (text ≡ a ++ space ∷ b)

space_here : (b : List ℕ) → HasSpace (space ∷ b)
space_here b = ([], b, refl)

space_left : (a b : List ℕ) → HasSpace a → HasSpace (a ++ b)
space_left a b (prefix, rest, e) = (prefix, rest ++ b, ap (λ (t : List ℕ). t ++ b) e ∙ append_assoc prefix (space ∷ rest) b)

space_right : (a b : List ℕ) → HasSpace b → HasSpace (a ++ b)
space_right a b (prefix, rest, e) = (a ++ prefix, rest, ap (λ (t : List ℕ). a ++ t) e ∙ sym (append_assoc a prefix (space ∷ rest)))

space_request : (h : RequestHead) → HasSpace (print_request h)
unfolding print_request
space_request h = search (space_here, space_left, space_right)

space_response : (h : ResponseHead) → HasSpace (print_response h)
unfolding print_response
space_response h = search (space_here, space_left, space_right)

space_head : (kind : HeadKind) (text : List ℕ) (lines : ℕ) → IsHead kind text lines → HasSpace text
space_head Request text lines (h, valid, e, count) = subst HasSpace (sym e) (space_request h)
space_head Response text lines (h, valid, e, count) = subst HasSpace (sym e) (space_response h)

-- bytes without a space have no head
none_unspaced : (kind : HeadKind) (bytes : List ℕ) → list_any is_space bytes ≡ false → HasNoHead kind bytes
none_unspaced kind bytes none = none_from kind bytes (λ text rest lines is same.
    let s = space_head kind text lines is in
    let some : list_any is_space bytes ≡ true =
    ap (list_any is_space) (same ∙ ap (λ (t : List ℕ). t ++ rest) s.2)
    ∙ list_any-append is_space (s.0 ++ space ∷ s.1) rest
    ∙ ap (λ (b : Bool). b || list_any is_space rest) (list_any-append is_space s.0 (space ∷ s.1))
    ∙ ap (λ (b : Bool). b || list_any is_space rest) (or_true (list_any is_space s.0)) in
    let clash : true ≡ false = sym some ∙ none in
    absurd (cc))

-- one part more
pub unspaced_more : (before after : Bool) (head part items : List ℕ) → after ≡ (before || list_any is_space part) → items ≡ head ++ part
    → Unspaced before head → Unspaced after items
unspaced_more true after head part items is e none = λ off. absurd (let clash : true ≡ false = sym is ∙ off in cc)
unspaced_more false after head part items is e none = λ off.
    ap (list_any is_space) e ∙ list_any-append is_space head part
    ∙ ap (λ (b : Bool). b || list_any is_space part) (none refl) ∙ (sym is ∙ off)

-- ---- one part of a line more

-- all bytes but the last of those that are taken so far have no head
pub record AllButOne (kind : HeadKind) (most : ℕ) (items : List ℕ) : Type 0 where
  pub front : List ℕ
  pub byte : ℕ
  pub is : items ≡ front ++ byte ∷ []
  pub none : HasNoHead kind front
  pub short : length front ≤ most

-- the bytes behind those of before
pub rest_of : (n : ℕ) (head part items : List ℕ) → n ≡ length head → items ≡ head ++ part → take (length items - n) (drop n items) ≡ part
rest_of n head part items is e =
    let size : length items ≡ length head + length part = ap length e ∙ length-append head part in
    let rest : drop n items ≡ part = ap (λ k. drop k items) is ∙ ap (drop (length head)) e ∙ drop-append_seam head part in
    ap (take (length items - n)) rest ∙ take_all (length items - n) part (omega (arith, is, size))

-- if no byte is a line feed, no head ends
none_within : (kind : HeadKind) (head front : List ℕ) → HasNoHead kind head → All (λ b. b ≢ line_feed) front → HasNoHead kind (head ++ front)
none_within kind head [] none other = subst (HasNoHead kind) (sym (append-nil head)) none
none_within kind head (b ∷ front) none other =
    subst (HasNoHead kind) (append_assoc head (b ∷ []) front)
    (none_within kind (head ++ b ∷ []) front
    (none_more kind head (head ++ b ∷ []) b refl none (λ is. absurd (All-head (λ x. x ≢ line_feed) b front other is)))
    (All-tail (λ x. x ≢ line_feed) b front other))

pub all_but_one : (kind : HeadKind) (most : ℕ) (head part items : List ℕ) → items ≡ head ++ part → HasNoHead kind head → StopsAt part line_feed
    → 0 < length part → length head + length part ≤ most + 1 → AllButOne kind most items
all_but_one kind most head part items e none line some short =
    let n = length part - 1 in
    let front = take n part in
    let last = get_or part n 0 in
    let all : n + 1 ≡ length part = omega (arith, some) in
    let split : part ≡ front ++ last ∷ [] =
    sym (take_all (n + 1) part (omega (arith, some))) ∙ take_more part n 0 (omega (arith, some)) in
    record {
      front = head ++ front;
      byte = last;
      is = e ∙ ap (λ (t : List ℕ). head ++ t) split ∙ sym (append_assoc head front (last ∷ []));
      none = none_within kind head front none line;
      short = omega (arith, some, short, length-append head front, length-take n part);
    }

-- bytes about which the parser isn't asked have no head
pub none_lacked : (kind : HeadKind) (most : ℕ) (spaced : Bool) (items : List ℕ) → AllButOne kind most items → Unspaced spaced items
    → (IsTrue spaced → ends_empty items ≡ false) → HasNoHead kind items
none_lacked kind most true items but others other = none_more kind but.front items but.byte but.is but.none (λ _. other refl)
none_lacked kind most false items but others other = none_unspaced kind items (others refl)

-- ---- the faults

-- more field lines than there may be, whatever follows
crowded : (kind : HeadKind) (most room : ℕ) (bytes more : List ℕ) → Exceeds kind room bytes → Overflows kind room bytes → IsHeadTooLong kind most room (bytes ++ more)
crowded kind most room bytes more exceeds over = (
  inr (exceeds_more kind room bytes more exceeds),
  λ text rest lines is same fits few.
      let many = over_of kind room bytes more text rest lines over is same in
      omega (arith, many, few),
)

-- what the parser says at the end of the input
pub at_end : (kind : HeadKind) (most room : ℕ) (bytes : List ℕ) → length bytes ≤ most
    → ((most < length bytes) × IsOpen kind bytes) ⊎ (Exceeds kind room bytes × Overflows kind room bytes)
    → Shows (most + 1) (RefusesHead kind most room) bytes HeadTooLong
at_end kind most room bytes short (inl (long, may)) = absurd (omega (arith, short, long))
at_end kind most room bytes short (inr (exceeds, over)) =
    record { shown = λ more nothing. crowded kind most room bytes more exceeds over; short = omega (arith, short) }

-- a head that ends at the last byte, and bytes that may become one
whole_becomes : (kind : HeadKind) (bytes text : List ℕ) (lines : ℕ) → IsHead kind text lines → bytes ≡ text → MayBecomeHead kind bytes
whole_becomes Request bytes text lines (h, valid, e, count) same = inl ([], h, (valid, ap (λ (t : List ℕ). t ++ []) (same ∙ e)))
whole_becomes Response bytes text lines (h, valid, e, count) same = ([], h, (valid, ap (λ (t : List ℕ). t ++ []) (same ∙ e)))

becomes : (kind : HeadKind) (head items : List ℕ) (byte : ℕ) → items ≡ head ++ byte ∷ [] → HasNoHead kind head → IsOpen kind items → MayBecomeHead kind items
becomes kind head items byte e none (inl may) = may
becomes kind head items byte e none (inr (text, rest, lines, is, same)) =
    let sizes : length head + 1 ≡ length text + length rest =
    sym (length-append head (byte ∷ [])) ∙ ap length (sym e ∙ same) ∙ length-append text rest in
    let long : length text ≤ length head → ⊥ = λ le. short_head kind head (byte ∷ []) text rest lines none is (sym e ∙ same) le in
    let all : length rest ≡ 0 = grind (arith, long, sizes) in
    whole_becomes kind items text lines is (same ∙ ap (λ (r : List ℕ). text ++ r) (no_element rest all) ∙ append-nil text)

pub long_head : (kind : HeadKind) (most room : ℕ) (head items : List ℕ) (byte : ℕ) → items ≡ head ++ byte ∷ []
    → HasNoHead kind head → length head ≤ most
    → ((most < length items) × IsOpen kind items) ⊎ (Exceeds kind room items × Overflows kind room items)
    → Shows (most + 1) (RefusesHead kind most room) items HeadTooLong
long_head kind most room head items byte e none short (inl (long, may)) =
    let size : length items ≡ length head + 1 = ap length e ∙ length-append head (byte ∷ []) in
    record {
      shown = λ more nothing.
          let regroup : items ++ more ≡ head ++ (byte ∷ more) =
          ap (λ (t : List ℕ). t ++ more) e ∙ append_assoc head (byte ∷ []) more in (
            inl (record { prefix = items; rest = more; whole = refl; long = omega (arith, size, long, short); may = becomes kind head items byte e none may }),
            λ text rest lines is same fits few.
                short_head kind head (byte ∷ more) text rest lines none is (sym regroup ∙ same) (omega (arith, size, long, fits)),
          );
      short = omega (arith, size, short);
    }
long_head kind most room head items byte e none short (inr (exceeds, over)) = record {
  shown = λ more nothing. crowded kind most room items more exceeds over;
  short = let size : length items ≡ length head + 1 = ap length e ∙ length-append head (byte ∷ []) in omega (arith, size, short);
}

-- the head stops after these bytes
pub stops : (kind : HeadKind) (most room : ℕ) (old new : GivenBytes) (bytes : List ℕ) (fault : Fault) → Gives old new bytes
    → Shows (most + 1) (RefusesHead kind most room) bytes fault → (fault ≡ Cut → FoundEnd new)
    → Stops old new (Shows (most + 1) (RefusesHead kind most room)) fault
stops kind most room old new bytes fault gives is ended = record { bytes = bytes; gives = gives; is = is; ended = ended }

-- the parser's spans of a whole head
pub request_whole : (room : ℕ) (bytes : List ℕ) (headers : List HeaderSpan) (spans : RequestSpans) → length headers ≡ room
    → IsRequestOf bytes headers spans → IsRequestWithin bytes headers spans → HasHead Request room bytes
request_whole room bytes headers spans size (h, at) within =
    let count : length (take spans.headers headers) ≡ length h.fields = simp length-map at (ap length at.fields) in (
      print_request h,
      drop spans.len bytes,
      length h.fields,
      (h, at.reads.0, refl, refl),
      at.reads.1,
      omega (arith, size, count, length-take spans.headers headers),
    )

pub response_whole : (room : ℕ) (bytes : List ℕ) (headers : List HeaderSpan) (spans : ResponseSpans) → length headers ≡ room
    → IsResponseOf bytes headers spans → IsResponseWithin bytes headers spans → HasHead Response room bytes
response_whole room bytes headers spans size (h, at) within =
    let count : length (take spans.headers headers) ≡ length h.fields = simp length-map at (ap length at.fields) in (
      print_response h,
      drop spans.len bytes,
      length h.fields,
      (h, at.reads.0, refl, refl),
      at.reads.1,
      omega (arith, size, count, length-take spans.headers headers),
    )

pub whole_head : (kind : HeadKind) (most room : ℕ) (head items : List ℕ) (byte : ℕ) → items ≡ head ++ byte ∷ []
    → HasNoHead kind head → HasHead kind room items × (length items ≤ most) → IsHeadWithin kind most room items
whole_head kind most room head items byte e none ((text, rest, lines, is, same, few), fits) =
    let sizes : length head + 1 ≡ length text + length rest =
    sym (length-append head (byte ∷ [])) ∙ ap length (sym e ∙ same) ∙ length-append text rest in
    let long : length text ≤ length head → ⊥ = λ le. short_head kind head (byte ∷ []) text rest lines none is (sym e ∙ same) le in
    let all : length rest ≡ 0 = grind (arith, long, sizes) in
    let exact : items ≡ text = same ∙ ap (λ (r : List ℕ). text ++ r) (no_element rest all) ∙ append-nil text in
    record { lines = lines; head = subst (λ (t : List ℕ). IsHead kind t lines) (sym exact) is; short = fits; few = few }

pub whole_state : (kind : HeadKind) (most room : ℕ) (bytes : List ℕ) (state : HeadState) → state ≡ cond (nat_le (length bytes) most) Whole Long
    → HasHead kind room bytes → IsHeadState kind most room bytes state
whole_state kind most room bytes state e has =
    whole_by (leb_tells (length bytes) most)
  where
    whole_by : ((nat_le (length bytes) most ≡ true) × (length bytes ≤ most)) ⊎ ((nat_le (length bytes) most ≡ false) × (most < length bytes))
        → IsHeadState kind most room bytes state
    whole_by (inl (t, le)) = rw (e, t) (has, le)
    whole_by (inr (f, lt)) = rw (e, f) (inl (lt, inr (has.0, has.1, has.2, has.3, has.4)))

-- one part more was given
pub takes_part : (most : ℕ) (old mid new : GivenBytes) (head part items : List ℕ) → Gives old mid head → IsPart most mid new part
    → items ≡ head ++ part → Gives old new items
takes_part most old mid new head part items taken next e = rw e (gives_more old mid new head part taken next.gives)

-- memory ran out for a part that was given
pub part_lost : (kind : HeadKind) (most : ℕ) (old mid new : GivenBytes) (head part : List ℕ) → Gives old mid head → IsPart most mid new part
    → HasNoHead kind head → length head + most ≤ max_head_bytes + 1 → GivesWhat old new (HasNoShorterHead kind)
part_lost kind most old mid new head [] taken next none short =
    (head ++ [], gives_more old mid new head [] taken next.gives, subst (HasNoShorterHead kind) (sym (append-nil head)) (none_is_shorter kind head none))
part_lost kind most old mid new head (b ∷ part) taken next none short =
    let items = head ++ b ∷ part in
    let but = all_but_one kind max_head_bytes head (b ∷ part) items refl none next.line (omega arith) (omega (arith, short, next.short)) in
    (items, gives_more old mid new head (b ∷ part) taken next.gives, subst (HasNoShorterHead kind) (sym but.is) (none_shorter kind but.front but.byte but.none))
