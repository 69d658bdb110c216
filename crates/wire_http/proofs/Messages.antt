-- Whole responses at the start of the input.
use Rattle.std.proofs.Common.{◌≡◌, ℕ, ◌+◌, ◌<◌, ◌≤◌, ◌⊎◌, inl, inr, append_assoc, Bool, true, false, cond, List, [], ◌∷◌, ◌++◌, length, take, drop, map, sym, ◌∙◌, ap, refl, append-nil, arith, length-append, IfErr, subst, Result, Ok, Err, codes, IsTrue, IsFalse}
use Rattle.std.proofs.lemmas.Bool.Decides.{nat_tests}
use Rattle.std.proofs.lemmas.List.{append_cancel_left}
use Rattle.httparse.specs.Grammar.{ResponseHead, ReadsResponse, print_response, status_code}
use Rattle.httparse.specs.Spans.{header_bytes, name_and_value}
use Rattle.httparse.specs.declared.spans.HeaderSpan.{HeaderSpan}
use Rattle.httparse.specs.declared.spans.ResponseSpans.{ResponseSpans}
use Rattle.httparse.proofs.GrammarLemmas.{response_unique}
use Rattle.wire_http.specs.declared.fault.Fault.{Fault}
use Rattle.wire_http.specs.declared.fault.Fault.TheVariants.{Cut, ReadFault, WriteFault, HeadTooLong, BodyTooLong, BadHead, LengthNeeded, NotOffered, NoMemory}
use Rattle.wire_http.specs.ByteResponses.{Response as Answer}
use Rattle.wire_http.specs.Bodies.{RefusesBody}
use Rattle.wire_http.specs.Faults.{Stops, Shows}
use Rattle.wire_http.specs.Streams.{GivenBytes, Gives, GivesWhat}
use Rattle.wire_http.proofs.Known.{gives_more}
use Rattle.wire_http.specs.HeadFields.{field_bytes, values, is_number, is_bare, without_body, stated_length, response_length}
use Rattle.wire_http.specs.Responses.{Room, head_room, is_interim, is_switch, Skips, bytes_of, lines_of, Behind, Begins, HasFinal, HasNoFinal, stated, IsResponse, HasNoResponse, IsHopeless, IsSwitched, RefusesHeads, HasFault, RefusesResponse, IsHeadRead, IsResponseMessage, IsOfHeads, IsFaultyHead, ShowsNoResponse, ShowsNoHead, Spends, ArePartsOfResponse, IsFinalRead}
use Rattle.wire_http.proofs.Interims.{not_both, Interim, final_less, front_of}

-- ---- an input has one final head

-- after heads that may be skipped, the final head is that of the input
meet : (h : ResponseHead) (rest : List ℕ) (skipped : List ResponseHead) (end : List ℕ) (left room : Room) (input : List ℕ) → Skips skipped input end
    → bytes_of skipped + left.bytes ≡ room.bytes → lines_of skipped + left.lines ≡ room.lines → HasFinal room input h rest → HasFinal left end h rest
meet h rest [] end left room input skips bytes lines (b, final) = (
  record {
    skipped = b.skipped;
    middle = b.middle;
    left = b.left;
    skips = subst (λ (t : List ℕ). Skips b.skipped t b.middle) skips b.skips;
    bytes = let own = b.bytes in omega (arith, bytes, own);
    lines = let own = b.lines in omega (arith, lines, own);
    holds = b.holds;
  },
  final,
)
meet h rest (i ∷ skipped) end left room input (next, reads, interim, plain, skips) bytes lines has =
    let after : Room = record { bytes = bytes_of skipped + left.bytes; lines = lines_of skipped + left.lines } in
    let here : Interim room after input next = record {
      head = i;
      reads = reads;
      interim = interim;
      plain = plain;
      bytes = omega (arith, bytes);
      lines = omega (arith, lines);
    } in
    meet h rest skipped end left after next skips refl refl (final_less room after input next h rest here has)

-- what holds after some heads holds together with the final head
record Beside (P : Room → List ℕ → Type 0) (h : ResponseHead) (rest : List ℕ) : Type 0 where
  left : Room
  middle : List ℕ
  holds : P left middle
  final : HasFinal left middle h rest

beside : (room : Room) (input : List ℕ) (P : Room → List ℕ → Type 0) (h : ResponseHead) (rest : List ℕ) → Behind room P input → HasFinal room input h rest → Beside P h rest
beside room input P h rest b has = record {
  left = b.left;
  middle = b.middle;
  holds = b.holds;
  final = meet h rest b.skipped b.middle b.left room input b.skips b.bytes b.lines has;
}

-- the head at the start is the final one, or an interim one
data First (k : ResponseHead) (p : List ℕ) (h : ResponseHead) (rest : List ℕ) : Type 0 where
  the_final : k ≡ h → p ≡ rest → First k p h rest
  skipped : IsTrue (is_interim (status_code k)) → IsFalse (is_switch (status_code k)) → First k p h rest

first_list : (k : ResponseHead) (p : List ℕ) (h : ResponseHead) (rest input : List ℕ) → ReadsResponse input k p → (heads : List ResponseHead) (end : List ℕ) (q : Room)
    → Skips heads input end → Begins h rest q end → First k p h rest
first_list k p h rest input reads [] end q skips begins =
    let same = response_unique input k h p rest reads (subst (λ (t : List ℕ). ReadsResponse t h rest) (sym skips) begins.reads) in
    the_final same.0 same.1
first_list k p h rest input reads (j ∷ heads) end q (next, read, interim, plain, skips) begins =
    let same = response_unique input j k next p read reads in
    skipped (subst (λ (i : ResponseHead). IsTrue (is_interim (status_code i))) same.0 interim)
    (subst (λ (i : ResponseHead). IsFalse (is_switch (status_code i))) same.0 plain)

first_of : (room : Room) (input : List ℕ) (k : ResponseHead) (p : List ℕ) (h : ResponseHead) (rest : List ℕ) → ReadsResponse input k p → HasFinal room input h rest → First k p h rest
first_of room input k p h rest reads (b, final) = first_list k p h rest input reads b.skipped b.middle b.left b.skips b.holds

pub unique_final : (room : Room) (input : List ℕ) (k : ResponseHead) (p : List ℕ) (h : ResponseHead) (rest : List ℕ)
    → HasFinal room input k p → HasFinal room input h rest → (k ≡ h) × (p ≡ rest)
unique_final room input k p h rest (b, last) has =
    let s = beside room input (Begins k p) h rest b has in
    settle (first_of s.left s.middle k p h rest s.holds.reads s.final)
  where
    settle : First k p h rest → (k ≡ h) × (p ≡ rest)
    settle (the_final e f) = (e, f)
    settle (skipped interim plain) = absurd (not_both (is_interim (status_code k)) interim last)

not_hopeless : (room : Room) (input : List ℕ) (h : ResponseHead) (rest : List ℕ) → Behind room IsHopeless input → HasFinal room input h rest → ⊥
not_hopeless room input h rest b has =
    let s = beside room input IsHopeless h rest b has in
    let f = front_of s.left s.middle h rest s.final in
    s.holds.never s.holds.rest f.head f.rest (subst (λ (t : List ℕ). ReadsResponse t f.head f.rest) s.holds.whole f.begins.reads)

switch_is_interim : (code : ℕ) → IsTrue (is_switch code) → IsFalse (is_interim code) → ⊥
switch_is_interim code t f = grind (arith, nat_tests)

not_switched : (room : Room) (input : List ℕ) (h : ResponseHead) (rest : List ℕ) → Behind room IsSwitched input → HasFinal room input h rest → ⊥
not_switched room input h rest b has =
    let s = beside room input IsSwitched h rest b has in
    settle s.holds.0 (first_of s.left s.middle s.holds.0 s.holds.1 h rest s.holds.2.reads s.final) s.holds.3
  where
    settle : (k : ResponseHead) {p : List ℕ} → First k p h rest → IsTrue (is_switch (status_code k)) → ⊥
    settle k (the_final e f) is =
        switch_is_interim (status_code h) (subst (λ (i : ResponseHead). IsTrue (is_switch (status_code i))) e is) has.1
    settle k (skipped interim plain) is = not_both (is_switch (status_code k)) is plain

-- ---- faults of the fields

abbrev pub IsFieldFault : Fault → Type 0
IsFieldFault NotOffered = Unit {0}
IsFieldFault BadHead = Unit {0}
IsFieldFault BodyTooLong = Unit {0}
IsFieldFault LengthNeeded = Unit {0}
IsFieldFault Cut = ⊥
IsFieldFault ReadFault = ⊥
IsFieldFault HeadTooLong = ⊥
IsFieldFault NoMemory = ⊥
IsFieldFault WriteFault = ⊥

number_fault : (n : ℕ) (bare a b : Bool) → IfErr (without_body bare (cond a (cond b (Err BodyTooLong) (Ok n)) (Err BadHead))) IsFieldFault
number_fault n true true true = tt
number_fault n true true false = tt
number_fault n true false b = tt
number_fault n false true true = tt
number_fault n false true false = tt
number_fault n false false b = tt

absent_fault : (bare : Bool) → IfErr {T = ℕ} (cond bare (Ok 0) (Err LengthNeeded)) IsFieldFault
absent_fault true = tt
absent_fault false = tt

length_fault : (limit : ℕ) (bare : Bool) (texts : List (List ℕ)) → IfErr (stated_length limit bare texts) IsFieldFault
length_fault limit bare [] = absent_fault bare
length_fault limit bare (text ∷ []) = number_fault _ bare (is_number text) _
length_fault limit bare (a ∷ b ∷ texts) = tt

field_fault_of : (limit : ℕ) (bare : Bool) (texts : List (List ℕ)) (a b : Bool)
    → IfErr (cond a (Err BadHead) (cond b (Err NotOffered) (stated_length limit bare texts))) IsFieldFault
field_fault_of limit bare texts true b = tt
field_fault_of limit bare texts false true = tt
field_fault_of limit bare texts false false = length_fault limit bare texts

field_fault : (limit code : ℕ) (fields : List (List ℕ × List ℕ)) (fault : Fault) → response_length limit code fields ≡ Err fault → IsFieldFault fault
field_fault limit code fields fault e =
    let any : IfErr (response_length limit code fields) IsFieldFault = field_fault_of limit (is_bare code) (values (codes "content-length") fields) _ _ in
    subst (λ (r : Result ℕ Fault). IfErr r IsFieldFault) e any

refuses_fields : (limit : ℕ) (input : List ℕ) (fault : Fault) → IsFieldFault fault → HasFault head_room limit input fault → RefusesResponse head_room limit input fault
refuses_fields limit input NotOffered f h = h
refuses_fields limit input BadHead f h = inr h
refuses_fields limit input BodyTooLong f h = h
refuses_fields limit input LengthNeeded f h = h
refuses_fields limit input Cut f h = absurd f
refuses_fields limit input ReadFault f h = absurd f
refuses_fields limit input HeadTooLong f h = absurd f
refuses_fields limit input NoMemory f h = absurd f
refuses_fields limit input WriteFault f h = absurd f

-- ---- faults of the heads and of the body

pub refuses_heads : (limit : ℕ) (input : List ℕ) (fault : Fault) → RefusesHeads head_room input fault → RefusesResponse head_room limit input fault
refuses_heads limit input Cut (none, b) = (λ h body rest whole. none h (body ++ rest) whole.0, inl b)
refuses_heads limit input BadHead h = inl h
refuses_heads limit input HeadTooLong h = h
refuses_heads limit input ReadFault h = tt
refuses_heads limit input NoMemory h = tt
refuses_heads limit input BodyTooLong h = absurd h
refuses_heads limit input LengthNeeded h = absurd h
refuses_heads limit input NotOffered h = absurd h
refuses_heads limit input WriteFault h = absurd h

cut_body : (limit : ℕ) (input : List ℕ) (h : ResponseHead) (rest : List ℕ) (size : ℕ) → HasFinal head_room input h rest → stated limit h ≡ Ok size
    → length rest < size → HasNoResponse head_room limit input
cut_body limit input h rest size has is short k body more whole =
    let same = unique_final head_room input h rest k (body ++ more) has whole.0 in
    let sizes : Ok size ≡ Ok (length body) = sym is ∙ ap (stated limit) same.0 ∙ whole.1 in
    let size_is : size ≡ length body = cc in
    let long : length rest ≡ length body + length more = ap length same.1 ∙ length-append body more in
    omega (arith, size_is, long, short)

refuses_body : (limit : ℕ) (input : List ℕ) (h : ResponseHead) (rest : List ℕ) (size : ℕ) (fault : Fault) → HasFinal head_room input h rest
    → stated limit h ≡ Ok size → RefusesBody size rest fault → RefusesResponse head_room limit input fault
refuses_body limit input h rest size Cut has is f = (cut_body limit input h rest size has is f, inr (h, rest, size, has, is, f))
refuses_body limit input h rest size ReadFault has is f = tt
refuses_body limit input h rest size NoMemory has is f = tt
refuses_body limit input h rest size HeadTooLong has is f = absurd f
refuses_body limit input h rest size BodyTooLong has is f = absurd f
refuses_body limit input h rest size BadHead has is f = absurd f
refuses_body limit input h rest size LengthNeeded has is f = absurd f
refuses_body limit input h rest size NotOffered has is f = absurd f
refuses_body limit input h rest size WriteFault has is f = absurd f

-- ---- the reader's exits

-- the final head that was read, with its parts
record Final (limit : ℕ) (given bytes : List ℕ) (headers : List HeaderSpan) (spans : ResponseSpans) : Type 0 where
  head : ResponseHead
  has : (rest : List ℕ) → HasFinal head_room (given ++ rest) head rest
  stated_is : stated limit head ≡ response_length limit spans.code (map (header_bytes bytes) (take spans.headers headers))
  code : spans.code ≡ status_code head
  fields : map (header_bytes bytes) (take spans.headers headers) ≡ map name_and_value head.fields

final_parts : (limit : ℕ) (given bytes : List ℕ) (headers : List HeaderSpan) (spans : ResponseSpans)
    → IsFinalRead given bytes → ArePartsOfResponse bytes headers spans → Final limit given bytes headers spans
final_parts limit given bytes headers spans f p =
    let h = p.head in
    let same = response_unique bytes f.head h [] (drop spans.len bytes) (f.valid, f.whole ∙ sym (append-nil (print_response f.head))) p.at.reads in
    record {
      head = h;
      has = λ rest. subst (λ (k : ResponseHead). HasFinal head_room (given ++ rest) k rest) same.0 (f.first rest);
      stated_is =
          ap (λ (code : ℕ). response_length limit code (map name_and_value h.fields)) (sym p.at.code)
          ∙ ap (response_length limit spans.code) (sym p.at.fields);
      code = p.at.code;
      fields = p.at.fields;
    }

heads_spent : (limit : ℕ) (bytes : List ℕ) (fault : Fault) → RefusesHeads head_room (bytes ++ []) fault → length bytes ≤ 16385 → Spends limit bytes fault
heads_spent limit bytes Cut h short = omega (arith, short)
heads_spent limit bytes BadHead h short = short
heads_spent limit bytes HeadTooLong h short = short
heads_spent limit bytes ReadFault h short = omega (arith, short)
heads_spent limit bytes NoMemory h short = omega (arith, short)
heads_spent limit bytes BodyTooLong h short = absurd h
heads_spent limit bytes LengthNeeded h short = absurd h
heads_spent limit bytes NotOffered h short = absurd h
heads_spent limit bytes WriteFault h short = absurd h

pub exit_heads : (limit : ℕ) (old new : GivenBytes) (fault : Fault)
    → Stops old new (Shows 16385 (RefusesHeads head_room)) fault → Stops old new (ShowsNoResponse limit) fault
exit_heads limit old new fault s = record {
  bytes = s.bytes;
  gives = s.gives;
  is = record {
    shown = λ more nothing. refuses_heads limit (s.bytes ++ more) fault (s.is.shown more nothing);
    spent = heads_spent limit s.bytes fault (s.is.shown [] (λ e. refl)) s.is.short;
  };
  ended = s.ended;
}

-- if the fields are at fault

no_cut : (fault : Fault) → IsFieldFault fault → fault ≡ Cut → ⊥
no_cut fault f e = subst IsFieldFault e f

fields_spent : (limit : ℕ) (bytes : List ℕ) (fault : Fault) → IsFieldFault fault → length bytes ≤ 16384 → IsFaultyHead limit bytes fault → Spends limit bytes fault
fields_spent limit bytes NotOffered f short faulty = faulty
fields_spent limit bytes BodyTooLong f short faulty = faulty
fields_spent limit bytes LengthNeeded f short faulty = faulty
fields_spent limit bytes BadHead f short faulty = omega (arith, short)
fields_spent limit bytes Cut f short faulty = absurd f
fields_spent limit bytes ReadFault f short faulty = absurd f
fields_spent limit bytes HeadTooLong f short faulty = absurd f
fields_spent limit bytes NoMemory f short faulty = absurd f
fields_spent limit bytes WriteFault f short faulty = absurd f

pub exit_fields : (limit : ℕ) (old new : GivenBytes) (bytes looked : List ℕ) (headers : List HeaderSpan) (spans : ResponseSpans) (fault : Fault)
    → GivesWhat old new (λ given. IsFinalRead given bytes) → looked ≡ bytes → ArePartsOfResponse looked headers spans
    → response_length limit spans.code (map (header_bytes bytes) (take spans.headers headers)) ≡ Err fault → Stops old new (ShowsNoResponse limit) fault
exit_fields limit old new bytes looked headers spans fault (given, gives, f) same p e =
    let final = final_parts limit given bytes headers spans f (subst (λ (b : List ℕ). ArePartsOfResponse b headers spans) same p) in
    let is = field_fault limit spans.code (map (header_bytes bytes) (take spans.headers headers)) fault e in
    record {
      bytes = given;
      gives = gives;
      is = record {
        shown = λ more nothing. refuses_fields limit (given ++ more) fault is (final.head, more, final.has more, final.stated_is ∙ e);
        spent = fields_spent limit given fault is f.short
            (final.head, subst (λ (l : List ℕ). HasFinal head_room l final.head []) (append-nil given) (final.has []), final.stated_is ∙ e);
      };
      ended = λ cut. absurd (no_cut fault is cut);
    }

-- if the body is at fault

body_spent : (limit size : ℕ) (bytes rest : List ℕ) (fault : Fault) → RefusesBody size (rest ++ []) fault → length bytes ≤ 16384 → length rest ≤ size → size ≤ limit
    → Spends limit (bytes ++ rest) fault
body_spent limit size bytes rest Cut h short few fits = omega (arith, short, few, fits, length-append bytes rest)
body_spent limit size bytes rest ReadFault h short few fits = omega (arith, short, few, fits, length-append bytes rest)
body_spent limit size bytes rest NoMemory h short few fits = omega (arith, short, few, fits, length-append bytes rest)
body_spent limit size bytes rest HeadTooLong h short few fits = absurd h
body_spent limit size bytes rest BodyTooLong h short few fits = absurd h
body_spent limit size bytes rest BadHead h short few fits = absurd h
body_spent limit size bytes rest LengthNeeded h short few fits = absurd h
body_spent limit size bytes rest NotOffered h short few fits = absurd h
body_spent limit size bytes rest WriteFault h short few fits = absurd h

pub exit_body : (limit : ℕ) (old mid new : GivenBytes) (bytes looked : List ℕ) (headers : List HeaderSpan) (spans : ResponseSpans) (size : ℕ) (fault : Fault)
    → GivesWhat old mid (λ given. IsFinalRead given bytes) → looked ≡ bytes → ArePartsOfResponse looked headers spans
    → response_length limit spans.code (map (header_bytes bytes) (take spans.headers headers)) ≡ Ok size → size ≤ limit
    → Stops mid new (Shows size (RefusesBody size)) fault → Stops old new (ShowsNoResponse limit) fault
exit_body limit old mid new bytes looked headers spans size fault (given, gives, f) same p e fits s =
    let final = final_parts limit given bytes headers spans f (subst (λ (b : List ℕ). ArePartsOfResponse b headers spans) same p) in
    record {
      bytes = given ++ s.bytes;
      gives = gives_more old mid new given s.bytes gives s.gives;
      is = record {
        shown = λ more nothing.
            subst (λ (l : List ℕ). RefusesResponse head_room limit l fault) (sym (append_assoc given s.bytes more))
            (refuses_body limit (given ++ (s.bytes ++ more)) final.head (s.bytes ++ more) size fault (final.has (s.bytes ++ more)) (final.stated_is ∙ e) (s.is.shown more nothing));
        spent = body_spent limit size given s.bytes fault (s.is.shown [] (λ cut. refl)) f.short s.is.short fits;
      };
      ended = s.ended;
    }

-- if memory runs out behind the body
pub exit_memory : (limit : ℕ) (old mid new : GivenBytes) (bytes items : List ℕ) (size : ℕ) (fault : Fault)
    → GivesWhat old mid (λ given. IsFinalRead given bytes) → size ≤ limit
    → (length items ≡ size) × Gives mid new items → fault ≡ NoMemory → Stops old new (ShowsNoResponse limit) fault
exit_memory limit old mid new bytes items size fault (given, gives, f) fits (size_is, body) memory =
    rw memory (record {
      bytes = given ++ items;
      gives = gives_more old mid new given items gives body;
      is = record {
        shown = λ more nothing. tt;
        spent = let short = f.short in omega (arith, short, fits, size_is, length-append given items);
      };
      ended = λ cut. absurd (cc);
    })

pub exit_taken : (limit : ℕ) (old mid new : GivenBytes) (bytes looked : List ℕ) (headers : List HeaderSpan) (spans : ResponseSpans) (size : ℕ) (answer : Answer) (items : List ℕ)
    → GivesWhat old mid (λ given. IsFinalRead given bytes) → looked ≡ bytes → ArePartsOfResponse looked headers spans
    → response_length limit spans.code (map (header_bytes bytes) (take spans.headers headers)) ≡ Ok size
    → answer.body ≡ items → length items ≡ size → Gives mid new items → answer.status ≡ spans.code
    → map field_bytes answer.fields ≡ map (header_bytes bytes) (take spans.headers headers) → GivesWhat old new (λ whole. IsResponseMessage limit whole answer)
exit_taken limit old mid new bytes looked headers spans size answer items (given, gives, f) same p e body size_is taken code fields =
    let final = final_parts limit given bytes headers spans f (subst (λ (b : List ℕ). ArePartsOfResponse b headers spans) same p) in (
      given ++ items,
      gives_more old mid new given items gives taken,
      record {
        head = final.head;
        whole = (
          subst (λ (t : List ℕ). HasFinal head_room (given ++ items) final.head t) (sym (append-nil answer.body ∙ body)) (final.has items),
          final.stated_is ∙ e ∙ ap Ok (sym (ap length body ∙ size_is)),
        );
        status = code ∙ final.code;
        fields = fields ∙ final.fields;
      },
    )

-- the heads alone
pub exit_head : (limit : ℕ) (old new : GivenBytes) (bytes looked : List ℕ) (headers : List HeaderSpan) (spans : ResponseSpans) (size code : ℕ)
    → GivesWhat old new (λ given. IsFinalRead given bytes) → looked ≡ bytes → ArePartsOfResponse looked headers spans
    → response_length limit spans.code (map (header_bytes bytes) (take spans.headers headers)) ≡ Ok size → code ≡ spans.code
    → GivesWhat old new (λ given. IsHeadRead limit given code size)
exit_head limit old new bytes looked headers spans size code (given, gives, f) same p e is =
    let final = final_parts limit given bytes headers spans f (subst (λ (b : List ℕ). ArePartsOfResponse b headers spans) same p) in (
      given,
      gives,
      record { head = final.head; first = final.has; states = final.stated_is ∙ e; status = is ∙ final.code; short = f.short },
    )

heads_show : (limit : ℕ) (bytes : List ℕ) (fault : Fault) → Shows 16385 (RefusesHeads head_room) bytes fault → ShowsNoResponse limit bytes fault
heads_show limit bytes fault is = record {
  shown = λ more nothing. refuses_heads limit (bytes ++ more) fault (is.shown more nothing);
  spent = heads_spent limit bytes fault (is.shown [] (λ e. refl)) is.short;
}

cut_unfinished : (bytes : List ℕ) (fault : Fault) → RefusesHeads head_room bytes fault → fault ≡ Cut → HasNoFinal head_room bytes
cut_unfinished bytes fault refuses e = let cut : RefusesHeads head_room bytes Cut = subst (RefusesHeads head_room bytes) e refuses in cut.0

-- if the heads are refused, nothing follows a final head
of_heads : (bytes : List ℕ) (fault : Fault) → RefusesHeads head_room bytes fault → (fault ≡ ReadFault → HasNoFinal head_room bytes)
    → (fault ≡ NoMemory → IsOfHeads head_room bytes) → IsOfHeads head_room bytes
of_heads bytes Cut (none, b) lost memory = λ h rest has. absurd (none h rest has)
of_heads bytes BadHead (inl b) lost memory = λ h rest has. absurd (not_hopeless head_room bytes h rest b has)
of_heads bytes BadHead (inr b) lost memory = λ h rest has. absurd (not_switched head_room bytes h rest b has)
of_heads bytes HeadTooLong (none, b) lost memory = λ h rest has. absurd (none h rest has)
of_heads bytes ReadFault r lost memory = λ h rest has. absurd (lost refl h rest has)
of_heads bytes NoMemory r lost memory = memory refl
of_heads bytes BodyTooLong r lost memory = absurd r
of_heads bytes LengthNeeded r lost memory = absurd r
of_heads bytes NotOffered r lost memory = absurd r
of_heads bytes WriteFault r lost memory = absurd r

-- what holds for the bytes that were given holds for these
of_given : (old new : GivenBytes) (bytes : List ℕ) (Is : List ℕ → Type 0) → Gives old new bytes → GivesWhat old new Is → Is bytes
of_given old new bytes Is p (given, q, is) = subst Is (append_cancel_left old.given given bytes (sym q.given ∙ p.given)) is

pub exit_no_head : (limit : ℕ) (old new : GivenBytes) (fault : Fault) → Stops old new (Shows 16385 (RefusesHeads head_room)) fault
    → (fault ≡ ReadFault → GivesWhat old new (HasNoFinal head_room)) → (fault ≡ NoMemory → GivesWhat old new (IsOfHeads head_room))
    → Stops old new (ShowsNoHead limit) fault
exit_no_head limit old new fault s lost memory =
    let refuses : RefusesHeads head_room s.bytes fault =
    subst (λ (l : List ℕ). RefusesHeads head_room l fault) (append-nil s.bytes) (s.is.shown [] (λ e. refl)) in
    let unread : fault ≡ ReadFault → HasNoFinal head_room s.bytes = λ e. of_given old new s.bytes (HasNoFinal head_room) s.gives (lost e) in
    record {
      bytes = s.bytes;
      gives = s.gives;
      is = record {
        shows = heads_show limit s.bytes fault s.is;
        short = s.is.short;
        heads = of_heads s.bytes fault refuses unread (λ e. of_given old new s.bytes (IsOfHeads head_room) s.gives (memory e));
        unfinished = cut_unfinished s.bytes fault refuses;
        unread = unread;
      };
      ended = s.ended;
    }

-- nothing behind the final head was read
just_heads : (given bytes : List ℕ) → IsFinalRead given bytes → IsOfHeads head_room given
just_heads given bytes f = λ h rest has.
    let whole : HasFinal head_room given f.head [] = subst (λ (l : List ℕ). HasFinal head_room l f.head []) (append-nil given) (f.first []) in
    sym (unique_final head_room given f.head [] h rest whole has).1

pub exit_bad_fields : (limit : ℕ) (old new : GivenBytes) (bytes looked : List ℕ) (headers : List HeaderSpan) (spans : ResponseSpans) (fault : Fault)
    → GivesWhat old new (λ given. IsFinalRead given bytes) → looked ≡ bytes → ArePartsOfResponse looked headers spans
    → response_length limit spans.code (map (header_bytes bytes) (take spans.headers headers)) ≡ Err fault → Stops old new (ShowsNoHead limit) fault
exit_bad_fields limit old new bytes looked headers spans fault read same p e =
    let is = field_fault limit spans.code (map (header_bytes bytes) (take spans.headers headers)) fault e in
    let s = exit_fields limit old new bytes looked headers spans fault read same p e in
    let final : IsFinalRead s.bytes bytes = of_given old new s.bytes (λ given. IsFinalRead given bytes) s.gives read in
    record {
      bytes = s.bytes;
      gives = s.gives;
      is = record {
        shows = s.is;
        short = let short = final.short in omega (arith, short);
        heads = just_heads s.bytes bytes final;
        unfinished = λ cut. absurd (no_cut fault is cut);
        unread = λ lost. absurd (subst IsFieldFault lost is);
      };
      ended = s.ended;
    }

-- ---- a whole response is never refused

no_field_fault : (limit : ℕ) (input : List ℕ) (fault : Fault) (h : ResponseHead) (body rest : List ℕ) → HasFault head_room limit input fault
    → IsResponse head_room limit input h body rest → ⊥
no_field_fault limit input fault h body rest (k, p, has, is) whole =
    let same = unique_final head_room input k p h (body ++ rest) has whole.0 in
    let clash : Err fault ≡ Ok (length body) = sym is ∙ ap (stated limit) same.0 ∙ whole.1 in
    absurd (cc)

pub no_fault : (limit : ℕ) (input : List ℕ) (fault : Fault) (h : ResponseHead) (body rest : List ℕ) → RefusesResponse head_room limit input fault
    → IsResponse head_room limit input h body rest → (fault ≡ ReadFault) ⊎ (fault ≡ NoMemory)
no_fault limit input Cut h body rest (none, b) whole = absurd (none h body rest whole)
no_fault limit input BadHead h body rest (inl (inl b)) whole = absurd (not_hopeless head_room input h (body ++ rest) b whole.0)
no_fault limit input BadHead h body rest (inl (inr b)) whole = absurd (not_switched head_room input h (body ++ rest) b whole.0)
no_fault limit input BadHead h body rest (inr f) whole = absurd (no_field_fault limit input BadHead h body rest f whole)
no_fault limit input HeadTooLong h body rest (none, b) whole = absurd (none h (body ++ rest) whole.0)
no_fault limit input BodyTooLong h body rest f whole = absurd (no_field_fault limit input BodyTooLong h body rest f whole)
no_fault limit input NotOffered h body rest f whole = absurd (no_field_fault limit input NotOffered h body rest f whole)
no_fault limit input LengthNeeded h body rest f whole = absurd (no_field_fault limit input LengthNeeded h body rest f whole)
no_fault limit input WriteFault h body rest f whole = absurd f
no_fault limit input ReadFault h body rest f whole = inl refl
no_fault limit input NoMemory h body rest f whole = inr refl
