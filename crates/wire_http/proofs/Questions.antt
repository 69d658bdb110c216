-- Whole requests at the start of the input.
use Rattle.std.proofs.Common.{◌≡◌, ℕ, ◌+◌, ◌<◌, ◌≤◌, ◌⊎◌, inl, inr, append_assoc, Bool, true, false, cond, List, [], ◌∷◌, ◌++◌, length, take, drop, map, sym, ◌∙◌, ap, refl, append-nil, arith, length-append, IfErr, subst, Result, Ok, Err, codes}
use Rattle.httparse.specs.Grammar.{RequestHead, ReadsRequest, print_request}
use Rattle.httparse.specs.Spans.{IsRequestOf, IsRequestWithin, header_bytes, span_bytes, name_and_value}
use Rattle.httparse.specs.declared.spans.HeaderSpan.{HeaderSpan}
use Rattle.httparse.specs.declared.spans.RequestSpans.{RequestSpans}
use Rattle.httparse.proofs.GrammarLemmas.{request_unique}
use Rattle.wire_http.specs.declared.fault.Fault.{Fault}
use Rattle.wire_http.specs.declared.fault.Fault.TheVariants.{Cut, ReadFault, WriteFault, HeadTooLong, BodyTooLong, BadHead, LengthNeeded, NotOffered, NoMemory}
use Rattle.wire_http.specs.declared.head.HeadKind.TheVariants.{Request}
use Rattle.wire_http.specs.declared.message.Request.{Request as Question}
use Rattle.wire_http.specs.Bodies.{RefusesBody}
use Rattle.wire_http.specs.HeadFields.{field_bytes, values, is_number, asked_length, request_length}
use Rattle.wire_http.specs.Faults.{Stops, Shows}
use Rattle.wire_http.specs.Heads.{IsHead, IsHeadWithin, RefusesHead}
use Rattle.wire_http.specs.Streams.{GivenBytes, Gives, GivesWhat}
use Rattle.wire_http.proofs.Known.{gives_more}
use Rattle.wire_http.specs.Requests.{stated, HasHead, HasFault, HasNoRequest, IsRequest, IsRequestMessage, IsFaultyHead, RefusesRequest, ShowsNoRequest, Spends, ArePartsOfRequest}

-- the parser's spans, if bytes are a head
pub parts_are : (bytes : List ℕ) (headers : List HeaderSpan) (spans : RequestSpans) (lines : ℕ) → IsHead Request bytes lines
    → IsRequestOf bytes headers spans → IsRequestWithin bytes headers spans → ArePartsOfRequest bytes headers spans
parts_are bytes headers spans lines (k, valid, e, count) (h, at) within =
    let same = request_unique bytes k h [] (drop spans.len bytes) (valid, e ∙ sym (append-nil (print_request k))) at.reads in
    record { head = h; at = at; within = within; whole = e ∙ ap print_request same.0 }

-- ---- faults

abbrev pub IsFieldFault : Fault → Type 0
IsFieldFault NotOffered = Unit {0}
IsFieldFault BadHead = Unit {0}
IsFieldFault BodyTooLong = Unit {0}
IsFieldFault LengthNeeded = ⊥
IsFieldFault Cut = ⊥
IsFieldFault ReadFault = ⊥
IsFieldFault HeadTooLong = ⊥
IsFieldFault NoMemory = ⊥
IsFieldFault WriteFault = ⊥

number_fault : (n : ℕ) (a b : Bool) → IfErr (cond a (cond b (Err BodyTooLong) (Ok n)) (Err BadHead)) IsFieldFault
number_fault n true true = tt
number_fault n true false = tt
number_fault n false true = tt
number_fault n false false = tt

length_fault : (limit : ℕ) (texts : List (List ℕ)) → IfErr (asked_length limit texts) IsFieldFault
length_fault limit [] = tt
length_fault limit (text ∷ []) = number_fault _ (is_number text) _
length_fault limit (a ∷ b ∷ texts) = tt

field_fault_of : (limit : ℕ) (texts : List (List ℕ)) (a b : Bool)
    → IfErr (cond a (Err NotOffered) (cond b (Err BadHead) (asked_length limit texts))) IsFieldFault
field_fault_of limit texts true b = tt
field_fault_of limit texts false true = tt
field_fault_of limit texts false false = length_fault limit texts

field_fault : (limit minor : ℕ) (fields : List (List ℕ × List ℕ)) (fault : Fault) → request_length limit minor fields ≡ Err fault → IsFieldFault fault
field_fault limit minor fields fault e =
    let any : IfErr (request_length limit minor fields) IsFieldFault = field_fault_of limit (values (codes "content-length") fields) _ _ in
    subst (λ (r : Result ℕ Fault). IfErr r IsFieldFault) e any

refuses_fields : (limit : ℕ) (input : List ℕ) (fault : Fault) → IsFieldFault fault → HasFault limit input fault → RefusesRequest limit input fault
refuses_fields limit input NotOffered f h = h
refuses_fields limit input BadHead f h = inr h
refuses_fields limit input BodyTooLong f h = h
refuses_fields limit input LengthNeeded f h = absurd f
refuses_fields limit input Cut f h = absurd f
refuses_fields limit input ReadFault f h = absurd f
refuses_fields limit input HeadTooLong f h = absurd f
refuses_fields limit input NoMemory f h = absurd f
refuses_fields limit input WriteFault f h = absurd f

refuses_head : (limit : ℕ) (input : List ℕ) (fault : Fault) → RefusesHead Request 16384 64 input fault → RefusesRequest limit input fault
refuses_head limit input Cut (none, may, short) = (λ h body rest whole. none h (body ++ rest) whole.0.reads, inl (none, may, short))
refuses_head limit input BadHead h = inl h
refuses_head limit input HeadTooLong h = h
refuses_head limit input ReadFault h = tt
refuses_head limit input NoMemory h = tt
refuses_head limit input BodyTooLong h = absurd h
refuses_head limit input LengthNeeded h = absurd h
refuses_head limit input NotOffered h = absurd h
refuses_head limit input WriteFault h = absurd h

cut_body : (limit : ℕ) (input : List ℕ) (h : RequestHead) (rest : List ℕ) (size : ℕ) → HasHead input h rest → stated limit h ≡ Ok size
    → length rest < size → HasNoRequest limit input
cut_body limit input h rest size has is short k body more whole =
    let same = request_unique input h k rest (body ++ more) has.reads whole.0.reads in
    let sizes : Ok size ≡ Ok (length body) = sym is ∙ ap (stated limit) same.0 ∙ whole.1 in
    let size_is : size ≡ length body = cc in
    let long : length rest ≡ length body + length more = ap length same.1 ∙ length-append body more in
    omega (arith, size_is, long, short)

refuses_body : (limit : ℕ) (input : List ℕ) (h : RequestHead) (rest : List ℕ) (size : ℕ) (fault : Fault) → HasHead input h rest
    → stated limit h ≡ Ok size → RefusesBody size rest fault → RefusesRequest limit input fault
refuses_body limit input h rest size Cut has is f = (cut_body limit input h rest size has is f, inr (h, rest, size, has, is, f))
refuses_body limit input h rest size ReadFault has is f = tt
refuses_body limit input h rest size NoMemory has is f = tt
refuses_body limit input h rest size HeadTooLong has is f = absurd f
refuses_body limit input h rest size BodyTooLong has is f = absurd f
refuses_body limit input h rest size BadHead has is f = absurd f
refuses_body limit input h rest size LengthNeeded has is f = absurd f
refuses_body limit input h rest size NotOffered has is f = absurd f
refuses_body limit input h rest size WriteFault has is f = absurd f

-- ---- the reader's exits

-- the head that was read, with its parts
record First (limit : ℕ) (bytes more : List ℕ) (headers : List HeaderSpan) (spans : RequestSpans) : Type 0 where
  head : RequestHead
  has : HasHead (bytes ++ more) head more
  stated_is : stated limit head ≡ request_length limit spans.version (map (header_bytes bytes) (take spans.headers headers))
  method : span_bytes bytes spans.method ≡ head.method
  target : span_bytes bytes spans.path ≡ head.target
  fields : map (header_bytes bytes) (take spans.headers headers) ≡ map name_and_value head.fields

first_parts : (limit : ℕ) (bytes more : List ℕ) (headers : List HeaderSpan) (spans : RequestSpans)
    → IsHeadWithin Request 16384 64 bytes → ArePartsOfRequest bytes headers spans → First limit bytes more headers spans
first_parts limit bytes more headers spans read p =
    let h = p.head in
    let k = read.head.0 in
    let same = request_unique bytes k h [] (drop spans.len bytes) (read.head.1, read.head.2 ∙ sym (append-nil (print_request k))) p.at.reads in
    let count : length k.fields ≡ length h.fields = ap (λ (i : RequestHead). length i.fields) same.0 in
    let lines : read.lines ≡ length k.fields = read.head.3 in
    let size : length bytes ≡ length (print_request h) = ap length p.whole in
    record {
      head = h;
      has = record {
        reads = (p.at.reads.0, ap (λ (t : List ℕ). t ++ more) p.whole);
        bytes = let short = read.short in omega (arith, size, short);
        lines = let few = read.few in omega (arith, few, count, lines);
      };
      stated_is =
          ap (λ (minor : ℕ). request_length limit minor (map name_and_value h.fields)) (sym p.at.version)
          ∙ ap (request_length limit spans.version) (sym p.at.fields);
      method = p.at.method;
      target = p.at.path;
      fields = p.at.fields;
    }

-- if the head is at fault

head_spent : (limit : ℕ) (bytes : List ℕ) (fault : Fault) → RefusesHead Request 16384 64 (bytes ++ []) fault → length bytes ≤ 16385
    → (fault ≡ Cut → length bytes ≤ 16384) → Spends limit bytes fault
head_spent limit bytes Cut h short cut = let few = cut refl in omega (arith, few)
head_spent limit bytes BadHead h short cut = short
head_spent limit bytes HeadTooLong h short cut = short
head_spent limit bytes ReadFault h short cut = omega (arith, short)
head_spent limit bytes NoMemory h short cut = omega (arith, short)
head_spent limit bytes BodyTooLong h short cut = absurd h
head_spent limit bytes LengthNeeded h short cut = absurd h
head_spent limit bytes NotOffered h short cut = absurd h
head_spent limit bytes WriteFault h short cut = absurd h

cut_short : (bytes : List ℕ) (fault : Fault) → RefusesHead Request 16384 64 (bytes ++ []) fault → fault ≡ Cut → length bytes ≤ 16384
cut_short bytes fault h e =
    let cut : RefusesHead Request 16384 64 (bytes ++ []) Cut = subst (RefusesHead Request 16384 64 (bytes ++ [])) e h in
    let short = cut.2 in omega (arith, short, length-append bytes [])

pub exit_head : (limit : ℕ) (old new : GivenBytes) (fault : Fault)
    → Stops old new (Shows 16385 (RefusesHead Request 16384 64)) fault → Stops old new (ShowsNoRequest limit) fault
exit_head limit old new fault s =
    let first = s.is.shown [] (λ e. refl) in
    record {
      bytes = s.bytes;
      gives = s.gives;
      is = record {
        shown = λ more nothing. refuses_head limit (s.bytes ++ more) fault (s.is.shown more nothing);
        spent = head_spent limit s.bytes fault first s.is.short (cut_short s.bytes fault first);
      };
      ended = s.ended;
    }

-- if its fields are at fault

no_cut : (fault : Fault) → IsFieldFault fault → fault ≡ Cut → ⊥
no_cut fault f e = subst IsFieldFault e f

fields_spent : (limit : ℕ) (bytes : List ℕ) (fault : Fault) → IsFieldFault fault → IsFaultyHead limit bytes fault → Spends limit bytes fault
fields_spent limit bytes NotOffered f faulty = faulty
fields_spent limit bytes BodyTooLong f faulty = faulty
fields_spent limit bytes BadHead f (h, has, e) =
    let short = has.bytes in let whole : length bytes ≡ length (print_request h ++ []) = ap length has.reads.1 in
    omega (arith, short, whole, length-append (print_request h) [])
fields_spent limit bytes LengthNeeded f faulty = absurd f
fields_spent limit bytes Cut f faulty = absurd f
fields_spent limit bytes ReadFault f faulty = absurd f
fields_spent limit bytes HeadTooLong f faulty = absurd f
fields_spent limit bytes NoMemory f faulty = absurd f
fields_spent limit bytes WriteFault f faulty = absurd f

pub exit_fields : (limit : ℕ) (old new : GivenBytes) (bytes looked : List ℕ) (headers : List HeaderSpan) (spans : RequestSpans) (fault : Fault)
    → Gives old new bytes × IsHeadWithin Request 16384 64 bytes → looked ≡ bytes → ArePartsOfRequest looked headers spans
    → request_length limit spans.version (map (header_bytes bytes) (take spans.headers headers)) ≡ Err fault → Stops old new (ShowsNoRequest limit) fault
exit_fields limit old new bytes looked headers spans fault (gives, read) same p e =
    let parts = subst (λ (b : List ℕ). ArePartsOfRequest b headers spans) same p in
    let is = field_fault limit spans.version (map (header_bytes bytes) (take spans.headers headers)) fault e in
    let alone = first_parts limit bytes [] headers spans read parts in
    record {
      bytes = bytes;
      gives = gives;
      is = record {
        shown = λ more nothing.
            let first = first_parts limit bytes more headers spans read parts in
            refuses_fields limit (bytes ++ more) fault is (first.head, more, first.has, first.stated_is ∙ e);
        spent = fields_spent limit bytes fault is
            (alone.head, subst (λ (l : List ℕ). HasHead l alone.head []) (append-nil bytes) alone.has, alone.stated_is ∙ e);
      };
      ended = λ cut. absurd (no_cut fault is cut);
    }

-- if the body is at fault

body_spent : (limit size : ℕ) (bytes rest : List ℕ) (fault : Fault) → RefusesBody size (rest ++ []) fault → length bytes ≤ 16384 → length rest ≤ size → size ≤ limit
    → Spends limit (bytes ++ rest) fault
body_spent limit size bytes rest Cut h short few fits = omega (arith, short, few, fits, length-append bytes rest)
body_spent limit size bytes rest ReadFault h short few fits = omega (arith, short, few, fits, length-append bytes rest)
body_spent limit size bytes rest NoMemory h short few fits = omega (arith, short, few, fits, length-append bytes rest)
body_spent limit size bytes rest HeadTooLong h short few fits = absurd h
body_spent limit size bytes rest BodyTooLong h short few fits = absurd h
body_spent limit size bytes rest BadHead h short few fits = absurd h
body_spent limit size bytes rest LengthNeeded h short few fits = absurd h
body_spent limit size bytes rest NotOffered h short few fits = absurd h
body_spent limit size bytes rest WriteFault h short few fits = absurd h

pub exit_body : (limit : ℕ) (old mid new : GivenBytes) (bytes looked : List ℕ) (headers : List HeaderSpan) (spans : RequestSpans) (size : ℕ) (fault : Fault)
    → Gives old mid bytes × IsHeadWithin Request 16384 64 bytes → looked ≡ bytes → ArePartsOfRequest looked headers spans
    → request_length limit spans.version (map (header_bytes bytes) (take spans.headers headers)) ≡ Ok size → size ≤ limit
    → Stops mid new (Shows size (RefusesBody size)) fault → Stops old new (ShowsNoRequest limit) fault
exit_body limit old mid new bytes looked headers spans size fault (gives, read) same p e fits s =
    let parts = subst (λ (b : List ℕ). ArePartsOfRequest b headers spans) same p in
    record {
      bytes = bytes ++ s.bytes;
      gives = gives_more old mid new bytes s.bytes gives s.gives;
      is = record {
        shown = λ more nothing.
            let first = first_parts limit bytes (s.bytes ++ more) headers spans read parts in
            subst (λ (l : List ℕ). RefusesRequest limit l fault) (sym (append_assoc bytes s.bytes more))
            (refuses_body limit (bytes ++ (s.bytes ++ more)) first.head (s.bytes ++ more) size fault first.has (first.stated_is ∙ e) (s.is.shown more nothing));
        spent = body_spent limit size bytes s.bytes fault (s.is.shown [] (λ cut. refl)) read.short s.is.short fits;
      };
      ended = s.ended;
    }

-- if memory runs out behind the body
pub exit_memory : (limit : ℕ) (old mid new : GivenBytes) (bytes items : List ℕ) (size : ℕ) (fault : Fault)
    → Gives old mid bytes × IsHeadWithin Request 16384 64 bytes → size ≤ limit
    → (length items ≡ size) × Gives mid new items → fault ≡ NoMemory → Stops old new (ShowsNoRequest limit) fault
exit_memory limit old mid new bytes items size fault (gives, read) fits (size_is, body) memory =
    rw memory (record {
      bytes = bytes ++ items;
      gives = gives_more old mid new bytes items gives body;
      is = record {
        shown = λ more nothing. tt;
        spent = let short = read.short in omega (arith, short, fits, size_is, length-append bytes items);
      };
      ended = λ cut. absurd (cc);
    })

pub exit_taken : (limit : ℕ) (old mid new : GivenBytes) (bytes looked : List ℕ) (headers : List HeaderSpan) (spans : RequestSpans) (size : ℕ) (question : Question) (items : List ℕ)
    → Gives old mid bytes × IsHeadWithin Request 16384 64 bytes → looked ≡ bytes → ArePartsOfRequest looked headers spans
    → request_length limit spans.version (map (header_bytes bytes) (take spans.headers headers)) ≡ Ok size
    → question.body ≡ items → length items ≡ size → Gives mid new items
    → question.method ≡ span_bytes bytes spans.method → question.target ≡ span_bytes bytes spans.path
    → map field_bytes question.fields ≡ map (header_bytes bytes) (take spans.headers headers)
    → GivesWhat old new (λ whole. IsRequestMessage limit whole question)
exit_taken limit old mid new bytes looked headers spans size question items (gives, read) same p e body size_is taken method target fields =
    let first = first_parts limit bytes items headers spans read (subst (λ (b : List ℕ). ArePartsOfRequest b headers spans) same p) in (
      bytes ++ items,
      gives_more old mid new bytes items gives taken,
      record {
        head = first.head;
        whole = (
          subst (λ (t : List ℕ). HasHead (bytes ++ items) first.head t) (sym (append-nil question.body ∙ body)) first.has,
          first.stated_is ∙ e ∙ ap Ok (sym (ap length body ∙ size_is)),
        );
        method = method ∙ first.method;
        target = target ∙ first.target;
        fields = fields ∙ first.fields;
      },
    )

-- ---- a whole request is never refused

clash : (limit : ℕ) (input : List ℕ) (fault : Fault) (h : RequestHead) (body rest : List ℕ) → HasFault limit input fault → IsRequest limit input h body rest → ⊥
clash limit input fault h body rest (k, more, has, is) whole =
    let same = request_unique input k h more (body ++ rest) has.reads whole.0.reads in
    let both : Err fault ≡ Ok (length body) = sym is ∙ ap (stated limit) same.0 ∙ whole.1 in
    absurd (cc)

pub no_fault : (limit : ℕ) (input : List ℕ) (fault : Fault) (h : RequestHead) (body rest : List ℕ) → RefusesRequest limit input fault
    → IsRequest limit input h body rest → (fault ≡ ReadFault) ⊎ (fault ≡ NoMemory)
no_fault limit input Cut h body rest (none, b) whole = absurd (none h body rest whole)
no_fault limit input BadHead h body rest (inl n) whole =
    absurd (n.never n.rest h (body ++ rest) (subst (λ (t : List ℕ). ReadsRequest t h (body ++ rest)) n.whole whole.0.reads))
no_fault limit input BadHead h body rest (inr f) whole = absurd (clash limit input BadHead h body rest f whole)
no_fault limit input HeadTooLong h body rest (over, none) whole =
    absurd (none (print_request h) (body ++ rest) (length h.fields) (h, whole.0.reads.0, refl, refl) whole.0.reads.1 whole.0.bytes whole.0.lines)
no_fault limit input BodyTooLong h body rest f whole = absurd (clash limit input BodyTooLong h body rest f whole)
no_fault limit input NotOffered h body rest f whole = absurd (clash limit input NotOffered h body rest f whole)
no_fault limit input LengthNeeded h body rest f whole = absurd f
no_fault limit input WriteFault h body rest f whole = absurd f
no_fault limit input ReadFault h body rest f whole = inl refl
no_fault limit input NoMemory h body rest f whole = inr refl
