-- From the heads that were read to the response.
use Rattle.std.proofs.Common.{◌≡◌, ℕ, ◌+◌, ◌<◌, ◌≤◌, inr, List, [], ◌++◌, length, take, drop, sym, ◌∙◌, ap, refl, arith, subst, IsTrue, IsFalse, append-nil, append_assoc, length-append}
use Rattle.std.proofs.lemmas.List.{length-take, length-map}
use Rattle.wire_http.specs.Faults.{Shows, Stops}
use Rattle.wire_http.specs.Streams.{GivenBytes, Gives, GivesWhat}
use Rattle.wire_http.proofs.Known.{gives_more}
use Rattle.httparse.specs.Grammar.{ResponseHead, print_response, status_code}
use Rattle.httparse.specs.Spans.{IsResponseOf, IsResponseWithin}
use Rattle.httparse.specs.declared.spans.HeaderSpan.{HeaderSpan}
use Rattle.httparse.specs.declared.spans.ResponseSpans.{ResponseSpans}
use Rattle.httparse.proofs.GrammarLemmas.{response_unique}
use Rattle.wire_http.specs.declared.fault.Fault.{Fault}
use Rattle.wire_http.specs.declared.fault.Fault.TheVariants.{BadHead}
use Rattle.wire_http.specs.declared.head.HeadKind.TheVariants.{Response}
use Rattle.wire_http.specs.Heads.{HasNoHead, HasNoShorterHead, IsHead, IsHeadWithin, RefusesHead}
use Rattle.wire_http.specs.Responses.{Room, head_room, is_interim, is_switch, Begins, HasFinal, HasNoFinal, IsOfHeads, IsSwitched, RefusesHeads, ArePartsOfResponse, IsFinalRead}
use Rattle.std.proofs.lemmas.Bool.Decides.{nat_tests}
use Rattle.wire_http.proofs.Heads.{some_head}
use Rattle.wire_http.proofs.Interims.{Continues, Reaches, continues_more, behind_none, ends_front, none_front, refuses_front}

-- the parser's spans, if bytes are a head
pub parts_are : (bytes : List ℕ) (headers : List HeaderSpan) (spans : ResponseSpans) (lines : ℕ) → IsHead Response bytes lines
    → IsResponseOf bytes headers spans → IsResponseWithin bytes headers spans → ArePartsOfResponse bytes headers spans
parts_are bytes headers spans lines (k, valid, e, count) (h, at) within =
    let same = response_unique bytes k h [] (drop spans.len bytes) (valid, e ∙ sym (append-nil (print_response k))) at.reads in
    let counts : length (take spans.headers headers) ≡ length h.fields = simp length-map at (ap length at.fields) in
    record {
      head = h;
      at = at;
      within = within;
      whole = e ∙ ap print_response same.0;
      count = let fits = within.section.count_fits in omega (arith, fits, counts, length-take spans.headers headers);
    }

-- the head that was read, with its parts
pub record Read (room : Room) (bytes : List ℕ) (headers : List HeaderSpan) (spans : ResponseSpans) : Type 0 where
  pub parts : ArePartsOfResponse bytes headers spans
  pub short : length bytes ≤ room.bytes
  pub few : spans.headers ≤ room.lines

pub read_is : (room : Room) (bytes : List ℕ) (headers : List HeaderSpan) (spans : ResponseSpans)
    → IsHeadWithin Response room.bytes room.lines bytes → ArePartsOfResponse bytes headers spans → Read room bytes headers spans
read_is room bytes headers spans read parts =
    let k = read.head.0 in
    let same = response_unique bytes k parts.head [] (drop spans.len bytes) (read.head.1, read.head.2 ∙ sym (append-nil (print_response k))) parts.at.reads in
    let count : length k.fields ≡ length parts.head.fields = ap (λ (h : ResponseHead). length h.fields) same.0 in
    let lines : read.lines ≡ length k.fields = read.head.3 in
    record {
      parts = parts;
      short = read.short;
      few = let few = read.few in let own = parts.count in omega (arith, few, own, count, lines);
    }

-- the head stands at the start of what was left
begins_is : (room : Room) (next : List ℕ) (bytes : List ℕ) (headers : List HeaderSpan) (spans : ResponseSpans)
    → (r : Read room bytes headers spans) → Begins r.parts.head next room (bytes ++ next)
begins_is room next bytes headers spans r = record {
  reads = (r.parts.at.reads.0, ap (λ (t : List ℕ). t ++ next) r.parts.whole);
  short = let size : length bytes ≡ length (print_response r.parts.head) = ap length r.parts.whole in let short = r.short in omega (arith, size, short);
  few = let own = r.parts.count in let few = r.few in omega (arith, own, few);
}

code_is : (P : ℕ → Type 0) (bytes : List ℕ) (headers : List HeaderSpan) (spans : ResponseSpans) (p : ArePartsOfResponse bytes headers spans) → P spans.code → P (status_code p.head)
code_is P bytes headers spans p h = subst P p.at.code h

-- an interim head was read
next_reached : (room left : Room) (given bytes : List ℕ) (headers : List HeaderSpan) (spans : ResponseSpans)
    → Reaches room given → Read room bytes headers spans → IsTrue (is_interim spans.code) → IsFalse (is_switch spans.code)
    → length bytes + left.bytes ≡ room.bytes → spans.headers + left.lines ≡ room.lines → Reaches left (given ++ bytes)
next_reached room left given bytes headers spans known r interim plain size count = record {
  continues = λ more.
      let begins = begins_is room more bytes headers spans r in
      subst (λ (l : List ℕ). Continues left l more) (sym (append_assoc given bytes more))
      (continues_more room left (given ++ (bytes ++ more)) (bytes ++ more) more (known.continues (bytes ++ more)) (record {
        head = r.parts.head;
        reads = begins.reads;
        interim = code_is (λ code. IsTrue (is_interim code)) bytes headers spans r.parts interim;
        plain = code_is (λ code. IsFalse (is_switch code)) bytes headers spans r.parts plain;
        bytes = let whole : length bytes ≡ length (print_response r.parts.head) = ap length r.parts.whole in omega (arith, whole, size);
        lines = let own = r.parts.count in omega (arith, own, count);
      }));
  size = let before = known.size in omega (arith, before, size, length-append given bytes);
}

pub reaches_more : (old mid new : GivenBytes) (room left : Room) (bytes : List ℕ) (headers : List HeaderSpan) (spans : ResponseSpans)
    → GivesWhat old mid (Reaches room) → Gives mid new bytes → Read room bytes headers spans → IsTrue (is_interim spans.code) → IsFalse (is_switch spans.code)
    → length bytes + left.bytes ≡ room.bytes → spans.headers + left.lines ≡ room.lines → GivesWhat old new (Reaches left)
reaches_more old mid new room left bytes headers spans (given, gives, known) next r interim plain size count = (
  given ++ bytes,
  gives_more old mid new given bytes gives next,
  next_reached room left given bytes headers spans known r interim plain size count,
)

-- the final head was read
pub final_is : (old mid new : GivenBytes) (room : Room) (bytes : List ℕ) (headers : List HeaderSpan) (spans : ResponseSpans)
    → GivesWhat old mid (Reaches room) → Gives mid new bytes → Read room bytes headers spans → IsFalse (is_interim spans.code) → room.lines ≤ 64
    → GivesWhat old new (λ all. IsFinalRead all bytes)
final_is old mid new room bytes headers spans (given, gives, known) next r final most = (
  given ++ bytes,
  gives_more old mid new given bytes gives next,
  record {
    head = r.parts.head;
    valid = r.parts.at.reads.0;
    whole = r.parts.whole;
    few = let own = r.parts.count in let few = r.few in omega (arith, own, few, most);
    first = λ rest.
        subst (λ (l : List ℕ). HasFinal head_room l r.parts.head rest) (sym (append_assoc given bytes rest))
        ((known.continues (bytes ++ rest)).begins r.parts.head rest (
          behind_none room (bytes ++ rest) (Begins r.parts.head rest) (begins_is room rest bytes headers spans r),
          code_is (λ code. IsFalse (is_interim code)) bytes headers spans r.parts final,
        ));
    short = let size = known.size in let short = r.short in omega (arith, size, short, length-append given bytes);
  },
)

-- the head switches protocols
pub switch_refused : (old mid new : GivenBytes) (room : Room) (bytes : List ℕ) (headers : List HeaderSpan) (spans : ResponseSpans)
    → GivesWhat old mid (Reaches room) → Gives mid new bytes → Read room bytes headers spans → IsTrue (is_switch spans.code)
    → Stops old new (Shows 16385 (RefusesHeads head_room)) BadHead
switch_refused old mid new room bytes headers spans (given, gives, known) next r switch = record {
  bytes = given ++ bytes;
  gives = gives_more old mid new given bytes gives next;
  is = record {
    shown = λ more nothing.
        subst (λ (l : List ℕ). RefusesHeads head_room l BadHead) (sym (append_assoc given bytes more))
        ((known.continues (bytes ++ more)).refuses BadHead (inr (behind_none room (bytes ++ more) IsSwitched (
          r.parts.head,
          more,
          begins_is room more bytes headers spans r,
          code_is (λ code. IsTrue (is_switch code)) bytes headers spans r.parts switch,
        ))));
    short = let size = known.size in let short = r.short in omega (arith, size, short, length-append given bytes);
  };
  ended = λ cut. absurd (cc);
}

-- no head was read
pub head_refused : (old mid new : GivenBytes) (room : Room) (fault : Fault) → GivesWhat old mid (Reaches room)
    → Stops mid new (Shows (room.bytes + 1) (RefusesHead Response room.bytes room.lines)) fault → Stops old new (Shows 16385 (RefusesHeads head_room)) fault
head_refused old mid new room fault (given, gives, known) s = record {
  bytes = given ++ s.bytes;
  gives = gives_more old mid new given s.bytes gives s.gives;
  is = record {
    shown = λ more nothing.
        subst (λ (l : List ℕ). RefusesHeads head_room l fault) (sym (append_assoc given s.bytes more))
        ((known.continues (s.bytes ++ more)).refuses fault (refuses_front room (s.bytes ++ more) fault (s.is.shown more nothing)));
    short = let size = known.size in let short = s.is.short in omega (arith, size, short, length-append given s.bytes);
  };
  ended = s.ended;
}

-- a read failed before a head had come
pub head_unread : (old mid new : GivenBytes) (room : Room) → GivesWhat old mid (Reaches room) → GivesWhat mid new (HasNoHead Response)
    → GivesWhat old new (HasNoFinal head_room)
head_unread old mid new room (given, gives, known) (bytes, next, none) = (
  given ++ bytes,
  gives_more old mid new given bytes gives next,
  λ h rest has. none_front room bytes none h rest ((known.continues bytes).less h rest has),
)

-- memory ran out before anything behind a head had come
pub head_lost : (old mid new : GivenBytes) (room : Room) → GivesWhat old mid (Reaches room) → GivesWhat mid new (HasNoShorterHead Response)
    → GivesWhat old new (IsOfHeads head_room)
head_lost old mid new room (given, gives, known) (bytes, next, none) = (
  given ++ bytes,
  gives_more old mid new given bytes gives next,
  λ h rest has. ends_front room bytes none h rest ((known.continues bytes).less h rest has),
)

-- ---- with a slice of the headers for the lines that are left

slice_room : (n : ℕ) (headers : List HeaderSpan) → n ≤ 64 → length headers ≡ 64 → length (take n headers) ≡ n
slice_room n headers few size = omega (arith, few, size, length-take n headers)

pub read_here : (most lines : ℕ) (old : List HeaderSpan) (bytes looked : List ℕ) (headers : List HeaderSpan) (spans : ResponseSpans)
    → lines ≤ 64 → length old ≡ 64 → IsHeadWithin Response most (length (take lines old)) bytes → looked ≡ bytes → ArePartsOfResponse looked headers spans
    → Read (record { bytes = most; lines = lines }) bytes headers spans
read_here most lines old bytes looked headers spans few size read same parts =
    read_is (record { bytes = most; lines = lines }) bytes headers spans
    (subst (λ (n : ℕ). IsHeadWithin Response most n bytes) (slice_room lines old few size) read)
    (subst (λ (b : List ℕ). ArePartsOfResponse b headers spans) same parts)

pub refused_here : (first mid new : GivenBytes) (most lines : ℕ) (old : List HeaderSpan) (fault : Fault) → GivesWhat first mid (Reaches (record { bytes = most; lines = lines }))
    → lines ≤ 64 → length old ≡ 64 → Stops mid new (Shows (most + 1) (RefusesHead Response most (length (take lines old)))) fault
    → Stops first new (Shows 16385 (RefusesHeads head_room)) fault
refused_here first mid new most lines old fault known few size refuses =
    head_refused first mid new (record { bytes = most; lines = lines }) fault known
    (subst (λ (n : ℕ). Stops mid new (Shows (most + 1) (RefusesHead Response most n)) fault) (slice_room lines old few size) refuses)

pub is_switched : (code : ℕ) → code ≡ 101 → IsTrue (is_switch code)
is_switched code e = rw e refl

pub not_switched : (code : ℕ) → (code ≡ 101 → ⊥) → IsFalse (is_switch code)
not_switched code other = grind (arith, nat_tests)

pub some_read : (room : Room) (bytes : List ℕ) (headers : List HeaderSpan) (spans : ResponseSpans) → Read room bytes headers spans → 0 < length bytes
some_read room bytes headers spans r =
    some_head Response bytes (length r.parts.head.fields) (r.parts.head, r.parts.at.reads.0, r.parts.whole, refl)
