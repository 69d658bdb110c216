-- An input of a request has one fault.
use Rattle.std.proofs.Common.{◌≡◌, ℕ, ◌+◌, inl, inr, List, [], ◌++◌, length, drop, refl, sym, ◌∙◌, ap, subst, arith, Result, Ok, Err, append_assoc, append-nil, length-append}
use Rattle.httparse.specs.Grammar.{RequestHead, ReadsRequest, NeverHasRequest, MayBecomeRequest, print_request}
use Rattle.httparse.proofs.GrammarLemmas.{request_unique}
use Rattle.wire_http.specs.declared.fault.Fault.{Fault}
use Rattle.wire_http.specs.declared.fault.Fault.TheVariants.{Cut, ReadFault, WriteFault, HeadTooLong, BodyTooLong, BadHead, LengthNeeded, NotOffered, NoMemory}
use Rattle.wire_http.specs.declared.head.HeadKind.TheVariants.{Request}
use Rattle.wire_http.specs.Faults.{IsOfBytes}
use Rattle.wire_http.specs.Heads.{IsNoHead, IsLong, Exceeds, HasNoHeadWithin, RefusesHead}
use Rattle.wire_http.specs.Requests.{stated, HasHead, IsTextSoFar, RefusesRequest}
use Rattle.wire_http.proofs.Stops.{shorter}
use Rattle.wire_http.proofs.ResponseFaults.{Answers, one_answer}

abbrev pub IsUnfinished : List ℕ → Type 0
IsUnfinished input = RefusesHead Request 16384 64 input Cut

abbrev pub IsHopeless : List ℕ → Type 0
IsHopeless input = IsNoHead Request 16384 input

abbrev pub IsLengthy : List ℕ → Type 0
IsLengthy input = IsLong Request 16384 input × HasNoHeadWithin Request 16384 64 input

-- why the input has the fault
data Reason (limit : ℕ) (input : List ℕ) (fault : Fault) : Type 0 where
  unfinished : fault ≡ Cut → IsUnfinished input → Reason limit input fault
  hopeless : fault ≡ BadHead → IsHopeless input → Reason limit input fault
  lengthy : fault ≡ HeadTooLong → IsLengthy input → Reason limit input fault
  final : (h : RequestHead) (rest : List ℕ) → HasHead input h rest → Answers (stated limit h) fault → Reason limit input fault

-- ---- no two of them

-- bytes that can become a head have no prefix that never can
never_may : (prefix rest bytes : List ℕ) → NeverHasRequest prefix → bytes ≡ prefix ++ rest
    → ((more : List ℕ) × (h : RequestHead) × ReadsRequest (bytes ++ more) h []) → ⊥
never_may prefix rest bytes never whole (more, h, reads) =
    let joined : bytes ++ more ≡ prefix ++ (rest ++ more) = ap (λ (t : List ℕ). t ++ more) whole ∙ append_assoc prefix rest more in
    never (rest ++ more) h [] (subst (λ (t : List ℕ). ReadsRequest t h []) joined reads)

never_longer : (prefix rest bytes : List ℕ) → NeverHasRequest prefix → bytes ≡ prefix ++ rest → NeverHasRequest bytes
never_longer prefix rest bytes never whole = λ more h after reads.
    let joined : bytes ++ more ≡ prefix ++ (rest ++ more) = ap (λ (t : List ℕ). t ++ more) whole ∙ append_assoc prefix rest more in
    never (rest ++ more) h after (subst (λ (t : List ℕ). ReadsRequest t h after) joined reads)

hopeless_front : (prefix rest bytes behind input : List ℕ) → IsTextSoFar input → NeverHasRequest prefix → bytes ≡ prefix ++ rest → input ≡ bytes ++ behind
    → MayBecomeRequest bytes → ⊥
hopeless_front prefix rest bytes behind input text never whole is (inl may) = never_may prefix rest bytes never whole may
hopeless_front prefix rest bytes behind input text never whole is (inr target) =
    text bytes behind is target (never_longer prefix rest bytes never whole)

cut_or_bad : (input : List ℕ) → IsTextSoFar input → IsUnfinished input → IsHopeless input → ⊥
cut_or_bad input text (none, may, short) n = hopeless_front n.prefix n.rest input [] input text n.never n.whole (sym (append-nil input)) may

cut_or_long : (input : List ℕ) → IsUnfinished input → IsLengthy input → ⊥
cut_or_long input (none, may, short) (l, within) =
    let sizes : length input ≡ length l.prefix + length l.rest = ap length l.whole ∙ length-append l.prefix l.rest in
    let long = l.long in omega (arith, sizes, short, long)

bad_or_long : (input : List ℕ) → IsTextSoFar input → IsHopeless input → IsLengthy input → ⊥
bad_or_long input text n (l, within) =
    let short = n.short in
    let long = l.long in
    hopeless_front n.prefix (drop (length n.prefix) l.prefix) l.prefix l.rest input text n.never
    (shorter n.prefix l.prefix n.rest l.rest (sym n.whole ∙ l.whole) (omega (arith, short, long))) l.whole l.may

cut_or_final : (input : List ℕ) (h : RequestHead) (rest : List ℕ) → IsUnfinished input → HasHead input h rest → ⊥
cut_or_final input h rest (none, may, short) has = none h rest has.reads

bad_or_final : (input : List ℕ) (h : RequestHead) (rest : List ℕ) → IsHopeless input → HasHead input h rest → ⊥
bad_or_final input h rest n has = n.never n.rest h rest (subst (λ (t : List ℕ). ReadsRequest t h rest) n.whole has.reads)

long_or_final : (input : List ℕ) (h : RequestHead) (rest : List ℕ) → IsLengthy input → HasHead input h rest → ⊥
long_or_final input h rest (l, within) has =
    within (print_request h) rest (length h.fields) (h, has.reads.0, refl, refl) has.reads.1 has.bytes has.lines

one_reason : (limit : ℕ) (input : List ℕ) (a b : Fault) → IsTextSoFar input → Reason limit input a → Reason limit input b → a ≡ b
one_reason limit input a b text (unfinished e u) (unfinished f v) = e ∙ sym f
one_reason limit input a b text (unfinished e u) (hopeless f v) = absurd (cut_or_bad input text u v)
one_reason limit input a b text (unfinished e u) (lengthy f v) = absurd (cut_or_long input u v)
one_reason limit input a b text (unfinished e u) (final h rest has s) = absurd (cut_or_final input h rest u has)
one_reason limit input a b text (hopeless e u) (unfinished f v) = absurd (cut_or_bad input text v u)
one_reason limit input a b text (hopeless e u) (hopeless f v) = e ∙ sym f
one_reason limit input a b text (hopeless e u) (lengthy f v) = absurd (bad_or_long input text u v)
one_reason limit input a b text (hopeless e u) (final h rest has s) = absurd (bad_or_final input h rest u has)
one_reason limit input a b text (lengthy e u) (unfinished f v) = absurd (cut_or_long input v u)
one_reason limit input a b text (lengthy e u) (hopeless f v) = absurd (bad_or_long input text v u)
one_reason limit input a b text (lengthy e u) (lengthy f v) = e ∙ sym f
one_reason limit input a b text (lengthy e u) (final h rest has s) = absurd (long_or_final input h rest u has)
one_reason limit input a b text (final h rest has s) (unfinished f v) = absurd (cut_or_final input h rest v has)
one_reason limit input a b text (final h rest has s) (hopeless f v) = absurd (bad_or_final input h rest v has)
one_reason limit input a b text (final h rest has s) (lengthy f v) = absurd (long_or_final input h rest v has)
one_reason limit input a b text (final h rest has s) (final k more other t) =
    let same = request_unique input h k rest more has.reads other.reads in
    one_answer (stated limit k) a b (subst (λ (i : RequestHead). Answers (stated limit i) a) same.0 s) t

-- ---- the reason for a fault

by_answer : (limit : ℕ) (input : List ℕ) (fault : Fault) (h : RequestHead) (rest : List ℕ) (answer : Result ℕ Fault) → HasHead input h rest
    → stated limit h ≡ answer → Answers answer fault → Reason limit input fault
by_answer limit input fault h rest answer has e is = final h rest has (subst (λ (r : Result ℕ Fault). Answers r fault) (sym e) is)

reason_of : (limit : ℕ) (input : List ℕ) → (Exceeds Request 64 input → ⊥) → (fault : Fault) → IsOfBytes fault → RefusesRequest limit input fault → Reason limit input fault
reason_of limit input few Cut of (none, inl u) = unfinished refl u
reason_of limit input few Cut of (none, inr (h, rest, size, has, is, short)) = by_answer limit input Cut h rest (Ok size) has is refl
reason_of limit input few BadHead of (inl n) = hopeless refl n
reason_of limit input few BadHead of (inr (h, rest, has, is)) = by_answer limit input BadHead h rest (Err BadHead) has is refl
reason_of limit input few HeadTooLong of (inl long, within) = lengthy refl (long, within)
reason_of limit input few HeadTooLong of (inr many, within) = absurd (few many)
reason_of limit input few BodyTooLong of (h, rest, has, is) = by_answer limit input BodyTooLong h rest (Err BodyTooLong) has is refl
reason_of limit input few NotOffered of (h, rest, has, is) = by_answer limit input NotOffered h rest (Err NotOffered) has is refl
reason_of limit input few LengthNeeded of refuses = absurd refuses
reason_of limit input few WriteFault of refuses = absurd refuses
reason_of limit input few ReadFault of refuses = absurd (of.0 refl)
reason_of limit input few NoMemory of refuses = absurd (of.1 refl)

pub one_fault : (limit : ℕ) (input : List ℕ) (a b : Fault) → IsOfBytes a → IsOfBytes b → (Exceeds Request 64 input → ⊥) → IsTextSoFar input
    → RefusesRequest limit input a → RefusesRequest limit input b → a ≡ b
one_fault limit input a b ofa ofb few text p q =
    one_reason limit input a b text (reason_of limit input few a ofa p) (reason_of limit input few b ofb q)
