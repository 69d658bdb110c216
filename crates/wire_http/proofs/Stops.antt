-- Where the reading of heads stops: one place and one reason.
use Rattle.std.proofs.Common.{◌≡◌, ℕ, ◌+◌, ◌≤◌, List, [], ◌∷◌, ◌++◌, length, take, drop, sym, ◌∙◌, ap, arith, subst, IsTrue, IsFalse, append_assoc, append-nil, length-append}
use Rattle.std.proofs.Math.Seq.{take-append_seam}
use Rattle.std.proofs.lemmas.List.{take-append-le, take-append-drop}
use Rattle.httparse.specs.Grammar.{ResponseHead, ReadsResponse, print_response, status_code}
use Rattle.httparse.proofs.GrammarLemmas.{response_unique}
use Rattle.wire_http.specs.declared.head.HeadKind.TheVariants.{Response}
use Rattle.wire_http.specs.Heads.{IsLong}
use Rattle.wire_http.specs.Responses.{Room, is_interim, is_switch, Skips, bytes_of, lines_of, Behind, Begins, IsUnfinished, IsHopeless, IsSwitched}
use Rattle.wire_http.proofs.Interims.{not_both}

-- ---- two texts at the start of one input

-- the shorter is at the start of the longer
pub shorter : (a b rest more : List ℕ) → a ++ rest ≡ b ++ more → length a ≤ length b → b ≡ a ++ drop (length a) b
shorter a b rest more e short =
    let n = length a in
    let same : a ≡ take n b = sym (take-append_seam a rest) ∙ ap (take n) e ∙ take-append-le n b more short in
    sym (take-append-drop n b) ∙ ap (λ (t : List ℕ). t ++ drop n b) (sym same)

-- ---- what stops

-- at that place there is no head that is skipped
abbrev pub Halts : (Room → List ℕ → Type 0) → Type 0
Halts P =
    (room : Room) (bytes : List ℕ) (h : ResponseHead) (rest : List ℕ) → P room bytes → ReadsResponse bytes h rest
    → length (print_response h) ≤ room.bytes → IsTrue (is_interim (status_code h)) → IsFalse (is_switch (status_code h)) → ⊥

-- the first bytes are more than a head may have, and could still become one
abbrev pub IsLengthy : Room → List ℕ → Type 0
IsLengthy room bytes = IsLong Response room.bytes bytes

pub unfinished_halts : Halts IsUnfinished
unfinished_halts room bytes h rest (none, may, short) reads fits interim plain = none h rest reads

pub never_at : (room : Room) (bytes : List ℕ) (h : ResponseHead) (rest : List ℕ) → IsHopeless room bytes → ReadsResponse bytes h rest → ⊥
never_at room bytes h rest n reads = n.never n.rest h rest (subst (λ (t : List ℕ). ReadsResponse t h rest) n.whole reads)

pub hopeless_halts : Halts IsHopeless
hopeless_halts room bytes h rest n reads fits interim plain = never_at room bytes h rest n reads

pub switched_halts : Halts IsSwitched
switched_halts room bytes h rest (k, more, begins, switch) reads fits interim plain =
    let same = response_unique bytes k h more rest begins.reads reads in
    not_both (is_switch (status_code h)) (subst (λ (i : ResponseHead). IsTrue (is_switch (status_code i))) same.0 switch) plain

pub long_at : (most : ℕ) (bytes : List ℕ) (h : ResponseHead) (rest : List ℕ) → IsLong Response most bytes → ReadsResponse bytes h rest
    → length (print_response h) ≤ most → ⊥
long_at most bytes h rest l reads fits =
    let text = print_response h in
    let size = l.long in
    let may = l.may in
    let prefix : l.prefix ≡ text ++ drop (length text) l.prefix =
    shorter text l.prefix rest l.rest (sym reads.1 ∙ l.whole) (omega (arith, fits, size)) in
    let joined : l.prefix ++ may.0 ≡ text ++ (drop (length text) l.prefix ++ may.0) =
    ap (λ (t : List ℕ). t ++ may.0) prefix ∙ append_assoc text (drop (length text) l.prefix) may.0 in
    let same = response_unique (l.prefix ++ may.0) h may.1 (drop (length text) l.prefix ++ may.0) [] (reads.0, joined) may.2 in
    let sizes : length l.prefix + length may.0 ≡ length text =
    sym (length-append l.prefix may.0) ∙ ap length (joined ∙ ap (λ (t : List ℕ). text ++ t) same.1 ∙ append-nil text) in
    omega (arith, sizes, fits, size)

pub lengthy_halts : Halts IsLengthy
lengthy_halts room bytes h rest l reads fits interim plain = long_at room.bytes bytes h rest l reads fits

pub final_halts : (k : ResponseHead) (more : List ℕ) → IsFalse (is_interim (status_code k)) → Halts (Begins k more)
final_halts k more final room bytes h rest begins reads fits interim plain =
    let same = response_unique bytes k h more rest begins.reads reads in
    not_both (is_interim (status_code k)) (subst (λ (i : ResponseHead). IsTrue (is_interim (status_code i))) (sym same.0) interim) final

-- ---- one place

-- two things that hold at one place
pub record Both (P Q : Room → List ℕ → Type 0) : Type 0 where
  pub room : Room
  pub bytes : List ℕ
  pub first : P room bytes
  pub second : Q room bytes

same_room : (a b : Room) → a.bytes ≡ b.bytes → a.lines ≡ b.lines → a ≡ b
same_room a b e f = ap (λ (n : ℕ). record { bytes = n; lines = a.lines }) e ∙ ap (λ (n : ℕ). record { bytes = b.bytes; lines = n }) f

walk : (P Q : Room → List ℕ → Type 0) → Halts P → Halts Q → (input : List ℕ) (xs ys : List ResponseHead) (m n : List ℕ) (p q : Room)
    → Skips xs input m → Skips ys input n → bytes_of xs + p.bytes ≡ bytes_of ys + q.bytes → lines_of xs + p.lines ≡ lines_of ys + q.lines
    → P p m → Q q n → Both P Q
walk P Q hp hq input [] [] m n p q here there bytes lines at to = record {
  room = p;
  bytes = m;
  first = at;
  second = subst (λ (r : Room). Q r m) (sym (same_room p q (omega (arith, bytes)) (omega (arith, lines)))) (subst (Q q) (sym there ∙ here) to);
}
walk P Q hp hq input [] (j ∷ ys) m n p q here (next, reads, interim, plain, skips) bytes lines at to =
    absurd (hp p m j next at (subst (λ (t : List ℕ). ReadsResponse t j next) here reads) (omega (arith, bytes)) interim plain)
walk P Q hp hq input (i ∷ xs) [] m n p q (next, reads, interim, plain, skips) there bytes lines at to =
    absurd (hq q n i next to (subst (λ (t : List ℕ). ReadsResponse t i next) there reads) (omega (arith, bytes)) interim plain)
walk P Q hp hq input (i ∷ xs) (j ∷ ys) m n p q (next, reads, interim, plain, here) (other, read, between, simple, there) bytes lines at to =
    let same = response_unique input j i other next read reads in
    let size : length (print_response i) ≡ length (print_response j) = ap (λ (k : ResponseHead). length (print_response k)) (sym same.0) in
    let count : length i.fields ≡ length j.fields = ap (λ (k : ResponseHead). length k.fields) (sym same.0) in
    walk P Q hp hq next xs ys m n p q here (subst (λ (t : List ℕ). Skips ys t n) same.1 there) (omega (arith, size, bytes)) (omega (arith, count, lines)) at to

-- what stops after skipped heads stops at one place (so "an input has one fault" takes one line for
-- each pair of causes)
pub one_place : (P Q : Room → List ℕ → Type 0) → Halts P → Halts Q → (room : Room) (input : List ℕ) → Behind room P input → Behind room Q input → Both P Q
one_place P Q hp hq room input a b =
    let ab = a.bytes in let bb = b.bytes in let al = a.lines in let bl = b.lines in
    walk P Q hp hq input a.skipped b.skipped a.middle b.middle a.left b.left a.skips b.skips (omega (arith, ab, bb)) (omega (arith, al, bl)) a.holds b.holds

-- ---- one reason

pub unfinished_or_hopeless : (room : Room) (bytes : List ℕ) → IsUnfinished room bytes → IsHopeless room bytes → ⊥
unfinished_or_hopeless room bytes (none, (more, h, reads), short) n =
    let joined : bytes ++ more ≡ n.prefix ++ (n.rest ++ more) = ap (λ (t : List ℕ). t ++ more) n.whole ∙ append_assoc n.prefix n.rest more in
    n.never (n.rest ++ more) h [] (subst (λ (t : List ℕ). ReadsResponse t h []) joined reads)

pub unfinished_or_lengthy : (room : Room) (bytes : List ℕ) → IsUnfinished room bytes → IsLengthy room bytes → ⊥
unfinished_or_lengthy room bytes (none, may, short) l =
    let sizes : length bytes ≡ length l.prefix + length l.rest = ap length l.whole ∙ length-append l.prefix l.rest in
    let long = l.long in omega (arith, sizes, short, long)

pub hopeless_or_lengthy : (room : Room) (bytes : List ℕ) → IsHopeless room bytes → IsLengthy room bytes → ⊥
hopeless_or_lengthy room bytes n l =
    let short = n.short in
    let long = l.long in
    let may = l.may in
    let prefix : l.prefix ≡ n.prefix ++ drop (length n.prefix) l.prefix =
    shorter n.prefix l.prefix n.rest l.rest (sym n.whole ∙ l.whole) (omega (arith, short, long)) in
    let joined : l.prefix ++ may.0 ≡ n.prefix ++ (drop (length n.prefix) l.prefix ++ may.0) =
    ap (λ (t : List ℕ). t ++ may.0) prefix ∙ append_assoc n.prefix (drop (length n.prefix) l.prefix) may.0 in
    n.never (drop (length n.prefix) l.prefix ++ may.0) may.1 [] (subst (λ (t : List ℕ). ReadsResponse t may.1 []) joined may.2)
