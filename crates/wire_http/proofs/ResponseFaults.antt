-- An input of a response has one fault.
use Rattle.std.proofs.Common.{◌≡◌, ℕ, inl, inr, List, refl, sym, ◌∙◌, subst, arith, Result, Ok, Err, IsTrue, IsFalse}
use Rattle.std.proofs.lemmas.Bool.Decides.{nat_tests}
use Rattle.httparse.specs.Grammar.{ResponseHead, status_code}
use Rattle.httparse.proofs.GrammarLemmas.{response_unique}
use Rattle.wire_http.specs.declared.fault.Fault.{Fault}
use Rattle.wire_http.specs.declared.fault.Fault.TheVariants.{Cut, ReadFault, WriteFault, HeadTooLong, BodyTooLong, BadHead, LengthNeeded, NotOffered, NoMemory}
use Rattle.wire_http.specs.Faults.{IsOfBytes}
use Rattle.wire_http.specs.Responses.{Room, head_room, is_interim, is_switch, Behind, Begins, HasFinal, stated, IsUnfinished, IsHopeless, IsSwitched, IsOver, IsCrowded, RefusesResponse}
use Rattle.wire_http.proofs.Messages.{unique_final}
use Rattle.wire_http.proofs.Stops.{Halts, one_place, IsLengthy, unfinished_halts, hopeless_halts, switched_halts, lengthy_halts, final_halts, never_at, long_at, unfinished_or_hopeless, unfinished_or_lengthy, hopeless_or_lengthy}

-- the fault that a final head leads to: if it states a length, the fault is that the input ends in
-- the body
abbrev pub Answers : Result ℕ Fault → Fault → Type 0
Answers (Ok size) fault = fault ≡ Cut
Answers (Err cause) fault = fault ≡ cause

pub one_answer : (r : Result ℕ Fault) (a b : Fault) → Answers r a → Answers r b → a ≡ b
one_answer (Ok size) a b e f = e ∙ sym f
one_answer (Err cause) a b e f = e ∙ sym f

-- why the input has the fault
data Reason (limit : ℕ) (input : List ℕ) (fault : Fault) : Type 0 where
  unfinished : fault ≡ Cut → Behind head_room IsUnfinished input → Reason limit input fault
  hopeless : fault ≡ BadHead → Behind head_room IsHopeless input → Reason limit input fault
  switched : fault ≡ BadHead → Behind head_room IsSwitched input → Reason limit input fault
  lengthy : fault ≡ HeadTooLong → Behind head_room IsLengthy input → Reason limit input fault
  final : (h : ResponseHead) (rest : List ℕ) → HasFinal head_room input h rest → Answers (stated limit h) fault → Reason limit input fault

-- ---- no two of them

no_two : (P Q : Room → List ℕ → Type 0) → Halts P → Halts Q → ((room : Room) (bytes : List ℕ) → P room bytes → Q room bytes → ⊥)
    → (input : List ℕ) → Behind head_room P input → Behind head_room Q input → ⊥
no_two P Q hp hq never input a b = let s = one_place P Q hp hq head_room input a b in never s.room s.bytes s.first s.second

cut_or_bad : (input : List ℕ) → Behind head_room IsUnfinished input → Behind head_room IsHopeless input → ⊥
cut_or_bad = no_two IsUnfinished IsHopeless unfinished_halts hopeless_halts unfinished_or_hopeless

cut_or_switched : (input : List ℕ) → Behind head_room IsUnfinished input → Behind head_room IsSwitched input → ⊥
cut_or_switched = no_two IsUnfinished IsSwitched unfinished_halts switched_halts (λ room bytes u s. u.0 s.0 s.1 s.2.reads)

cut_or_long : (input : List ℕ) → Behind head_room IsUnfinished input → Behind head_room IsLengthy input → ⊥
cut_or_long = no_two IsUnfinished IsLengthy unfinished_halts lengthy_halts unfinished_or_lengthy

bad_or_long : (input : List ℕ) → Behind head_room IsHopeless input → Behind head_room IsLengthy input → ⊥
bad_or_long = no_two IsHopeless IsLengthy hopeless_halts lengthy_halts hopeless_or_lengthy

switched_or_long : (input : List ℕ) → Behind head_room IsSwitched input → Behind head_room IsLengthy input → ⊥
switched_or_long =
    no_two IsSwitched IsLengthy switched_halts lengthy_halts (λ room bytes s l. long_at room.bytes bytes s.0 s.1 l s.2.reads s.2.short)

no_final : (P : Room → List ℕ → Type 0) → Halts P → (h : ResponseHead) (rest : List ℕ)
    → ((room : Room) (bytes : List ℕ) → P room bytes → Begins h rest room bytes → ⊥)
    → (input : List ℕ) → Behind head_room P input → HasFinal head_room input h rest → ⊥
no_final P hp h rest never input a (b, last) = no_two P (Begins h rest) hp (final_halts h rest last) never input a b

cut_or_final : (input : List ℕ) (h : ResponseHead) (rest : List ℕ) → Behind head_room IsUnfinished input → HasFinal head_room input h rest → ⊥
cut_or_final input h rest = no_final IsUnfinished unfinished_halts h rest (λ room bytes u b. u.0 h rest b.reads) input

bad_or_final : (input : List ℕ) (h : ResponseHead) (rest : List ℕ) → Behind head_room IsHopeless input → HasFinal head_room input h rest → ⊥
bad_or_final input h rest = no_final IsHopeless hopeless_halts h rest (λ room bytes n b. never_at room bytes h rest n b.reads) input

switch_is_interim : (code : ℕ) → IsTrue (is_switch code) → IsFalse (is_interim code) → ⊥
switch_is_interim code t f = grind (arith, nat_tests)

switched_or_final : (input : List ℕ) (h : ResponseHead) (rest : List ℕ) → Behind head_room IsSwitched input → HasFinal head_room input h rest → ⊥
switched_or_final input h rest s has =
    no_final IsSwitched switched_halts h rest (λ room bytes t b.
    let same = response_unique bytes t.0 h t.1 rest t.2.reads b.reads in
    switch_is_interim (status_code h) (subst (λ (k : ResponseHead). IsTrue (is_switch (status_code k))) same.0 t.3) has.1)
    input s has

long_or_final : (input : List ℕ) (h : ResponseHead) (rest : List ℕ) → Behind head_room IsLengthy input → HasFinal head_room input h rest → ⊥
long_or_final input h rest = no_final IsLengthy lengthy_halts h rest (λ room bytes l b. long_at room.bytes bytes h rest l b.reads b.short) input

one_reason : (limit : ℕ) (input : List ℕ) (a b : Fault) → Reason limit input a → Reason limit input b → a ≡ b
one_reason limit input a b (unfinished e u) (unfinished f v) = e ∙ sym f
one_reason limit input a b (unfinished e u) (hopeless f v) = absurd (cut_or_bad input u v)
one_reason limit input a b (unfinished e u) (switched f v) = absurd (cut_or_switched input u v)
one_reason limit input a b (unfinished e u) (lengthy f v) = absurd (cut_or_long input u v)
one_reason limit input a b (unfinished e u) (final h rest has s) = absurd (cut_or_final input h rest u has)
one_reason limit input a b (hopeless e u) (unfinished f v) = absurd (cut_or_bad input v u)
one_reason limit input a b (hopeless e u) (hopeless f v) = e ∙ sym f
one_reason limit input a b (hopeless e u) (switched f v) = e ∙ sym f
one_reason limit input a b (hopeless e u) (lengthy f v) = absurd (bad_or_long input u v)
one_reason limit input a b (hopeless e u) (final h rest has s) = absurd (bad_or_final input h rest u has)
one_reason limit input a b (switched e u) (unfinished f v) = absurd (cut_or_switched input v u)
one_reason limit input a b (switched e u) (hopeless f v) = e ∙ sym f
one_reason limit input a b (switched e u) (switched f v) = e ∙ sym f
one_reason limit input a b (switched e u) (lengthy f v) = absurd (switched_or_long input u v)
one_reason limit input a b (switched e u) (final h rest has s) = absurd (switched_or_final input h rest u has)
one_reason limit input a b (lengthy e u) (unfinished f v) = absurd (cut_or_long input v u)
one_reason limit input a b (lengthy e u) (hopeless f v) = absurd (bad_or_long input v u)
one_reason limit input a b (lengthy e u) (switched f v) = absurd (switched_or_long input v u)
one_reason limit input a b (lengthy e u) (lengthy f v) = e ∙ sym f
one_reason limit input a b (lengthy e u) (final h rest has s) = absurd (long_or_final input h rest u has)
one_reason limit input a b (final h rest has s) (unfinished f v) = absurd (cut_or_final input h rest v has)
one_reason limit input a b (final h rest has s) (hopeless f v) = absurd (bad_or_final input h rest v has)
one_reason limit input a b (final h rest has s) (switched f v) = absurd (switched_or_final input h rest v has)
one_reason limit input a b (final h rest has s) (lengthy f v) = absurd (long_or_final input h rest v has)
one_reason limit input a b (final h rest has s) (final k more other t) =
    let same = unique_final head_room input h rest k more has other in
    one_answer (stated limit k) a b (subst (λ (i : ResponseHead). Answers (stated limit i) a) same.0 s) t

-- ---- the reason for a fault

behind_long : (input : List ℕ) → (Behind head_room IsCrowded input → ⊥) → Behind head_room IsOver input → Behind head_room IsLengthy input
behind_long input few b = record {
  skipped = b.skipped;
  middle = b.middle;
  left = b.left;
  skips = b.skips;
  bytes = b.bytes;
  lines = b.lines;
  holds = settle b.holds;
}
  where
    settle : IsOver b.left b.middle → IsLengthy b.left b.middle
    settle (inl long) = long
    settle (inr many) = absurd (few (record {
      skipped = b.skipped;
      middle = b.middle;
      left = b.left;
      skips = b.skips;
      bytes = b.bytes;
      lines = b.lines;
      holds = many;
    }))

by_answer : (limit : ℕ) (input : List ℕ) (fault : Fault) (h : ResponseHead) (rest : List ℕ) (answer : Result ℕ Fault) → HasFinal head_room input h rest
    → stated limit h ≡ answer → Answers answer fault → Reason limit input fault
by_answer limit input fault h rest answer has e is = final h rest has (subst (λ (r : Result ℕ Fault). Answers r fault) (sym e) is)

reason_of : (limit : ℕ) (input : List ℕ) → (Behind head_room IsCrowded input → ⊥) → (fault : Fault) → IsOfBytes fault → RefusesResponse head_room limit input fault
    → Reason limit input fault
reason_of limit input few Cut of (none, inl u) = unfinished refl u
reason_of limit input few Cut of (none, inr (h, rest, size, has, is, short)) = by_answer limit input Cut h rest (Ok size) has is refl
reason_of limit input few BadHead of (inl (inl b)) = hopeless refl b
reason_of limit input few BadHead of (inl (inr b)) = switched refl b
reason_of limit input few BadHead of (inr (h, rest, has, is)) = by_answer limit input BadHead h rest (Err BadHead) has is refl
reason_of limit input few HeadTooLong of (none, b) = lengthy refl (behind_long input few b)
reason_of limit input few BodyTooLong of (h, rest, has, is) = by_answer limit input BodyTooLong h rest (Err BodyTooLong) has is refl
reason_of limit input few NotOffered of (h, rest, has, is) = by_answer limit input NotOffered h rest (Err NotOffered) has is refl
reason_of limit input few LengthNeeded of (h, rest, has, is) = by_answer limit input LengthNeeded h rest (Err LengthNeeded) has is refl
reason_of limit input few WriteFault of refuses = absurd refuses
reason_of limit input few ReadFault of refuses = absurd (of.0 refl)
reason_of limit input few NoMemory of refuses = absurd (of.1 refl)

pub one_fault : (limit : ℕ) (input : List ℕ) (a b : Fault) → IsOfBytes a → IsOfBytes b → (Behind head_room IsCrowded input → ⊥)
    → RefusesResponse head_room limit input a → RefusesResponse head_room limit input b → a ≡ b
one_fault limit input a b ofa ofb few p q = one_reason limit input a b (reason_of limit input few a ofa p) (reason_of limit input few b ofb q)
