-- Interim heads before a response's final head.
use Rattle.std.proofs.Common.{◌≡◌, ℕ, ◌+◌, inl, inr, List, [], ◌∷◌, ◌++◌, length, Bool, true, false, sym, ◌∙◌, ap, refl, arith, subst, IsTrue, IsFalse}
use Rattle.httparse.specs.Grammar.{ResponseHead, ReadsResponse, print_response, status_code}
use Rattle.httparse.proofs.GrammarLemmas.{response_unique}
use Rattle.wire_http.specs.declared.fault.Fault.{Fault}
use Rattle.wire_http.specs.declared.fault.Fault.TheVariants.{Cut, ReadFault, WriteFault, HeadTooLong, BodyTooLong, BadHead, LengthNeeded, NotOffered, NoMemory}
use Rattle.wire_http.specs.declared.head.HeadKind.TheVariants.{Response}
use Rattle.wire_http.specs.Heads.{HasNoHead, HasNoShorterHead, RefusesHead}
use Rattle.wire_http.specs.Responses.{Room, head_room, is_interim, is_switch, Skips, bytes_of, lines_of, Behind, Begins, HasFinal, HasNoFinal, IsOfHeads, IsUnfinished, IsHopeless, IsSwitched, IsOver, RefusesHeads}
use Rattle.wire_http.proofs.Heads.{nothing}

-- no test both holds and fails
pub not_both : (b : Bool) → IsTrue b → IsFalse b → ⊥
not_both b t f = let e : true ≡ false = sym t ∙ f in absurd (cc)

-- an interim head at the start of the input, and the room that it leaves
pub record Interim (room left : Room) (input middle : List ℕ) : Type 0 where
  pub head : ResponseHead
  pub reads : ReadsResponse input head middle
  pub interim : IsTrue (is_interim (status_code head))
  pub plain : IsFalse (is_switch (status_code head))
  pub bytes : length (print_response head) + left.bytes ≡ room.bytes
  pub lines : length head.fields + left.lines ≡ room.lines

-- what holds after the heads of what follows holds after those of the input
pub behind_more : (room left : Room) (input middle : List ℕ) (P : Room → List ℕ → Type 0) → Interim room left input middle
    → Behind left P middle → Behind room P input
behind_more room left input middle P i b = record {
  skipped = i.head ∷ b.skipped;
  middle = b.middle;
  left = b.left;
  skips = (middle, i.reads, i.interim, i.plain, b.skips);
  bytes = omega (arith, i.bytes, b.bytes);
  lines = omega (arith, i.lines, b.lines);
  holds = b.holds;
}

-- what holds at the start holds after no heads
pub behind_none : (room : Room) (input : List ℕ) (P : Room → List ℕ → Type 0) → P room input → Behind room P input
behind_none room input P h = record { skipped = []; middle = input; left = room; skips = refl; bytes = omega arith; lines = omega arith; holds = h }

-- the final head of the input is that of what follows an interim head
less : (room left : Room) (input middle : List ℕ) (h : ResponseHead) (rest : List ℕ) → Interim room left input middle → IsFalse (is_interim (status_code h))
    → (skipped : List ResponseHead) (end : List ℕ) (q : Room) → Skips skipped input end → bytes_of skipped + q.bytes ≡ room.bytes → lines_of skipped + q.lines ≡ room.lines
    → Begins h rest q end → Behind left (Begins h rest) middle
less room left input middle h rest i final [] end q skips bytes lines begins =
    let reads : ReadsResponse input h rest = subst (λ (t : List ℕ). ReadsResponse t h rest) (sym skips) begins.reads in
    let same = response_unique input i.head h middle rest i.reads reads in
    absurd (not_both (is_interim (status_code h)) (subst (λ (k : ResponseHead). IsTrue (is_interim (status_code k))) same.0 i.interim) final)
less room left input middle h rest i final (j ∷ skipped) end q (next, reads, interim, plain, skips) bytes lines begins =
    let same = response_unique input i.head j middle next i.reads reads in
    let size : length (print_response i.head) ≡ length (print_response j) = ap (λ (k : ResponseHead). length (print_response k)) same.0 in
    let count : length i.head.fields ≡ length j.fields = ap (λ (k : ResponseHead). length k.fields) same.0 in
    record {
      skipped = skipped;
      middle = end;
      left = q;
      skips = subst (λ (t : List ℕ). Skips skipped t end) (sym same.1) skips;
      bytes = omega (arith, size, bytes, i.bytes);
      lines = omega (arith, count, lines, i.lines);
      holds = begins;
    }

pub final_less : (room left : Room) (input middle : List ℕ) (h : ResponseHead) (rest : List ℕ) → Interim room left input middle
    → HasFinal room input h rest → HasFinal left middle h rest
final_less room left input middle h rest i (b, final) =
    (less room left input middle h rest i final b.skipped b.middle b.left b.skips b.bytes b.lines b.holds, final)

none_more : (room left : Room) (input middle : List ℕ) → Interim room left input middle → HasNoFinal left middle → HasNoFinal room input
none_more room left input middle i none = λ h rest has. none h rest (final_less room left input middle h rest i has)

-- a fault of what follows an interim head is a fault of the input
pub refuses_more : (room left : Room) (input middle : List ℕ) → Interim room left input middle
    → (fault : Fault) → RefusesHeads left middle fault → RefusesHeads room input fault
refuses_more room left input middle i Cut (none, b) =
    (none_more room left input middle i none, behind_more room left input middle IsUnfinished i b)
refuses_more room left input middle i BadHead (inl b) = inl (behind_more room left input middle IsHopeless i b)
refuses_more room left input middle i BadHead (inr b) = inr (behind_more room left input middle IsSwitched i b)
refuses_more room left input middle i HeadTooLong (none, b) =
    (none_more room left input middle i none, behind_more room left input middle IsOver i b)
refuses_more room left input middle i ReadFault h = tt
refuses_more room left input middle i NoMemory h = tt
refuses_more room left input middle i BodyTooLong h = absurd h
refuses_more room left input middle i LengthNeeded h = absurd h
refuses_more room left input middle i NotOffered h = absurd h
refuses_more room left input middle i WriteFault h = absurd h

-- ---- the head at the start

pub record Front (room : Room) (input : List ℕ) : Type 0 where
  pub head : ResponseHead
  pub rest : List ℕ
  pub begins : Begins head rest room input

prefix : (room : Room) (input : List ℕ) (h : ResponseHead) (rest : List ℕ) (skipped : List ResponseHead) (end : List ℕ) (q : Room) → Skips skipped input end
    → bytes_of skipped + q.bytes ≡ room.bytes → lines_of skipped + q.lines ≡ room.lines → Begins h rest q end → Front room input
prefix room input h rest [] end q skips bytes lines begins = record {
  head = h;
  rest = rest;
  begins = record {
    reads = subst (λ (t : List ℕ). ReadsResponse t h rest) (sym skips) begins.reads;
    short = omega (arith, bytes, begins.short);
    few = omega (arith, lines, begins.few);
  };
}
prefix room input h rest (j ∷ skipped) end q (next, reads, interim, plain, skips) bytes lines begins = record {
  head = j;
  rest = next;
  begins = record {
    reads = reads;
    short = omega (arith, bytes);
    few = omega (arith, lines);
  };
}

-- an input with a final head begins with a head
pub front_of : (room : Room) (input : List ℕ) (h : ResponseHead) (rest : List ℕ) → HasFinal room input h rest → Front room input
front_of room input h rest (b, final) = prefix room input h rest b.skipped b.middle b.left b.skips b.bytes b.lines b.holds

-- if no head is at the start, there is no final head
pub none_front : (room : Room) (input : List ℕ) → HasNoHead Response input → HasNoFinal room input
none_front room input none = λ h rest has. let f = front_of room input h rest has in none f.head f.rest f.begins.reads

-- if nothing follows a head at the start, nothing follows the final head
ends_list : (input : List ℕ) (h : ResponseHead) (rest : List ℕ) → HasNoShorterHead Response input
    → (heads : List ResponseHead) (end : List ℕ) (q : Room) → Skips heads input end → Begins h rest q end → rest ≡ []
ends_list input h rest none [] end q skips begins =
    none (print_response h) rest (length h.fields) (h, begins.reads.0, refl, refl) (skips ∙ begins.reads.1)
ends_list input h rest none (j ∷ heads) end q (next, reads, interim, plain, skips) begins =
    let gone : next ≡ [] = none (print_response j) next (length j.fields) (j, reads.0, refl, refl) reads.1 in
    let room : Room = record { bytes = bytes_of heads + q.bytes; lines = lines_of heads + q.lines } in
    let f = prefix room next h rest heads end q skips refl refl begins in
    absurd (nothing Response f.head f.rest (subst (λ (t : List ℕ). ReadsResponse t f.head f.rest) gone f.begins.reads))

pub ends_front : (room : Room) (input : List ℕ) → HasNoShorterHead Response input → IsOfHeads room input
ends_front room input none = λ h rest has. ends_list input h rest none has.0.skipped has.0.middle has.0.left has.0.skips has.0.holds

-- a fault of the head at the start is a fault of the heads
pub refuses_front : (room : Room) (input : List ℕ) (fault : Fault) → RefusesHead Response room.bytes room.lines input fault → RefusesHeads room input fault
refuses_front room input Cut (none, may, short) = (none_front room input none, behind_none room input IsUnfinished (none, may, short))
refuses_front room input BadHead h = inl (behind_none room input IsHopeless h)
refuses_front room input HeadTooLong (over, none) = (
  λ h rest has.
      let f = front_of room input h rest has in
      none (print_response f.head) f.rest (length f.head.fields) (f.head, f.begins.reads.0, refl, refl) f.begins.reads.1 f.begins.short f.begins.few,
  behind_none room input IsOver over,
)
refuses_front room input ReadFault h = tt
refuses_front room input NoMemory h = tt
refuses_front room input BodyTooLong h = absurd h
refuses_front room input LengthNeeded h = absurd h
refuses_front room input NotOffered h = absurd h
refuses_front room input WriteFault h = absurd h

-- ---- what is left after some heads

-- what is known about what is left is known about the input
pub record Continues (left : Room) (input middle : List ℕ) : Type 0 where
  pub refuses : (fault : Fault) → RefusesHeads left middle fault → RefusesHeads head_room input fault
  pub begins : (h : ResponseHead) (rest : List ℕ) → HasFinal left middle h rest → HasFinal head_room input h rest
  pub less : (h : ResponseHead) (rest : List ℕ) → HasFinal head_room input h rest → HasFinal left middle h rest

-- the heads that were given leave this room, and what follows goes on from there
pub record Reaches (left : Room) (given : List ℕ) : Type 0 where
  pub continues : (more : List ℕ) → Continues left (given ++ more) more
  pub size : length given + left.bytes ≡ 16384

pub continues_more : (room left : Room) (input middle next : List ℕ) → Continues room input middle → Interim room left middle next → Continues left input next
continues_more room left input middle next known i = record {
  refuses = λ fault h. known.refuses fault (refuses_more room left middle next i fault h);
  begins = λ h rest has. known.begins h rest (behind_more room left middle next (Begins h rest) i has.0, has.1);
  less = λ h rest has. final_less room left middle next h rest i (known.less h rest has);
}

-- nothing was given yet
pub reaches_none : Reaches head_room []
reaches_none = record {
  continues = λ more. record { refuses = λ fault h. h; begins = λ h rest has. has; less = λ h rest has. has };
  size = refl;
}
