-- What was given and taken in two steps.
use Rattle.std.proofs.Common.{◌≡◌, ℕ, ◌+◌, ◌-◌, Result, Ok, Err, OnErr, List, [], ◌++◌, length, take, drop, ap, sym, ◌∙◌, append_assoc, append-nil, take-add, arith, length-drop}
use Rattle.std.proofs.KnownBytes.{Appends-nil, Appends-trans, Consumes-nil, Consumes-trans}
use Rattle.std.proofs.lemmas.List.{take_all, take-append-drop}
use Rattle.wire_http.specs.Streams.{GivenBytes, Gives, TakenBytes, Takes, TakesPart}

grown : (old mid new a b : List ℕ) → mid ≡ old ++ a → new ≡ mid ++ b → new ≡ old ++ (a ++ b)
grown old mid new a b p q = q ∙ ap (λ (l : List ℕ). l ++ b) p ∙ append_assoc old a b

-- ---- what was given

pub gives_none : (old : GivenBytes) → Gives old old []
gives_none old = record { given = sym (append-nil old.given); left = Consumes-nil old.left }

pub gives_more : (old mid new : GivenBytes) (a b : List ℕ) → Gives old mid a → Gives mid new b → Gives old new (a ++ b)
gives_more old mid new a b p q = record {
  given = grown old.given mid.given new.given a b p.given q.given;
  left = Consumes-trans old.left mid.left new.left a b p.left q.left;
}

-- ---- what was taken

pub takes_none : (old : TakenBytes) → Takes old old []
takes_none old = record { taken = sym (append-nil old.taken); written = Appends-nil old.written }

pub takes_more : (old mid new : TakenBytes) (a b : List ℕ) → Takes old mid a → Takes mid new b → Takes old new (a ++ b)
takes_more old mid new a b p q = record {
  taken = grown old.taken mid.taken new.taken a b p.taken q.taken;
  written = Appends-trans old.written mid.written new.written a b p.written q.written;
}

-- the first i bytes, and then n of those from place i on
pub takes_slice : (old mid new : TakenBytes) (i n : ℕ) (bs : List ℕ)
    → Takes old mid (take i bs) → Takes mid new (take n (take (length bs - i) (drop i bs))) → Takes old new (take (i + n) bs)
takes_slice old mid new i n bs p q =
    let rest : take (length bs - i) (drop i bs) ≡ drop i bs = take_all (length bs - i) (drop i bs) (omega (arith, length-drop i bs)) in
    rw (take-add i n bs) (takes_more old mid new (take i bs) (take n (drop i bs)) p (rw rest at q))

-- if a call took nothing, what was taken so far is a prefix
pub part_kept : (old mid new : TakenBytes) (n : ℕ) (bs : List ℕ) → Takes old mid (take n bs) → Takes mid new [] → TakesPart old new bs
part_kept old mid new n bs p q =
    (take n bs, drop n bs, sym (take-append-drop n bs), rw (sym (append-nil (take n bs))) (takes_more old mid new (take n bs) [] p q))

-- a part of what comes first is a part of the whole
pub part_before : {A E : Type 0} (result : Result A E) (old new : TakenBytes) (head body : List ℕ) → TakesPart old new head
    → OnErr result (TakesPart old new (head ++ body))
part_before (Ok a) old new head body p = tt
part_before (Err e) old new head body (prefix, rest, whole, h) =
    (prefix, rest ++ body, ap (λ (l : List ℕ). l ++ body) whole ∙ append_assoc prefix rest body, h)

-- all of what comes first, and a part of what follows
pub part_after : {A E : Type 0} (result : Result A E) (old mid new : TakenBytes) (head body : List ℕ) → Takes old mid head
    → TakesPart mid new body → OnErr result (TakesPart old new (head ++ body))
part_after (Ok a) old mid new head body p q = tt
part_after (Err e) old mid new head body p (prefix, rest, whole, h) = (
  head ++ prefix,
  rest,
  ap (λ (l : List ℕ). head ++ l) whole ∙ sym (append_assoc head prefix rest),
  takes_more old mid new head prefix p h,
)

-- all of both, and then nothing
pub part_whole : {A E : Type 0} (result : Result A E) (old mid last new : TakenBytes) (head body : List ℕ) → Takes old mid head → Takes mid last body
    → Takes last new [] → OnErr result (TakesPart old new (head ++ body))
part_whole (Ok a) old mid last new head body p q r = tt
part_whole (Err e) old mid last new head body p q r =
    (head ++ body, [], sym (append-nil (head ++ body)), rw (sym (append-nil (head ++ body))) (takes_more old last new (head ++ body) [] (takes_more old mid last head body p q) r))
