-- the compensations that are due, gathered record by record
use Rattle.std.proofs.Common.{◌≡◌, inl, inr, ◌<◌, ◌+◌, ◌++◌, ℕ, zero, suc, List, [], ◌∷◌, sym, ap, subst, ◌∙◌, true, arith, Option, Some, None, get_or, length, nat_lt, take}
use Rattle.std.proofs.lemmas.Bool.Decides.{nat_tests}
use Rattle.std.proofs.lemmas.List.{take_more}
use Rattle.state_facts.specs.declared.fact.Fact.{Fact}
use Rattle.state_facts.specs.Duties.{is_compensation_due}
use Rattle.state_facts.specs.Lists.{In}
use Rattle.state_forest.specs.declared.duties.Due.{Due}
use Rattle.state_forest.specs.declared.record.Record.{Record}
use Rattle.state_forest.specs.Dues.{AreAll, IsDueAt, IsShare, is_topmost_before, topmost_number}
use Rattle.state_forest.specs.Forests.{AreOf, IsAscending}
use Rattle.state_forest.specs.Standing.{IsWhole, Stands}
use Rattle.state_forest.proofs.Bools.{all_in}
use Rattle.state_forest.proofs.ListsByRecord.{Owned, of_all, one_record_more}
use Rattle.state_forest.proofs.CompensationUnderAnLra.{top_record}

-- records before a place have lesser numbers than the record at the place
pub lesser_before : (rs : List Record) (i : ℕ) (r q : Record) → IsAscending rs → i < length rs → r ≡ get_or rs i r → In q (take i rs) → q.num < r.num
lesser_before [] i r q h less is inside = absurd (omega (arith, less))
lesser_before (x ∷ rs) zero r q h less is inside = absurd inside
lesser_before (x ∷ rs) (suc i) r q h less is (inr inside) = lesser_before rs i r q h.1 (omega (arith, less)) is inside
lesser_before (x ∷ rs) (suc i) r q h less is (inl same) = first (there rs i r (omega (arith, less)) is)
  where
    there : (ys : List Record) (k : ℕ) (y : Record) → k < length ys → y ≡ get_or ys k y → In y ys
    there [] k y below e = absurd (omega (arith, below))
    there (z ∷ ys) zero y below e = inl e
    there (z ∷ ys) (suc k) y below e = inr (there ys k y (omega (arith, below)) e)

    first : In r rs → q.num < r.num
    first inside = let a = all_in (λ y. x.num < y.num) rs h.0 r inside in let b = ap (λ (y : Record). y.num) same in omega (arith, a, b)

abbrev pub as_list : {X : Type 0} → Option X → List X
as_list None = []
as_list (Some x) = x ∷ []

-- the share of one record as a list: all that is due under it, and nothing else
share_all : (home : ℕ) (S : List Fact) (num : ℕ) (o : Option Due) → IsShare home S num o → AreAll (λ d. IsDueAt home S is_compensation_due d × (topmost_number S d.lra ≡ num)) (is_topmost_before S) (as_list o)
share_all home S num None h = record { all = λ d p. absurd (h d (record { due = p.0; topmost = p.1 })); only = λ d i. absurd i; order = tt }
share_all home S num (Some x) h = record { all = λ d p. inl (h.1 d (record { due = p.0; topmost = p.1 })); only = only; order = (tt, tt) }
  where
    only : (d : Due) → In d (x ∷ []) → IsDueAt home S is_compensation_due d × (topmost_number S d.lra ≡ num)
    only d (inl same) = subst (λ (y : Due). IsDueAt home S is_compensation_due y × (topmost_number S y.lra ≡ num)) (sym same) (h.0.due, h.0.topmost)
    only d (inr none) = absurd none

-- the list holds what is due under the records so far
abbrev pub AreSoFar : ℕ → List Fact → List Record → List Due → Type 0
AreSoFar home S rs dues = AreAll (Owned (IsDueAt home S is_compensation_due) (λ d. topmost_number S d.lra) rs) (is_topmost_before S) dues

pub share_more : (home : ℕ) (S : List Fact) (records : List Record) (i : ℕ) (r : Record) (dues more : List Due) (o : Option Due) → AreOf home records → i < length records → r ≡ get_or records i r → IsShare home S r.num o → more ≡ dues ++ as_list o → AreSoFar home S (take i records) dues → AreSoFar home S (take (i + 1) records) more
share_more home S records i r dues more o order less is share added h =
    let next : take (i + 1) records ≡ take i records ++ r ∷ [] = take_more records i r less ∙ ap (λ (q : Record). take i records ++ q ∷ []) (sym is) in
    let gathered = one_record_more (IsDueAt home S is_compensation_due) (λ d. topmost_number S d.lra) (is_topmost_before S) (take i records) r dues (as_list o) (λ x y e. let t : nat_lt (topmost_number S x.lra) (topmost_number S y.lra) ≡ true = grind (arith, nat_tests, e) in t) (λ q inside. lesser_before records i r q order.ascending less is inside) h (share_all home S r.num o share) in
    subst (λ rs. AreSoFar home S rs more) (sym next) (subst (AreSoFar home S (take i records ++ r ∷ [])) (sym added) gathered)

pub share_whole : (nodes home : ℕ) (S : List Fact) (records : List Record) (dues : List Due) → IsWhole S → Stands nodes home S records → AreSoFar home S records dues → AreAll (IsDueAt home S is_compensation_due) (is_topmost_before S) dues
share_whole nodes home S records dues whole stands h =
    of_all (IsDueAt home S is_compensation_due) (λ d. topmost_number S d.lra) (is_topmost_before S) records dues (λ d due. top_record nodes home S records d whole stands due) h
