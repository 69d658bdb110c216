-- the entries after one more was put in its place
use Rattle.std.proofs.Common.{◌≡◌, ◌⊎◌, inl, inr, ◌∷◌, suc, List, [], refl, sym, ap, ◌∙◌, Bool, true, false, cond, slice_get}
use Rattle.std.specs.List.{AllByRecursion, insert}
use Rattle.state_stamps.specs.declared.stamp_entry.StampEntry.{StampEntry}
use Rattle.state_stamps.specs.Entries.{In, IsRising, count_before, is_before, is_entry, put_entry, same_entry}
use Rattle.state_stamps.proofs.Orders.{before_next, neither, same_parts}

-- if the entry stands there already, nothing changes
pub put_there : (e : StampEntry) (qs : List StampEntry) → is_entry e (slice_get qs (count_before e qs)) ≡ true → put_entry e qs ≡ qs
put_there e [] t = absurd cc
put_there e (q ∷ qs) t = by (put_there e qs) (is_before q e) t
  where
    by : (is_entry e (slice_get qs (count_before e qs)) ≡ true → put_entry e qs ≡ qs) → (b : Bool) → is_entry e (slice_get (q ∷ qs) (cond b (suc (count_before e qs)) 0)) ≡ true
        → cond b (q ∷ put_entry e qs) (cond (same_entry q e) (q ∷ qs) (e ∷ q ∷ qs)) ≡ q ∷ qs
    by rest true t = ap (λ xs. q ∷ xs) (rest t)
    by rest false t = rw t refl

-- otherwise it is inserted
pub put_insert : (e : StampEntry) (qs : List StampEntry) → is_entry e (slice_get qs (count_before e qs)) ≡ false → put_entry e qs ≡ insert qs (count_before e qs) e
put_insert e [] t = refl
put_insert e (q ∷ qs) t = by (put_insert e qs) (is_before q e) t
  where
    by : (is_entry e (slice_get qs (count_before e qs)) ≡ false → put_entry e qs ≡ insert qs (count_before e qs) e) → (b : Bool) → is_entry e (slice_get (q ∷ qs) (cond b (suc (count_before e qs)) 0)) ≡ false
        → cond b (q ∷ put_entry e qs) (cond (same_entry q e) (q ∷ qs) (e ∷ q ∷ qs)) ≡ insert (q ∷ qs) (cond b (suc (count_before e qs)) 0) e
    by rest true t = ap (λ xs. q ∷ xs) (rest t)
    by rest false t = rw t refl

all_put : (P : StampEntry → Type 0) (e : StampEntry) (qs : List StampEntry) → P e → AllByRecursion P qs → AllByRecursion P (put_entry e qs)
all_put P e [] at h = (at, tt)
all_put P e (q ∷ qs) at h = by (is_before q e) (same_entry q e) (all_put P e qs at h.1)
  where
    by : (b c : Bool) → AllByRecursion P (put_entry e qs) → AllByRecursion P (cond b (q ∷ put_entry e qs) (cond c (q ∷ qs) (e ∷ q ∷ qs)))
    by true c rest = (h.0, rest)
    by false true rest = h
    by false false rest = (at, h)

-- an entry that comes before the first comes before all
pub before_all : (e q : StampEntry) (qs : List StampEntry) → is_before e q ≡ true → AllByRecursion (λ y. is_before q y ≡ true) qs → AllByRecursion (λ y. is_before e y ≡ true) qs
before_all e q [] t h = tt
before_all e q (y ∷ ys) t h = (before_next e q y t h.0, before_all e q ys t h.1)

-- the entries are still in order
pub put_rises : (e : StampEntry) (qs : List StampEntry) → IsRising qs → IsRising (put_entry e qs)
put_rises e [] h = (tt, tt)
put_rises e (q ∷ qs) h = by (is_before q e) refl (put_rises e qs h.1)
  where
    by : (b : Bool) → is_before q e ≡ b → IsRising (put_entry e qs) → IsRising (cond b (q ∷ put_entry e qs) (cond (same_entry q e) (q ∷ qs) (e ∷ q ∷ qs)))
    by true t rest = (all_put (λ x. is_before q x ≡ true) e qs t h.0, rest)
    by false t rest = here (same_entry q e) refl
      where
        here : (c : Bool) → same_entry q e ≡ c → IsRising (cond c (q ∷ qs) (e ∷ q ∷ qs))
        here true s = h
        here false s = let before = neither q e t s in ((before, before_all e q qs before h.0), h)

-- the new entry is one of them, and so are the earlier entries
pub put_in : (e : StampEntry) (qs : List StampEntry) (x : StampEntry) → (x ≡ e) ⊎ In x qs → In x (put_entry e qs)
put_in e [] x (inl s) = inl s
put_in e [] x (inr i) = absurd i
put_in e (q ∷ qs) x i = by (put_in e qs x) (is_before q e) (same_entry q e) refl i
  where
    by : ((x ≡ e) ⊎ In x qs → In x (put_entry e qs)) → (b c : Bool) → same_entry q e ≡ c → (x ≡ e) ⊎ ((x ≡ q) ⊎ In x qs) → In x (cond b (q ∷ put_entry e qs) (cond c (q ∷ qs) (e ∷ q ∷ qs)))
    by rest true c s (inl is) = inr (rest (inl is))
    by rest true c s (inr (inl is)) = inl is
    by rest true c s (inr (inr i)) = inr (rest (inr i))
    by rest false true s (inl is) = inl (is ∙ sym (same_parts q e s))
    by rest false true s (inr i) = i
    by rest false false s i = i

-- and there are no others
pub in_put : (e : StampEntry) (qs : List StampEntry) (x : StampEntry) → In x (put_entry e qs) → (x ≡ e) ⊎ In x qs
in_put e [] x (inl s) = inl s
in_put e [] x (inr i) = absurd i
in_put e (q ∷ qs) x i = by (in_put e qs x) (is_before q e) (same_entry q e) i
  where
    later : (x ≡ e) ⊎ In x qs → (x ≡ e) ⊎ ((x ≡ q) ⊎ In x qs)
    later (inl s) = inl s
    later (inr i) = inr (inr i)

    by : (In x (put_entry e qs) → (x ≡ e) ⊎ In x qs) → (b c : Bool) → In x (cond b (q ∷ put_entry e qs) (cond c (q ∷ qs) (e ∷ q ∷ qs))) → (x ≡ e) ⊎ ((x ≡ q) ⊎ In x qs)
    by rest true c (inl s) = inr (inl s)
    by rest true c (inr i) = later (rest i)
    by rest false true i = inr i
    by rest false false i = i
