-- the entries after one was removed
use Rattle.std.proofs.Common.{◌≡◌, ◌⊎◌, inl, inr, ◌∷◌, suc, List, [], refl, sym, ap, subst, ◌∙◌, Bool, true, false, cond, filter, slice_get}
use mathlib.Core.Bool.{not}
use Rattle.std.specs.List.{AllByRecursion, remove}
use Rattle.state_stamps.specs.declared.stamp_entry.StampEntry.{StampEntry}
use Rattle.state_stamps.specs.Entries.{In, IsRising, count_before, is_before, is_entry, same_entry, without}
use Rattle.state_stamps.proofs.Orders.{before_not_same, neither, one_way, same_parts}
use Rattle.state_stamps.proofs.Putting.{before_all}

-- e comes before all of these entries, so it is none of them
none_beyond : (e : StampEntry) (qs : List StampEntry) → AllByRecursion (λ q. is_before e q ≡ true) qs → without e qs ≡ qs
none_beyond e [] h = refl
none_beyond e (q ∷ qs) h = let other = not_same e q h.0 in rw other (ap (λ xs. q ∷ xs) (none_beyond e qs h.1))
  where
    other_way : (a b : StampEntry) → (c : Bool) → same_entry b a ≡ c → is_before a b ≡ true → same_entry b a ≡ false
    other_way a b false s t = s
    other_way a b true s t =
        let same = same_parts b a s in
        absurd (let back : is_before b a ≡ false = one_way a b t in let here : is_before a b ≡ is_before b a = ap (λ (x : StampEntry). is_before a x) same ∙ sym (ap (λ (x : StampEntry). is_before x a) same) in cc)

    not_same : (a b : StampEntry) → is_before a b ≡ true → same_entry b a ≡ false
    not_same a b t = other_way a b (same_entry b a) refl t

-- if the entry stands at its place, it is removed
pub remove_there : (e : StampEntry) (qs : List StampEntry) → IsRising qs → is_entry e (slice_get qs (count_before e qs)) ≡ true → remove qs (count_before e qs) ≡ without e qs
remove_there e [] h t = absurd cc
remove_there e (q ∷ qs) h t = by (remove_there e qs h.1) (is_before q e) refl t
  where
    by : (is_entry e (slice_get qs (count_before e qs)) ≡ true → remove qs (count_before e qs) ≡ without e qs) → (b : Bool) → is_before q e ≡ b → is_entry e (slice_get (q ∷ qs) (cond b (suc (count_before e qs)) 0)) ≡ true
        → remove (q ∷ qs) (cond b (suc (count_before e qs)) 0) ≡ without e (q ∷ qs)
    by rest true s t = let other = before_not_same q e s in rw other (ap (λ xs. q ∷ xs) (rest t))
    by rest false s t =
        let same = same_parts q e t in
        let none : without e qs ≡ qs = none_beyond e qs (subst (λ (x : StampEntry). AllByRecursion (λ y. is_before x y ≡ true) qs) same h.0) in
        rw t (sym none)

-- otherwise nothing is removed
pub remove_none : (e : StampEntry) (qs : List StampEntry) → IsRising qs → is_entry e (slice_get qs (count_before e qs)) ≡ false → without e qs ≡ qs
remove_none e [] h t = refl
remove_none e (q ∷ qs) h t = by (remove_none e qs h.1) (is_before q e) refl t
  where
    by : (is_entry e (slice_get qs (count_before e qs)) ≡ false → without e qs ≡ qs) → (b : Bool) → is_before q e ≡ b → is_entry e (slice_get (q ∷ qs) (cond b (suc (count_before e qs)) 0)) ≡ false
        → without e (q ∷ qs) ≡ q ∷ qs
    by rest true s t = let other = before_not_same q e s in rw other (ap (λ xs. q ∷ xs) (rest t))
    by rest false s t = let before = neither q e s t in rw t (ap (λ xs. q ∷ xs) (none_beyond e qs (before_all e q qs before h.0)))

kept_all : (P : StampEntry → Type 0) (t : StampEntry → Bool) (qs : List StampEntry) → AllByRecursion P qs → AllByRecursion P (filter t qs)
kept_all P t [] h = tt
kept_all P t (q ∷ qs) h = by (t q) (kept_all P t qs h.1)
  where
    by : (b : Bool) → AllByRecursion P (filter t qs) → AllByRecursion P (cond b (q ∷ filter t qs) (filter t qs))
    by true rest = (h.0, rest)
    by false rest = rest

-- the entries are still in order
pub without_rises : (e : StampEntry) (qs : List StampEntry) → IsRising qs → IsRising (without e qs)
without_rises e [] h = tt
without_rises e (q ∷ qs) h = by (not (same_entry q e)) (without_rises e qs h.1)
  where
    by : (b : Bool) → IsRising (without e qs) → IsRising (cond b (q ∷ without e qs) (without e qs))
    by true rest = (kept_all (λ x. is_before q x ≡ true) (λ x. not (same_entry x e)) qs h.0, rest)
    by false rest = rest

-- each other entry is still one of them
pub without_in : (e : StampEntry) (qs : List StampEntry) (x : StampEntry) → In x qs → same_entry x e ≡ false → In x (without e qs)
without_in e [] x i o = absurd i
without_in e (q ∷ qs) x i o = by (without_in e qs x) (same_entry q e) refl i
  where
    by : (In x qs → same_entry x e ≡ false → In x (without e qs)) → (b : Bool) → same_entry q e ≡ b → (x ≡ q) ⊎ In x qs → In x (cond (not b) (q ∷ without e qs) (without e qs))
    by rest false s (inl is) = inl is
    by rest false s (inr i) = inr (rest i o)
    by rest true s (inl is) = absurd (let here : same_entry x e ≡ same_entry q e = ap (λ (y : StampEntry). same_entry y e) is in cc)
    by rest true s (inr i) = rest i o

-- and there are no others
pub in_without : (e : StampEntry) (qs : List StampEntry) (x : StampEntry) → In x (without e qs) → In x qs × (same_entry x e ≡ false)
in_without e [] x i = absurd i
in_without e (q ∷ qs) x i = by (in_without e qs x) (same_entry q e) refl i
  where
    by : (In x (without e qs) → In x qs × (same_entry x e ≡ false)) → (b : Bool) → same_entry q e ≡ b → In x (cond (not b) (q ∷ without e qs) (without e qs)) → ((x ≡ q) ⊎ In x qs) × (same_entry x e ≡ false)
    by rest false s (inl is) = (inl is, ap (λ (y : StampEntry). same_entry y e) is ∙ s)
    by rest false s (inr i) = let r = rest i in (inr r.0, r.1)
    by rest true s i = let r = rest i in (inr r.0, r.1)
