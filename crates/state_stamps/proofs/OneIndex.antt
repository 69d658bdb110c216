-- an index and the stamps that are known
use Rattle.std.proofs.Common.{◌≡◌, ◌↔◌, ◌⊎◌, inl, inr, ◌∷◌, ◌≤◌, ◌<◌, ℕ, List, [], refl, sym, ap, ◌∙◌, subst, Bool, true, false, cond, arith, filter, length, nat_lt, IfSome, Option}
use Rattle.std.proofs.lemmas.Bool.Decides.{nat_tests}
use Rattle.std.specs.List.{AllByRecursion}
use Rattle.state_ids.specs.Ids.{Id}
use Rattle.state_stamps.specs.declared.stamp_entry.StampEntry.{StampEntry}
use Rattle.state_stamps.specs.Entries.{In, id_of, IsRising, is_before}
use Rattle.state_stamps.specs.Indexes.{AreIndexesOf, IsIndexOf, entries_at, stamp_at}
use Rattle.state_stamps.proofs.Orders.{not_itself, one_way}

each_of : (P : StampEntry → Type 0) (xs : List StampEntry) (e : StampEntry) → AllByRecursion P xs → In e xs → P e
each_of P [] e h i = absurd i
each_of P (x ∷ xs) e h (inl s) = subst P (sym s) h.0
each_of P (x ∷ xs) e h (inr i) = each_of P xs e h.1 i

not_both : (x y : StampEntry) → is_before x y ≡ true → is_before y x ≡ true → ⊥
not_both x y e f = let one : is_before y x ≡ false = one_way x y e in absurd cc

not_self : (x y : StampEntry) → is_before x y ≡ true → y ≡ x → ⊥
not_self x y e s = let itself : is_before x x ≡ false = not_itself x in let here : is_before x y ≡ is_before x x = ap (λ (z : StampEntry). is_before x z) s in absurd cc

-- if two entries are each first in the same entries, neither comes before the other, so they are
-- one
first : (x y : StampEntry) (xs ys : List StampEntry) → IsRising (x ∷ xs) → IsRising (y ∷ ys) → (x ≡ y) ⊎ In x ys → (y ≡ x) ⊎ In y xs → x ≡ y
first x y xs ys g h (inl s) j = s
first x y xs ys g h (inr i) (inl s) = sym s
first x y xs ys g h (inr i) (inr j) = absurd (not_both x y (each_of (λ z. is_before x z ≡ true) xs y g.0 j) (each_of (λ z. is_before y z ≡ true) ys x h.0 i))

behind : (x y : StampEntry) (xs ys : List StampEntry) → x ≡ y → IsRising (x ∷ xs) → (e : StampEntry) → In e xs → (e ≡ y) ⊎ In e ys → In e ys
behind x y xs ys s h e i (inl is) = absurd (not_self x e (each_of (λ z. is_before x z ≡ true) xs e h.0 i) (is ∙ sym s))
behind x y xs ys s h e i (inr j) = j

pub same_entries : (xs ys : List StampEntry) → IsRising xs → IsRising ys → ((e : StampEntry) → In e xs → In e ys) → ((e : StampEntry) → In e ys → In e xs) → xs ≡ ys
same_entries [] [] g h there back = refl
same_entries [] (y ∷ ys) g h there back = absurd (back y (inl refl))
same_entries (x ∷ xs) [] g h there back = absurd (there x (inl refl))
same_entries (x ∷ xs) (y ∷ ys) g h there back =
    let same : x ≡ y = first x y xs ys g h (there x (inl refl)) (back y (inl refl)) in
    let rest : xs ≡ ys = same_entries xs ys g.1 h.1
    (λ e i. behind x y xs ys same g e i (there e (inr i)))
    (λ e i. behind y x ys xs (sym same) h e i (back e (inr i))) in
    ap (λ (z : StampEntry). z ∷ xs) same ∙ ap (λ (zs : List StampEntry). y ∷ zs) rest

pub one_index : (origin : ℕ) (known : Id → Option (List ℕ)) (xs ys : List StampEntry) → IsIndexOf origin xs known → IsIndexOf origin ys known → xs ≡ ys
one_index origin known xs ys a b = same_entries xs ys a.rising b.rising (λ e i. (b.held e).1 ((a.held e).0 i)) (λ e i. (a.held e).1 ((b.held e).0 i))

pub by_each : (origins : List (List StampEntry)) (known other : Id → Option (List ℕ)) → ((l : Id) → known l ≡ other l) → AreIndexesOf origins known → AreIndexesOf origins other
by_each origins known other same all = record { each = each; few = λ l. subst (λ (v : Option (List ℕ)). IfSome v (λ ns. length ns ≤ 8)) (same l) (all.few l) }
  where
    each : (origin : ℕ) → 1 ≤ origin → origin ≤ length origins → IsIndexOf origin (entries_at origins origin) other
    each origin some within =
        let h = all.each origin some within in
        let at = λ (l : Id). ap (λ (v : Option (List ℕ)). stamp_at v origin) (same l) in
        record {
          rising = h.rising;
          held = λ e. ((λ i. let k = (h.held e).0 i in (k.0, sym (at (id_of e)) ∙ k.1)), (λ k. (h.held e).1 (k.0, at (id_of e) ∙ k.1)));
        }

in_filter : (t : StampEntry → Bool) (es : List StampEntry) (e : StampEntry) → In e (filter t es) → In e es × (t e ≡ true)
in_filter t [] e i = absurd i
in_filter t (q ∷ qs) e i = by (in_filter t qs e) (t q) refl i
  where
    by : (In e (filter t qs) → In e qs × (t e ≡ true)) → (b : Bool) → t q ≡ b → In e (cond b (q ∷ filter t qs) (filter t qs)) → ((e ≡ q) ⊎ In e qs) × (t e ≡ true)
    by rest true s (inl is) = (inl is, ap t is ∙ s)
    by rest true s (inr i) = let r = rest i in (inr r.0, r.1)
    by rest false s i = let r = rest i in (inr r.0, r.1)

filter_in : (t : StampEntry → Bool) (es : List StampEntry) (e : StampEntry) → In e es → t e ≡ true → In e (filter t es)
filter_in t [] e i p = absurd i
filter_in t (q ∷ qs) e i p = by (filter_in t qs e) (t q) refl i
  where
    by : (In e qs → t e ≡ true → In e (filter t qs)) → (b : Bool) → t q ≡ b → (e ≡ q) ⊎ In e qs → In e (cond b (q ∷ filter t qs) (filter t qs))
    by rest true s (inl is) = inl is
    by rest true s (inr i) = inr (rest i p)
    by rest false s (inl is) = absurd (let here : t e ≡ t q = ap t is in cc)
    by rest false s (inr i) = rest i p

-- the entries beyond a count are those of the greater stamps
pub beyond_is : (origin count : ℕ) (es : List StampEntry) (known : Id → Option (List ℕ)) → IsIndexOf origin es known → (e : StampEntry) → In e (filter (λ (q : StampEntry). nat_lt count q.stamp) es) ↔ ((count < e.stamp) × (stamp_at (known (id_of e)) origin ≡ e.stamp))
beyond_is origin count es known h e = (
  (λ i. let r = in_filter (λ q. nat_lt count q.stamp) es e i in (less e.stamp r.1, ((h.held e).0 r.0).1)),
  (λ k. filter_in (λ q. nat_lt count q.stamp) es e ((h.held e).1 (omega (arith, k.0), k.1)) (tested e.stamp k.0)),
)
  where
    less : (n : ℕ) → nat_lt count n ≡ true → count < n
    less n t = grind (arith, nat_tests)

    tested : (n : ℕ) → count < n → nat_lt count n ≡ true
    tested n l = grind (arith, nat_tests)
