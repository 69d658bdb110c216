-- lists that are gathered record by record
use Rattle.std.proofs.Common.{◌≡◌, ◌⊎◌, inl, inr, ◌<◌, ◌++◌, ℕ, List, [], ◌∷◌, map, refl, sym, ap, subst, ◌∙◌, Bool, true, false, arith}
use Rattle.std.specs.List.{AllByRecursion}
use Rattle.state_facts.specs.Lists.{In}
use Rattle.state_facts.proofs.Membership.{in_append, in_map, map_in}
use Rattle.state_forest.specs.declared.record.Record.{Record}
use Rattle.state_forest.specs.Dues.{AreAll, IsOrdered}
use Rattle.state_forest.proofs.Bools.{all_in}

-- the element has the property and belongs to one of these records
abbrev pub Owned : {X : Type 0} → (X → Type 0) → (X → ℕ) → List Record → X → Type 0
Owned P owner rs x = P x × ((r : Record) × In r rs × (owner x ≡ r.num))

append_left : {X : Type 0} (xs ys : List X) (x : X) → In x xs → In x (xs ++ ys)
append_left [] ys x i = absurd i
append_left (z ∷ xs) ys x (inl s) = inl s
append_left (z ∷ xs) ys x (inr i) = inr (append_left xs ys x i)

append_right : {X : Type 0} (xs ys : List X) (x : X) → In x ys → In x (xs ++ ys)
append_right [] ys x i = i
append_right (z ∷ xs) ys x i = inr (append_right xs ys x i)

each_append : {X : Type 0} (P : X → Type 0) (xs ys : List X) → AllByRecursion P xs → ((y : X) → In y ys → P y) → AllByRecursion P (xs ++ ys)
each_append P [] [] h rest = tt
each_append P [] (y ∷ ys) h rest = (rest y (inl refl), each_append P [] ys tt (λ z i. rest z (inr i)))
each_append P (x ∷ xs) ys h rest = (h.0, each_append P xs ys h.1 rest)

-- one ordered list after another is ordered, if all of the first come before all of the second
pub ordered_append : {X : Type 0} (before : X → X → Bool) (xs ys : List X) → IsOrdered before xs → IsOrdered before ys → ((x y : X) → In x xs → In y ys → before x y ≡ true) → IsOrdered before (xs ++ ys)
ordered_append before [] ys h k across = k
ordered_append before (x ∷ xs) ys h k across =
    (each_append (λ y. before x y ≡ true) xs ys h.0 (λ y i. across x y (inl refl) i), ordered_append before xs ys h.1 k (λ u y i j. across u y (inr i) j))

-- the list with the elements of one more record, which has a greater number
pub one_record_more : {X : Type 0} (P : X → Type 0) (owner : X → ℕ) (before : X → X → Bool) (rs : List Record) (r : Record) (xs ys : List X) → ((x y : X) → owner x < owner y → before x y ≡ true) → ((q : Record) → In q rs → q.num < r.num) → AreAll (Owned P owner rs) before xs → AreAll (λ x. P x × (owner x ≡ r.num)) before ys → AreAll (Owned P owner (rs ++ r ∷ [])) before (xs ++ ys)
one_record_more {X} P owner before rs r xs ys apart lesser h k = record { all = all; only = only; order = ordered_append before xs ys h.order k.order across }
  where
    all : (x : X) → Owned P owner (rs ++ r ∷ []) x → In x (xs ++ ys)
    all x p = elim (in_append rs (r ∷ []) p.1.0 p.1.1) [ inl i ↦ append_left xs ys x (h.all x (p.0, (p.1.0, i, p.1.2))) | inr i ↦ append_right xs ys x (k.all x (p.0, p.1.2 ∙ last p.1.0 i)) ]
      where
        last : (q : Record) → In q (r ∷ []) → q.num ≡ r.num
        last q (inl same) = ap (λ (y : Record). y.num) same
        last q (inr none) = absurd none

    only : (x : X) → In x (xs ++ ys) → Owned P owner (rs ++ r ∷ []) x
    only x i = elim (in_append xs ys x i) [ inl j ↦ earlier (h.only x j) | inr j ↦ here (k.only x j) ]
      where
        earlier : Owned P owner rs x → Owned P owner (rs ++ r ∷ []) x
        earlier p = (p.0, (p.1.0, append_left rs (r ∷ []) p.1.0 p.1.1, p.1.2))

        here : P x × (owner x ≡ r.num) → Owned P owner (rs ++ r ∷ []) x
        here p = (p.0, (r, append_right rs (r ∷ []) r (inl refl), p.1))

    across : (x y : X) → In x xs → In y ys → before x y ≡ true
    across x y i j =
        let p = h.only x i in
        let q = k.only y j in
        let less = lesser p.1.0 p.1.1 in
        apart x y (omega (arith, less, p.1.2, q.1))

-- the list gathered from all records holds all elements
pub of_all : {X : Type 0} (P : X → Type 0) (owner : X → ℕ) (before : X → X → Bool) (rs : List Record) (xs : List X) → ((x : X) → P x → (r : Record) × In r rs × (owner x ≡ r.num)) → AreAll (Owned P owner rs) before xs → AreAll P before xs
of_all P owner before rs xs owned h = record { all = λ x p. h.all x (p, owned x p); only = λ x i. (h.only x i).0; order = h.order }

-- For callers that join such lists

-- one list after another, where all of the first come before all of the second
pub all_append : {X : Type 0} (P Q : X → Type 0) (before : X → X → Bool) (xs ys : List X) → ((x y : X) → P x → Q y → before x y ≡ true) → AreAll P before xs → AreAll Q before ys → AreAll (λ x. P x ⊎ Q x) before (xs ++ ys)
all_append P Q before xs ys apart h k =
    record {
      all = λ x p. elim p [ inl here ↦ append_left xs ys x (h.all x here) | inr there ↦ append_right xs ys x (k.all x there) ];
      only = λ x i. elim (in_append xs ys x i) [ inl j ↦ inl (h.only x j) | inr j ↦ inr (k.only x j) ];
      order = ordered_append before xs ys h.order k.order (λ x y i j. apart x y (h.only x i) (k.only y j));
    }

ordered_map : {X Y : Type 0} (f : X → Y) (P : X → Type 0) (before : X → X → Bool) (behind : Y → Y → Bool) (xs : List X) → ((x y : X) → P x → P y → before x y ≡ true → behind (f x) (f y) ≡ true) → ((x : X) → In x xs → P x) → IsOrdered before xs → IsOrdered behind (map f xs)
ordered_map f P before behind [] kept only h = tt
ordered_map {X} {Y} f P before behind (x ∷ xs) kept only h = (each xs (λ y i. only y (inr i)) h.0, ordered_map f P before behind xs kept (λ y i. only y (inr i)) h.1)
  where
    each : (ys : List X) → ((y : X) → In y ys → P y) → AllByRecursion (λ y. before x y ≡ true) ys → AllByRecursion (λ y. behind (f x) y ≡ true) (map f ys)
    each [] all t = tt
    each (y ∷ ys) all t = (kept x y (only x (inl refl)) (all y (inl refl)) t.0, each ys (λ z i. all z (inr i)) t.1)

-- the elements of such a list are each mapped to something else, which keeps the order
pub all_map : {X Y : Type 0} (f : X → Y) (P : X → Type 0) (Q : Y → Type 0) (before : X → X → Bool) (behind : Y → Y → Bool) (xs : List X) → ((x : X) → P x → Q (f x)) → ((y : Y) → Q y → (x : X) × P x × (y ≡ f x)) → ((x y : X) → P x → P y → before x y ≡ true → behind (f x) (f y) ≡ true) → AreAll P before xs → AreAll Q behind (map f xs)
all_map {X} {Y} f P Q before behind xs there back kept h = record { all = all; only = only; order = ordered_map f P before behind xs kept h.only h.order }
  where
    all : (y : Y) → Q y → In y (map f xs)
    all y q = let made = back y q in subst (λ (z : Y). In z (map f xs)) (sym made.2) (in_map f xs made.0 (h.all made.0 made.1))

    only : (y : Y) → In y (map f xs) → Q y
    only y i = let made = map_in f xs y i in subst Q (sym made.2) (there made.0 (h.only made.0 made.1))

-- two lists of all that pass, in order, are equal
pub one_list : {X : Type 0} (P : X → Type 0) (before : X → X → Bool) (xs ys : List X) → ((x y : X) → before x y ≡ true → before y x ≡ false) → AreAll P before xs → AreAll P before ys → xs ≡ ys
one_list P before [] [] one_way h k = refl
one_list P before [] (y ∷ ys) one_way h k = absurd (h.all y (k.only y (inl refl)))
one_list P before (x ∷ xs) [] one_way h k = absurd (k.all x (h.only x (inl refl)))
one_list {X} P before (x ∷ xs) (y ∷ ys) one_way h k = ap (λ z. z ∷ xs) first ∙ ap (λ zs. y ∷ zs) (one_list (λ z. P z × (z ≡ x → ⊥)) before xs ys one_way (rest xs h) (rest ys (subst (λ (z : X). AreAll P before (z ∷ ys)) (sym first) k)))
  where
    both : (a b : X) → before a b ≡ true → before b a ≡ true → ⊥
    both a b e f = let g : before b a ≡ false = one_way a b e in cc

    first : x ≡ y
    first = elim (k.all x (h.only x (inl refl))) [ inl same ↦ same | inr i ↦ elim (h.all y (k.only y (inl refl))) [ inl same ↦ sym same | inr j ↦ absurd (both y x (all_in (λ z. before y z ≡ true) ys k.order.0 x i) (all_in (λ z. before x z ≡ true) xs h.order.0 y j)) ] ]

    rest : (zs : List X) → AreAll P before (x ∷ zs) → AreAll (λ z. P z × (z ≡ x → ⊥)) before zs
    rest zs g = record {
      all = λ z p. elim (g.all z p.0) [ inl s ↦ absurd (p.1 s) | inr i ↦ i ];
      only = λ z i. (g.only z (inr i), λ s. both x x (self z i s) (self z i s));
      order = g.order.1;
    }
      where
        self : (z : X) → In z zs → z ≡ x → before x x ≡ true
        self z i s = ap (before x) (sym s) ∙ all_in (λ u. before x u ≡ true) zs g.order.0 z i
