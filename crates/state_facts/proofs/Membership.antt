-- membership, tests and greatest numbers
use Rattle.std.proofs.Common.{◌≡◌, ◌⊎◌, inl, inr, ◌≤◌, ◌||◌, ℕ, List, [], ◌∷◌, ◌++◌, Bool, true, false, refl, sym, ap, arith, cond, max, filter, map}
use Rattle.std.specs.List.{list_any}
use Rattle.state_facts.specs.Lists.{In, IsInside, IsUnion, most}

pub any_from : {X : Type 0} (p : X → Bool) (xs : List X) (x : X) → In x xs → p x ≡ true → list_any p xs ≡ true
any_from p [] x h e = absurd h
any_from p (y ∷ ys) x (inl s) e = let at : p y ≡ true = rw s at e in rw at refl
any_from p (y ∷ ys) x (inr h) e = let rest : list_any p ys ≡ true = any_from p ys x h e in grind (arith, rest)

pick_any : {X : Type 0} (p : X → Bool) (y : X) (ys : List X) (b : Bool) → p y ≡ b → (list_any p ys ≡ true → (x : X) × In x ys × (p x ≡ true)) → (b || list_any p ys) ≡ true → (x : X) × In x (y ∷ ys) × (p x ≡ true)
pick_any p y ys true at rest e = (y, inl refl, at)
pick_any p y ys false at rest e = let found = rest e in (found.0, inr found.1, found.2)

pub any_gives : {X : Type 0} (p : X → Bool) (xs : List X) → list_any p xs ≡ true → (x : X) × In x xs × (p x ≡ true)
any_gives p [] e = absurd cc
any_gives p (y ∷ ys) e = pick_any p y ys (p y) refl (any_gives p ys) e

-- two tests that are true together are the same
pub same_bools : (a b : Bool) → (a ≡ true → b ≡ true) → (b ≡ true → a ≡ true) → a ≡ b
same_bools true true f g = refl
same_bools true false f g = sym (f refl)
same_bools false true f g = g refl
same_bools false false f g = refl

pub most_bounds : {X : Type 0} (g : X → ℕ) (xs : List X) (x : X) → In x xs → g x ≤ most g xs
most_bounds g [] x h = absurd h
most_bounds g (y ∷ ys) x (inl s) = rw s (omega arith)
most_bounds g (y ∷ ys) x (inr h) = omega (arith, most_bounds g ys x h)

pub most_least : {X : Type 0} (g : X → ℕ) (xs : List X) (n : ℕ) → ((x : X) → In x xs → g x ≤ n) → most g xs ≤ n
most_least g [] n h = omega arith
most_least g (y ∷ ys) n h = omega (arith, h y (inl refl), most_least g ys n (λ x m. h x (inr m)))

-- the greatest number of a union is the greater of those of the two lists
pub most_union : {X : Type 0} (g : X → ℕ) (xs ys zs : List X) → IsUnion xs ys zs → most g zs ≡ max (most g xs) (most g ys)
most_union g xs ys zs u =
    let below : most g zs ≤ max (most g xs) (most g ys) =
    most_least g zs (max (most g xs) (most g ys)) (λ x m. elim (u.only x m) [ inl l ↦ omega (arith, most_bounds g xs x l) | inr r ↦ omega (arith, most_bounds g ys x r) ]) in
    let left : most g xs ≤ most g zs = most_least g xs (most g zs) (λ x m. most_bounds g zs x (u.left x m)) in
    let right : most g ys ≤ most g zs = most_least g ys (most g zs) (λ x m. most_bounds g zs x (u.right x m)) in
    omega arith

or_left : (a b : Bool) → a ≡ true → (a || b) ≡ true
or_left a b e = rw e refl

or_right : (a b : Bool) → b ≡ true → (a || b) ≡ true
or_right true b e = refl
or_right false b e = e

or_cases : (a b : Bool) → (a || b) ≡ true → (a ≡ true) ⊎ (b ≡ true)
or_cases true b e = inl refl
or_cases false b e = inr e

pub any_inside : {X : Type 0} (p : X → Bool) (xs ys : List X) → IsInside xs ys → list_any p xs ≡ true → list_any p ys ≡ true
any_inside p xs ys s e = let found = any_gives p xs e in any_from p ys found.0 (s found.0 found.1) found.2

-- a test finds an element of a union exactly if it finds one in either list
pub any_union : {X : Type 0} (p : X → Bool) (xs ys zs : List X) → IsUnion xs ys zs → list_any p zs ≡ (list_any p xs || list_any p ys)
any_union p xs ys zs u =
    same_bools (list_any p zs) (list_any p xs || list_any p ys)
    (λ e. let found = any_gives p zs e in
    elim (u.only found.0 found.1) [ inl l ↦ or_left (list_any p xs) (list_any p ys) (any_from p xs found.0 l found.2) | inr r ↦ or_right (list_any p xs) (list_any p ys) (any_from p ys found.0 r found.2) ])
    (λ e. elim (or_cases (list_any p xs) (list_any p ys) e) [ inl l ↦ any_inside p xs zs u.left l | inr r ↦ any_inside p ys zs u.right r ])

in_kept : {X : Type 0} (x y : X) (ys : List X) (b : Bool) → (x ≡ y → b ≡ true) → (x ≡ y) ⊎ In x ys → In x (cond b (y ∷ ys) ys)
in_kept x y ys true at m = m
in_kept x y ys false at (inl s) = absurd (let no : false ≡ true = at s in cc)
in_kept x y ys false at (inr m) = m

pub in_filter : {X : Type 0} (p : X → Bool) (xs : List X) (x : X) → In x xs → p x ≡ true → In x (filter p xs)
in_filter p [] x h e = h
in_filter p (y ∷ ys) x (inl s) e = in_kept x y (filter p ys) (p y) (λ _. rw s at e) (inl s)
in_filter p (y ∷ ys) x (inr m) e = in_kept x y (filter p ys) (p y) (λ s. rw s at e) (inr (in_filter p ys x m e))

kept_in : {X : Type 0} (p : X → Bool) (x y : X) (ys : List X) (b : Bool) → p y ≡ b → (In x (filter p ys) → In x ys × (p x ≡ true)) → In x (cond b (y ∷ filter p ys) (filter p ys)) → In x (y ∷ ys) × (p x ≡ true)
kept_in p x y ys true at rest (inl s) = (inl s, rw s at)
kept_in p x y ys true at rest (inr m) = let r = rest m in (inr r.0, r.1)
kept_in p x y ys false at rest m = let r = rest m in (inr r.0, r.1)

pub filter_in : {X : Type 0} (p : X → Bool) (xs : List X) (x : X) → In x (filter p xs) → In x xs × (p x ≡ true)
filter_in p [] x h = absurd h
filter_in p (y ∷ ys) x h = kept_in p x y ys (p y) refl (filter_in p ys x) h

pub in_map : {X Y : Type 0} (f : X → Y) (xs : List X) (x : X) → In x xs → In (f x) (map f xs)
in_map f [] x h = h
in_map f (y ∷ ys) x (inl s) = inl (ap f s)
in_map f (y ∷ ys) x (inr m) = inr (in_map f ys x m)

pub map_in : {X Y : Type 0} (f : X → Y) (xs : List X) (y : Y) → In y (map f xs) → (x : X) × In x xs × (y ≡ f x)
map_in f [] y h = absurd h
map_in f (x ∷ xs) y (inl s) = (x, inl refl, s)
map_in f (x ∷ xs) y (inr m) = let r = map_in f xs y m in (r.0, inr r.1, r.2)

pub in_append : {X : Type 0} (xs ys : List X) (x : X) → In x (xs ++ ys) → In x xs ⊎ In x ys
in_append [] ys x h = inr h
in_append (z ∷ xs) ys x (inl s) = inl (inl s)
in_append (z ∷ xs) ys x (inr m) = elim (in_append xs ys x m) [ inl l ↦ inl (inr l) | inr r ↦ inr r ]

-- tests that agree on each element find one or none alike
pub any_agree : {X : Type 0} (p q : X → Bool) (xs : List X) → ((x : X) → In x xs → p x ≡ q x) → list_any p xs ≡ list_any q xs
any_agree p q [] h = refl
any_agree p q (x ∷ xs) h = let at = h x (inl refl) in let rest : list_any p xs ≡ list_any q xs = any_agree p q xs (λ y m. h y (inr m)) in cc
