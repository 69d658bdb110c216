-- What is said word by word.
use Rattle.std.proofs.Common.{◌≡◌, ◌≢◌, ◌<◌, ◌+◌, ℕ, suc, zero, List, [], ◌∷◌, ◌++◌, map, get_or, take, length, sym, refl, ap, ◌∙◌, subst, arith, add-one, length-take-le}
use Rattle.std.specs.List.{AllPairs, AllZip, Contains}

pub length_map : {X A : Type 0} (f : X → A) (xs : List X) → length (map f xs) ≡ length xs
length_map f [] = refl
length_map f (x ∷ xs) = ap suc (length_map f xs)

-- what stands at a place
pub map_at : {X A : Type 0} (f : X → A) (xs : List X) (i : ℕ) (d : A) (x : X) → i < length xs → x ≡ get_or xs i x → get_or (map f xs) i d ≡ f x
map_at f [] i d x inside e = absurd (omega (arith, inside))
map_at f (y ∷ xs) zero d x inside e = ap f (sym e)
map_at f (y ∷ xs) (suc i) d x inside e = map_at f xs i d x (omega (arith, inside)) e

next : {X Y A B : Type 0} (R : A → B → Type 0) (f : X → A) (g : Y → B) (xs : List X) (ys : List Y) (i : ℕ) (x : X) (y : Y) → i < length xs → x ≡ get_or xs i x → AllZip R (map f (take i xs)) (map g ys) → R (f x) (g y) → AllZip R (map f (take (suc i) xs)) (map g (ys ++ y ∷ []))
next R f g [] ys i x y inside e so here = absurd (omega (arith, inside))
next R f g (z ∷ xs) [] zero x y inside e so here = (subst (λ k. R (f k) (g y)) e here, tt)
next R f g (z ∷ xs) (w ∷ ys) zero x y inside e so here = absurd so
next R f g (z ∷ xs) [] (suc i) x y inside e so here = absurd so
next R f g (z ∷ xs) (w ∷ ys) (suc i) x y inside e so here = (so.0, next R f g xs ys i x y (omega (arith, inside)) e so.1 here)

-- one more says one more
pub one_more : {X Y A B : Type 0} (R : A → B → Type 0) (f : X → A) (g : Y → B) (xs : List X) (ys : List Y) (i : ℕ) (x : X) (y : Y) → i < length xs → x ≡ get_or xs i x → AllZip R (map f (take i xs)) (map g ys) → R (f x) (g y) → AllZip R (map f (take (i + 1) xs)) (map g (ys ++ y ∷ []))
one_more R f g xs ys i x y inside e so here = rw add-one (next R f g xs ys i x y inside e so here)

-- each says something
pub each : {X A B : Type 0} (R : A → B → Type 0) (f : X → A) (xs : List X) (ys : List B) (i : ℕ) (x : X) → i < length xs → x ≡ get_or xs i x → AllZip R (map f xs) ys → (y : B) × R (f x) y
each R f [] ys i x inside e so = absurd (omega (arith, inside))
each R f (z ∷ xs) [] i x inside e so = absurd so
each R f (z ∷ xs) (y ∷ ys) zero x inside e so = (y, subst (λ k. R (f k) y) (sym e) so.0)
each R f (z ∷ xs) (y ∷ ys) (suc i) x inside e so = each R f xs ys i x (omega (arith, inside)) e so.1

pub as_many : {A B : Type 0} (R : A → B → Type 0) (xs : List A) (ys : List B) → AllZip R xs ys → length xs ≡ length ys
as_many R [] [] so = refl
as_many R [] (y ∷ ys) so = absurd so
as_many R (x ∷ xs) [] so = absurd so
as_many R (x ∷ xs) (y ∷ ys) so = ap suc (as_many R xs ys so.1)

default : {A : Type 0} (xs : List A) (i : ℕ) (d e : A) → i < length xs → get_or xs i d ≡ get_or xs i e
default [] i d e inside = absurd (omega (arith, inside))
default (x ∷ xs) zero d e inside = refl
default (x ∷ xs) (suc i) d e inside = default xs i d e (omega (arith, inside))

in_front : {X A : Type 0} (f : X → A) (xs : List X) (i k : ℕ) (d : A) → k < i → get_or (map f (take i xs)) k d ≡ get_or (map f xs) k d
in_front f [] zero k d below = refl
in_front f [] (suc i) k d below = refl
in_front f (x ∷ xs) zero k d below = absurd (omega (arith, below))
in_front f (x ∷ xs) (suc i) zero d below = refl
in_front f (x ∷ xs) (suc i) (suc k) d below = in_front f xs i k d (omega (arith, below))

as_long : {X A : Type 0} (f : X → A) (xs : List X) (i : ℕ) → i < length xs → length (map f (take i xs)) ≡ i
as_long f xs i inside = length_map f (take i xs) ∙ length-take-le i xs (omega arith)

-- what stands before stands twice
pub twice : {X A : Type 0} (f : X → A) (xs : List X) (place : ℕ) (x : X) (word : A) → place < length xs → x ≡ get_or xs place x → word ≡ f x → Contains (map f (take place xs)) word → AllPairs (λ v w. v ≢ w) (map f xs) → ⊥
twice f xs place x word inside e is (k, below, same) once =
    let before : k < place = omega (arith, as_long f xs place inside) in
    once k place word before (omega (arith, length_map f xs)) (sym (in_front f xs place k word before) ∙ same ∙ is ∙ sym (map_at f xs place word x inside e))

-- what doesn't is another than each before
pub another : {X A : Type 0} (f : X → A) (xs : List X) (place : ℕ) (x : X) (word : A) → place < length xs → x ≡ get_or xs place x → word ≡ f x → (Contains (map f (take place xs)) word → ⊥) → (i : ℕ) (d : A) → i < place → get_or (map f xs) i d ≡ get_or (map f xs) place d → ⊥
another f xs place x word inside e is new i d below same =
    new (
      i,
      omega (arith, as_long f xs place inside),
      in_front f xs place i word below ∙ default (map f xs) i word d (omega (arith, length_map f xs)) ∙ same ∙ map_at f xs place d x inside e ∙ sym is,
    )
