-- records in order of their homes, as one list and as one list for each home
use Rattle.std.proofs.Common.{◌≡◌, ◌≤◌, ◌<◌, ℕ, zero, suc, List, [], ◌∷◌, ◌++◌, refl, sym, ap, ◌∙◌, Bool, true, false, cond, arith, inl, inr, length, filter, map, nat_le}
use Rattle.std.specs.Prelude.{◌==◌, slice_set}
use Rattle.std.proofs.lemmas.Bool.{eqb-true, cases_lt}
use Rattle.std.specs.List.{AllByRecursion}
use Rattle.std.proofs.lemmas.Bool.Decides.{nat_tests}
use Rattle.std.proofs.lemmas.List.{map-append, append-nil, length-map}
use Rattle.std.proofs.lemmas.Grind.{flat_map-append}
use Rattle.state_forest.specs.declared.record.Record.{Record}
use Rattle.state_forest.specs.Records.{nodes_to}
use Rattle.theory_history.proofs.Basics.{length_nodes}
use Rattle.wire_frames.specs.declared.order.Last.{Last}
use Rattle.wire_frames.specs.FrameFields.{Along}
use Rattle.wire_frames.specs.Encoding.{flat}
use Rattle.wire_frames.specs.Rules.{Context, IsRecord, after, by_home, is_home}

-- no record's home comes before that of an earlier record
abbrev pub Rises : ℕ → List Record → Type 0
Rises low [] = Unit {0}
Rises low (r ∷ rs) = (low ≤ r.home) × Rises r.home rs

abbrev pub AreWithin : ℕ → List Record → Type 0
AreWithin nodes rs = AllByRecursion (λ (r : Record). (1 ≤ r.home) × (r.home ≤ nodes)) rs

abbrev of_home : ℕ → List Record → List Record
of_home home rs = filter (λ (r : Record). r.home == home) rs

abbrev up_to : ℕ → List Record → List Record
up_to most rs = filter (λ (r : Record). nat_le r.home most) rs

low_home : (a n : ℕ) → a ≤ n → nat_le a n ≡ true
low_home a n le = grind (arith, nat_tests)

high_home : (a n : ℕ) → n < a → nat_le a n ≡ false
high_home a n lt = grind (arith, nat_tests)

other_home : (a n : ℕ) → a < n → (a == n) ≡ false
other_home a n lt = grind (arith, nat_tests)

later_home : (a n : ℕ) → n < a → (a == n) ≡ false
later_home a n lt = grind (arith, nat_tests)

own_home : (a : ℕ) → (a == a) ≡ true
own_home a = grind (arith, nat_tests)

-- no record is below the first home
none_low : (most low : ℕ) (rs : List Record) → most < low → Rises low rs → up_to most rs ≡ []
none_low most low [] lt up = refl
none_low most low (r ∷ rs) lt up = rw (high_home r.home most (omega (arith, up.0))) (none_low most r.home rs (omega (arith, up.0)) up.1)

next_home : (most low : ℕ) (rs : List Record) → Rises low rs → up_to most rs ++ of_home (suc most) rs ≡ up_to (suc most) rs
next_home most low [] up = refl
next_home most low (r ∷ rs) up =
    elim (cases_lt r.home (suc most)) [
      | inl lt ↦ rw (low_home r.home most (omega (arith, lt)), other_home r.home (suc most) lt, low_home r.home (suc most) (omega (arith, lt))) (ap (λ (l : List Record). r ∷ l) (next_home most r.home rs up.1))
      | inr le ↦ elim (cases_lt (suc most) r.home) [
        | inl lt ↦ rw (high_home r.home most (omega (arith, lt)), later_home r.home (suc most) lt, high_home r.home (suc most) lt) (next_home most r.home rs up.1)
        | inr ge ↦
            let e : r.home ≡ suc most = omega (arith, le, ge) in
            let none : up_to most rs ≡ [] = none_low most r.home rs (omega (arith, e)) up.1 in
            let rest : of_home (suc most) rs ≡ up_to (suc most) rs = ap (λ (l : List Record). l ++ of_home (suc most) rs) (sym none) ∙ next_home most r.home rs up.1 in
            let mine : (r.home == suc most) ≡ true = rw e (own_home (suc most)) in
            rw (high_home r.home most (omega (arith, e)), mine, low_home r.home (suc most) (omega (arith, e)), none) (ap (λ (l : List Record). r ∷ l) rest)
      ]
    ]

flat_to : (most : ℕ) (rs : List Record) → Rises 1 rs → flat (by_home most rs) ≡ up_to most rs
flat_to zero rs up = sym (none_low 0 1 rs (omega arith) up)
flat_to (suc most) rs up =
    let one : by_home (suc most) rs ≡ by_home most rs ++ of_home (suc most) rs ∷ [] = map-append (λ home. of_home home rs) (nodes_to most) (suc most ∷ []) in
    let last : flat (of_home (suc most) rs ∷ []) ≡ of_home (suc most) rs = append-nil (of_home (suc most) rs) in
    ap flat one ∙ flat_map-append (λ (l : List Record). l) (by_home most rs) (of_home (suc most) rs ∷ [])
    ∙ ap (λ (l : List Record). flat (by_home most rs) ++ l) last
    ∙ ap (λ (l : List Record). l ++ of_home (suc most) rs) (flat_to most rs up)
    ∙ next_home most 1 rs up

all_low : (most : ℕ) (rs : List Record) → AreWithin most rs → up_to most rs ≡ rs
all_low most [] all = refl
all_low most (r ∷ rs) all = rw (low_home r.home most all.0.1) (ap (λ (l : List Record). r ∷ l) (all_low most rs all.1))

pub home_parts : (nodes last home : ℕ) → is_home nodes last home ≡ true → (1 ≤ home) × (home ≤ nodes) × (last ≤ home)
home_parts nodes last home e = (grind (arith, nat_tests), grind (arith, nat_tests), grind (arith, nat_tests))

along_rises : (k : Context) (last : Last) (rs : List Record) → Along (IsRecord k) after last rs → Rises last.home rs
along_rises k last [] f = tt
along_rises k last (r ∷ rs) f = ((home_parts (length k.front) last.home r.home f.0.home).2, along_rises k (after last r) rs f.1)

along_within : (k : Context) (last : Last) (rs : List Record) → Along (IsRecord k) after last rs → AreWithin (length k.front) rs
along_within k last [] f = tt
along_within k last (r ∷ rs) f =
    let h = home_parts (length k.front) last.home r.home f.0.home in
    ((h.0, h.1), along_within k (after last r) rs f.1)

from_one : (nodes : ℕ) (rs : List Record) (low : ℕ) → AreWithin nodes rs → Rises low rs → Rises 1 rs
from_one nodes [] low all up = tt
from_one nodes (r ∷ rs) low all up = (all.0.0, up.1)

-- records split by home and put together again are as before
pub flat_by_home : (k : Context) (last : Last) (rs : List Record) → Along (IsRecord k) after last rs → flat (by_home (length k.front) rs) ≡ rs
flat_by_home k last rs f =
    let all = along_within k last rs f in
    flat_to (length k.front) rs (from_one (length k.front) rs last.home all (along_rises k last rs f)) ∙ all_low (length k.front) rs all

-- ---- one record more

pub length_homes : {X : Type 0} (g : ℕ → X) (n : ℕ) → length (map g (nodes_to n)) ≡ n
length_homes g n = length-map (nodes_to n) g ∙ length_nodes n

set_last : {X : Type 0} (xs : List X) (a b v : X) (i : ℕ) → (length xs ≡ i → b ≡ v) → ((length xs ≡ i → ⊥) → b ≡ a) → slice_set (xs ++ a ∷ []) i v ≡ slice_set xs i v ++ b ∷ []
set_last [] a b v zero here there = ap (λ c. c ∷ []) (sym (here refl))
set_last [] a b v (suc i) here there = ap (λ c. c ∷ []) (sym (there (λ e. absurd (omega arith))))
set_last (x ∷ xs) a b v zero here there = ap (λ c. v ∷ (xs ++ c ∷ [])) (sym (there (λ e. absurd (omega arith))))
set_last (x ∷ xs) a b v (suc i) here there = ap (λ r. x ∷ r) (set_last xs a b v i (λ e. here (ap suc e)) (λ n. there (λ e. n (omega (arith, e)))))

-- if what one home is given changes, the list changes at its place
set_at_home : {X : Type 0} (g h : ℕ → X) (i : ℕ) (v : X) (n : ℕ) → h (suc i) ≡ v → ((k : ℕ) → (k ≡ suc i → ⊥) → h k ≡ g k) → map h (nodes_to n) ≡ slice_set (map g (nodes_to n)) i v
set_at_home g h i v zero e others = refl
set_at_home g h i v (suc n) e others =
    map-append h (nodes_to n) (suc n ∷ [])
    ∙ ap (λ r. r ++ h (suc n) ∷ []) (set_at_home g h i v n e others)
    ∙ sym (set_last (map g (nodes_to n)) (g (suc n)) (h (suc n)) v i
    (λ same. ap (λ k. h (suc k)) (sym (length_homes g n) ∙ same) ∙ e)
    (λ other. others (suc n) (λ same. other (omega (arith, length_homes g n, same)))))
    ∙ ap (λ r. slice_set r i v) (sym (map-append g (nodes_to n) (suc n ∷ [])))

filter_more : (p : Record → Bool) (rs : List Record) (r : Record) → filter p (rs ++ r ∷ []) ≡ filter p rs ++ cond (p r) (r ∷ []) []
filter_more p [] r = refl
filter_more p (x ∷ rs) r = by (p x) (filter_more p rs r)
  where
    by : (b : Bool) → filter p (rs ++ r ∷ []) ≡ filter p rs ++ cond (p r) (r ∷ []) []
        → cond b (x ∷ filter p (rs ++ r ∷ [])) (filter p (rs ++ r ∷ [])) ≡ cond b (x ∷ filter p rs) (filter p rs) ++ cond (p r) (r ∷ []) []
    by true e = ap (λ (l : List Record). x ∷ l) e
    by false e = e

not_own : (a k i : ℕ) → a ≡ suc i → (k ≡ suc i → ⊥) → (a == k) ≡ false
not_own a k i e n = by (a == k) refl
  where
    by : (b : Bool) → (a == k) ≡ b → b ≡ false
    by true h = absurd (n (sym (eqb-true a k h) ∙ e))
    by false h = refl

pub one_more_at_home : (nodes i : ℕ) (rs : List Record) (r : Record) → r.home ≡ suc i → by_home nodes (rs ++ r ∷ []) ≡ slice_set (by_home nodes rs) i (filter (λ (q : Record). q.home == r.home) rs ++ r ∷ [])
one_more_at_home nodes i rs r e =
    set_at_home (λ home. of_home home rs) (λ home. of_home home (rs ++ r ∷ [])) i (of_home r.home rs ++ r ∷ []) nodes
    (let own : (r.home == suc i) ≡ true = rw e (own_home (suc i)) in
    filter_more (λ (q : Record). q.home == suc i) rs r ∙ rw own (ap (λ (h : ℕ). of_home h rs ++ r ∷ []) (sym e)))
    (λ k other.
    filter_more (λ (q : Record). q.home == k) rs r ∙ rw (not_own r.home k i e other) (append-nil (of_home k rs)))
