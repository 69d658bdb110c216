-- lists of what is told of each home
use Rattle.std.proofs.Common.{◌≡◌, ◌≤◌, ◌+◌, ℕ, zero, suc, List, [], ◌∷◌, ◌++◌, refl, sym, ap, ◌∙◌, arith, length, filter, get_or, Option, Some, Result, Ok, Err, Bool, true, false, cond}
use Rattle.std.specs.Prelude.{◌==◌, OnOk, slice_get, slice_set}
use Rattle.std.proofs.lemmas.List.{map-append, length-map}
use Rattle.state_forest.specs.declared.merging.Told.{Told}
use Rattle.state_forest.specs.declared.record.Record.{Record}
use Rattle.state_forest.specs.RecordMerges.{held_numbers}
use Rattle.state_forest.specs.Records.{nodes_to}
use Rattle.theory_history.specs.Merging.{AreToldFrom}
use Rattle.wire_frames.specs.declared.order.Last.{Last}
use Rattle.wire_frames.specs.Rules.{after, by_home}
use Rattle.wire_frames.proofs.HomeLists.{length_homes}
use Rattle.wire_frames.specs.Order.{AreInOrder, Follows, lists, records_told}

pub told_more : (k : ℕ) (ts : List Told) (t : Told) → AreToldFrom k ts → t.records.home ≡ k + length ts → AreToldFrom k (ts ++ t ∷ [])
told_more k [] t f e = (omega (arith, e), tt)
told_more k (x ∷ ts) t f e = (f.0, told_more (k + 1) ts t f.1 (omega (arith, e)))

next : (n : ℕ) → suc n ≡ n + 1
next n = omega arith

pub none_more : (n : ℕ) (ts : List Told) (t : Told) → records_told ts ≡ by_home n [] → t.records.records ≡ [] → records_told (ts ++ t ∷ []) ≡ by_home (n + 1) []
none_more n ts t f e =
    map-append (λ (told : Told). told.records.records) ts (t ∷ [])
    ∙ ap (λ (l : List (List Record)). l ++ t.records.records ∷ []) f
    ∙ ap (λ (r : List Record). by_home n [] ++ r ∷ []) e
    ∙ sym (map-append (λ (home : ℕ). []) (nodes_to n) (suc n ∷ []))
    ∙ ap (λ (m : ℕ). by_home m []) (next n)

pub lists_more : (ts : List Told) (t : Told) → lists (ts ++ t ∷ []) ≡ lists ts ++ held_numbers t.held ∷ []
lists_more ts t = map-append (λ (told : Told). held_numbers told.held) ts (t ∷ [])

-- the last of some records
abbrev pub last_of : Last → List Record → Last
last_of last [] = last
last_of last (r ∷ rs) = last_of (after last r) rs

pub in_order_more : (nodes : ℕ) (last : Last) (rs : List Record) (r : Record) → AreInOrder nodes last rs → Follows nodes (last_of last rs) r → AreInOrder nodes last (rs ++ r ∷ [])
in_order_more nodes last [] r f g = (g, tt)
in_order_more nodes last (x ∷ rs) r f g = (f.0, in_order_more nodes (after last x) rs r f.1 g)

pub last_more : (last : Last) (rs : List Record) (r : Record) → last_of last (rs ++ r ∷ []) ≡ after (last_of last rs) r
last_more last [] r = refl
last_more last (x ∷ rs) r = last_more (after last x) rs r

few_by : (b : Bool) (n i : ℕ) → n ≤ i → cond b (n + 1) 1 ≤ i + 1
few_by true n i le = omega arith
few_by false n i le = omega arith

pub few_more : (last : Last) (r : Record) (i : ℕ) → last.count ≤ i → (after last r).count ≤ i + 1
few_more last r i le = few_by (last.home == r.home) last.count i le

-- ---- the records of one home change

pub home_there : (k : ℕ) (ts : List Told) (i : ℕ) (t : Told) → AreToldFrom k ts → slice_get ts i ≡ Some t → t.records.home ≡ k + i
home_there k [] i t f e = absurd cc
home_there k (x ∷ ts) zero t f e = let same : x ≡ t = cc in omega (arith, f.0, ap (λ (y : Told). y.records.home) same)
home_there k (x ∷ ts) (suc i) t f e = omega (arith, home_there (k + 1) ts i t f.1 e)

pub told_set : (k : ℕ) (ts : List Told) (i : ℕ) (t t' : Told) → AreToldFrom k ts → slice_get ts i ≡ Some t → t'.records.home ≡ t.records.home → AreToldFrom k (slice_set ts i t')
told_set k [] i t t' f e h = tt
told_set k (x ∷ ts) zero t t' f e h = let same : x ≡ t = cc in (omega (arith, f.0, h, ap (λ (y : Told). y.records.home) same), f.1)
told_set k (x ∷ ts) (suc i) t t' f e h = (f.0, told_set (k + 1) ts i t t' f.1 e h)

pub lists_set : (ts : List Told) (i : ℕ) (t t' : Told) → slice_get ts i ≡ Some t → t'.held ≡ t.held → lists (slice_set ts i t') ≡ lists ts
lists_set [] i t t' e h = refl
lists_set (x ∷ ts) zero t t' e h = let same : x ≡ t = cc in
    ap (λ o. held_numbers o ∷ lists ts) (h ∙ ap (λ (y : Told). y.held) (sym same))
lists_set (x ∷ ts) (suc i) t t' e h = ap (λ l. held_numbers x.held ∷ l) (lists_set ts i t t' e h)

pub records_there : (ts : List Told) (i : ℕ) (t : Told) → slice_get ts i ≡ Some t → get_or (records_told ts) i [] ≡ t.records.records
records_there [] i t e = absurd cc
records_there (x ∷ ts) zero t e = let same : x ≡ t = cc in ap (λ (y : Told). y.records.records) same
records_there (x ∷ ts) (suc i) t e = records_there ts i t e

pub records_set : (ts : List Told) (i : ℕ) (t' : Told) (rs : List Record) → t'.records.records ≡ rs → records_told (slice_set ts i t') ≡ slice_set (records_told ts) i rs
records_set [] i t' rs h = refl
records_set (x ∷ ts) zero t' rs h = ap (λ l. l ∷ records_told ts) h
records_set (x ∷ ts) (suc i) t' rs h = ap (λ l. x.records.records ∷ l) (records_set ts i t' rs h)

pub on_ok : {T E : Type 0} (r : Result T E) (P Q : Type 0) → (P → Q) → OnOk r P → OnOk r Q
on_ok (Ok x) P Q f h = f h
on_ok (Err e) P Q f h = tt

pub on_both : {T E : Type 0} (r : Result T E) (P Q R : Type 0) → (P → Q → R) → OnOk r P → OnOk r Q → OnOk r R
on_both (Ok x) P Q R f h g = f h g
on_both (Err e) P Q R f h g = tt

pub on_three : {T E : Type 0} (r : Result T E) (P Q R X : Type 0) → (P → Q → R → X) → OnOk r P → OnOk r Q → OnOk r R → OnOk r X
on_three (Ok x) P Q R X f h g k = f h g k
on_three (Err e) P Q R X f h g k = tt

-- there are as many homes as nodes
pub as_many : (n : ℕ) (ts : List Told) (front : List Record) → records_told ts ≡ by_home n front → length ts ≡ n
as_many n ts front e =
    sym (length-map ts (λ (told : Told). told.records.records)) ∙ ap (λ (l : List (List Record)). length l) e ∙ length_homes (λ home. filter (λ (r : Record). r.home == home) front) n

pub same_count : (ts ts' : List Told) → lists ts ≡ lists ts' → length ts ≡ length ts'
same_count ts ts' e =
    sym (length-map ts (λ (told : Told). held_numbers told.held)) ∙ ap (λ (l : List (Option (List ℕ))). length l) e ∙ length-map ts' (λ (told : Told). held_numbers told.held)
