-- what is told after one more LRA is asked for
use Rattle.std.proofs.Common.{◌≡◌, ◌≤◌, ◌+◌, ◌-◌, ◌==◌, ◌||◌, ℕ, zero, suc, List, [], ◌∷◌, refl, sym, ap, subst, ◌∙◌, Bool, true, false, cond, arith, Option, Some, None, find, get_or, length, map}
use Rattle.std.specs.Prelude.{slice_get, slice_set}
use Rattle.std.specs.List.{AllByRecursion}
use Rattle.std.proofs.lemmas.Bool.Decides.{nat_tests}
use Rattle.state_ids.specs.Ids.{Id, same_id}
use Rattle.state_forest.specs.declared.merging.Told.{Told}
use Rattle.state_forest.specs.declared.record.Record.{Record}
use Rattle.state_forest.specs.Forests.{AreOf, HomeRecords, is_of}
use Rattle.state_forest.specs.Places.{put_record}
use Rattle.state_forest.proofs.NumberedMembers.{same_is}
use Rattle.state_forest.proofs.Puts.{put_find}
use Rattle.state_replica.specs.Replicas.{AreHomesFrom}
use Rattle.wire_frames.specs.Telling.{AreHomes, AreTold, homes_told, record_in, told_too}
use Rattle.wire_frames.proofs.ToldLists.{lists_set}

-- Of one LRA

-- an LRA that is not asked for is told as before
pub as_before : (kept told : Option Record) → told_too false kept told ≡ told
as_before kept None = refl
as_before kept (Some r) = refl

-- an LRA that is asked for twice is told once
pub asked_twice : (a b : Bool) (kept told : Option Record) → told_too b kept (told_too a kept told) ≡ told_too (a || b) kept told
asked_twice a b kept (Some r) = refl
asked_twice true b kept None = by kept
  where
    same : (c : Bool) (o : Option Record) → cond c o o ≡ o
    same true o = refl
    same false o = refl

    by : (o : Option Record) → told_too b o o ≡ o
    by None = same b None
    by (Some r) = refl
asked_twice false b kept None = refl

-- Records of one home

-- the record that is found has the name
pub found_is : (l : Id) (rs : List Record) (r : Record) → find (is_of l) rs ≡ Some r → is_of l r ≡ true
found_is l [] r e = absurd cc
found_is l (q ∷ rs) r e = by (is_of l q) refl e (found_is l rs r)
  where
    by : (b : Bool) → is_of l q ≡ b → cond b (Some q) (find (is_of l) rs) ≡ Some r → (find (is_of l) rs ≡ Some r → is_of l r ≡ true) → is_of l r ≡ true
    by true t s rest = let same : q ≡ r = cc in ap (is_of l) (sym same) ∙ t
    by false t s rest = rest s

pub found_home : (l : Id) (rs : List Record) (r : Record) → find (is_of l) rs ≡ Some r → r.home ≡ l.home
found_home l rs r e = own_home (found_is l rs r e)
  where
    own_home : is_of l r ≡ true → r.home ≡ l.home
    own_home t = grind (arith, nat_tests, t)

-- the record is told after it is put
pub is_told : (id : Id) (kept told : List Record) (r : Record) → AreOf id.home told → find (is_of id) kept ≡ Some r → find (is_of id) told ≡ None
    → (l : Id) → find (is_of l) (put_record r told) ≡ told_too (same_id id l) (find (is_of l) kept) (find (is_of l) told)
is_told id kept told r are found untold l = put_find id.home r told l (found_home id kept r found) are ∙ by (same_id id l) refl
  where
    alike : is_of id r ≡ true → is_of l r ≡ same_id id l
    alike t = grind (arith, nat_tests, t)

    here : (m : Id) → id ≡ m → Some r ≡ told_too true (find (is_of m) kept) (find (is_of m) told)
    here m same = subst (λ (n : Id). Some r ≡ told_too true (find (is_of n) kept) (find (is_of n) told)) same (rw (untold, found) refl)

    by : (b : Bool) → same_id id l ≡ b → cond (is_of l r) (Some r) (find (is_of l) told) ≡ told_too b (find (is_of l) kept) (find (is_of l) told)
    by true t = ap (λ (c : Bool). cond c (Some r) (find (is_of l) told)) (alike (found_is id kept r found) ∙ t) ∙ here l (same_is id l t)
    by false t = ap (λ (c : Bool). cond c (Some r) (find (is_of l) told)) (alike (found_is id kept r found) ∙ t) ∙ sym (as_before (find (is_of l) kept) (find (is_of l) told))

-- Records of all homes

numbered_set : (k : ℕ) (ts : List Told) (i : ℕ) (t t' : Told) → AreHomesFrom k (homes_told ts) → slice_get ts i ≡ Some t → t'.records.home ≡ t.records.home → AreHomesFrom k (homes_told (slice_set ts i t'))
numbered_set k [] i t t' f e h = tt
numbered_set k (x ∷ ts) zero t t' f e h = let same : x ≡ t = cc in (omega (arith, f.0, h, ap (λ (y : Told). y.records.home) same), f.1)
numbered_set k (x ∷ ts) (suc i) t t' f e h = (f.0, numbered_set (k + 1) ts i t t' f.1 e h)

ordered_set : (ts : List Told) (i : ℕ) (t' : Told) → AreOf t'.records.home t'.records.records → AllByRecursion (λ (h : HomeRecords). AreOf h.home h.records) (homes_told ts)
    → AllByRecursion (λ (h : HomeRecords). AreOf h.home h.records) (homes_told (slice_set ts i t'))
ordered_set [] i t' here all = tt
ordered_set (x ∷ ts) zero t' here all = (here, all.1)
ordered_set (x ∷ ts) (suc i) t' here all = (all.0, ordered_set ts i t' here all.1)

count_set : (ts : List Told) (i : ℕ) (t' : Told) → length (homes_told (slice_set ts i t')) ≡ length (homes_told ts)
count_set [] i t' = refl
count_set (x ∷ ts) zero t' = refl
count_set (x ∷ ts) (suc i) t' = ap suc (count_set ts i t')

abbrev records_of : List HomeRecords → List (List Record)
records_of homes = map (λ (home : HomeRecords). home.records) homes

told_here : (ts : List Told) (i : ℕ) (t : Told) → slice_get ts i ≡ Some t → get_or (records_of (homes_told ts)) i [] ≡ t.records.records
told_here [] i t e = absurd cc
told_here (x ∷ ts) zero t e = let same : x ≡ t = cc in ap (λ (y : Told). y.records.records) same
told_here (x ∷ ts) (suc i) t e = told_here ts i t e

set_here : (ts : List Told) (i : ℕ) (t t' : Told) → slice_get ts i ≡ Some t → get_or (records_of (homes_told (slice_set ts i t'))) i [] ≡ t'.records.records
set_here [] i t t' e = absurd cc
set_here (x ∷ ts) zero t t' e = refl
set_here (x ∷ ts) (suc i) t t' e = set_here ts i t t' e

set_there : (ts : List Told) (i j : ℕ) (t' : Told) → (i ≡ j → ⊥) → get_or (records_of (homes_told (slice_set ts i t'))) j [] ≡ get_or (records_of (homes_told ts)) j []
set_there [] i j t' e = refl
set_there (x ∷ ts) zero zero t' e = absurd (e refl)
set_there (x ∷ ts) zero (suc j) t' e = refl
set_there (x ∷ ts) (suc i) zero t' e = refl
set_there (x ∷ ts) (suc i) (suc j) t' e = set_there ts i j t' (λ same. e (ap suc same))

-- if the records of one home are told as they have to be, so are those of all homes
pub told_at : (kept : List HomeRecords) (ts : List Told) (i : ℕ) (h : HomeRecords) (t t' : Told) (id : Id) → AreHomes (length kept) (homes_told ts) → slice_get ts i ≡ Some t → slice_get kept i ≡ Some h → i ≡ id.home - 1 → 1 ≤ id.home
    → t'.held ≡ t.held → t'.records.home ≡ t.records.home → AreOf t'.records.home t'.records.records
    → ((l : Id) → find (is_of l) t'.records.records ≡ told_too (same_id id l) (find (is_of l) h.records) (find (is_of l) t.records.records))
    → AreTold (same_id id) kept ts (slice_set ts i t')
told_at kept ts i h t t' id are there own place some held home order found = record {
  homes = record {
    count = count_set ts i t' ∙ are.count;
    numbered = numbered_set 1 ts i t t' are.numbered there home;
    ordered = ordered_set ts i t' order are.ordered;
  };
  lists = lists_set ts i t t' there held;
  found = λ l. by l (i == (l.home - 1)) refl;
}
  where
    here : (l : Id) → i ≡ l.home - 1 → record_in (homes_told (slice_set ts i t')) l ≡ told_too (same_id id l) (record_in kept l) (record_in (homes_told ts) l)
    here l e =
        let new : record_in (homes_told (slice_set ts i t')) l ≡ find (is_of l) t'.records.records = ap (λ n. find (is_of l) (get_or (records_of (homes_told (slice_set ts i t'))) n [])) (sym e) ∙ ap (find (is_of l)) (set_here ts i t t' there) in
        let old : record_in (homes_told ts) l ≡ find (is_of l) t.records.records = ap (λ n. find (is_of l) (get_or (records_of (homes_told ts)) n [])) (sym e) ∙ ap (find (is_of l)) (told_here ts i t there) in
        let mine : record_in kept l ≡ find (is_of l) h.records = ap (λ n. find (is_of l) (get_or (records_of kept) n [])) (sym e) ∙ ap (find (is_of l)) (kept_here kept i h own) in
        new ∙ found l ∙ ap (λ o. told_too (same_id id l) o (find (is_of l) t.records.records)) (sym mine) ∙ ap (told_too (same_id id l) (record_in kept l)) (sym old)
      where
        kept_here : (hs : List HomeRecords) (j : ℕ) (x : HomeRecords) → slice_get hs j ≡ Some x → get_or (records_of hs) j [] ≡ x.records
        kept_here [] j x e = absurd cc
        kept_here (y ∷ hs) zero x e = let same : y ≡ x = cc in ap (λ (z : HomeRecords). z.records) same
        kept_here (y ∷ hs) (suc j) x e = kept_here hs j x e

    other : (l : Id) → (i ≡ l.home - 1 → ⊥) → same_id id l ≡ false
    other l e = no (same_id id l) refl
      where
        no : (b : Bool) → same_id id l ≡ b → b ≡ false
        no true t = absurd (e (place ∙ ap (λ (m : Id). m.home - 1) (same_is id l t)))
        no false t = refl

    by : (l : Id) (b : Bool) → (i == (l.home - 1)) ≡ b → record_in (homes_told (slice_set ts i t')) l ≡ told_too (same_id id l) (record_in kept l) (record_in (homes_told ts) l)
    by l true e = here l (same_place e)
      where
        same_place : (i == (l.home - 1)) ≡ true → i ≡ l.home - 1
        same_place t = grind (arith, nat_tests)
    by l false e =
        let apart : i ≡ l.home - 1 → ⊥ = λ s. other_place e s in
        ap (find (is_of l)) (set_there ts i (l.home - 1) t' apart)
        ∙ sym (ap (λ b. told_too b (record_in kept l) (record_in (homes_told ts) l)) (other l apart) ∙ as_before (record_in kept l) (record_in (homes_told ts) l))
      where
        other_place : (i == (l.home - 1)) ≡ false → i ≡ l.home - 1 → ⊥
        other_place t s = grind (arith, nat_tests)

-- One after another

-- some LRAs are asked for, and then others
pub both_asked : (p q r : Id → Bool) (kept : List HomeRecords) (old now new : List Told) → ((l : Id) → r l ≡ (p l || q l)) → AreTold p kept old now → AreTold q kept now new → AreTold r kept old new
both_asked p q r kept old now new either f g = record {
  homes = g.homes;
  lists = g.lists ∙ f.lists;
  found = λ l.
      g.found l ∙ ap (told_too (q l) (record_in kept l)) (f.found l) ∙ asked_twice (p l) (q l) (record_in kept l) (record_in (homes_told old) l)
      ∙ ap (λ b. told_too b (record_in kept l) (record_in (homes_told old) l)) (sym (either l));
}

-- the result depends only on which LRAs are asked for
pub same_asked : (p q : Id → Bool) (kept : List HomeRecords) (old new : List Told) → ((l : Id) → q l ≡ p l) → AreTold p kept old new → AreTold q kept old new
same_asked p q kept old new same f = record { homes = f.homes; lists = f.lists; found = λ l. f.found l ∙ ap (λ b. told_too b (record_in kept l) (record_in (homes_told old) l)) (sym (same l)) }
