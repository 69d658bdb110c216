-- the stamps that records have after one record is put or taken away
use Rattle.std.proofs.Common.{◌≡◌, ◌≤◌, ◌<◌, ◌-◌, ◌==◌, ℕ, List, [], refl, sym, ap, ◌∙◌, Bool, true, false, cond, arith, Option, Some, None, find, filter, length, get_or, set}
use mathlib.Core.Bool.{not}
use Rattle.std.specs.Option.{option_map}
use Rattle.std.proofs.lemmas.Bool.Decides.{nat_tests}
use Rattle.std.proofs.lemmas.List.{get_or-set_other}
use Rattle.std.proofs.lemmas.Grind.{get_or-set_at}
use Rattle.state_ids.specs.Ids.{Id, same_id}
use Rattle.state_forest.specs.declared.record.Record.{Record}
use Rattle.state_forest.specs.Forests.{AreOf, id_of, is_of}
use Rattle.state_forest.specs.Places.{put_record}
use Rattle.state_forest.proofs.ChangedRecords.{find_filter, keep}
use Rattle.state_forest.proofs.MembersAndStamps.{find_in}
use Rattle.state_forest.proofs.Puts.{put_find}
use Rattle.state_stamps.specs.Indexes.{with_stamps}
use Rattle.state_replica.specs.Replicas.{stamps_in}

-- the stamps of a record that is found
abbrev st : Option Record → Option (List ℕ)
st o = option_map (λ (r : Record). r.stamps) o

-- the stamps after the records of one home are replaced
changed : (records : List (List Record)) (i : ℕ) (new : List Record) (id : Id) (stamps : Option (List ℕ)) → 1 ≤ id.home → i ≡ id.home - 1 → i < length records
    → ((l : Id) → cond (same_id l id) stamps (st (find (is_of l) (get_or records i []))) ≡ st (find (is_of l) new))
    → (l : Id) → with_stamps id stamps (stamps_in records) l ≡ stamps_in (set records i new) l
changed records i new id stamps some at within each l = by (l.home - 1 == i) refl
  where
    apart : (l.home - 1 == i) ≡ false → same_id l id ≡ false
    apart e = grind (arith, nat_tests, e, at)

    by : (b : Bool) → (l.home - 1 == i) ≡ b → cond (same_id l id) stamps (st (find (is_of l) (get_or records (l.home - 1) []))) ≡ st (find (is_of l) (get_or (set records i new) (l.home - 1) []))
    by true e =
        let same : l.home - 1 ≡ i = grind (arith, nat_tests, e) in
        let here : get_or (set records i new) (l.home - 1) [] ≡ new = get_or-set_at records i (l.home - 1) new [] same within in
        ap (λ (k : ℕ). cond (same_id l id) stamps (st (find (is_of l) (get_or records k [])))) same ∙ each l ∙ ap (λ (rs : List Record). st (find (is_of l) rs)) (sym here)
    by false e =
        let other : get_or (set records i new) (l.home - 1) [] ≡ get_or records (l.home - 1) [] = get_or-set_other {A = List Record} records i (l.home - 1) new [] (λ s. (let wrong : ⊥ = grind (arith, nat_tests, e, s) in wrong)) in
        let no_ : same_id l id ≡ false = apart e in
        rw (no_, other) refl

-- a record is put in its place
pub put_stamps : (records : List (List Record)) (i : ℕ) (qs : List Record) (r : Record) → 1 ≤ r.home → i ≡ r.home - 1 → i < length records → get_or records i [] ≡ qs → AreOf r.home qs
    → (l : Id) → with_stamps (id_of r) (Some r.stamps) (stamps_in records) l ≡ stamps_in (set records i (put_record r qs)) l
put_stamps records i qs r some at within is order = changed records i (put_record r qs) (id_of r) (Some r.stamps) some at within each
  where
    alike : (l : Id) → same_id l (id_of r) ≡ is_of l r
    alike l = grind (arith, nat_tests)

    by : (b : Bool) (o : Option Record) → cond b (Some r.stamps) (st o) ≡ st (cond b (Some r) o)
    by true o = refl
    by false o = refl

    each : (l : Id) → cond (same_id l (id_of r)) (Some r.stamps) (st (find (is_of l) (get_or records i []))) ≡ st (find (is_of l) (put_record r qs))
    each l =
        ap (λ (b : Bool). cond b (Some r.stamps) (st (find (is_of l) (get_or records i [])))) (alike l)
        ∙ ap (λ (rs : List Record). cond (is_of l r) (Some r.stamps) (st (find (is_of l) rs))) is
        ∙ by (is_of l r) (find (is_of l) qs) ∙ ap st (sym (put_find r.home r qs l refl order))

-- the record of an LRA is taken away
pub remove_stamps : (records : List (List Record)) (i : ℕ) (qs : List Record) (id : Id) (home : ℕ) → 1 ≤ id.home → i ≡ id.home - 1 → i < length records → get_or records i [] ≡ qs → AreOf home qs
    → (l : Id) → with_stamps id None (stamps_in records) l ≡ stamps_in (set records i (filter (λ (r : Record). not (is_of id r)) qs)) l
remove_stamps records i qs id home some at within is order = changed records i (filter (λ (r : Record). not (is_of id r)) qs) id None some at within each
  where
    alike : (l : Id) (r : Record) → is_of l r ≡ true → same_id l id ≡ is_of id r
    alike l r e = grind (arith, nat_tests, e)

    none : (b : Bool) → cond {A = Option (List ℕ)} b None None ≡ None
    none true = refl
    none false = refl

    left : (b : Bool) (r : Record) → cond b None (Some r.stamps) ≡ st (cond (not b) (Some r) None)
    left true r = refl
    left false r = refl

    kept : (l : Id) (o : Option Record) → find (is_of l) qs ≡ o → cond (same_id l id) None (st o) ≡ st (keep (λ (r : Record). not (is_of id r)) o)
    kept l None e = none (same_id l id)
    kept l (Some r) e = ap (λ (b : Bool). cond b None (Some r.stamps)) (alike l r (find_in (is_of l) qs r e).1) ∙ left (is_of id r) r

    each : (l : Id) → cond (same_id l id) None (st (find (is_of l) (get_or records i []))) ≡ st (find (is_of l) (filter (λ (r : Record). not (is_of id r)) qs))
    each l =
        ap (λ (rs : List Record). cond (same_id l id) None (st (find (is_of l) rs))) is
        ∙ kept l (find (is_of l) qs) refl ∙ ap st (sym (find_filter (λ (r : Record). not (is_of id r)) l qs order.ascending))
