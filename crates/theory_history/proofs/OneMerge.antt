-- two views have one merge
use Rattle.std.proofs.Common.{◌≡◌, inl, inr, ◌≤◌, ◌-◌, ◌==◌, ◌||◌, ◌&&◌, ℕ, suc, List, [], ◌∷◌, ◌++◌, refl, sym, ap, subst, ◌∙◌, Bool, true, false, cond, arith, Option, Some, None, length, nat_le, find}
use Rattle.std.proofs.lemmas.Bool.Decides.{nat_tests}
use Rattle.std.proofs.lemmas.List.{length-map}
use Rattle.std.specs.List.{list_any, AllByRecursion}
use Rattle.state_ids.specs.Ids.{Id, is_fact_number}
use Rattle.state_ids.specs.Fronts.{is_covered}
use Rattle.state_facts.specs.Lists.{In}
use Rattle.state_facts.proofs.Membership.{any_from, in_append}
use Rattle.state_forest.specs.declared.record.Record.{Record}
use Rattle.state_forest.specs.Forests.{AreOf, id_of, is_of}
use Rattle.state_forest.specs.Records.{nodes_to}
use Rattle.state_forest.proofs.Bools.{all_from, all_in}
use Rattle.state_forest.proofs.MembersAndStamps.{find_in}
use Rattle.state_forest.proofs.Puts.{put_are_of, put_find}
use Rattle.state_forest.proofs.OneListOfRecords.{same_records}
use Rattle.state_forest.specs.RecordMerges.{home_stamp, merged_record, absorbed}
use Rattle.theory_history.specs.Merging.{IsMerged, all_merged, merged, put_some, merged_of}
use Rattle.theory_history.specs.Views.{IsInOrder, View, record_at, records_at}
use Rattle.theory_history.proofs.MergedRecords.{nth_of}
use Rattle.theory_history.proofs.JoinedFronts.{length_join}
use Rattle.theory_history.proofs.OneViewOfASet.{same_homes, same_views}
use Rattle.theory_history.proofs.Basics.{in_left, in_right, length_nodes}

-- Names of records

name_home : (l : Id) (r : Record) → is_of l r ≡ true → r.home ≡ l.home
name_home l r e = grind (arith, nat_tests, e)

name_num : (l : Id) (r : Record) → is_of l r ≡ true → r.num ≡ l.num
name_num l r e = grind (arith, nat_tests, e)

named : (l : Id) (r : Record) → r.home ≡ l.home → r.num ≡ l.num → is_of l r ≡ true
named l r e f = grind (arith, nat_tests)

name_is : (l : Id) (r : Record) → is_of l r ≡ true → id_of r ≡ l
name_is l r e = ap (λ (k : ℕ). record { home = k; num = r.num }) (name_home l r e) ∙ ap (λ (k : ℕ). record { home = l.home; num = k }) (name_num l r e)

-- if two records have the same name, a test for a name gives the same for both
same_name : (l : Id) (r s : Record) → is_of (id_of r) s ≡ true → is_of l s ≡ is_of l r
same_name l r s e =
    ap (λ (k : ℕ). (k == l.home) && (s.num == l.num)) (name_home (id_of r) s e) ∙ ap (λ (k : ℕ). (r.home == l.home) && (k == l.num)) (name_num (id_of r) s e)

merged_home : (r t : Record) → (merged_record r t).home ≡ r.home
merged_home r t = by (nat_le (home_stamp t) (home_stamp r)) refl
  where
    by : (b : Bool) → nat_le (home_stamp t) (home_stamp r) ≡ b → (merged_record r t).home ≡ r.home
    by true e = rw e refl
    by false e = rw e refl

merged_num : (r t : Record) → (merged_record r t).num ≡ r.num
merged_num r t = by (nat_le (home_stamp t) (home_stamp r)) refl
  where
    by : (b : Bool) → nat_le (home_stamp t) (home_stamp r) ≡ b → (merged_record r t).num ≡ r.num
    by true e = rw e refl
    by false e = rw e refl

-- what is absorbed of an LRA is a record of it
taken_named : (l : Id) (c g : Bool) (o p : Option Record) (s : Record) → ((r : Record) → o ≡ Some r → is_of l r ≡ true) → ((r : Record) → p ≡ Some r → is_of l r ≡ true) → absorbed c g o p ≡ Some s → is_of l s ≡ true
taken_named l c g None None s left right e = absurd cc
taken_named l true g None (Some t) s left right e = absurd cc
taken_named l false g None (Some t) s left right e = right s e
taken_named l c true (Some r) None s left right e = absurd cc
taken_named l c false (Some r) None s left right e = left s e
taken_named l c g (Some r) (Some t) s left right e =
    let same : merged_record r t ≡ s = cc in
    let own = left r refl in
    named l s
    (ap (λ (x : Record). x.home) (sym same) ∙ merged_home r t ∙ name_home l r own)
    (ap (λ (x : Record). x.num) (sym same) ∙ merged_num r t ∙ name_num l r own)

taken_is : (a b : View) (l : Id) (s : Record) → merged_of a b l ≡ Some s → is_of l s ≡ true
taken_is a b l s e =
    taken_named l (is_covered a.front l) (is_fact_number l.num && is_covered b.front l) (record_at a l) (record_at b l) s
    (λ r k. (find_in (is_of l) (records_at a.records l.home) r k).1)
    (λ r k. (find_in (is_of l) (records_at b.records l.home) r k).1) e

-- All that is absorbed

put_some_are_of : (home : ℕ) (o : Option Record) (rs : List Record) → ((s : Record) → o ≡ Some s → s.home ≡ home) → AreOf home rs → AreOf home (put_some o rs)
put_some_are_of home None rs own h = h
put_some_are_of home (Some s) rs own h = put_are_of home s rs (own s refl) h

taken_are_of : (a b : View) (home : ℕ) (rs : List Record) → AllByRecursion (λ (r : Record). r.home ≡ home) rs → AreOf home (all_merged a b rs)
taken_are_of a b home [] h = record { homes = tt; ascending = tt }
taken_are_of a b home (r ∷ rs) h =
    put_some_are_of home (merged_of a b (id_of r)) (all_merged a b rs) (λ s e. name_home (id_of r) s (taken_is a b (id_of r) s e) ∙ h.0) (taken_are_of a b home rs h.1)

-- the lookup finds exactly what is absorbed of an LRA that has a record in the list
taken_found : (a b : View) (home : ℕ) (rs : List Record) (l : Id) → AllByRecursion (λ (r : Record). r.home ≡ home) rs → find (is_of l) (all_merged a b rs) ≡ cond (list_any (is_of l) rs) (merged_of a b l) None
taken_found a b home [] l h = refl
taken_found a b home (r ∷ rs) l h = by (merged_of a b (id_of r)) refl (taken_found a b home rs l h.1)
  where
    alike : is_of l r ≡ true → merged_of a b (id_of r) ≡ merged_of a b l
    alike e = ap (merged_of a b) (name_is l r e)

    nothing : (c d : Bool) → (c ≡ true → merged_of a b l ≡ None) → cond d (merged_of a b l) None ≡ cond (c || d) (merged_of a b l) None
    nothing true true none = refl
    nothing true false none = sym (none refl)
    nothing false d none = refl

    something : (s : Record) (c d : Bool) → (c ≡ true → Some s ≡ merged_of a b l) → cond c (Some s) (cond d (merged_of a b l) None) ≡ cond (c || d) (merged_of a b l) None
    something s true d some = some refl
    something s false d some = refl

    by : (o : Option Record) → merged_of a b (id_of r) ≡ o → find (is_of l) (all_merged a b rs) ≡ cond (list_any (is_of l) rs) (merged_of a b l) None → find (is_of l) (put_some o (all_merged a b rs)) ≡ cond (is_of l r || list_any (is_of l) rs) (merged_of a b l) None
    by None t rest = rest ∙ nothing (is_of l r) (list_any (is_of l) rs) (λ e. sym (alike e) ∙ t)
    by (Some s) t rest =
        let own = taken_is a b (id_of r) s t in
        put_find home s (all_merged a b rs) l (name_home (id_of r) s own ∙ h.0) (taken_are_of a b home rs h.1)
        ∙ ap (λ c. cond c (Some s) (find (is_of l) (all_merged a b rs))) (same_name l r s own)
        ∙ ap (λ o. cond (is_of l r) (Some s) o) rest
        ∙ something s (is_of l r) (list_any (is_of l) rs) (λ e. sym t ∙ alike e)

none_of_part : (l : Id) (xs ys : List Record) → ((r : Record) → In r xs → In r ys) → list_any (is_of l) ys ≡ false → find (is_of l) xs ≡ None
none_of_part l xs ys inside none = by (find (is_of l) xs) refl
  where
    by : (o : Option Record) → find (is_of l) xs ≡ o → o ≡ None
    by None e = refl
    by (Some r) e =
        let there = find_in (is_of l) xs r e in
        let on = any_from (is_of l) ys r (inside r there.0) there.1 in
        let clash : true ≡ false = sym on ∙ none in
        absurd cc

module _ (a b : View) (nodes : length a.front ≡ length b.front) (own : IsInOrder a) (other : IsInOrder b) where
  abbrev of_home : ℕ → List Record
  of_home home = records_at a.records home ++ records_at b.records home

  of_that_home : (home : ℕ) → 1 ≤ home → home ≤ length a.front → AllByRecursion (λ (r : Record). r.home ≡ home) (of_home home)
  of_that_home home low high =
      all_from (λ (r : Record). r.home ≡ home) (of_home home) (λ r m. elim (in_append (records_at a.records home) (records_at b.records home) r m) [
        | inl x ↦ all_in (λ (s : Record). s.home ≡ home) (records_at a.records home) (own home low high).homes r x
        | inr y ↦ all_in (λ (s : Record). s.home ≡ home) (records_at b.records home) (other home low (omega (arith, high, nodes))).homes r y
      ])

  at_home : (home : ℕ) → 1 ≤ home → home ≤ length a.front → records_at (merged a b).records home ≡ all_merged a b (of_home home)
  at_home home low high =
      let back : suc (home - 1) ≡ home = omega (arith, low) in
      nth_of (λ k. all_merged a b (of_home k)) [] (length a.front) (home - 1) (omega (arith, low, high)) ∙ ap (λ k. all_merged a b (of_home k)) back

  at_record : (l : Id) → 1 ≤ l.home → l.home ≤ length a.front → record_at (merged a b) l ≡ merged_of a b l
  at_record l low high =
      ap (find (is_of l)) (at_home l.home low high) ∙ taken_found a b l.home (of_home l.home) l (of_that_home l.home low high) ∙ by (list_any (is_of l) (of_home l.home)) refl
    where
      by : (c : Bool) → list_any (is_of l) (of_home l.home) ≡ c → cond c (merged_of a b l) None ≡ merged_of a b l
      by true e = refl
      by false e =
          let left : record_at a l ≡ None = none_of_part l (records_at a.records l.home) (of_home l.home) (λ r m. in_left (records_at a.records l.home) (records_at b.records l.home) r m) e in
          let right : record_at b l ≡ None = none_of_part l (records_at b.records l.home) (of_home l.home) (λ r m. in_right (records_at a.records l.home) (records_at b.records l.home) r m) e in
          let gone = is_fact_number l.num && is_covered b.front l in
          sym (ap (λ o. absorbed (is_covered a.front l) gone o (record_at b l)) left ∙ ap (absorbed (is_covered a.front l) gone None) right)

  -- `merged a b` is a merge of two views in order that count the same nodes
  pub merge_is : IsMerged a b (merged a b)
  merge_is =
      let size = length_join a.front b.front nodes in
      record {
        nodes = nodes;
        front = refl;
        purges = refl;
        homes = length-map (nodes_to (length a.front)) (λ home. all_merged a b (of_home home)) ∙ length_nodes (length a.front) ∙ sym size;
        order = λ home low high.
            let near : home ≤ length a.front = omega (arith, high, size) in
            subst (AreOf home) (sym (at_home home low near)) (taken_are_of a b home (of_home home) (of_that_home home low near));
        records = λ l low high. at_record l low (omega (arith, high, size));
      }

-- Two views have no other merge

one_home : (a b c d : View) (home : ℕ) → IsMerged a b c → IsMerged a b d → 1 ≤ home → home ≤ length c.front → home ≤ length d.front → records_at c.records home ≡ records_at d.records home
one_home a b c d home m n low high top =
    let left = m.order home low high in
    let right = n.order home low top in
    same_records home (records_at c.records home) (records_at d.records home) left.homes right.homes left.ascending right.ascending
    (λ num. m.records (record { home = home; num = num }) low high ∙ sym (n.records (record { home = home; num = num }) low top))

one_merge : (a b c d : View) → IsMerged a b c → IsMerged a b d → c ≡ d
one_merge a b c d m n =
    let fronts : c.front ≡ d.front = m.front ∙ sym n.front in
    let nodes : length c.front ≡ length d.front = ap (λ (v : List ℕ). length v) fronts in
    same_views c d fronts (m.purges ∙ sym n.purges)
    (same_homes (length c.front) c.records d.records m.homes (n.homes ∙ sym nodes) (λ home low high. one_home a b c d home m n low high (omega (arith, high, nodes))))

-- any merge of two views in order is `merged a b`
pub merge_only : (a b c : View) → IsInOrder a → IsInOrder b → IsMerged a b c → c ≡ merged a b
merge_only a b c own other m = one_merge a b c (merged a b) m (merge_is a b m.nodes own other)
