-- what is held in a union, and that the merge of two views stands for it
use mathlib.Core.Bool.{not}
use Rattle.std.proofs.Common.{◌≡◌, inl, inr, ◌≤◌, ◌<◌, ◌^◌, ◌==◌, ◌||◌, ◌&&◌, ℕ, List, refl, sym, ap, subst, ◌∙◌, Bool, true, false, cond, arith, Option, Some, None, map, length, is_none, find}
use Rattle.std.proofs.lemmas.Bool.Decides.{nat_tests}
use Rattle.std.specs.List.{list_any}
use Rattle.state_ids.specs.Ids.{Id, is_fact_number}
use Rattle.state_ids.specs.Fronts.{count, is_covered, join_fronts}
use Rattle.state_facts.specs.declared.fact.Fact.{Fact}
use Rattle.state_facts.specs.Lists.{In, IsInside}
use Rattle.state_facts.specs.Sets.{begins, chain, is_begun, is_held, is_purge, is_purged_root, is_root}
use Rattle.state_facts.proofs.Membership.{any_from, any_gives, most_union}
use Rattle.state_forest.specs.declared.record.Record.{Record}
use Rattle.state_forest.specs.Forests.{is_of}
use Rattle.state_forest.specs.Records.{is_about, is_named, nodes_to, record_of}
use Rattle.state_forest.specs.Standing.{AreOnce, IsWhole}
use Rattle.state_forest.proofs.Begins.{parent_found}
use Rattle.state_forest.proofs.Bools.{and_left, and_right, not_false, or_cases}
use Rattle.state_forest.proofs.ParentsAndChains.{begins_at, parent_home}
use Rattle.state_forest.specs.RecordMerges.{merged_record, absorbed}
use Rattle.theory_history.specs.Growth.{IsSettled}
use Rattle.theory_history.specs.Merging.{IsMerged}
use Rattle.theory_history.specs.Views.{IsCounted, StandsFor, View, is_purge_fact, purge_number, record_at, records_at}
use Rattle.theory_history.proofs.SettledFacts.{begun_inside, chain_inside}
use Rattle.theory_history.proofs.Covered.{begun_covered}
use Rattle.theory_history.proofs.LeftAsItWas.{along_chain, chain_begun}
use Rattle.theory_history.proofs.TwoClosedSets.{AreTogether, known, swapped}
use Rattle.theory_history.proofs.MergedRecords.{joined_maps, record_known, record_union}
use Rattle.theory_history.proofs.JoinedFronts.{at_most_one, count_join, counted_join, length_join}
use Rattle.theory_history.proofs.Basics.{both_true, covered_le, false_from, held_begun}

-- What is held

-- no purge of a root is in the set
abbrev NoPurge : List Fact → Id → Type 0
NoPurge S l = (a : Id) (f : Fact) → In a (chain S l) → is_root S a ≡ true → In f S → is_purge a f.body ≡ true → ⊥

held_from : (S : List Fact) (l : Id) → is_begun S l ≡ true → NoPurge S l → is_held S l ≡ true
held_from S l begun none =
    let off : list_any (is_purged_root S) (chain S l) ≡ false = false_from (list_any (is_purged_root S) (chain S l)) (λ e.
    let a = any_gives (is_purged_root S) (chain S l) e in
    let f = any_gives (λ (g : Fact). is_purge a.0 g.body) S (and_right (is_root S a.0) (list_any (λ g. is_purge a.0 g.body) S) a.2) in
    none a.0 f.0 a.1 (and_left (is_root S a.0) (list_any (λ g. is_purge a.0 g.body) S) a.2) f.1 f.2) in
    both_true (is_begun S l) (not (list_any (is_purged_root S) (chain S l))) begun (ap not off)

held_none : (S : List Fact) (l : Id) → is_held S l ≡ true → NoPurge S l
held_none S l held a f m root k purge =
    let off = not_false (list_any (is_purged_root S) (chain S l)) (and_right (is_begun S l) (not (list_any (is_purged_root S) (chain S l))) held) in
    let there = any_from (λ (g : Fact). is_purge a g.body) S f k purge in
    let on = any_from (is_purged_root S) (chain S l) a m (both_true (is_root S a) (list_any (λ g. is_purge a g.body) S) root there) in
    let clash : true ≡ false = sym on ∙ off in
    absurd cc

-- an LRA that is begun in a part of a set is a root in both or in neither
root_inside : (J X : List Fact) → AreOnce J → AreOnce X → IsInside J X → (a : Id) → is_begun J a ≡ true → is_root J a ≡ is_root X a
root_inside J X once twice inside a e =
    let f = any_gives (begins a) J e in
    ap is_none (parent_found J a f.0 once f.1 f.2 ∙ sym (parent_found X a f.0 twice (inside f.0 f.1) f.2))

-- an LRA that is held in the greater set and begun in the part is held in the part
held_inside : (J X : List Fact) → IsSettled J → IsSettled X → IsInside J X → (l : Id) → is_begun J l ≡ true → is_held X l ≡ true → is_held J l ≡ true
held_inside J X sj sx inside l begun held = held_from J l begun (λ a f m root k purge.
    let same = chain_inside J X sj.whole sj.seated.once sx.seated.once inside l begun in
    let there = chain_begun J sj.whole l begun a m in
    held_none X l held a f (subst (λ (c : List Id). In a c) same m)
    (sym (root_inside J X sj.seated.once sx.seated.once inside a there) ∙ root) (inside f k) purge)

-- an LRA that is held in the part is held in the greater set, if the purges of its root there are
-- in the part
held_outside : (J X : List Fact) → IsSettled J → IsSettled X → IsInside J X → (l : Id) → is_held J l ≡ true → ((a : Id) (f : Fact) → In a (chain J l) → In f X → is_purge a f.body ≡ true → In f J) → is_held X l ≡ true
held_outside J X sj sx inside l held none =
    let begun = held_begun J l held in
    let same = chain_inside J X sj.whole sj.seated.once sx.seated.once inside l begun in
    held_from X l (begun_inside J X inside l begun) (λ a f m root k purge.
    let here : In a (chain J l) = subst (λ (c : List Id). In a c) (sym same) m in
    let there = chain_begun J sj.whole l begun a here in
    held_none J l held a f here (root_inside J X sj.seated.once sx.seated.once inside a there ∙ root) (none a f here k purge) purge)

-- the LRAs in a chain are of one home
chain_home : (S : List Fact) → IsWhole S → (l a : Id) → In a (chain S l) → a.home ≡ l.home
chain_home S whole l a m = along_chain (λ d. d.home ≡ l.home) S (λ d p at above. parent_home S d p whole.nested above ∙ at) l.num l a refl m

uncovered_lt : (v : List ℕ) (l : Id) → is_covered v l ≡ false → count v l.home < l.num
uncovered_lt v l e = grind (arith, nat_tests)

module _ (S T U : List Fact) (v w : List ℕ) (t : AreTogether S T U v w) (l : Id) where
  -- an LRA that is begun in the union and covered by the first front is begun in the first set
  begun_first : is_begun U l ≡ true → l.num ≤ count v l.home → is_begun S l ≡ true
  begun_first begun covered =
      let f = any_gives (begins l) U begun in
      let at = begins_at l f.0 f.2 in
      any_from (begins l) S f.0 (elim (t.union.only f.0 f.1) [
        | inl s ↦ s
        | inr k ↦ known S T U v w t f.0 k (omega (arith, covered, at.1, ap (count v) at.0))
      ]) f.2

  -- an LRA that is held in the union and covered by the first front is held in the first set
  pub held_first : is_held U l ≡ true → l.num ≤ count v l.home → is_held S l ≡ true
  held_first held covered = held_inside S U t.first t.both t.union.left l (begun_first (held_begun U l held) covered) held

  -- an LRA that is held in both sets is held in the union
  pub held_both : is_held S l ≡ true → is_held T l ≡ true → is_held U l ≡ true
  held_both left right =
      let chained_left = chain_inside S U t.first.whole t.first.seated.once t.both.seated.once t.union.left l (held_begun S l left) in
      let chained_right = chain_inside T U t.second.whole t.second.seated.once t.both.seated.once t.union.right l (held_begun T l right) in
      held_from U l (begun_inside S U t.union.left l (held_begun S l left)) (λ a f m root k purge.
      let here : In a (chain S l) = subst (λ (c : List Id). In a c) (sym chained_left) m in
      let there : In a (chain T l) = subst (λ (c : List Id). In a c) (sym chained_right) m in
      elim (t.union.only f k) [
        | inl s ↦ held_none S l left a f here (root_inside S U t.first.seated.once t.both.seated.once t.union.left a (chain_begun S t.first.whole l (held_begun S l left) a here) ∙ root) s purge
        | inr n ↦ held_none T l right a f there (root_inside T U t.second.seated.once t.both.seated.once t.union.right a (chain_begun T t.second.whole l (held_begun T l right) a there) ∙ root) n purge
      ])

  -- an LRA that is held in the first set and not covered by the second front is held in the union
  pub held_alone : is_held S l ≡ true → count w l.home < l.num → is_held U l ≡ true
  held_alone held beyond =
      let reach = begun_covered S v l t.counted_first (held_begun S l held) in
      held_outside S U t.first t.both t.union.left l held (λ a f m k purge.
      let home : f.origin ≡ l.home = t.proper.purges f a k purge ∙ chain_home S t.first.whole l a m in
      elim (t.union.only f k) [
        | inl s ↦ s
        | inr n ↦ known S T U v w t f n (omega (arith, t.counted_second.counted f n, ap (count w) home, ap (count v) home, beyond, reach.1))
      ])

  -- a set says nothing of an LRA that its front does not cover
  pub silent_beyond : count w l.home < l.num → (f : Fact) → In f T → is_about l f ≡ true → ⊥
  silent_beyond beyond f m about =
      let begun : is_begun T l ≡ true = elim (or_cases (begins l f) (is_named l f.body) about) [
        | inl b ↦ any_from (begins l) T f m b
        | inr n ↦ t.second.named f l m n
      ] in
      omega (arith, (begun_covered T w l t.counted_second begun).1, beyond)

-- What is absorbed

module _ (S T U : List Fact) (v w : List ℕ) (t : AreTogether S T U v w) (l : Id) (nodes : ℕ) (low : 1 ≤ l.home) (high : l.home ≤ nodes) where
  abbrev at_union : Option Record
  at_union = cond (is_held U l) (Some (record_of nodes U l)) None

  union_yes : is_held U l ≡ true → at_union ≡ Some (record_of nodes U l)
  union_yes e = rw e refl

  union_no : (is_held U l ≡ true → ⊥) → at_union ≡ None
  union_no never = let off = false_from (is_held U l) never in rw off refl

  in_both : is_held S l ≡ true → is_held T l ≡ true → at_union ≡ Some (merged_record (record_of nodes S l) (record_of nodes T l))
  in_both a b = union_yes (held_both S T U v w t l a b) ∙ ap (λ r. Some r) (record_union S T U v w t l (held_begun S l a) nodes low high)

  in_first : is_held S l ≡ true → is_held T l ≡ false → (c : Bool) → is_covered w l ≡ c → at_union ≡ cond c None (Some (record_of nodes S l))
  in_first a b true e = union_no (λ held. let there = held_first T S U w v (swapped S T U v w t) l held (covered_le w l e) in let clash : true ≡ false = sym there ∙ b in absurd cc)
  in_first a b false e =
      let beyond = uncovered_lt w l e in
      union_yes (held_alone S T U v w t l a beyond) ∙ ap (λ r. Some r) (record_known S T U v w t l (held_begun S l a) nodes (λ f m about. absurd (silent_beyond S T U v w t l beyond f m about)))

  in_second : is_held S l ≡ false → is_held T l ≡ true → (c : Bool) → is_covered v l ≡ c → at_union ≡ cond c None (Some (record_of nodes T l))
  in_second a b true e = union_no (λ held. let there = held_first S T U v w t l held (covered_le v l e) in let clash : true ≡ false = sym there ∙ a in absurd cc)
  in_second a b false e =
      let beyond = uncovered_lt v l e in
      let back = swapped S T U v w t in
      union_yes (held_alone T S U w v back l b beyond) ∙ ap (λ r. Some r) (record_known T S U w v back l (held_begun T l b) nodes (λ f m about. absurd (silent_beyond T S U w v back l beyond f m about)))

  in_none : is_held S l ≡ false → is_held T l ≡ false → at_union ≡ None
  in_none a b = union_no (λ held.
      let covered = (begun_covered U (join_fronts v w) l (counted_join S T U v w t.union t.counted_first t.counted_second) (held_begun U l held)).1 in
      elim (at_most_one l.num (count v l.home) (count w l.home) (omega (arith, covered, count_join v w l.home))) [
        | inl c ↦ let here = held_first S T U v w t l held c in let clash : true ≡ false = sym here ∙ a in absurd cc
        | inr c ↦ let here = held_first T S U w v (swapped S T U v w t) l held c in let clash : true ≡ false = sym here ∙ b in absurd cc
      ])

  by_held : (x y : Bool) → is_held S l ≡ x → is_held T l ≡ y → at_union ≡ absorbed (is_covered v l) (is_covered w l) (cond x (Some (record_of nodes S l)) None) (cond y (Some (record_of nodes T l)) None)
  by_held true true a b = in_both a b
  by_held true false a b = in_first a b (is_covered w l) refl
  by_held false true a b = in_second a b (is_covered v l) refl
  by_held false false a b = in_none a b

  -- what is absorbed of an LRA is what the union has of it
  pub taken_union : at_union ≡ absorbed (is_covered v l) (is_covered w l) (cond (is_held S l) (Some (record_of nodes S l)) None) (cond (is_held T l) (Some (record_of nodes T l)) None)
  taken_union = by_held (is_held S l) (is_held T l) refl refl

-- What is absorbed of a part that is sent. `listed`: the frame tells which LRAs of the home are
-- held. `sent`: it tells the record, if there is one

module _ (S T U : List Fact) (v w : List ℕ) (t : AreTogether S T U v w) (l : Id) (nodes : ℕ) (low : 1 ≤ l.home) (high : l.home ≤ nodes) (listed sent : Bool)
    (purges : listed ≡ false → (f : Fact) (a : Id) → In f T → is_purge a f.body ≡ true → a.home ≡ l.home → In f S)
    (facts : sent ≡ false → (f : Fact) → In f T → is_about l f ≡ true → In f S) where
  -- if the first set has the second's purges of the home, an LRA that is held in the first and
  -- begun in the second is held in the second
  held_known : listed ≡ false → is_held S l ≡ true → is_begun T l ≡ true → is_held T l ≡ true
  held_known off held begun =
      let chained_left = chain_inside S U t.first.whole t.first.seated.once t.both.seated.once t.union.left l (held_begun S l held) in
      let chained_right = chain_inside T U t.second.whole t.second.seated.once t.both.seated.once t.union.right l begun in
      held_from T l begun (λ a f m root k purge.
      let here : In a (chain S l) = subst (λ (c : List Id). In a c) (chained_right ∙ sym chained_left) m in
      let left = root_inside S U t.first.seated.once t.both.seated.once t.union.left a (chain_begun S t.first.whole l (held_begun S l held) a here) in
      let right = root_inside T U t.second.seated.once t.both.seated.once t.union.right a (chain_begun T t.second.whole l begun a m) in
      held_none S l held a f here (left ∙ sym right ∙ root) (purges off f a k purge (chain_home T t.second.whole l a m)) purge)

  none_sent : (b : Bool) (o : Option Record) → o ≡ None → cond b o None ≡ None
  none_sent true o e = e
  none_sent false o e = refl

  never_gone : (a b : Bool) → (a && (b && false)) ≡ false
  never_gone true true = refl
  never_gone true false = refl
  never_gone false b = refl

  part_both : is_held S l ≡ true → is_held T l ≡ true → (b : Bool) → sent ≡ b → cond (is_held U l) (Some (record_of nodes U l)) None ≡ absorbed (is_covered v l) (listed && (is_covered w l && false)) (Some (record_of nodes S l)) (cond b (Some (record_of nodes T l)) None)
  part_both a c true e = in_both S T U v w t l nodes low high a c
  part_both a c false e =
      let stays = never_gone listed (is_covered w l) in
      union_yes S T U v w t l nodes low high (held_both S T U v w t l a c) ∙ ap (λ r. Some r) (record_known S T U v w t l (held_begun S l a) nodes (facts e)) ∙ rw stays refl

  part_first : is_held S l ≡ true → is_held T l ≡ false → (b c : Bool) → listed ≡ b → is_covered w l ≡ c → cond (is_held U l) (Some (record_of nodes U l)) None ≡ cond (b && (c && true)) None (Some (record_of nodes S l))
  part_first a d true true e f = in_first S T U v w t l nodes low high a d true f
  part_first a d true false e f = in_first S T U v w t l nodes low high a d false f
  part_first a d false false e f = in_first S T U v w t l nodes low high a d false f
  part_first a d false true e f =
      let begun = begun_first T S U w v (swapped S T U v w t) l (begun_inside S U t.union.left l (held_begun S l a)) (covered_le w l f) in
      let clash : true ≡ false = sym (held_known e a begun) ∙ d in
      absurd cc

  part_second : is_held S l ≡ false → is_held T l ≡ true → (b : Bool) → sent ≡ b → cond (is_held U l) (Some (record_of nodes U l)) None ≡ absorbed (is_covered v l) (listed && (is_covered w l && false)) None (cond b (Some (record_of nodes T l)) None)
  part_second a d true e = in_second S T U v w t l nodes low high a d (is_covered v l) refl
  part_second a d false e = union_no S T U v w t l nodes low high (λ held.
      let f = any_gives (begins l) T (held_begun T l d) in
      let here = facts e f.0 f.1 (about_begun l f.0 f.2) in
      let covered = begun_covered S v l t.counted_first (any_from (begins l) S f.0 here f.2) in
      let clash : true ≡ false = sym (held_first S T U v w t l held covered.1) ∙ a in
      absurd cc)
    where
      about_begun : (l : Id) (f : Fact) → begins l f ≡ true → is_about l f ≡ true
      about_begun l f e = ap (λ b. b || is_named l f.body) e

  part_by : (x y : Bool) → is_held S l ≡ x → is_held T l ≡ y → cond (is_held U l) (Some (record_of nodes U l)) None ≡ absorbed (is_covered v l) (listed && (is_covered w l && not y)) (cond x (Some (record_of nodes S l)) None) (cond sent (cond y (Some (record_of nodes T l)) None) None)
  part_by true true a b = part_both a b sent refl
  part_by true false a b =
      let nothing = none_sent sent None refl in
      part_first a b listed (is_covered w l) refl refl ∙ ap (λ o. absorbed (is_covered v l) (listed && (is_covered w l && true)) (Some (record_of nodes S l)) o) (sym nothing)
  part_by false true a b = part_second a b sent refl
  part_by false false a b =
      let nothing = none_sent sent None refl in
      in_none S T U v w t l nodes low high a b ∙ ap (λ o. absorbed (is_covered v l) (listed && (is_covered w l && true)) None o) (sym nothing)

  -- what is absorbed is what the union has, if the first set has those of the second's purges that
  -- are not told, and all that the second has about an LRA whose record is not sent
  pub taken_part : cond (is_held U l) (Some (record_of nodes U l)) None ≡ absorbed (is_covered v l) (listed && (is_covered w l && not (is_held T l))) (cond (is_held S l) (Some (record_of nodes S l)) None) (cond sent (cond (is_held T l) (Some (record_of nodes T l)) None) None)
  taken_part = part_by (is_held S l) (is_held T l) refl refl

-- an LRA that is held has a number that a fact can have
pub fact_number : (S : List Fact) (l : Id) → IsSettled S → is_held S l ≡ true → is_fact_number l.num ≡ true
fact_number S l settled held =
    let begin = any_gives (begins l) S (held_begun S l held) in
    let at = begins_at l begin.0 begin.2 in
    let number = settled.numbered begin.0 begin.1 in
    by l.num (omega (arith, number.0, at.1)) (omega (arith, number.1, at.1))
  where
    by : (n : ℕ) → 1 ≤ n → n < 2 ^ 48 → is_fact_number n ≡ true
    by n some few = grind (arith, nat_tests)

-- so what is absorbed doesn't depend on its number
pub guarded : (c g b held : Bool) (r : Record) (p : Option Record) → (held ≡ true → b ≡ true) → absorbed c (b && g) (cond held (Some r) None) p ≡ absorbed c g (cond held (Some r) None) p
guarded c g b true r p e = ap (λ (x : Bool). absorbed c (x && g) (Some r) p) (e refl)
guarded c g b false r None e = refl
guarded c g b false r (Some t) e = refl

-- what a view that stands for a set has of an LRA
pub record_standing : (S : List Fact) (a : View) (l : Id) → StandsFor S a → 1 ≤ l.home → l.home ≤ length a.front → record_at a l ≡ cond (is_held S l) (Some (record_of (length a.front) S l)) None
record_standing S a l stands low high = (stands.records l.home low high).stands l refl

-- the merge of two views stands for the union of their sets
pub merged_stands : (S T U : List Fact) (a b c : View) → AreTogether S T U a.front b.front → StandsFor S a → StandsFor T b → IsMerged a b c → StandsFor U c
merged_stands S T U a b c t sa sb m =
    let size : length c.front ≡ length a.front = ap (λ (x : List ℕ). length x) m.front ∙ length_join a.front b.front m.nodes in
    record {
      front = subst (IsCounted U) (sym m.front) (counted_join S T U a.front b.front t.union sa.front sb.front);
      purges =
          m.purges
          ∙ ap (λ x. join_fronts x b.purges) sa.purges
          ∙ ap (join_fronts (map (purge_number S) (nodes_to (length a.front)))) (sb.purges ∙ ap (λ n. map (purge_number T) (nodes_to n)) (sym m.nodes))
          ∙ sym (joined_maps (purge_number S) (purge_number T) (purge_number U) (nodes_to (length a.front)) (λ node. most_union (λ f. cond ((f.origin == node) && is_purge_fact f.body) f.num 0) S T U t.union))
          ∙ ap (λ n. map (purge_number U) (nodes_to n)) (sym size);
      homes = m.homes;
      records = λ home low high.
          record {
            order = m.order home low high;
            stands = λ l at. one l home at low high size;
          };
    }
  where
    here : (l : Id) → 1 ≤ l.home → l.home ≤ length c.front → length c.front ≡ length a.front → record_at c l ≡ cond (is_held U l) (Some (record_of (length c.front) U l)) None
    here l low high size =
        let near : l.home ≤ length a.front = omega (arith, high, size) in
        let far : l.home ≤ length b.front = omega (arith, near, m.nodes) in
        m.records l low high
        ∙ ap (λ o. absorbed (is_covered a.front l) (is_fact_number l.num && is_covered b.front l) o (record_at b l)) (record_standing S a l sa low near)
        ∙ guarded (is_covered a.front l) (is_covered b.front l) (is_fact_number l.num) (is_held S l) (record_of (length a.front) S l) (record_at b l) (fact_number S l t.first)
        ∙ ap (absorbed (is_covered a.front l) (is_covered b.front l) (cond (is_held S l) (Some (record_of (length a.front) S l)) None)) (record_standing T b l sb low far ∙ ap (λ n. cond (is_held T l) (Some (record_of n T l)) None) (sym m.nodes))
        ∙ sym (taken_union S T U a.front b.front t l (length a.front) low near)
        ∙ ap (λ n. cond (is_held U l) (Some (record_of n U l)) None) (sym size)

    one : (l : Id) (home : ℕ) → l.home ≡ home → 1 ≤ home → home ≤ length c.front → length c.front ≡ length a.front → find (is_of l) (records_at c.records home) ≡ cond (is_held U l) (Some (record_of (length c.front) U l)) None
    one l home at low high size =
        subst (λ (k : ℕ). find (is_of l) (records_at c.records k) ≡ cond (is_held U l) (Some (record_of (length c.front) U l)) None) at
        (here l (omega (arith, low, at)) (omega (arith, high, at)) size)
