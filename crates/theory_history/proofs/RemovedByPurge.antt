-- The LRAs that a purge removes, by the records of a view.
use Rattle.std.proofs.Common.{◌≡◌, List, sym, ap, subst, ◌∙◌, arith, true, Some, find, length}
use Rattle.std.proofs.lemmas.Bool.Decides.{nat_tests}
use Rattle.state_ids.specs.Ids.{Id}
use Rattle.state_facts.specs.declared.fact.Fact.{Fact}
use Rattle.state_facts.specs.Lists.{In}
use Rattle.state_facts.specs.Sets.{IsNumbered, is_held, is_under}
use Rattle.state_forest.specs.declared.record.Record.{Record}
use Rattle.state_forest.specs.Forests.{id_of, is_of}
use Rattle.state_forest.specs.Said.{ids_below, is_below}
use Rattle.state_forest.proofs.Bools.{all_from, all_in}
use Rattle.state_forest.proofs.ToldByChains.{below_id, below_said, id_below}
use Rattle.state_forest.proofs.MembersAndStamps.{find_in}
use Rattle.state_forest.proofs.Overdue.{at, found_in}
use Rattle.theory_history.specs.Growth.{IsSettled}
use Rattle.theory_history.specs.Readings.{at_home}
use Rattle.theory_history.specs.Changes.{IsRemoval}
use Rattle.theory_history.specs.Views.{AreRecords, StandsFor, View, record_at, records_at}
use Rattle.theory_history.proofs.PatchesAddFacts.{held_home}
use Rattle.theory_history.proofs.Covered.{nested_settled}
use Rattle.theory_history.proofs.ReplyOrRefusal.{held_within}

-- the LRAs whose records are below the root's are those that the set has under it
pub removal_said : (S : List Fact) (view : View) (root : Id) → IsSettled S → StandsFor S view → is_held S root ≡ true
    → IsRemoval S view root (ids_below (at_home view root.home) root.num (records_at view.records root.home))
removal_said S view root settled stands held = record { homes = homes; only = only; all = all }
  where
    records : List Record
    records = records_at view.records root.home

    are : AreRecords (length view.front) S root.home (records_at view.records root.home)
    are = stands.records root.home (held_home S view root stands held) (held_within S view root stands held)

    below : (r : Record) → In r records → is_below (at_home view root.home) root.num r ≡ is_under S root (at root.home r.num)
    below r i = below_said (length view.front) root.home S records root.num r settled.whole (nested_settled S settled) (all_from IsNumbered S settled.numbered) are.stands (found_in root.home records r are.order i)

    named : (r : Record) → In r records → id_of r ≡ at root.home r.num
    named r i = ap (λ h. at h r.num) (all_in (λ (q : Record). q.home ≡ root.home) records are.order.homes r i)

    homes : (l : Id) → In l (ids_below (at_home view root.home) root.num records) → l.home ≡ root.home
    homes l i =
        let r = below_id (at_home view root.home) root.num records l i in
        ap (λ (x : Id). x.home) (r.3 ∙ named r.0 r.1)

    only : (l : Id) (r : Record) → l.home ≡ root.home → record_at view l ≡ Some r → In l (ids_below (at_home view root.home) root.num records) → is_under S root l ≡ true
    only l q own found i =
        let r = below_id (at_home view root.home) root.num records l i in
        ap (is_under S root) (r.3 ∙ named r.0 r.1) ∙ sym (below r.0 r.1) ∙ r.2

    all : (l : Id) (r : Record) → l.home ≡ root.home → record_at view l ≡ Some r → is_under S root l ≡ true → In l (ids_below (at_home view root.home) root.num records)
    all l r own found under =
        let here : find (is_of l) records ≡ Some r = ap (λ h. find (is_of l) (records_at view.records h)) (sym own) ∙ found in
        let inside = find_in (is_of l) records r here in
        let number : r.num ≡ l.num = (let is = inside.1 in grind (arith, nat_tests, is)) in
        let same : l ≡ at root.home r.num = ap (λ h. at h l.num) own ∙ ap (at root.home) (sym number) in
        let passes : is_below (at_home view root.home) root.num r ≡ true = below r inside.0 ∙ ap (is_under S root) (sym same) ∙ under in
        subst (λ (x : Id). In x (ids_below (at_home view root.home) root.num records)) (named r inside.0 ∙ sym same)
        (id_below (at_home view root.home) root.num records r inside.0 passes)
