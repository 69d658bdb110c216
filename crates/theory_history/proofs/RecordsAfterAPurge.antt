-- a purge of a root, and the records that it leaves
use mathlib.Core.Bool.{not}
use Rattle.std.proofs.Common.{◌≡◌, ◌≤◌, ◌<◌, ◌-◌, ◌==◌, ◌||◌, ◌&&◌, ℕ, suc, List, [], ◌∷◌, refl, sym, ap, ◌∙◌, Bool, true, false, cond, arith, Option, Some, None, filter, find, map, is_none}
use Rattle.std.specs.Prelude.{slice_set}
use Rattle.std.specs.List.{list_any, AllByRecursion}
use Rattle.state_ids.specs.Ids.{Id, same_id}
use Rattle.state_facts.specs.declared.fact.Body.TheVariants.{Purge}
use Rattle.state_facts.specs.declared.fact.Fact.{Fact}
use Rattle.state_facts.specs.Lists.{In}
use Rattle.state_facts.specs.Sets.{begins, is_begun, chain, is_purge, is_purged_root, is_root, is_held, is_under, gives_number}
use Rattle.state_facts.proofs.Membership.{any_agree, any_gives, most_least}
use Rattle.state_forest.specs.declared.record.Record.{Record}
use Rattle.state_forest.specs.Forests.{AreOf, IsAscending, is_of}
use Rattle.state_forest.specs.Records.{nodes_to, record_of}
use Rattle.state_forest.specs.Standing.{IsWhole}
use Rattle.state_forest.proofs.ParentsAndChains.{parent_home}
use Rattle.state_forest.proofs.NumberedMembers.{same_is}
use Rattle.theory_history.specs.Growth.{IsMore, IsSettled}
use Rattle.theory_history.specs.Views.{AreRecords, is_purge_fact, purge_number}
use Rattle.theory_history.proofs.ListsWithOneMore.{map_agree, set_at_node}
use Rattle.theory_history.proofs.LeftAsItWas.{along_chain, any_gained, any_kept, most_gained, parent_kept, begun_before, chain_begun, chain_kept, equal_not, purge_kept, record_kept}
use Rattle.theory_history.proofs.Basics.{equal_from, equal_itself, false_from, held_begun}

-- Which LRAs are held

any_either : {X : Type 0} (p q : X → Bool) (xs : List X) → list_any (λ x. p x || q x) xs ≡ (list_any p xs || list_any q xs)
any_either p q [] = refl
any_either {X} p q (x ∷ xs) = ap (λ b. (p x || q x) || b) (any_either p q xs) ∙ by (p x) (q x) (list_any p xs) (list_any q xs)
  where
    by : (a b c d : Bool) → ((a || b) || (c || d)) ≡ ((a || c) || (b || d))
    by true b c d = refl
    by false true true d = refl
    by false true false d = refl
    by false false c d = refl

-- the purged root is now purged, and other roots are as they were
root_purged_now : (f : Fact) (S T : List Fact) → IsMore f S T → (r : Id) → f.body ≡ Purge r → is_root S r ≡ true → (a : Id) → is_begun S a ≡ true → is_purged_root T a ≡ (same_id r a || is_purged_root S a)
root_purged_now f S T more r body root a begun =
    let same_root : is_root T a ≡ is_root S a = ap is_none (parent_kept f S T more a (begun_before f S T more a begun)) in
    let purged : list_any (λ g. is_purge a g.body) T ≡ (same_id r a || list_any (λ g. is_purge a g.body) S) = any_gained f S T more (λ g. is_purge a g.body) ∙ rw body refl in
    rw (same_root, purged) (by (same_id r a) (is_root S a) (λ e. ap (is_root S) (sym (same_is r a e)) ∙ root))
  where
    by : (b c : Bool) → (b ≡ true → c ≡ true) → (c && (b || list_any (λ g. is_purge a g.body) S)) ≡ (b || (c && list_any (λ g. is_purge a g.body) S))
    by true true h = refl
    by true false h = h refl
    by false c h = refl

-- after the purge of a root, exactly those LRAs are held that were held and are not under it
pub purge_held : (f : Fact) (S T : List Fact) → IsMore f S T → IsSettled S → (r : Id) → f.body ≡ Purge r → is_root S r ≡ true → (x : Id) → is_held T x ≡ (is_held S x && not (is_under S r x))
purge_held f S T more settled r body root x = by (is_begun S x) refl
  where
    begun : is_begun T x ≡ is_begun S x
    begun = any_kept f S T more (begins x) (rw body refl)

    along : is_begun S x ≡ true → list_any (is_purged_root T) (chain T x) ≡ (is_under S r x || list_any (is_purged_root S) (chain S x))
    along b =
        ap (list_any (is_purged_root T)) (chain_kept f S T more settled.whole x b)
        ∙ any_agree (is_purged_root T) (λ a. same_id r a || is_purged_root S a) (chain S x) (λ a m. root_purged_now f S T more r body root a (chain_begun S settled.whole x b a m))
        ∙ any_either (same_id r) (is_purged_root S) (chain S x)

    swapped : (u p : Bool) → not (u || p) ≡ (not p && not u)
    swapped true true = refl
    swapped true false = refl
    swapped false true = refl
    swapped false false = refl

    by : (b : Bool) → is_begun S x ≡ b → is_held T x ≡ (is_held S x && not (is_under S r x))
    by true b = let gone = along b in rw (begun, b, gone) (swapped (is_under S r x) (list_any (is_purged_root S) (chain S x)))
    by false b = rw (begun, b) refl

-- Records that are removed

-- the LRA of a record
abbrev pub id_of : Record → Id
id_of q = record { home = q.home; num = q.num }

-- the records of the LRAs that are not under r
abbrev pub without_tree : List Fact → Id → List Record → List Record
without_tree S r records = filter (λ q. not (is_under S r (id_of q))) records

pub all_kept : (P : Record → Type 0) (keep : Record → Bool) (records : List Record) → AllByRecursion P records → AllByRecursion P (filter keep records)
all_kept P keep [] h = tt
all_kept P keep (q ∷ records) h = by (keep q) (all_kept P keep records h.1)
  where
    by : (b : Bool) → AllByRecursion P (filter keep records) → AllByRecursion P (cond b (q ∷ filter keep records) (filter keep records))
    by true rest = (h.0, rest)
    by false rest = rest

pub ascending_kept : (keep : Record → Bool) (records : List Record) → IsAscending records → IsAscending (filter keep records)
ascending_kept keep [] h = tt
ascending_kept keep (q ∷ records) h = by (keep q) (ascending_kept keep records h.1)
  where
    by : (b : Bool) → IsAscending (filter keep records) → IsAscending (cond b (q ∷ filter keep records) (filter keep records))
    by true rest = (all_kept (λ x. q.num < x.num) keep records h.0, rest)
    by false rest = rest

-- the records that are kept are still in order
pub filter_are_of : (home : ℕ) (keep : Record → Bool) (records : List Record) → AreOf home records → AreOf home (filter keep records)
filter_are_of home keep records h = record { homes = all_kept (λ q. q.home ≡ home) keep records h.homes; ascending = ascending_kept keep records h.ascending }

-- if a test keeps either all or none of the records that pass another, these are found as before or
-- not at all
find_filter : (t keep : Record → Bool) (k : Bool) (records : List Record) → ((q : Record) → t q ≡ true → keep q ≡ k) → find t (filter keep records) ≡ cond k (find t records) None
find_filter t keep true [] h = refl
find_filter t keep false [] h = refl
find_filter t keep k (q ∷ records) h = by (t q) refl (keep q) refl k refl (find_filter t keep k records h)
  where
    by : (a : Bool) → t q ≡ a → (b : Bool) → keep q ≡ b → (c : Bool) → k ≡ c → find t (filter keep records) ≡ cond k (find t records) None → find t (cond b (q ∷ filter keep records) (filter keep records)) ≡ cond k (cond a (Some q) (find t records)) None
    by true e true g true s rest = rw (e, s) refl
    by true e true g false s rest = absurd (let own = h q e in cc)
    by true e false g true s rest = absurd (let own = h q e in cc)
    by true e false g false s rest = rest ∙ rw s refl
    by false e true g c s rest = rw e rest
    by false e false g c s rest = rest

of_id : (x : Id) (q : Record) → is_of x q ≡ true → id_of q ≡ x
of_id x q e = same_is (id_of q) x e

find_without : (S : List Fact) (r x : Id) (records : List Record) → find (is_of x) (without_tree S r records) ≡ cond (not (is_under S r x)) (find (is_of x) records) None
find_without S r x records =
    find_filter (is_of x) (λ q. not (is_under S r (id_of q))) (not (is_under S r x)) records (λ q e. ap (λ (y : Id). not (is_under S r y)) (of_id x q e))

-- The records after a purge

purge_record : (f : Fact) (S T : List Fact) → IsMore f S T → IsSettled S → (nodes : ℕ) (r x : Id) → f.body ≡ Purge r → is_held S x ≡ true → record_of nodes T x ≡ record_of nodes S x
purge_record f S T more settled nodes r x body held =
    record_kept f S T more settled (λ p g. absurd (let wrong : gives_number p (Purge r) ≡ true = rw body at g in cc)) nodes x (held_begun S x held) (rw body refl)

-- the records under the root are removed, and the others stay
pub purge_stands : (f : Fact) (S T : List Fact) → IsMore f S T → IsSettled S → (nodes home : ℕ) (r : Id) (records : List Record) → f.body ≡ Purge r → is_root S r ≡ true
    → AreRecords nodes S home records → AreRecords nodes T home (without_tree S r records)
purge_stands f S T more settled nodes home r records body root are =
    record {
      order = filter_are_of home (λ q. not (is_under S r (id_of q))) records are.order;
      stands = λ x at.
          find_without S r x records
          ∙ ap (λ (o : Option Record). cond (not (is_under S r x)) o None) (are.stands x at)
          ∙ by x (is_held S x) refl (is_under S r x) refl (purge_held f S T more settled r body root x);
    }
  where
    by : (x : Id) (b : Bool) → is_held S x ≡ b → (u : Bool) → is_under S r x ≡ u → is_held T x ≡ (is_held S x && not (is_under S r x)) → cond (not u) (cond b (Some (record_of nodes S x)) None) None ≡ cond (is_held T x) (Some (record_of nodes T x)) None
    by x true held true under after = let none : is_held T x ≡ false = after ∙ rw (held, under) refl in rw none refl
    by x true held false under after =
        let still : is_held T x ≡ true = after ∙ rw (held, under) refl in
        rw still (ap (λ (q : Record). Some q) (sym (purge_record f S T more settled nodes r x body held)))
    by x false held true under after = let none : is_held T x ≡ false = after ∙ rw held refl in rw none refl
    by x false held false under after = let none : is_held T x ≡ false = after ∙ rw held refl in rw none refl

-- an LRA that is under another has the same home
under_home : (S : List Fact) → IsWhole S → (r x : Id) → is_under S r x ≡ true → r.home ≡ x.home
under_home S whole r x e =
    let found = any_gives (same_id r) (chain S x) e in
    ap (λ (y : Id). y.home) (same_is r found.0 found.2)
    ∙ along_chain (λ y. y.home ≡ x.home) S (λ l p h up. parent_home S l p whole.nested up ∙ h) x.num x found.0 refl found.1

-- the records of other homes stay
pub purge_elsewhere_stands : (f : Fact) (S T : List Fact) → IsMore f S T → IsSettled S → (nodes home : ℕ) (r : Id) (records : List Record) → f.body ≡ Purge r → is_root S r ≡ true → (r.home ≡ home → ⊥)
    → AreRecords nodes S home records → AreRecords nodes T home records
purge_elsewhere_stands f S T more settled nodes home r records body root other are =
    record {
      order = are.order;
      stands = λ x at. are.stands x at ∙ by x (is_held S x) refl (purge_held f S T more settled r body root x ∙ apart x at);
    }
  where
    and_true : (b : Bool) → (b && true) ≡ b
    and_true true = refl
    and_true false = refl

    apart : (x : Id) → x.home ≡ home → (is_held S x && not (is_under S r x)) ≡ is_held S x
    apart x at = let none = false_from (is_under S r x) (λ e. other (under_home S settled.whole r x e ∙ at)) in rw none (and_true (is_held S x))

    by : (x : Id) (b : Bool) → is_held S x ≡ b → is_held T x ≡ is_held S x → cond b (Some (record_of nodes S x)) None ≡ cond (is_held T x) (Some (record_of nodes T x)) None
    by x true held same =
        let still = same ∙ held in
        rw still (ap (λ (q : Record). Some q) (sym (purge_record f S T more settled nodes r x body held)))
    by x false held same = let still = same ∙ held in rw still refl

-- The numbers of the last purges

purge_here : (f : Fact) (S T : List Fact) → IsMore f S T → is_purge_fact f.body ≡ true → purge_number T f.origin ≡ f.num
purge_here f S T more e =
    let same = equal_itself f.origin in
    let below : purge_number S f.origin ≤ f.num = most_least (λ g. cond ((g.origin == f.origin) && is_purge_fact g.body) g.num 0) S f.num (λ g m. counted g m (g.origin == f.origin) (is_purge_fact g.body) refl) in
    most_gained f S T more (λ g. cond ((g.origin == f.origin) && is_purge_fact g.body) g.num 0) ∙ rw (same, e) (omega (arith, below))
  where
    counted : (g : Fact) → In g S → (b c : Bool) → (g.origin == f.origin) ≡ b → cond (b && c) g.num 0 ≤ f.num
    counted g m true true at = let less = more.newest g m (equal_from g.origin f.origin at) in omega (arith, less)
    counted g m true false at = omega arith
    counted g m false c at = omega arith

purge_elsewhere : (f : Fact) (S T : List Fact) → IsMore f S T → (node : ℕ) → (f.origin == node) ≡ false → purge_number T node ≡ purge_number S node
purge_elsewhere f S T more node e =
    most_gained f S T more (λ g. cond ((g.origin == node) && is_purge_fact g.body) g.num 0) ∙ rw e (omega arith)

-- a purge is then the last of its node
pub purges_gained : (f : Fact) (S T : List Fact) → IsMore f S T → is_purge_fact f.body ≡ true → (n : ℕ) → map (purge_number T) (nodes_to n) ≡ slice_set (map (purge_number S) (nodes_to n)) (f.origin - 1) f.num
purges_gained f S T more e n =
    let some = more.some in
    let at : suc (f.origin - 1) ≡ f.origin = omega (arith, some) in
    set_at_node (purge_number S) (purge_number T) (f.origin - 1) f.num n (ap (purge_number T) at ∙ purge_here f S T more e)
    (λ k other. purge_elsewhere f S T more k (equal_not f.origin k (λ s. other (sym s ∙ sym at))))

-- any other fact changes no last purge
pub purges_kept : (f : Fact) (S T : List Fact) → IsMore f S T → is_purge_fact f.body ≡ false → (n : ℕ) → map (purge_number T) (nodes_to n) ≡ map (purge_number S) (nodes_to n)
purges_kept f S T more e n = map_agree (purge_number T) (purge_number S) (nodes_to n) (λ k m. purge_kept f S T more e k)
