-- walking down the members gives what the set says
use Rattle.std.proofs.Common.{◌≡◌, ◌+◌, ◌<◌, ◌≤◌, ℕ, zero, suc, List, refl, sym, ap, ◌∙◌, Bool, true, false, arith, Some, length}
use Rattle.std.specs.List.{list_any}
use Rattle.state_ids.specs.Ids.{Id}
use Rattle.state_ids.specs.declared.status.MemberStatus.{MemberStatus}
use Rattle.state_facts.specs.declared.fact.Fact.{Fact}
use Rattle.state_facts.specs.Sets.{parent_of, chain, depth, is_begun, is_held, is_purged_root, want, some_shows}
use Rattle.state_forest.specs.declared.record.Member.{Member}
use Rattle.state_forest.specs.declared.record.Member.TheVariants.{Nested, Participant, Left}
use Rattle.state_facts.specs.Lists.{In}
use Rattle.state_forest.specs.Forests.{HomeRecords}
use Rattle.state_forest.specs.Records.{members_of}
use Rattle.state_forest.specs.Standing.{IsWhole, IsNested, Stands}
use Rattle.state_forest.specs.Shape.{found_at}
use Rattle.state_forest.specs.Statuses.{member_passes, shows_within}
use Rattle.state_facts.proofs.Chains.{chain_is}
use Rattle.state_facts.proofs.Membership.{any_agree}
use Rattle.state_forest.proofs.Bools.{and_right, not_false}
use Rattle.state_forest.proofs.ParentsAndChains.{chain_up}
use Rattle.state_forest.proofs.Begins.{parent_begun}
use Rattle.state_forest.proofs.RecordsOfASet.{child_at}
use Rattle.state_forest.proofs.UnderAnLra.{nested_at, nested_child, shows_member, tree_law}
use Rattle.state_forest.proofs.WantsByParents.{want_up}

-- an LRA that is nested in a held one is held
pub held_child : (S : List Fact) (l c : Id) → IsWhole S → parent_of S c ≡ Some l → is_held S l ≡ true → is_held S c ≡ true
held_child S l c whole up held =
    let begun = parent_begun S c l up in
    let kept = not_false _ (and_right (is_begun S l) _ held) in
    let no_root : is_purged_root S c ≡ false = rw up refl in
    let along : list_any (is_purged_root S) (chain S c) ≡ false = ap (list_any (is_purged_root S)) (chain_up S whole.nested c l up) ∙ rw no_root kept in
    rw (begun, along) refl

pub depth_up : (S : List Fact) (l c : Id) → IsWhole S → parent_of S c ≡ Some l → depth S c ≡ suc (depth S l)
depth_up S l c whole up = ap (λ (ids : List Id). length ids) (chain_up S whole.nested c l up)

pub not_deeper : (S : List Fact) (l c : Id) → IsWhole S → IsNested S → parent_of S c ≡ Some l → depth S l < 8
not_deeper S l c whole nest up = omega (arith, nest.shallow c (parent_begun S c l up), depth_up S l c whole up)

bottom : (test : MemberStatus → Bool) (S : List Fact) (h : HomeRecords) (l : Id) → IsWhole S → IsNested S → 8 ≤ depth S l → (m : Member) → In m (members_of S l) → shows_within zero test (found_at h.home h.records) l.num (want S l) m ≡ shows_member test S l m
unfolding shows_within
bottom test S h l whole nest deep (Participant p) i = refl
bottom test S h l whole nest deep Left i = refl
bottom test S h l whole nest deep (Nested n) i = absurd (omega (arith, deep, not_deeper S l (nested_at l n) whole nest (nested_child S l n whole nest.once i)))

level : (test : MemberStatus → Bool) (nodes : ℕ) (S : List Fact) (h : HomeRecords) (k : ℕ) (l : Id) → IsWhole S → IsNested S → Stands nodes h.home S h.records → l.home ≡ h.home → is_held S l ≡ true → 8 ≤ suc k + depth S l → ((c : Id) → c.home ≡ h.home → is_held S c ≡ true → 8 ≤ k + depth S c → list_any (shows_within k test (found_at h.home h.records) c.num (want S c)) (members_of S c) ≡ some_shows test S c) → (m : Member) → In m (members_of S l) → shows_within (suc k) test (found_at h.home h.records) l.num (want S l) m ≡ shows_member test S l m
unfolding shows_within
level test nodes S h k l whole nest stands at held deep rest (Participant p) i = refl
level test nodes S h k l whole nest stands at held deep rest Left i = refl
level test nodes S h k l whole nest stands at held deep rest (Nested n) i =
    let c = nested_at l n in
    let up = nested_child S l n whole nest.once i in
    let child = held_child S l c whole up held in
    ap (member_passes (shows_within k test (found_at h.home h.records) n) (want S l)) (child_at nodes h.home S h.records l c stands at up child)
    ∙ ap (λ w. list_any (shows_within k test (found_at h.home h.records) n w) (members_of S c)) (sym (want_up S whole.nested c l up))
    ∙ rest c at child (omega (arith, deep, depth_up S l c whole up))

-- walking this many levels down from an LRA covers all that is under it
pub descent : (test : MemberStatus → Bool) (nodes : ℕ) (S : List Fact) (h : HomeRecords) → IsWhole S → IsNested S → Stands nodes h.home S h.records → (levels : ℕ) (l : Id) → l.home ≡ h.home → is_held S l ≡ true → 8 ≤ levels + depth S l → list_any (shows_within levels test (found_at h.home h.records) l.num (want S l)) (members_of S l) ≡ some_shows test S l
descent test nodes S h whole nest stands zero l at held deep =
    any_agree (shows_within zero test (found_at h.home h.records) l.num (want S l)) (shows_member test S l) (members_of S l) (bottom test S h l whole nest (omega (arith, deep)))
    ∙ sym (tree_law test S l whole nest.once)
descent test nodes S h whole nest stands (suc k) l at held deep =
    any_agree (shows_within (suc k) test (found_at h.home h.records) l.num (want S l)) (shows_member test S l) (members_of S l)
    (level test nodes S h k l whole nest stands at held deep (λ c home kept far. descent test nodes S h whole nest stands k c home kept far))
    ∙ sym (tree_law test S l whole nest.once)

pub some_depth : (S : List Fact) (l : Id) → IsWhole S → 1 ≤ depth S l
some_depth S l whole = omega (arith, ap (λ (ids : List Id). length ids) (chain_is S whole.nested l))
