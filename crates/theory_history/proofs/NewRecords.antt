-- the record of a new LRA
use Rattle.std.proofs.Common.{◌≡◌, ◌≤◌, ◌<◌, ◌+◌, ◌-◌, ◌==◌, ◌&&◌, ℕ, List, [], ◌∷◌, ◌++◌, refl, sym, ap, subst, ◌∙◌, Bool, true, false, cond, arith, Option, Some, None, IfSome, filter, map, length, nat_lt, replicate}
use Rattle.std.proofs.lemmas.Bool.Decides.{nat_tests}
use Rattle.std.specs.Prelude.{slice_set}
use Rattle.std.specs.List.{list_any, AllByRecursion}
use Rattle.std.specs.Option.{option_map_or}
use Rattle.state_ids.specs.Ids.{Id, same_id}
use Rattle.state_ids.specs.declared.outcome.Verdict.{Verdict}
use Rattle.state_ids.specs.declared.outcome.Verdict.TheVariants.{Close, Cancel}
use Rattle.state_facts.specs.declared.fact.Body.TheVariants.{Begin}
use Rattle.state_facts.specs.declared.fact.Fact.{Fact}
use Rattle.state_facts.specs.Lists.{In}
use Rattle.state_facts.specs.Sets.{begins, begun_by, is_begun, parent_of, chain, is_decision, is_decided, is_purge, is_purged_root, is_root, is_held, gives_number, member_number, numbers_given, NamesEarlier}
use Rattle.state_facts.proofs.Chains.{chain_is}
use Rattle.state_facts.proofs.Membership.{most_least, filter_in}
use Rattle.state_forest.specs.declared.record.Place.{Place}
use Rattle.state_forest.specs.declared.record.Member.{Member}
use Rattle.state_forest.specs.declared.record.Record.{Record}
use Rattle.state_forest.specs.Records.{is_about, is_named, stamp, nodes_to, by_number, givers, member_by, members_of, deadline_of, place_in, decision_of, record_of}
use Rattle.state_forest.specs.Standing.{IsWhole}
use Rattle.state_forest.proofs.Begins.{begins_own}
use Rattle.state_forest.proofs.Bools.{and_right, not_false}
use Rattle.state_forest.proofs.ParentsAndChains.{begins_at}
use Rattle.state_forest.proofs.GiversOfNumbers.{filter_both}
use Rattle.state_forest.proofs.NumberedMembers.{same_is}
use Rattle.theory_history.specs.Growth.{IsMore, IsSettled, new_record, next_place}
use Rattle.theory_history.proofs.ListsWithOneMore.{none_found, filter_none, filter_all, parent_first, deadline_first, zero_at_nodes}
use Rattle.theory_history.proofs.LeftAsItWas.{any_kept, any_gained, filter_kept, begun_lesser, held_kept, members_kept, decision_kept, stamps_gained}
use Rattle.theory_history.proofs.Basics.{decision_names, false_from, giver_names, held_begun, in_left}

-- the begin names a parent that is begun at its home
abbrev pub IsAbove : Fact → List Fact → Option Id → Type 0
IsAbove f S parent = (p : Id) → parent ≡ Some p → (f.origin ≡ p.home) × (is_begun S p ≡ true)

-- What the set says of a new LRA before: nothing

pub begins_new : (f : Fact) (parent : Option Id) (deadline : ℕ) → f.body ≡ Begin parent deadline → begins (begun_by f) f ≡ true
begins_new f parent deadline body = begins_own f (rw body refl)

pub not_begun_yet : (f : Fact) (S T : List Fact) → IsMore f S T → (g : Fact) → In g S → begins (begun_by f) g ≡ false
not_begun_yet f S T more g k = false_from (begins (begun_by f) g) (λ e.
    let at = begins_at (begun_by f) g e in
    let less = more.newest g k at.0 in
    omega (arith, less, at.1))

-- the new LRA was not begun before
pub new_unbegun : (f : Fact) (S T : List Fact) → IsMore f S T → is_begun S (begun_by f) ≡ false
new_unbegun f S T more = none_found (begins (begun_by f)) S (λ g k. not_begun_yet f S T more g k)

-- and no fact names it
pub new_unnamed : (f : Fact) (S T : List Fact) → IsMore f S T → IsSettled S → (g : Fact) → In g S → is_named (begun_by f) g.body ≡ false
new_unnamed f S T more settled g k = false_from (is_named (begun_by f) g.body) (λ e.
    let wrong : true ≡ false = sym (settled.named g (begun_by f) k e) ∙ new_unbegun f S T more in cc)

new_undecided : (f : Fact) (S T : List Fact) → IsMore f S T → IsSettled S → (v : Verdict) → is_decided S v (begun_by f) ≡ false
new_undecided f S T more settled v = none_found (λ g. is_decision (begun_by f) v g.body) S (λ g k. false_from (is_decision (begun_by f) v g.body) (λ e.
    let wrong : true ≡ false = sym (decision_names (begun_by f) v g.body e) ∙ new_unnamed f S T more settled g k in cc))

no_givers : (f : Fact) (S T : List Fact) → IsMore f S T → IsSettled S → givers S (begun_by f) ≡ []
no_givers f S T more settled =
    ap by_number (filter_none (λ g. gives_number (begun_by f) g.body) S (λ g k. false_from (gives_number (begun_by f) g.body) (λ e.
    let wrong : true ≡ false = sym (giver_names (begun_by f) g.body e) ∙ new_unnamed f S T more settled g k in cc)))

no_stamp : (f : Fact) (S T : List Fact) → IsMore f S T → IsSettled S → (node : ℕ) → stamp S (begun_by f) node ≡ 0
no_stamp f S T more settled node =
    let below : stamp S (begun_by f) node ≤ 0 = most_least (λ g. cond ((g.origin == node) && is_about (begun_by f) g) g.num 0) S 0 (λ g k. zero_at g k) in
    omega (arith, below)
  where
    by : (g : Fact) (a b : Bool) → b ≡ false → cond (a && b) g.num 0 ≤ 0
    by g true b e = rw e (omega arith)
    by g false b e = omega arith

    zero_at : (g : Fact) → In g S → cond ((g.origin == node) && is_about (begun_by f) g) g.num 0 ≤ 0
    zero_at g k =
        let begun = not_begun_yet f S T more g k in
        let named = new_unnamed f S T more settled g k in
        let about : is_about (begun_by f) g ≡ false = rw (begun, named) refl in
        by g (g.origin == node) (is_about (begun_by f) g) about

-- What the set with the new fact says of it

begun_earlier : (f : Fact) (S T : List Fact) (more : IsMore f S T) (g : Fact) → In g more.before → begins (begun_by f) g ≡ false
begun_earlier f S T more g k = not_begun_yet f S T more g (subst (λ (xs : List Fact). In g xs) (sym more.was) (in_left more.before more.after g k))

pub new_parent : (f : Fact) (S T : List Fact) → IsMore f S T → (parent : Option Id) (deadline : ℕ) → f.body ≡ Begin parent deadline → parent_of T (begun_by f) ≡ parent
new_parent f S T more parent deadline body =
    ap (λ xs. parent_of xs (begun_by f)) more.is
    ∙ parent_first more.before more.after f (begun_by f) (begun_earlier f S T more) (begins_new f parent deadline body)
    ∙ rw body refl

new_deadline : (f : Fact) (S T : List Fact) → IsMore f S T → (parent : Option Id) (deadline : ℕ) → f.body ≡ Begin parent deadline → deadline_of T (begun_by f) ≡ deadline
new_deadline f S T more parent deadline body =
    ap (λ xs. deadline_of xs (begun_by f)) more.is
    ∙ deadline_first more.before more.after f (begun_by f) (begun_earlier f S T more) (begins_new f parent deadline body)
    ∙ rw body refl

-- its member number is the next one of its parent
new_number : (f : Fact) (S T : List Fact) → IsMore f S T → IsSettled S → (p : Id) → f.origin ≡ p.home → member_number T p f.num ≡ numbers_given S p + 1
new_number f S T more settled p at =
    ap (λ (fs : List Fact). length fs + 1)
    (filter_kept f S T more (λ g. gives_number p g.body && nat_lt g.num f.num) (by (gives_number p f.body) (not_less f.num))
    ∙ filter_both (λ (g : Fact). gives_number p g.body) (λ (g : Fact). nat_lt g.num f.num) S
    ∙ filter_all (λ (g : Fact). nat_lt g.num f.num) (filter (λ (g : Fact). gives_number p g.body) S) (λ g k.
    let there = filter_in (λ (x : Fact). gives_number p x.body) S g k in
    less g.num f.num (more.newest g there.0 (settled.seated.givers g p there.0 there.1 ∙ sym at))))
  where
    not_less : (n : ℕ) → nat_lt n n ≡ false
    not_less n = grind (arith, nat_tests)

    less : (a b : ℕ) → a < b → nat_lt a b ≡ true
    less a b h = grind (arith, nat_tests)

    by : (b : Bool) → nat_lt f.num f.num ≡ false → (b && nat_lt f.num f.num) ≡ false
    by true e = e
    by false e = refl

new_place : (f : Fact) (S T : List Fact) → IsMore f S T → IsSettled S → (parent : Option Id) → ((p : Id) → parent ≡ Some p → f.origin ≡ p.home) → place_in T f.num parent ≡ next_place S parent
new_place f S T more settled None home = refl
new_place f S T more settled (Some p) home = ap (λ n. Some (record { number = p.num; slot = n })) (new_number f S T more settled p (home p refl))

-- the new LRA is not its own parent
not_own : (f : Fact) (S T : List Fact) → IsMore f S T → (parent : Option Id) (deadline : ℕ) → f.body ≡ Begin parent deadline → IsAbove f S parent → gives_number (begun_by f) f.body ≡ false
not_own f S T more parent deadline body up = rw body (by parent up)
  where
    by : (o : Option Id) → IsAbove f S o → option_map_or (λ p. same_id p (begun_by f)) o false ≡ false
    by None u = refl
    by (Some p) u = false_from (same_id p (begun_by f)) (λ e.
        let wrong : true ≡ false = sym (u p refl).1 ∙ ap (is_begun S) (same_is p (begun_by f) e) ∙ new_unbegun f S T more in cc)

new_decision : (f : Fact) (S T : List Fact) → IsMore f S T → IsSettled S → (parent : Option Id) (deadline : ℕ) → f.body ≡ Begin parent deadline → decision_of T (begun_by f) ≡ None
new_decision f S T more settled parent deadline body =
    let cancel = new_undecided f S T more settled Cancel in
    let close = new_undecided f S T more settled Close in
    decision_kept f S T more (begun_by f) (λ v. rw body refl) ∙ rw (cancel, close) refl

new_members : (f : Fact) (S T : List Fact) → IsMore f S T → IsSettled S → (parent : Option Id) (deadline : ℕ) → f.body ≡ Begin parent deadline → IsAbove f S parent → members_of T (begun_by f) ≡ []
new_members f S T more settled parent deadline body up =
    members_kept f S T more (begun_by f) (not_own f S T more parent deadline body up) (rw body (record { leaves = λ n. refl; reports = λ n a. refl; forgets = λ n. refl; tells = λ n. refl }))
    ∙ ap (map (λ (g : Fact). member_by S (begun_by f) g.num g.body)) (no_givers f S T more settled)

new_stamps : (f : Fact) (S T : List Fact) → IsMore f S T → IsSettled S → (nodes : ℕ) (parent : Option Id) (deadline : ℕ) → f.body ≡ Begin parent deadline → map (stamp T (begun_by f)) (nodes_to nodes) ≡ slice_set (replicate nodes 0) (f.origin - 1) f.num
new_stamps f S T more settled nodes parent deadline body =
    let begun = begins_new f parent deadline body in
    let about : is_about (begun_by f) f ≡ true = rw begun refl in
    stamps_gained f S T more (begun_by f) about nodes
    ∙ ap (λ xs. slice_set xs (f.origin - 1) f.num) (zero_at_nodes (stamp S (begun_by f)) nodes (no_stamp f S T more settled))

record_all : (home num : ℕ) (a b : Option Place) (c d : ℕ) (e g : Option Verdict) (s t : List ℕ) (m n : List Member) → a ≡ b → c ≡ d → e ≡ g → s ≡ t → m ≡ n → ◌≡◌ {A = Record} (record { home = home; num = num; parent = a; deadline = c; decision = e; stamps = s; members = m }) (record { home = home; num = num; parent = b; deadline = d; decision = g; stamps = t; members = n })
record_all home num a b c d e g s t m n p q r u w = rw (p, q, r, u, w) refl

-- the record of an LRA that the fact begins
pub begin_record : (f : Fact) (S T : List Fact) → IsMore f S T → IsSettled S → (nodes : ℕ) (parent : Option Id) (deadline : ℕ) → f.body ≡ Begin parent deadline → IsAbove f S parent → record_of nodes T (begun_by f) ≡ new_record nodes S f parent deadline
begin_record f S T more settled nodes parent deadline body up =
    record_all f.origin f.num _ _ _ _ _ _ _ _ _ _
    (ap (place_in T f.num) (new_parent f S T more parent deadline body) ∙ new_place f S T more settled parent (λ p e. (up p e).0))
    (new_deadline f S T more parent deadline body)
    (new_decision f S T more settled parent deadline body)
    (new_stamps f S T more settled nodes parent deadline body)
    (new_members f S T more settled parent deadline body up)

-- The new LRA is held

all_join : (f : Fact) (xs ys : List Fact) → AllByRecursion NamesEarlier (xs ++ ys) → NamesEarlier f → AllByRecursion NamesEarlier (xs ++ f ∷ ys)
all_join f [] ys h e = (e, h)
all_join f (x ∷ xs) ys h e = (h.0, all_join f xs ys h.1 e)

names_earlier : (f : Fact) (S T : List Fact) → IsMore f S T → (parent : Option Id) (deadline : ℕ) → f.body ≡ Begin parent deadline → IsAbove f S parent → NamesEarlier f
names_earlier f S T more parent deadline body up = rw body (by parent up)
  where
    by : (o : Option Id) → IsAbove f S o → IfSome o (λ p. (p.home ≡ f.origin) × (p.num < f.num))
    by None u = tt
    by (Some p) u = let h = u p refl in (sym h.0, begun_lesser f S T more p h.1 (sym h.0))

-- parents still come first with the new fact
pub nested_more : (f : Fact) (S T : List Fact) → IsMore f S T → IsWhole S → (parent : Option Id) (deadline : ℕ) → f.body ≡ Begin parent deadline → IsAbove f S parent → AllByRecursion NamesEarlier T
nested_more f S T more whole parent deadline body up =
    subst (AllByRecursion NamesEarlier) (sym more.is)
    (all_join f more.before more.after (subst (AllByRecursion NamesEarlier) more.was whole.nested) (names_earlier f S T more parent deadline body up))

none_along : (S : List Fact) (l : Id) → is_held S l ≡ true → list_any (is_purged_root S) (chain S l) ≡ false
none_along S l e = not_false _ (and_right (is_begun S l) _ e)

-- the begin names a parent that is held at its home
abbrev pub IsHeldAbove : Fact → List Fact → Option Id → Type 0
IsHeldAbove f S parent = (p : Id) → parent ≡ Some p → (f.origin ≡ p.home) × (is_held S p ≡ true)

pub above_begun : (f : Fact) (S : List Fact) (parent : Option Id) → IsHeldAbove f S parent → IsAbove f S parent
above_begun f S parent up p e = let h = up p e in (h.0, held_begun S p h.1)

new_unpurged : (f : Fact) (S T : List Fact) → IsMore f S T → IsSettled S → (parent : Option Id) (deadline : ℕ) → f.body ≡ Begin parent deadline → is_purged_root T (begun_by f) ≡ false
new_unpurged f S T more settled parent deadline body = rw unpurged (both (is_root T (begun_by f)))
  where
    unpurged : list_any (λ g. is_purge (begun_by f) g.body) T ≡ false
    unpurged =
        any_kept f S T more (λ g. is_purge (begun_by f) g.body) (rw body refl)
        ∙ none_found (λ g. is_purge (begun_by f) g.body) S (λ g k. false_from (is_purge (begun_by f) g.body) (λ e.
        let wrong : true ≡ false = sym (settled.purged g (begun_by f) k e) ∙ new_unbegun f S T more in cc))

    both : (a : Bool) → (a && false) ≡ false
    both true = refl
    both false = refl

-- the new LRA is held
pub new_held : (f : Fact) (S T : List Fact) → IsMore f S T → IsSettled S → (parent : Option Id) (deadline : ℕ) → f.body ≡ Begin parent deadline → IsHeldAbove f S parent → is_held T (begun_by f) ≡ true
new_held f S T more settled parent deadline body up =
    let own = begins_new f parent deadline body in
    let begun : is_begun T (begun_by f) ≡ true = any_gained f S T more (begins (begun_by f)) ∙ rw own refl in
    let nested = nested_more f S T more settled.whole parent deadline body (above_begun f S parent up) in
    let above = new_parent f S T more parent deadline body in
    let chained : chain T (begun_by f) ≡ begun_by f ∷ option_map_or (chain T) parent [] = chain_is T nested (begun_by f) ∙ ap (λ (o : Option Id). begun_by f ∷ option_map_or (chain T) o []) above in
    let first = new_unpurged f S T more settled parent deadline body in
    let none : list_any (is_purged_root T) (chain T (begun_by f)) ≡ false = ap (list_any (is_purged_root T)) chained ∙ rw first (rest parent up) in
    rw (begun, none) refl
  where
    rest : (o : Option Id) → IsHeldAbove f S o → list_any (is_purged_root T) (option_map_or (chain T) o []) ≡ false
    rest None u = refl
    rest (Some p) u =
        let h = u p refl in
        none_along T p (held_kept f S T more settled.whole (rw body refl) p (held_begun S p h.1) ∙ h.1)
