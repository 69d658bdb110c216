-- the record that one more fact names, if the fact is a decision, a join, or a begin of an LRA
-- nested in it
use Rattle.std.proofs.Common.{◌≡◌, inl, inr, ◌<◌, ◌+◌, ◌==◌, ◌||◌, ◌&&◌, ℕ, List, [], ◌∷◌, ◌++◌, refl, sym, ap, subst, ◌∙◌, Bool, true, false, cond, arith, Some, None}
use Rattle.std.specs.List.{list_any}
use Rattle.state_ids.specs.Ids.{Id, same_id}
use Rattle.state_ids.specs.States.{same_act, same_verdict}
use Rattle.state_ids.specs.declared.outcome.Act.{Act}
use Rattle.state_ids.specs.declared.outcome.Act.TheVariants.{Complete, Compensate}
use Rattle.state_ids.specs.declared.outcome.Verdict.{Verdict}
use Rattle.state_ids.specs.declared.outcome.Verdict.TheVariants.{Close, Cancel}
use Rattle.state_facts.specs.declared.fact.Body.{Body}
use Rattle.state_facts.specs.declared.fact.Body.TheVariants.{Begin, Join, Leave, Decide, Report, Forgot, Told, Purge}
use Rattle.state_facts.specs.declared.fact.Fact.{Fact}
use Rattle.state_facts.specs.Links.{Links}
use Rattle.state_facts.specs.Duties.{is_forgot, has_forgot, has_told, is_told_of}
use Rattle.state_facts.specs.Lists.{In}
use Rattle.state_facts.specs.Sets.{is_begun, chain, heard, reported, is_decision, is_decided, is_leave, has_left, want, gives_number, numbers_given}
use Rattle.state_facts.proofs.Membership.{any_from}
use Rattle.state_forest.specs.declared.record.Member.{Member}
use Rattle.state_forest.specs.Records.{is_named, member_by, members_of, deadline_of, decision_of, record_of}
use Rattle.state_forest.proofs.NumberedMembers.{same_is, same_self}
use Rattle.theory_history.specs.Growth.{IsMore, IsSettled, joined, members_after, decision_after, record_after, names_member}
use Rattle.theory_history.proofs.ListsWithOneMore.{none_found}
use Rattle.theory_history.proofs.LeftAsItWas.{any_gained, in_more, begun_before, deadline_kept, parent_part, stamps_gained, members_kept, members_gained, decision_kept, record_is}
use Rattle.theory_history.proofs.Basics.{about_named, false_from, own_in_chain}

-- how the record of an LRA that was begun before changes, by its decision and its members
pub record_gained : (f : Fact) (S T : List Fact) → IsMore f S T → IsSettled S → ((p : Id) → gives_number p f.body ≡ true → f.origin ≡ p.home) → (nodes : ℕ) (l : Id) → is_begun S l ≡ true → is_named l f.body ≡ true
    → decision_of T l ≡ decision_after f.body (decision_of S l) → members_of T l ≡ members_after f.num f.body (members_of S l) → record_of nodes T l ≡ record_after f (record_of nodes S l)
record_gained f S T more settled home nodes l b named decision members =
    let began = begun_before f S T more l b in
    rw (deadline_kept f S T more l began)
    (record_is l.home l.num (deadline_of S l) _ _ _ _ _ _ _ _
    (parent_part f S T more settled.whole home l b)
    decision
    (stamps_gained f S T more l (about_named l f named) nodes)
    members)

-- A decision

none_wanted : (a b : Bool) → cond a (Some Cancel) (cond b (Some Close) None) ≡ None → (a ≡ false) × (b ≡ false)
none_wanted true b e = absurd cc
none_wanted false true e = absurd cc
none_wanted false false e = (refl, refl)

-- an LRA that wants nothing was not decided
pub undecided : (S : List Fact) (l : Id) → want S l ≡ None → (v : Verdict) → is_decided S v l ≡ false
undecided S l e Cancel = false_from (is_decided S Cancel l) (λ d.
    let none = none_wanted (list_any (is_decided S Cancel) (chain S l)) (list_any (is_decided S Close) (chain S l)) e in
    let some = any_from (is_decided S Cancel) (chain S l) l (own_in_chain S l.num l) d in
    let wrong : true ≡ false = sym some ∙ none.0 in cc)
undecided S l e Close = false_from (is_decided S Close l) (λ d.
    let none = none_wanted (list_any (is_decided S Cancel) (chain S l)) (list_any (is_decided S Close) (chain S l)) e in
    let some = any_from (is_decided S Close) (chain S l) l (own_in_chain S l.num l) d in
    let wrong : true ≡ false = sym some ∙ none.1 in cc)

decided_now : (f : Fact) (S T : List Fact) → IsMore f S T → (l : Id) (v : Verdict) → f.body ≡ Decide l v → want S l ≡ None → decision_of T l ≡ Some v
decided_now f S T more l v body none =
    by v (undecided S l none Cancel) (undecided S l none Close)
    (any_gained f S T more (λ g. is_decision l Cancel g.body) ∙ rw body refl)
    (any_gained f S T more (λ g. is_decision l Close g.body) ∙ rw body refl)
  where
    by : (v : Verdict) → is_decided S Cancel l ≡ false → is_decided S Close l ≡ false
        → is_decided T Cancel l ≡ ((same_id l l && same_verdict v Cancel) || is_decided S Cancel l)
        → is_decided T Close l ≡ ((same_id l l && same_verdict v Close) || is_decided S Close l) → decision_of T l ≡ Some v
    by Cancel a b c d = let e : is_decided T Cancel l ≡ true = c ∙ rw (same_self l) refl in rw e refl
    by Close a b c d =
        let e : is_decided T Cancel l ≡ false = c ∙ rw (same_self l, a) refl in
        let g : is_decided T Close l ≡ true = d ∙ rw (same_self l) refl in
        rw (e, g) refl

-- the record after a decision of an LRA that wanted nothing
pub decide_record : (f : Fact) (S T : List Fact) → IsMore f S T → IsSettled S → (nodes : ℕ) (l : Id) (v : Verdict) → f.body ≡ Decide l v → is_begun S l ≡ true → want S l ≡ None → record_of nodes T l ≡ record_after f (record_of nodes S l)
decide_record f S T more settled nodes l v body b none =
    record_gained f S T more settled (λ p g. absurd (let wrong : gives_number p (Decide l v) ≡ true = rw body at g in cc)) nodes l b (rw body (same_self l))
    (decided_now f S T more l v body none ∙ rw body refl)
    (members_kept f S T more l (rw body refl) (rw body (record { leaves = λ m. refl; reports = λ m a. refl; forgets = λ m. refl; tells = λ m. refl })) ∙ rw body refl)

-- A join

-- no fact speaks of a member whose number was not given
pub unspoken : (S : List Fact) → IsSettled S → (l : Id) (m : ℕ) → numbers_given S l < m → (g : Fact) → In g S → names_member l m g.body ≡ true → ⊥
unspoken S settled l m fresh g at e = let given = settled.members g l m at e in omega (arith, fresh, given.1)

leave_names : (l : Id) (m : ℕ) (body : Body) → is_leave l m body ≡ true → names_member l m body ≡ true
leave_names l m (Leave q n) e = e
leave_names l m (Begin p d) e = absurd cc
leave_names l m (Join q n links) e = absurd cc
leave_names l m (Decide q w) e = absurd cc
leave_names l m (Report q n act o) e = absurd cc
leave_names l m (Forgot q n) e = absurd cc
leave_names l m (Told q n) e = absurd cc
leave_names l m (Purge q) e = absurd cc

forgot_names : (l : Id) (m : ℕ) (body : Body) → is_forgot l m body ≡ true → names_member l m body ≡ true
forgot_names l m (Forgot q n) e = e
forgot_names l m (Begin p d) e = absurd cc
forgot_names l m (Join q n links) e = absurd cc
forgot_names l m (Decide q w) e = absurd cc
forgot_names l m (Report q n act o) e = absurd cc
forgot_names l m (Leave q n) e = absurd cc
forgot_names l m (Told q n) e = absurd cc
forgot_names l m (Purge q) e = absurd cc

told_names : (l : Id) (m : ℕ) (body : Body) → is_told_of l m body ≡ true → names_member l m body ≡ true
told_names l m (Told q n) e = e
told_names l m (Begin p d) e = absurd cc
told_names l m (Join q n links) e = absurd cc
told_names l m (Decide q w) e = absurd cc
told_names l m (Report q n act o) e = absurd cc
told_names l m (Leave q n) e = absurd cc
told_names l m (Forgot q n) e = absurd cc
told_names l m (Purge q) e = absurd cc

report_silent : (l : Id) (m : ℕ) (a : Act) (body : Body) → (names_member l m body ≡ true → ⊥) → reported l m a body ≡ None
report_silent l m a (Report q n act o) h = by (same_id q l) (n == m) (same_act act a) h
  where
    by : (x y z : Bool) → ((x && y) ≡ true → ⊥) → cond (x && (y && z)) (Some o) None ≡ None
    by true true z h = absurd (h refl)
    by true false z h = refl
    by false y z h = refl
report_silent l m a (Begin p d) h = refl
report_silent l m a (Join q n links) h = refl
report_silent l m a (Decide q w) h = refl
report_silent l m a (Forgot q n) h = refl
report_silent l m a (Told q n) h = refl
report_silent l m a (Leave q n) h = refl
report_silent l m a (Purge q) h = refl

unheard : (S : List Fact) (l : Id) (m : ℕ) (a : Act) → ((g : Fact) → In g S → names_member l m g.body ≡ true → ⊥) → heard S l m a ≡ None
unheard [] l m a h = refl
unheard (g ∷ S) l m a h = let at = report_silent l m a g.body (h g (inl refl)) in let rest = unheard S l m a (λ x k. h x (inr k)) in rw (at, rest) refl

-- a member that no fact speaks of has just joined
new_member : (S : List Fact) (l q : Id) (num m : ℕ) (links : Links) → ((g : Fact) → In g S → names_member l m g.body ≡ true → ⊥) → member_by S l num (Join q m links) ≡ joined links
new_member S l q num m links h =
    let left : has_left S l m ≡ false = none_found (λ g. is_leave l m g.body) S (λ g k. false_from (is_leave l m g.body) (λ e. h g k (leave_names l m g.body e))) in
    let completed = unheard S l m Complete h in
    let compensated = unheard S l m Compensate h in
    let forgot : has_forgot S l m ≡ false = none_found (λ g. is_forgot l m g.body) S (λ g k. false_from (is_forgot l m g.body) (λ e. h g k (forgot_names l m g.body e))) in
    let told : has_told S l m ≡ false = none_found (λ g. is_told_of l m g.body) S (λ g k. false_from (is_told_of l m g.body) (λ e. h g k (told_names l m g.body e))) in
    rw (left, completed, compensated, forgot, told) refl

-- the record after a join with the next member number
pub join_record : (f : Fact) (S T : List Fact) → IsMore f S T → IsSettled S → (nodes : ℕ) (l : Id) (m : ℕ) (links : Links) → f.body ≡ Join l m links → f.origin ≡ l.home → m ≡ numbers_given S l + 1 → is_begun S l ≡ true → record_of nodes T l ≡ record_after f (record_of nodes S l)
join_record f S T more settled nodes l m links body at next b =
    record_gained f S T more settled home nodes l b (rw body (same_self l))
    (decision_kept f S T more l (λ v. rw body refl) ∙ rw body refl)
    (members_gained f S T more settled.seated l at (rw body (same_self l)) (rw body (record { leaves = λ n. refl; reports = λ n a. refl; forgets = λ n. refl; tells = λ n. refl }))
    ∙ ap (λ (c : Body). members_of S l ++ member_by T l f.num c ∷ []) body
    ∙ ap (λ (c : Member). members_of S l ++ c ∷ []) (new_member T l l f.num m links silent)
    ∙ rw body refl)
  where
    home : (p : Id) → gives_number p f.body ≡ true → f.origin ≡ p.home
    home p g = let named : same_id l p ≡ true = rw body at g in at ∙ ap (λ (x : Id). x.home) (same_is l p named)

    silent : (g : Fact) → In g T → names_member l m g.body ≡ true → ⊥
    silent g k e = elim (in_more f S T more g k) [
      | inl s ↦ (let wrong : names_member l m (Join l m links) ≡ true = subst (λ (c : Body). names_member l m c ≡ true) (ap (λ (x : Fact). x.body) s ∙ body) e in cc)
      | inr o ↦ unspoken S settled l m (omega (arith, next)) g o e
    ]

-- A begin under an LRA

-- the parent of a new LRA has one member more
pub parent_record : (f : Fact) (S T : List Fact) → IsMore f S T → IsSettled S → (nodes : ℕ) (p : Id) (deadline : ℕ) → f.body ≡ Begin (Some p) deadline → f.origin ≡ p.home → is_begun S p ≡ true → record_of nodes T p ≡ record_after f (record_of nodes S p)
parent_record f S T more settled nodes p deadline body at b =
    record_gained f S T more settled home nodes p b (rw body (same_self p))
    (decision_kept f S T more p (λ v. rw body refl) ∙ rw body refl)
    (members_gained f S T more settled.seated p at (rw body (same_self p)) (rw body (record { leaves = λ n. refl; reports = λ n a. refl; forgets = λ n. refl; tells = λ n. refl }))
    ∙ ap (λ (c : Body). members_of S p ++ member_by T p f.num c ∷ []) body ∙ rw body refl)
  where
    home : (q : Id) → gives_number q f.body ≡ true → f.origin ≡ q.home
    home q g = let named : same_id p q ≡ true = rw body at g in at ∙ ap (λ (x : Id). x.home) (same_is p q named)
