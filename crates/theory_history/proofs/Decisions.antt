-- what a home enters for an LRA that already wants something, and that an LRA is decided once
use Rattle.std.proofs.Common.{◌≡◌, ◌⊎◌, inl, inr, ◌≤◌, ◌<◌, ◌+◌, ℕ, List, [], ◌∷◌, refl, sym, ap, subst, ◌∙◌, Bool, true, false, cond, arith, Some, None}
use Rattle.std.specs.List.{list_any}
use Rattle.state_ids.specs.Ids.{Id, same_id}
use Rattle.state_ids.specs.Fronts.{count}
use Rattle.state_ids.specs.declared.outcome.Verdict.{Verdict}
use Rattle.state_ids.specs.declared.outcome.Verdict.TheVariants.{Close, Cancel}
use Rattle.state_ids.specs.States.{same_verdict}
use Rattle.state_facts.specs.declared.fact.Body.{Body}
use Rattle.state_facts.specs.declared.fact.Body.TheVariants.{Begin, Join, Leave, Decide, Report, Forgot, Told, Purge}
use Rattle.state_facts.specs.declared.fact.Fact.{Fact}
use Rattle.state_facts.specs.Lists.{In}
use Rattle.state_facts.specs.Sets.{begins, chain, is_begun, is_decided, is_decision, parent_named, parent_of, want}
use Rattle.state_facts.proofs.Membership.{any_from, any_gives, any_inside, in_append}
use Rattle.state_facts.proofs.Orders.{parent_missing}
use Rattle.state_forest.proofs.Begins.{parent_found}
use Rattle.state_forest.proofs.Bools.{and_left}
use Rattle.state_forest.proofs.ParentsAndChains.{begins_at, chain_root}
use Rattle.state_forest.proofs.NumberedMembers.{same_is, same_self}
use Rattle.theory_history.specs.Histories.{Entry, History, IsClosed, IsLawful, Made, facts, made, made_by, made_from}
use Rattle.theory_history.specs.Replies.{command_of}
use Rattle.theory_history.specs.Rising.{IsDecision}
use Rattle.theory_history.proofs.SameChains.{chain_goes, chain_home, same_chain_on}
use Rattle.theory_history.proofs.ClosedSets.{closed_settled, entry_of, facts_inside, in_facts, made_by_at, made_from_at}
use Rattle.theory_history.proofs.AcceptedCommands.{IsActiveHere, IsGiven, lawful_gives}
use Rattle.theory_history.proofs.Basics.{at_most, own_in_chain}

-- One entry for an origin and a number

made_by_once : (node num : ℕ) (es : List Entry) (d e : Made) → In d (made_by node num es) → In e (made_by node num es) → d.fact.num ≡ e.fact.num → d ≡ e
made_by_once node num [] d e h g s = absurd h
made_by_once node num (x ∷ es) d e (inl a) (inl b) s = a ∙ sym b
made_by_once node num (x ∷ es) d e (inl a) (inr b) s =
    let at : d.fact.num ≡ num = ap (λ (m : Made). m.fact.num) a in absurd (omega (arith, at, s, (made_by_at node (num + 1) es e b).1))
made_by_once node num (x ∷ es) d e (inr a) (inl b) s =
    let at : e.fact.num ≡ num = ap (λ (m : Made). m.fact.num) b in absurd (omega (arith, at, s, (made_by_at node (num + 1) es d a).1))
made_by_once node num (x ∷ es) d e (inr a) (inr b) s = made_by_once node (num + 1) es d e a b s

made_from_once : (node : ℕ) (h : History) (d e : Made) → In d (made_from node h) → In e (made_from node h) → d.fact.origin ≡ e.fact.origin → d.fact.num ≡ e.fact.num → d ≡ e
made_from_once node [] d e a b o s = absurd a
made_from_once node (es ∷ h) d e a b o s = elim (in_append (made_by node 1 es) (made_from (node + 1) h) d a) [
  | inl l ↦ elim (in_append (made_by node 1 es) (made_from (node + 1) h) e b) [
    | inl m ↦ made_by_once node 1 es d e l m s
    | inr m ↦ absurd (omega (arith, o, (made_by_at node 1 es d l).0, (made_from_at (node + 1) h e m).0))
  ]
  | inr l ↦ elim (in_append (made_by node 1 es) (made_from (node + 1) h) e b) [
    | inl m ↦ absurd (omega (arith, o, (made_by_at node 1 es e m).0, (made_from_at (node + 1) h d l).0))
    | inr m ↦ made_from_once (node + 1) h d e l m o s
  ]
]

-- an origin and a number name one entry of a history
pub made_once : (h : History) (d e : Made) → In d (made h) → In e (made h) → d.fact.origin ≡ e.fact.origin → d.fact.num ≡ e.fact.num → d ≡ e
made_once h d e a b o s = made_from_once 1 h d e a b o s

-- so they name one fact, whatever the sets are
fact_once : (h : History) (v w : List ℕ) (f g : Fact) → In f (facts h v) → In g (facts h w) → f.origin ≡ g.origin → f.num ≡ g.num → f ≡ g
fact_once h v w f g a b o n =
    let d = entry_of h v f a in
    let e = entry_of h w g b in
    let origins : d.0.fact.origin ≡ e.0.fact.origin = ap (λ (x : Fact). x.origin) (sym d.2) ∙ o ∙ ap (λ (x : Fact). x.origin) e.2 in
    let numbers : d.0.fact.num ≡ e.0.fact.num = ap (λ (x : Fact). x.num) (sym d.2) ∙ n ∙ ap (λ (x : Fact). x.num) e.2 in
    d.2 ∙ ap (λ (x : Made). x.fact) (made_once h d.0 e.0 d.1 e.1 origins numbers) ∙ sym e.2

-- the entry of a fact of a set; the set's front counts it
pub counted_entry : (h : History) (v : List ℕ) (f : Fact) → In f (facts h v) → (e : Made) × In e (made h) × (f ≡ e.fact) × (e.fact.num ≤ count v e.fact.origin)
counted_entry h v f m = let e = entry_of h v f m in (e.0, e.1, e.2, subst (λ (x : Fact). x.num ≤ count v x.origin) e.2 e.3)

-- What is entered only if an LRA wants nothing

-- a join, a leave or a decision of d
abbrev pub asks_active : Id → Body → Bool
asks_active d (Join l m links) = same_id l d
asks_active d (Leave l m) = same_id l d
asks_active d (Decide l verdict) = same_id l d
asks_active d _ = false

active_given : (S : List Fact) (v : List ℕ) (node : ℕ) (body : Body) (d : Id) → IsGiven S v node (command_of body) → asks_active d body ≡ true → IsActiveHere S v node d
active_given S v node (Begin parent deadline) d a e = absurd cc
active_given S v node (Join l m links) d a e = subst (λ (x : Id). IsActiveHere S v node x) (same_is l d e) a.0
active_given S v node (Leave l m) d a e = subst (λ (x : Id). IsActiveHere S v node x) (same_is l d e) a.0
active_given S v node (Decide l verdict) d a e = subst (λ (x : Id). IsActiveHere S v node x) (same_is l d e) a
active_given S v node (Report l m act outcome) d a e = absurd cc
active_given S v node (Forgot l m) d a e = absurd cc
active_given S v node (Told l m) d a e = absurd cc
active_given S v node (Purge l) d a e = absurd cc

-- such an entry is made by the home of d, over a set that holds d and in which d wants nothing
pub entered_active : (h : History) → IsLawful h → (e : Made) → In e (made h) → (d : Id) → asks_active d e.fact.body ≡ true → IsActiveHere (facts h e.front) e.front e.fact.origin d
entered_active h lawful e m d asks =
    active_given (facts h e.front) e.front e.fact.origin e.fact.body d
    (lawful_gives (facts h e.front) e.front e.fact.origin (command_of e.fact.body) (lawful.each e m).lawful.accepted) asks

-- a decision is one of these
pub decision_asks : (d : Id) (verdict : Verdict) (body : Body) → is_decision d verdict body ≡ true → asks_active d body ≡ true
decision_asks d verdict (Begin parent deadline) e = absurd cc
decision_asks d verdict (Join l m links) e = absurd cc
decision_asks d verdict (Leave l m) e = absurd cc
decision_asks d verdict (Decide l other) e = and_left (same_id l d) (same_verdict other verdict) e
decision_asks d verdict (Report l m act outcome) e = absurd cc
decision_asks d verdict (Forgot l m) e = absurd cc
decision_asks d verdict (Told l m) e = absurd cc
decision_asks d verdict (Purge l) e = absurd cc

-- facts that ask for d to be active are entered by its home
pub active_home : (h : History) → IsLawful h → (v : List ℕ) (f : Fact) (d : Id) → In f (facts h v) → asks_active d f.body ≡ true → f.origin ≡ d.home
active_home h lawful v f d m asks =
    let e = entry_of h v f m in
    let active = entered_active h lawful e.0 e.1 d (subst (λ (x : Fact). asks_active d x.body ≡ true) e.2 asks) in
    ap (λ (x : Fact). x.origin) e.2 ∙ sym active.home

-- and a closed set that has such a fact has begun the LRA
pub active_begun : (h : History) → IsLawful h → (v : List ℕ) → IsClosed h v → (f : Fact) (d : Id) → In f (facts h v) → asks_active d f.body ≡ true → is_begun (facts h v) d ≡ true
active_begun h lawful v closed f d m asks =
    let e = counted_entry h v f m in
    let active = entered_active h lawful e.0 e.1 d (subst (λ (x : Fact). asks_active d x.body ≡ true) e.2 asks) in
    any_inside (begins d) (facts h e.0.front) (facts h v) (facts_inside h e.0.front v (closed.kept e.0 e.1 e.3)) (and_left (is_begun (facts h e.0.front) d) _ active.held)

-- Chains in closed sets

-- an LRA has one parent in all closed sets that have begun it
pub parent_both : (h : History) → IsLawful h → (v w : List ℕ) → IsClosed h v → IsClosed h w → (l : Id) → is_begun (facts h v) l ≡ true → is_begun (facts h w) l ≡ true → parent_of (facts h v) l ≡ parent_of (facts h w) l
parent_both h lawful v w cv cw l b c =
    let one = any_gives (begins l) (facts h v) b in
    let other = any_gives (begins l) (facts h w) c in
    let here = begins_at l one.0 one.2 in
    let there = begins_at l other.0 other.2 in
    let same : one.0 ≡ other.0 = fact_once h v w one.0 other.0 one.1 other.1 (here.0 ∙ sym there.0) (here.1 ∙ sym there.1) in
    parent_found (facts h v) l one.0 (closed_settled h lawful v cv).seated.once one.1 one.2
    ∙ ap (λ (f : Fact). parent_named f.body) same
    ∙ sym (parent_found (facts h w) l other.0 (closed_settled h lawful w cw).seated.once other.1 other.2)

-- an LRA has one chain in all closed sets that have begun it
pub same_chain : (h : History) → IsLawful h → (v w : List ℕ) → IsClosed h v → IsClosed h w → (l : Id) → is_begun (facts h v) l ≡ true → is_begun (facts h w) l ≡ true → chain (facts h v) l ≡ chain (facts h w) l
same_chain h lawful v w cv cw l b c =
    same_chain_on (λ d. (is_begun (facts h v) d ≡ true) × (is_begun (facts h w) d ≡ true)) (facts h v) (facts h w)
    (λ d g. parent_both h lawful v w cv cw d g.0 g.1)
    (λ d p g e. (
      (closed_settled h lawful v cv).whole.parents d p g.0 e,
      (closed_settled h lawful w cw).whole.parents d p g.1 (sym (parent_both h lawful v w cv cw d g.0 g.1) ∙ e),
    ))
    l.num l (b, c)

-- Wants and the decisions behind them

none_wanted : (c k : Bool) → cond c (Some Cancel) (cond k (Some Close) None) ≡ None → (c ≡ false) × (k ≡ false)
none_wanted true k e = absurd cc
none_wanted false true e = absurd cc
none_wanted false false e = (refl, refl)

some_wanted : (c k : Bool) (v : Verdict) → cond c (Some Cancel) (cond k (Some Close) None) ≡ Some v → ((v ≡ Cancel) × (c ≡ true)) ⊎ ((v ≡ Close) × (k ≡ true))
some_wanted true k v e = inl (cc, refl)
some_wanted false true v e = inr (cc, refl)
some_wanted false false v e = absurd cc

-- an LRA that wants nothing has no decision in its chain
pub undecided : (S : List Fact) (l : Id) → want S l ≡ None → (v : Verdict) (a : Id) → In a (chain S l) → is_decided S v a ≡ true → ⊥
undecided S l e Cancel a m d =
    let none = none_wanted (list_any (is_decided S Cancel) (chain S l)) (list_any (is_decided S Close) (chain S l)) e in
    let some = any_from (is_decided S Cancel) (chain S l) a m d in
    let wrong : true ≡ false = sym some ∙ none.0 in cc
undecided S l e Close a m d =
    let none = none_wanted (list_any (is_decided S Cancel) (chain S l)) (list_any (is_decided S Close) (chain S l)) e in
    let some = any_from (is_decided S Close) (chain S l) a m d in
    let wrong : true ≡ false = sym some ∙ none.1 in cc

-- what an LRA wants was decided for an LRA of its chain
pub decided_by : (S : List Fact) (l : Id) (v : Verdict) → want S l ≡ Some v → (a : Id) × In a (chain S l) × (is_decided S v a ≡ true)
decided_by S l v e = elim (some_wanted (list_any (is_decided S Cancel) (chain S l)) (list_any (is_decided S Close) (chain S l)) v e) [
  | inl c ↦
      let found = any_gives (is_decided S Cancel) (chain S l) c.1 in
      (found.0, found.1, subst (λ x. is_decided S x found.0 ≡ true) (sym c.0) found.2)
  | inr c ↦
      let found = any_gives (is_decided S Close) (chain S l) c.1 in
      (found.0, found.1, subst (λ x. is_decided S x found.0 ≡ true) (sym c.0) found.2)
]

-- in a closed set, only an LRA that is begun is decided
decided_begun : (h : History) → IsLawful h → (v : List ℕ) → IsClosed h v → (verdict : Verdict) (l : Id) → is_decided (facts h v) verdict l ≡ true → is_begun (facts h v) l ≡ true
decided_begun h lawful v closed verdict l e =
    let found = any_gives (λ (f : Fact). is_decision l verdict f.body) (facts h v) e in
    active_begun h lawful v closed found.0 l found.1 (decision_asks l verdict found.0.body found.2)

-- and only an LRA that is begun wants something
pub wanted_begun : (h : History) → IsLawful h → (v : List ℕ) → IsClosed h v → (l : Id) (verdict : Verdict) → want (facts h v) l ≡ Some verdict → is_begun (facts h v) l ≡ true
wanted_begun h lawful v closed l verdict e = by (is_begun (facts h v) l) refl
  where
    alone : (a : Id) → In a (l ∷ []) → a ≡ l
    alone a (inl s) = s
    alone a (inr m) = absurd m

    by : (b : Bool) → is_begun (facts h v) l ≡ b → is_begun (facts h v) l ≡ true
    by true b = b
    by false b =
        let S = facts h v in
        let found = decided_by S l verdict e in
        let root : chain S l ≡ l ∷ [] = chain_root S (closed_settled h lawful v closed).whole.nested l (parent_missing S l b) in
        let own : found.0 ≡ l = alone found.0 (subst (λ (c : List Id). In found.0 c) root found.1) in
        decided_begun h lawful v closed verdict l (subst (λ (a : Id). is_decided S verdict a ≡ true) own found.2)

-- What a home enters later

-- what the home entered before is counted by the front that it keeps with a later entry
earlier_counted : (h : History) → IsLawful h → (v : List ℕ) (l : Id) (e : Made) → In e (made h) → e.fact.origin ≡ l.home → count v l.home < e.fact.num → (f : Fact) → f.origin ≡ l.home → In f (facts h v) → In f (facts h e.front)
earlier_counted h lawful v l e m home late f at k =
    let d = counted_entry h v f k in
    let origin : d.0.fact.origin ≡ l.home = ap (λ (x : Fact). x.origin) (sym d.2) ∙ at in
    let here : count v d.0.fact.origin ≡ count v l.home = ap (count v) origin in
    let there : count e.front d.0.fact.origin ≡ count e.front e.fact.origin = ap (count e.front) (origin ∙ sym home) in
    let own = (lawful.each e m).own in
    subst (λ (x : Fact). In x (facts h e.front)) (sym d.2) (in_facts h e.front d.0 d.1 (omega (arith, d.3, here, there, own, late)))

-- if l wants something in a closed set, its home enters nothing later over a set in which an LRA
-- under l wants nothing
pub later_wants : (h : History) → IsLawful h → (v : List ℕ) → IsClosed h v → (l : Id) (verdict : Verdict) → want (facts h v) l ≡ Some verdict → (e : Made) → In e (made h) → e.fact.origin ≡ l.home → count v l.home < e.fact.num → (d : Id) → In l (chain (facts h e.front) d) → want (facts h e.front) d ≡ None → ⊥
later_wants h lawful v closed l verdict wanted e m home late d under none =
    let S = facts h v in
    let J = facts h e.front in
    let has : (f : Fact) → f.origin ≡ l.home → In f S → In f J = earlier_counted h lawful v l e m home late in
    let there = (lawful.each e m).closed in
    let begun : is_begun S l ≡ true = wanted_begun h lawful v closed l verdict wanted in
    let begin = any_gives (begins l) S begun in
    let still : is_begun J l ≡ true = any_from (begins l) J begin.0 (has begin.0 (begins_at l begin.0 begin.2).0 begin.1) begin.2 in
    let by = decided_by S l verdict wanted in
    let above : by.0.home ≡ l.home = chain_home S (closed_settled h lawful v closed).whole.nested l by.0 by.1 in
    let found = any_gives (λ (f : Fact). is_decision by.0 verdict f.body) S by.2 in
    let origin : found.0.origin ≡ by.0.home = active_home h lawful v found.0 by.0 found.1 (decision_asks by.0 verdict found.0.body found.2) in
    let decided : is_decided J verdict by.0 ≡ true = any_from (λ (f : Fact). is_decision by.0 verdict f.body) J found.0 (has found.0 (origin ∙ above) found.1) found.2 in
    let chained : In by.0 (chain J l) = subst (λ (c : List Id). In by.0 c) (same_chain h lawful v e.front closed there l begun still) by.1 in
    undecided J d none verdict by.0 (chain_goes J (closed_settled h lawful e.front there).whole.nested d l by.0 under chained) decided

-- So if l wants something in a closed set, that set has all joins, leaves and decisions of LRAs
-- under l
pub entered_before : (h : History) → IsLawful h → (v w : List ℕ) → IsClosed h v → IsClosed h w → (l : Id) (verdict : Verdict) → want (facts h v) l ≡ Some verdict → (f : Fact) → In f (facts h w) → (d : Id) → asks_active d f.body ≡ true → In l (chain (facts h w) d) → In f (facts h v)
entered_before h lawful v w cv cw l verdict wanted f k d asks under =
    let T = facts h w in
    let e = counted_entry h w f k in
    let J = facts h e.0.front in
    let active = entered_active h lawful e.0 e.1 d (subst (λ (x : Fact). asks_active d x.body ≡ true) e.2 asks) in
    let home : l.home ≡ d.home = chain_home T (closed_settled h lawful w cw).whole.nested d l under in
    let node : e.0.fact.origin ≡ l.home = sym (home ∙ active.home) in
    elim (at_most e.0.fact.num (count v e.0.fact.origin)) [
      | inl counted ↦ subst (λ (x : Fact). In x (facts h v)) (sym e.2) (in_facts h v e.0 e.1 counted)
      | inr more ↦
          let there = (lawful.each e.0 e.1).closed in
          let begun : is_begun J d ≡ true = and_left (is_begun J d) _ active.held in
          let kept : is_begun T d ≡ true = active_begun h lawful w cw f d k asks in
          let same = same_chain h lawful e.0.front w there cw d begun kept in
          let late : count v l.home < e.0.fact.num = omega (arith, more, ap (count v) node) in
          absurd (later_wants h lawful v cv l verdict wanted e.0 e.1 node late d (subst (λ (c : List Id). In l c) (sym same) under) active.active)
    ]

-- One decision

decides_asks : (h : History) (l : Id) (verdict : Verdict) (e : Made) → IsDecision h l verdict e → asks_active l e.fact.body ≡ true
decides_asks h l verdict e is = ap (asks_active l) is.decides ∙ same_self l

-- an LRA is decided by its home
pub decided_home : (h : History) → IsLawful h → (l : Id) (verdict : Verdict) (e : Made) → IsDecision h l verdict e → e.fact.origin ≡ l.home
decided_home h lawful l verdict e is = sym (entered_active h lawful e is.there l (decides_asks h l verdict e is)).home

-- a home that knows one decision of an LRA enters no other
no_later : (h : History) → IsLawful h → (l : Id) (v w : Verdict) (d e : Made) → IsDecision h l v d → IsDecision h l w e → d.fact.num < e.fact.num → ⊥
no_later h lawful l v w d e is too late =
    let J = facts h e.front in
    let active = entered_active h lawful e too.there l (decides_asks h l w e too) in
    let node : d.fact.origin ≡ e.fact.origin = decided_home h lawful l v d is ∙ sym (decided_home h lawful l w e too) in
    let counted : d.fact.num ≤ count e.front d.fact.origin = omega (arith, late, (lawful.each e too.there).own, ap (count e.front) node) in
    let test : is_decision l v d.fact.body ≡ true = ap (is_decision l v) is.decides ∙ own l v in
    let decided : is_decided J v l ≡ true = any_from (λ (f : Fact). is_decision l v f.body) J d.fact (in_facts h e.front d is.there counted) test in
    undecided J l active.active v l (own_in_chain J l.num l) decided
  where
    own : (l : Id) (v : Verdict) → is_decision l v (Decide l v) ≡ true
    own l Close = rw (same_self l) refl
    own l Cancel = rw (same_self l) refl

-- an LRA is decided once
pub decided_once : (h : History) → IsLawful h → (l : Id) (v w : Verdict) (d e : Made) → IsDecision h l v d → IsDecision h l w e → d ≡ e
decided_once h lawful l v w d e is too =
    let node : d.fact.origin ≡ e.fact.origin = decided_home h lawful l v d is ∙ sym (decided_home h lawful l w e too) in
    elim (at_most d.fact.num e.fact.num) [
      | inl most ↦ elim (at_most e.fact.num d.fact.num) [
        | inl least ↦ made_once h d e is.there too.there node (omega (arith, most, least))
        | inr less ↦ absurd (no_later h lawful l v w d e is too less)
      ]
      | inr more ↦ absurd (no_later h lawful l w v e d too is more)
    ]
