-- what is under an LRA is what is under its members
use Rattle.std.proofs.Common.{◌≡◌, ◌⊎◌, inl, inr, ◌||◌, ◌<◌, ℕ, zero, suc, List, [], refl, sym, ap, subst, ◌∙◌, Bool, true, false, cond, arith, Option, Some, None}
use mathlib.Core.Bool.{not}
use Rattle.std.specs.List.{list_any, AllByRecursion}
use Rattle.std.specs.Option.{option_map_or}
use Rattle.state_ids.specs.Ids.{Id, same_id}
use Rattle.state_ids.specs.declared.status.MemberStatus.{MemberStatus}
use Rattle.state_ids.specs.declared.outcome.Verdict.{Verdict}
use Rattle.state_facts.specs.Links.{Links}
use Rattle.state_facts.specs.declared.fact.Body.{Body}
use Rattle.state_facts.specs.declared.fact.Body.TheVariants.{Begin, Join, Leave, Decide, Report, Forgot, Told, Purge}
use Rattle.state_facts.specs.declared.fact.Fact.{Fact}
use Rattle.state_facts.specs.Sets.{is_begin, begun_by, gives_number, parent_named, parent_of, chain, is_under, has_left, joined_status, want, shows, some_shows, NamesEarlier}
use Rattle.state_facts.proofs.Chains.{parent_lesser, chain_any}
use Rattle.state_forest.specs.declared.record.Participant.{Participant as ParticipantRecord}
use Rattle.state_forest.specs.declared.record.Member.{Member}
use Rattle.state_forest.specs.declared.record.Member.TheVariants.{Nested, Participant, Left}
use Rattle.state_facts.specs.Lists.{In}
use Rattle.state_forest.specs.Records.{givers, member_by, members_of}
use Rattle.state_forest.specs.Standing.{IsWhole, AreOnce}
use Rattle.state_forest.specs.Statuses.{shows_at, status_in}
use Rattle.state_facts.proofs.Membership.{any_from, any_gives, same_bools, in_map, map_in}
use Rattle.state_forest.proofs.Bools.{or_cases, and_left, and_right, not_false}
use Rattle.state_forest.proofs.ParentsAndChains.{begins_at, parent_home}
use Rattle.state_forest.proofs.GiversOfNumbers.{giver_in, in_givers}
use Rattle.state_forest.proofs.NumberedMembers.{same_is, same_self}
use Rattle.state_forest.proofs.Begins.{parent_found, parent_begin, begin_gives, begins_own}

-- an LRA is under itself
pub under_self : (S : List Fact) → AllByRecursion NamesEarlier S → (l : Id) → is_under S l l ≡ true
under_self S nested l = chain_any S nested (same_id l) l ∙ rw (same_self l) refl

-- a nested LRA is under whatever its parent is under
pub under_up : (S : List Fact) → AllByRecursion NamesEarlier S → (l d p : Id) → parent_of S d ≡ Some p → is_under S l d ≡ (same_id l d || is_under S l p)
under_up S nested l d p e = chain_any S nested (same_id l) d ∙ ap (λ above. same_id l d || list_any (same_id l) (option_map_or (chain S) above [])) e

pub under_root : (S : List Fact) → AllByRecursion NamesEarlier S → (l d : Id) → parent_of S d ≡ None → is_under S l d ≡ true → l ≡ d
under_root S nested l d e under =
    let here : (same_id l d || false) ≡ true = sym (ap (λ above. same_id l d || list_any (same_id l) (option_map_or (chain S) above [])) e) ∙ sym (chain_any S nested (same_id l) d) ∙ under in
    same_is l d (by (same_id l d) here)
  where
    by : (b : Bool) → (b || false) ≡ true → b ≡ true
    by true h = refl
    by false h = h

pub or_right : (a b : Bool) → b ≡ true → (a || b) ≡ true
or_right true b e = refl
or_right false b e = e

-- l is d itself, or d is under an LRA that is nested in l
abbrev pub Below : List Fact → Id → Id → Type 0
Below S l d = (l ≡ d) ⊎ ((c : Id) × (parent_of S c ≡ Some l) × (is_under S c d ≡ true))

pub below : (S : List Fact) → AllByRecursion NamesEarlier S → (l : Id) (n : ℕ) (d : Id) → d.num < n → is_under S l d ≡ true → Below S l d
below S nested l zero d e under = absurd (omega (arith, e))
below S nested l (suc n) d e under = by (below S nested l n) (parent_of S d) refl
  where
    by : ((p : Id) → p.num < n → is_under S l p ≡ true → Below S l p) → (o : Option Id) → parent_of S d ≡ o → Below S l d
    by rest None at = inl (under_root S nested l d at under)
    by rest (Some p) at = elim (or_cases (same_id l d) (is_under S l p) (sym (under_up S nested l d p at) ∙ under)) [ inl here ↦ inl (same_is l d here) | inr above ↦ further (rest p (omega (arith, e, parent_lesser S d p nested at)) above) ]
      where
        further : Below S l p → Below S l d
        further (inl same) = inr (d, at ∙ ap (λ x. Some x) (sym same), under_self S nested d)
        further (inr child) = inr (child.0, child.1, under_up S nested child.0 d p at ∙ or_right (same_id child.0 d) _ child.2)

pub child_under : (S : List Fact) → AllByRecursion NamesEarlier S → (l c : Id) → parent_of S c ≡ Some l → (n : ℕ) (d : Id) → d.num < n → is_under S c d ≡ true → is_under S l d ≡ true
child_under S nested l c up zero d e under = absurd (omega (arith, e))
child_under S nested l c up (suc n) d e under = by (child_under S nested l c up n) (parent_of S d) refl
  where
    here : c ≡ d → is_under S l d ≡ true
    here same = under_up S nested l d l (ap (parent_of S) (sym same) ∙ up) ∙ or_right (same_id l d) _ (under_self S nested l)

    by : ((p : Id) → p.num < n → is_under S c p ≡ true → is_under S l p ≡ true) → (o : Option Id) → parent_of S d ≡ o → is_under S l d ≡ true
    by rest None at = here (under_root S nested c d at under)
    by rest (Some p) at = elim (or_cases (same_id c d) (is_under S c p) (sym (under_up S nested c d p at) ∙ under)) [ inl same ↦ here (same_is c d same) | inr above ↦ under_up S nested l d p at ∙ or_right (same_id l d) _ (rest p (omega (arith, e, parent_lesser S d p nested at)) above) ]

-- the participant m of d is under l, did not leave, and passes the test
pub record IsShown (test : MemberStatus → Bool) (S : List Fact) (l d : Id) (m : ℕ) (links : Links) : Type 0 where
  pub under : is_under S l d ≡ true
  pub stayed : has_left S d m ≡ false
  pub passes : test (joined_status S d m links) ≡ true

-- a fact that shows something is the join of such a participant
pub shown_join : (test : MemberStatus → Bool) (S : List Fact) (l : Id) (body : Body) → shows test S l body ≡ true → (d : Id) × (m : ℕ) × (links : Links) × (body ≡ Join d m links) × IsShown test S l d m links
shown_join test S l (Join d m links) e =
    let rest = and_right (is_under S l d) _ e in (
      d,
      m,
      links,
      refl,
      record {
        under = and_left (is_under S l d) _ e;
        stayed = not_false (has_left S d m) (and_left (not (has_left S d m)) _ rest);
        passes = and_right (not (has_left S d m)) _ rest;
      },
    )
shown_join test S l (Begin parent deadline) e = absurd cc
shown_join test S l (Leave id m) e = absurd cc
shown_join test S l (Decide id verdict) e = absurd cc
shown_join test S l (Report id m act outcome) e = absurd cc
shown_join test S l (Forgot id m) e = absurd cc
shown_join test S l (Told id m) e = absurd cc
shown_join test S l (Purge root) e = absurd cc

-- and if there is such a participant, something is shown
pub join_shows : (test : MemberStatus → Bool) (S : List Fact) (l d : Id) (m : ℕ) (links : Links) (f : Fact) → In f S → f.body ≡ Join d m links → IsShown test S l d m links → some_shows test S l ≡ true
join_shows test S l d m links f i e shown =
    any_from (λ g. shows test S l g.body) S f i (ap (shows test S l) e ∙ rw (shown.under, shown.stayed) shown.passes)

-- an LRA that is nested in l
abbrev pub nested_at : Id → ℕ → Id
nested_at l num = record { home = l.home; num = num }

-- what a member of l shows
abbrev pub shows_member : (MemberStatus → Bool) → List Fact → Id → Member → Bool
shows_member test S l m = shows_at test (λ num. some_shows test S (nested_at l num)) (want S l) m

join_member : (test : MemberStatus → Bool) (S : List Fact) (l : Id) (m n : ℕ) (links : Links) → has_left S l m ≡ false → test (joined_status S l m links) ≡ true → shows_member test S l (member_by S l n (Join l m links)) ≡ true
join_member test S l m n links stayed passes = rw stayed passes

stayed_or : (test : MemberStatus → Bool) (nested : ℕ → Bool) (w : Option Verdict) (p : ParticipantRecord) (left : Bool) → shows_at test nested w (cond left Left (Participant p)) ≡ true → (left ≡ false) × (test (status_in w p) ≡ true)
stayed_or test nested w p true e = absurd cc
stayed_or test nested w p false e = (refl, e)

member_join : (test : MemberStatus → Bool) (S : List Fact) (l : Id) (m n : ℕ) (links : Links) → shows_member test S l (member_by S l n (Join l m links)) ≡ true → (has_left S l m ≡ false) × (test (joined_status S l m links) ≡ true)
member_join test S l m n links e = stayed_or test (λ num. some_shows test S (nested_at l num)) (want S l) _ (has_left S l m) e

pub begin_member : (S : List Fact) (l : Id) (n : ℕ) (body : Body) (p : Id) → parent_named body ≡ Some p → member_by S l n body ≡ Nested n
begin_member S l n (Begin parent deadline) p e = refl
begin_member S l n (Join id m links) p e = absurd cc
begin_member S l n (Leave id m) p e = refl
begin_member S l n (Decide id verdict) p e = refl
begin_member S l n (Report id m act outcome) p e = refl
begin_member S l n (Forgot id m) p e = refl
begin_member S l n (Told id m) p e = refl
begin_member S l n (Purge root) p e = refl

upward : (test : MemberStatus → Bool) (S : List Fact) (l : Id) → IsWhole S → some_shows test S l ≡ true → list_any (shows_member test S l) (members_of S l) ≡ true
upward test S l whole e =
    let found = any_gives (λ (f : Fact). shows test S l f.body) S e in
    let f = found.0 in
    let join = shown_join test S l f.body found.2 in
    by f found.1 join.0 join.1 join.2 join.3 join.4 (below S whole.nested l (suc join.0.num) join.0 (omega arith) join.4.under)
  where
    by : (f : Fact) → In f S → (d : Id) (m : ℕ) (links : Links) → f.body ≡ Join d m links → IsShown test S l d m links → Below S l d → list_any (shows_member test S l) (members_of S l) ≡ true
    by f i d m links body shown (inl same) =
        let own : f.body ≡ Join l m links = body ∙ ap (λ (x : Id). Join x m links) (sym same) in
        let here : IsShown test S l l m links = subst (λ (x : Id). IsShown test S l x m links) (sym same) shown in
        let gives : gives_number l f.body ≡ true = ap (gives_number l) own ∙ same_self l in
        any_from (shows_member test S l) (members_of S l) (member_by S l f.num f.body)
        (in_map (λ (g : Fact). member_by S l g.num g.body) (givers S l) f (in_givers S l f i gives))
        (ap (λ (b : Body). shows_member test S l (member_by S l f.num b)) own ∙ join_member test S l m f.num links here.stayed here.passes)
    by f i d m links body shown (inr child) =
        let begin = parent_begin S child.0 l child.1 in
        let g = begin.0 in
        let named = begins_at child.0 g begin.2 in
        let there : nested_at l g.num ≡ child.0 =
        ap (λ (n : ℕ). record { home = l.home; num = n }) named.1
        ∙ ap (λ (h : ℕ). record { home = h; num = child.0.num }) (parent_home S child.0 l whole.nested child.1) in
        let nested : member_by S l g.num g.body ≡ Nested g.num = begin_member S l g.num g.body l begin.3 in
        let shows_child : some_shows test S child.0 ≡ true = join_shows test S child.0 d m links f i body (record { under = child.2; stayed = shown.stayed; passes = shown.passes }) in
        any_from (shows_member test S l) (members_of S l) (member_by S l g.num g.body)
        (in_map (λ (x : Fact). member_by S l x.num x.body) (givers S l) g (in_givers S l g begin.1 (begin_gives l g.body begin.3)))
        (ap (shows_member test S l) nested ∙ ap (some_shows test S) there ∙ shows_child)

-- the LRA that a begin under l began is nested in l
begun_child : (S : List Fact) (l : Id) (g : Fact) → IsWhole S → AreOnce S → In g S → is_begin g.body ≡ true → parent_named g.body ≡ Some l → (parent_of S (begun_by g) ≡ Some l) × (nested_at l g.num ≡ begun_by g)
begun_child S l g whole once i begin named =
    let up = parent_found S (begun_by g) g once i (begins_own g begin) ∙ named in
    (up, ap (λ (h : ℕ). record { home = h; num = g.num }) (parent_home S (begun_by g) l whole.nested up))

downward : (test : MemberStatus → Bool) (S : List Fact) (l : Id) → IsWhole S → AreOnce S → list_any (shows_member test S l) (members_of S l) ≡ true → some_shows test S l ≡ true
downward test S l whole once e =
    let found = any_gives (shows_member test S l) (members_of S l) e in
    let giver = map_in (λ (g : Fact). member_by S l g.num g.body) (givers S l) found.0 found.1 in
    let inside = giver_in S l giver.0 giver.1 in
    by giver.0 inside.0 giver.0.body refl inside.1 (sym (ap (shows_member test S l) giver.2) ∙ found.2)
  where
    by : (g : Fact) → In g S → (body : Body) → g.body ≡ body → gives_number l body ≡ true → shows_member test S l (member_by S l g.num body) ≡ true → some_shows test S l ≡ true
    by g i (Join d m links) at gives e =
        let shown = member_join test S l m g.num links e in
        join_shows test S l l m links g i (at ∙ ap (λ (x : Id). Join x m links) (same_is d l gives)) (record { under = under_self S whole.nested l; stayed = shown.0; passes = shown.1 })
    by g i (Begin None deadline) at gives e = absurd cc
    by g i (Begin (Some p) deadline) at gives e =
        let named : parent_named g.body ≡ Some l = ap parent_named at ∙ ap (λ (x : Id). Some x) (same_is p l gives) in
        let child = begun_child S l g whole once i (ap is_begin at) named in
        let shows_child : some_shows test S (begun_by g) ≡ true = sym (ap (some_shows test S) child.1) ∙ e in
        let found = any_gives (λ (f : Fact). shows test S (begun_by g) f.body) S shows_child in
        let join = shown_join test S (begun_by g) found.0.body found.2 in
        let under = child_under S whole.nested l (begun_by g) child.0 (suc join.0.num) join.0 (omega arith) join.4.under in
        join_shows test S l join.0 join.1 join.2 found.0 found.1 join.3 (record { under = under; stayed = join.4.stayed; passes = join.4.passes })
    by g i (Leave id m) at gives e = absurd cc
    by g i (Decide id verdict) at gives e = absurd cc
    by g i (Report id m act outcome) at gives e = absurd cc
    by g i (Forgot id m) at gives e = absurd cc
    by g i (Told id m) at gives e = absurd cc
    by g i (Purge root) at gives e = absurd cc

-- what is shown under an LRA is what its members show
pub tree_law : (test : MemberStatus → Bool) (S : List Fact) (l : Id) → IsWhole S → AreOnce S → some_shows test S l ≡ list_any (shows_member test S l) (members_of S l)
tree_law test S l whole once = same_bools _ _ (upward test S l whole) (downward test S l whole once)

-- a nested member is an LRA with this parent
pub nested_child : (S : List Fact) (l : Id) (n : ℕ) → IsWhole S → AreOnce S → In (Nested n) (members_of S l) → parent_of S (nested_at l n) ≡ Some l
nested_child S l n whole once m =
    let giver = map_in (λ (g : Fact). member_by S l g.num g.body) (givers S l) (Nested n) m in
    let inside = giver_in S l giver.0 giver.1 in
    by giver.0 inside.0 giver.0.body refl inside.1 giver.2
  where
    joined : (n m : ℕ) (p : ParticipantRecord) (left : Bool) → Nested n ≡ cond left Left (Participant p) → ⊥
    joined n m p true e = cc
    joined n m p false e = cc

    by : (g : Fact) → In g S → (body : Body) → g.body ≡ body → gives_number l body ≡ true → Nested n ≡ member_by S l g.num body → parent_of S (nested_at l n) ≡ Some l
    by g i (Join d m links) at gives e = absurd (joined n m _ (has_left S l m) e)
    by g i (Begin None deadline) at gives e = absurd cc
    by g i (Begin (Some p) deadline) at gives e =
        let number : n ≡ g.num = cc in
        let child = begun_child S l g whole once i (ap is_begin at) (ap parent_named at ∙ ap (λ (x : Id). Some x) (same_is p l gives)) in
        ap (λ (k : ℕ). parent_of S (nested_at l k)) number ∙ ap (parent_of S) child.1 ∙ child.0
    by g i (Leave id m) at gives e = absurd cc
    by g i (Decide id verdict) at gives e = absurd cc
    by g i (Report id m act outcome) at gives e = absurd cc
    by g i (Forgot id m) at gives e = absurd cc
    by g i (Told id m) at gives e = absurd cc
    by g i (Purge root) at gives e = absurd cc
