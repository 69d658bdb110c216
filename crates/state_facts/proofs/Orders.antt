-- lists of the same facts say the same
use Rattle.std.proofs.Common.{◌≡◌, inl, inr, ◌||◌, ◌&&◌, ℕ, zero, suc, List, [], ◌∷◌, refl, sym, ap, ◌∙◌, Bool, true, false, cond, arith, Option, Some, None, is_some}
use mathlib.Core.Bool.{not}
use Rattle.std.specs.List.{list_any}
use Rattle.std.specs.Option.{option_map_or}
use Rattle.state_ids.specs.Ids.{Id, same_id}
use Rattle.state_ids.specs.States.{same_member_status, shown}
use Rattle.state_ids.specs.declared.status.MemberStatus.{MemberStatus}
use Rattle.state_ids.specs.declared.status.MemberStatus.TheVariants.{FailedToComplete, FailedToCompensate}
use Rattle.state_ids.specs.declared.outcome.Act.{Act}
use Rattle.state_ids.specs.declared.outcome.Act.TheVariants.{Complete, Compensate}
use Rattle.state_ids.specs.declared.outcome.Outcome.{Outcome}
use Rattle.state_ids.specs.declared.outcome.Verdict.{Verdict}
use Rattle.state_ids.specs.declared.outcome.Verdict.TheVariants.{Close, Cancel}
use Rattle.state_facts.specs.declared.fact.Body.{Body}
use Rattle.state_facts.specs.declared.fact.Body.TheVariants.{Begin, Join, Leave, Decide, Report, Forgot, Told, Purge}
use Rattle.state_facts.specs.declared.fact.Fact.{Fact}
use Rattle.state_facts.specs.Links.{Links}
use Rattle.state_facts.specs.Lists.{In}
use Rattle.state_facts.specs.Laws.{IsSameSet, AreNumberedOnce, AreJoinedOnce}
use Rattle.state_facts.specs.Sets.{begins, is_begun, parent_named, parent_of, chain_within, chain, is_purge, is_purged_root, is_held, is_decision, is_decided, want, is_under, joined_links, links_of, is_leave, has_left, heard, status_by, joined_status, member_status, shows, some_shows, is_open, is_ended, shows_now, status}
use Rattle.state_facts.proofs.Membership.{any_gives, any_inside, any_agree, same_bools}
use Rattle.state_facts.proofs.Heard.{heard_inside, same_level}
use Rattle.state_facts.proofs.Chains.{same_rest}

-- a test finds a fact in both lists or in neither
pub any_same : (S T : List Fact) → IsSameSet S T → (t : Fact → Bool) → list_any t S ≡ list_any t T
any_same S T same t = same_bools (list_any t S) (list_any t T) (any_inside t S T same.there) (any_inside t T S same.back)

pub once_too : (S T : List Fact) → IsSameSet S T → AreNumberedOnce S → AreNumberedOnce T
once_too S T same once = λ f g a b o n. once f g (same.back f a) (same.back g b) o n

pub begins_at : (l : Id) (f : Fact) → begins l f ≡ true → (f.origin ≡ l.home) × (f.num ≡ l.num)
begins_at l f e = grind (arith, e)

found_at : (l : Id) (f g : Fact) (S : List Fact) → AreNumberedOnce (g ∷ S) → begins l f ≡ true → In f (g ∷ S) → (In f S → parent_of S l ≡ parent_named f.body) → (b : Bool) → begins l g ≡ b → cond b (parent_named g.body) (parent_of S l) ≡ parent_named f.body
found_at l f g S once e m rest true at =
    let one = begins_at l f e in
    let other = begins_at l g at in
    let same : g ≡ f = once g f (inl refl) m (other.0 ∙ sym one.0) (other.1 ∙ sym one.1) in
    ap (λ (x : Fact). parent_named x.body) same
found_at l f g S once e (inl s) rest false at = absurd (let no : begins l g ≡ true = rw s at e in cc)
found_at l f g S once e (inr m) rest false at = rest m

-- the parent is the one that the begin names
pub parent_found : (S : List Fact) (l : Id) (f : Fact) → AreNumberedOnce S → In f S → begins l f ≡ true → parent_of S l ≡ parent_named f.body
parent_found [] l f once m e = absurd m
parent_found (g ∷ S) l f once m e =
    found_at l f g S once e m (λ n. parent_found S l f (λ x y a b. once x y (inr a) (inr b)) n e) (begins l g) refl

missing_at : (l : Id) (g : Fact) (S : List Fact) (b : Bool) → (b || list_any (begins l) S) ≡ false → (list_any (begins l) S ≡ false → parent_of S l ≡ None) → cond b (parent_named g.body) (parent_of S l) ≡ None
missing_at l g S true e rest = absurd cc
missing_at l g S false e rest = rest e

pub parent_missing : (S : List Fact) (l : Id) → is_begun S l ≡ false → parent_of S l ≡ None
parent_missing [] l e = refl
parent_missing (g ∷ S) l e = missing_at l g S (begins l g) e (parent_missing S l)

pub parent_same : (S T : List Fact) → AreNumberedOnce S → IsSameSet S T → (l : Id) → parent_of S l ≡ parent_of T l
parent_same S T once same l = by_case (is_begun S l) refl
  where
    by_case : (b : Bool) → is_begun S l ≡ b → parent_of S l ≡ parent_of T l
    by_case true e =
        let found = any_gives (begins l) S e in
        parent_found S l found.0 once found.1 found.2 ∙ sym (parent_found T l found.0 (once_too S T same once) (same.there found.0 found.1) found.2)
    by_case false e = parent_missing S l e ∙ sym (parent_missing T l (sym (any_same S T same (begins l)) ∙ e))

chain_same_within : (S T : List Fact) → ((l : Id) → parent_of S l ≡ parent_of T l) → (n : ℕ) (l : Id) → chain_within n S l ≡ chain_within n T l
chain_same_within S T same zero l = refl
chain_same_within S T same (suc n) l =
    ap (λ c. l ∷ c) (same_rest l (chain_within n S) (chain_within n T) (parent_of S l) (λ p e. chain_same_within S T same n p)
    ∙ ap (λ above. option_map_or (chain_within n T) above []) (same l))

pub chain_same : (S T : List Fact) → AreNumberedOnce S → IsSameSet S T → (l : Id) → chain S l ≡ chain T l
chain_same S T once same l = chain_same_within S T (parent_same S T once same) l.num l

-- tests that agree on each LRA find the same along the chain
any_chain : (S T : List Fact) → AreNumberedOnce S → IsSameSet S T → (s t : Id → Bool) → ((x : Id) → s x ≡ t x) → (l : Id) → list_any s (chain S l) ≡ list_any t (chain T l)
any_chain S T once same s t agree l = any_agree s t (chain S l) (λ x m. agree x) ∙ ap (list_any t) (chain_same S T once same l)

pub decided_same : (S T : List Fact) → IsSameSet S T → (v : Verdict) (l : Id) → is_decided S v l ≡ is_decided T v l
decided_same S T same v l = any_same S T same (λ f. is_decision l v f.body)

want_by : Bool → Bool → Option Verdict
want_by c k = cond c (Some Cancel) (cond k (Some Close) None)

pub want_same : (S T : List Fact) → AreNumberedOnce S → IsSameSet S T → (l : Id) → want S l ≡ want T l
unfolding want_by
want_same S T once same l =
    let c = any_chain S T once same (is_decided S Cancel) (is_decided T Cancel) (decided_same S T same Cancel) l in
    let k = any_chain S T once same (is_decided S Close) (is_decided T Close) (decided_same S T same Close) l in
    ap (λ (b : Bool). want_by b (list_any (is_decided S Close) (chain S l))) c ∙ ap (λ (b : Bool). want_by (list_any (is_decided T Cancel) (chain T l)) b) k

purged_same : (S T : List Fact) → AreNumberedOnce S → IsSameSet S T → (a : Id) → is_purged_root S a ≡ is_purged_root T a
purged_same S T once same a =
    let p = parent_same S T once same a in
    let q = any_same S T same (λ f. is_purge a f.body) in
    rw (p, q) refl

pub held_same : (S T : List Fact) → AreNumberedOnce S → IsSameSet S T → (l : Id) → is_held S l ≡ is_held T l
held_same S T once same l =
    let b = any_same S T same (begins l) in
    let p = any_chain S T once same (is_purged_root S) (is_purged_root T) (purged_same S T once same) l in
    rw (b, p) refl

pub heard_same : (S T : List Fact) → IsSameSet S T → (l : Id) (m : ℕ) (a : Act) → heard S l m a ≡ heard T l m a
heard_same S T same l m a =
    let up = heard_inside S T same.there l m a in
    let down = heard_inside T S same.back l m a in
    same_level (heard S l m a) (heard T l m a) (omega (arith, up, down))

pub joined_same : (S T : List Fact) → AreNumberedOnce S → IsSameSet S T → (l : Id) (m : ℕ) (links : Links) → joined_status S l m links ≡ joined_status T l m links
joined_same S T once same l m links =
    let w = want_same S T once same l in
    let c = heard_same S T same l m Complete in
    let k = heard_same S T same l m Compensate in
    ap (λ (v : Option Verdict). status_by v links (heard S l m Complete) (heard S l m Compensate)) w
    ∙ ap (λ (o : Option Outcome). status_by (want T l) links o (heard S l m Compensate)) c
    ∙ ap (λ (o : Option Outcome). status_by (want T l) links (heard T l m Complete) o) k

pub left_same : (S T : List Fact) → IsSameSet S T → (l : Id) (m : ℕ) → has_left S l m ≡ has_left T l m
left_same S T same l m = any_same S T same (λ f. is_leave l m f.body)

under_same : (S T : List Fact) → AreNumberedOnce S → IsSameSet S T → (l d : Id) → is_under S l d ≡ is_under T l d
under_same S T once same l d = ap (list_any (same_id l)) (chain_same S T once same d)

shows_same : (S T : List Fact) → AreNumberedOnce S → IsSameSet S T → (test : MemberStatus → Bool) (l : Id) (body : Body) → shows test S l body ≡ shows test T l body
shows_same S T once same test l (Join d m links) =
    let u = under_same S T once same l d in
    let g = left_same S T same d m in
    let j = joined_same S T once same d m links in
    ap (λ (b : Bool). b && (not (has_left S d m) && test (joined_status S d m links))) u
    ∙ ap (λ (b : Bool). is_under T l d && (not b && test (joined_status S d m links))) g
    ∙ ap (λ (s : MemberStatus). is_under T l d && (not (has_left T d m) && test s)) j
shows_same S T once same test l (Begin parent deadline) = refl
shows_same S T once same test l (Leave d m) = refl
shows_same S T once same test l (Decide d v) = refl
shows_same S T once same test l (Report d m act o) = refl
shows_same S T once same test l (Forgot d m) = refl
shows_same S T once same test l (Told d m) = refl
shows_same S T once same test l (Purge d) = refl

pub some_shows_same : (S T : List Fact) → AreNumberedOnce S → IsSameSet S T → (test : MemberStatus → Bool) (l : Id) → some_shows test S l ≡ some_shows test T l
some_shows_same S T once same test l =
    any_agree (λ f. shows test S l f.body) (λ f. shows test T l f.body) S (λ f m. shows_same S T once same test l f.body)
    ∙ any_same S T same (λ f. shows test T l f.body)

pub shows_now_same : (S T : List Fact) → AreNumberedOnce S → IsSameSet S T → (l : Id) → shows_now S l ≡ shows_now T l
shows_now_same S T once same l =
    let w = want_same S T once same l in
    let o = some_shows_same S T once same is_open l in
    let c = some_shows_same S T once same (same_member_status FailedToComplete) l in
    let k = some_shows_same S T once same (same_member_status FailedToCompensate) l in
    ap (λ (v : Option Verdict). shown v (is_some v && not (some_shows is_open S l)) (some_shows (same_member_status FailedToComplete) S l) (some_shows (same_member_status FailedToCompensate) S l)) w
    ∙ ap (λ (b : Bool). shown (want T l) (is_some (want T l) && not b) (some_shows (same_member_status FailedToComplete) S l) (some_shows (same_member_status FailedToCompensate) S l)) o
    ∙ ap (λ (b : Bool). shown (want T l) (is_ended T l) b (some_shows (same_member_status FailedToCompensate) S l)) c
    ∙ ap (λ (b : Bool). shown (want T l) (is_ended T l) (some_shows (same_member_status FailedToComplete) T l) b) k

pub status_same : (S T : List Fact) (l : Id) → AreNumberedOnce S → IsSameSet S T → status S l ≡ status T l
status_same S T l once same =
    ap (λ (b : Bool). cond b (Some (shows_now S l)) None) (held_same S T once same l)
    ∙ ap (λ s. cond (is_held T l) (Some s) None) (shows_now_same S T once same l)

Joined : List Fact → Id → ℕ → Links → Type 0
Joined S l m a = (f : Fact) × In f S × (joined_links l m f.body ≡ Some a)

joined_at : (S : List Fact) (l : Id) (m : ℕ) (a : Links) (g : Fact) → (links_of S l m ≡ Some a → Joined S l m a) → (o : Option Links) → joined_links l m g.body ≡ o → option_map_or (λ k. Some k) o (links_of S l m) ≡ Some a → Joined (g ∷ S) l m a
unfolding Joined
joined_at S l m a g rest (Some k) at h = (g, inl refl, at ∙ h)
joined_at S l m a g rest None at h = let r = rest h in (r.0, inr r.1, r.2)

-- the links of a participant are those of a join in the list
links_in : (S : List Fact) (l : Id) (m : ℕ) (a : Links) → links_of S l m ≡ Some a → Joined S l m a
links_in [] l m a e = absurd cc
links_in (g ∷ S) l m a e = joined_at S l m a g (links_in S l m a) (joined_links l m g.body) refl e

there_at : (S : List Fact) (l : Id) (m : ℕ) (f : Fact) (a : Links) (g : Fact) → joined_links l m f.body ≡ Some a → (In f S → links_of S l m ≡ None → ⊥) → (o : Option Links) → joined_links l m g.body ≡ o → In f (g ∷ S) → option_map_or (λ k. Some k) o (links_of S l m) ≡ None → ⊥
there_at S l m f a g e rest (Some k) at n h = absurd cc
there_at S l m f a g e rest None at (inl s) h = let no : joined_links l m g.body ≡ Some a = rw s at e in cc
there_at S l m f a g e rest None at (inr n) h = rest n h

links_there : (S : List Fact) (l : Id) (m : ℕ) (f : Fact) (a : Links) → joined_links l m f.body ≡ Some a → In f S → links_of S l m ≡ None → ⊥
links_there [] l m f a e h none = h
links_there (g ∷ S) l m f a e h none = there_at S l m f a g e (links_there S l m f a e) (joined_links l m g.body) refl h none

pub links_same : (S T : List Fact) → AreJoinedOnce S → IsSameSet S T → (l : Id) (m : ℕ) → links_of S l m ≡ links_of T l m
unfolding Joined
links_same S T once same l m = by_case (links_of S l m) (links_of T l m) refl refl
  where
    by_case : (o p : Option Links) → links_of S l m ≡ o → links_of T l m ≡ p → o ≡ p
    by_case None None a b = refl
    by_case (Some x) None a b = let r = links_in S l m x a in absurd (links_there T l m r.0 x r.2 (same.there r.0 r.1) b)
    by_case None (Some y) a b = let r = links_in T l m y b in absurd (links_there S l m r.0 y r.2 (same.back r.0 r.1) a)
    by_case (Some x) (Some y) a b =
        let r = links_in S l m x a in
        let q = links_in T l m y b in
        ap (λ (k : Links). Some k) (once r.0 q.0 l m x y r.1 (same.back q.0 q.1) r.2 q.2)

pub member_same : (S T : List Fact) (l : Id) (m : ℕ) → AreNumberedOnce S → AreJoinedOnce S → IsSameSet S T → member_status S l m ≡ member_status T l m
member_same S T l m once joined same =
    let h = held_same S T once same l in
    let g = left_same S T same l m in
    let k = links_same S T joined same l m in
    ap (λ (b : Bool). cond (b && not (has_left S l m)) (option_map_or (λ links. Some (joined_status S l m links)) (links_of S l m) None) None) h
    ∙ ap (λ (b : Bool). cond (is_held T l && not b) (option_map_or (λ links. Some (joined_status S l m links)) (links_of S l m) None) None) g
    ∙ ap (λ (o : Option Links). cond (is_held T l && not (has_left T l m)) (option_map_or (λ links. Some (joined_status S l m links)) o None) None) k
    ∙ ap (λ (o : Option MemberStatus). cond (is_held T l && not (has_left T l m)) o None) (by (links_of T l m))
  where
    by : (o : Option Links) → option_map_or (λ links. Some (joined_status S l m links)) o None ≡ option_map_or (λ links. Some (joined_status T l m links)) o None
    by None = refl
    by (Some links) = ap (λ s. Some s) (joined_same S T once same l m links)
