-- what one more fact leaves as it was
use Rattle.std.proofs.Common.{◌≡◌, ◌⊎◌, inl, inr, ◌≤◌, ◌<◌, ◌+◌, ◌-◌, ◌==◌, ◌||◌, ◌&&◌, ℕ, zero, suc, List, [], ◌∷◌, ◌++◌, refl, sym, ap, subst, ◌∙◌, Bool, true, false, cond, arith, Option, Some, None, filter, map, max, length, is_none, nat_lt}
use Rattle.std.proofs.lemmas.Bool.Decides.{nat_tests}
use Rattle.std.specs.Prelude.{slice_set}
use Rattle.std.specs.List.{list_any, AllByRecursion}
use Rattle.std.specs.Option.{option_map_or}
use Rattle.state_ids.specs.Ids.{Id, same_id}
use Rattle.state_ids.specs.declared.outcome.Act.{Act}
use Rattle.state_ids.specs.declared.outcome.Act.TheVariants.{Complete, Compensate}
use Rattle.state_ids.specs.declared.outcome.Verdict.{Verdict}
use Rattle.state_ids.specs.declared.outcome.Verdict.TheVariants.{Close, Cancel}
use Rattle.state_facts.specs.declared.fact.Body.{Body}
use Rattle.state_facts.specs.declared.fact.Body.TheVariants.{Begin, Join, Leave, Decide, Report, Forgot, Told, Purge}
use Rattle.state_facts.specs.declared.fact.Fact.{Fact}
use Rattle.state_facts.specs.Duties.{is_forgot, has_forgot, has_told, is_told_of}
use Rattle.state_facts.specs.Lists.{In, most}
use Rattle.state_facts.specs.Sets.{begins, is_begun, parent_of, chain_within, chain, heard, reported, is_decision, is_decided, is_leave, has_left, is_purge, is_purged_root, is_root, is_held, gives_number, member_number}
use Rattle.state_facts.proofs.Chains.{same_rest}
use Rattle.state_facts.proofs.Membership.{any_gives, any_agree, most_least, in_append, filter_in}
use Rattle.state_forest.specs.declared.record.Member.{Member}
use Rattle.state_forest.specs.declared.record.Place.{Place}
use Rattle.state_forest.specs.declared.record.Record.{Record}
use Rattle.state_forest.specs.Records.{is_about, is_named, stamp, nodes_to, by_number, givers, member_by, members_of, deadline_of, place_in, decision_of, record_of}
use Rattle.state_forest.specs.Standing.{IsWhole, IsSeated}
use Rattle.state_forest.proofs.Bools.{all_from}
use Rattle.state_forest.proofs.ParentsAndChains.{begins_at, parent_home}
use Rattle.theory_history.specs.Growth.{IsMore, IsSettled}
use Rattle.theory_history.specs.Views.{is_purge_fact, purge_number}
use Rattle.theory_history.proofs.ListsWithOneMore.{any_more, most_more, filter_same, filter_more, filter_append, map_last, map_agree, by_number_last, parent_same, deadline_same, heard_same, set_at_node}
use Rattle.theory_history.proofs.Basics.{equal_from, equal_itself, false_from, in_left, in_right}

-- The same answers in a set with one more fact

pub any_gained : (f : Fact) (S T : List Fact) → IsMore f S T → (t : Fact → Bool) → list_any t T ≡ (t f || list_any t S)
any_gained f S T more t = ap (list_any t) more.is ∙ any_more t more.before more.after f ∙ ap (λ xs. t f || list_any t xs) (sym more.was)

-- a test that the new fact fails finds the same
pub any_kept : (f : Fact) (S T : List Fact) → IsMore f S T → (t : Fact → Bool) → t f ≡ false → list_any t T ≡ list_any t S
any_kept f S T more t e = any_gained f S T more t ∙ ap (λ b. b || list_any t S) e

pub most_gained : (f : Fact) (S T : List Fact) → IsMore f S T → (g : Fact → ℕ) → most g T ≡ max (g f) (most g S)
most_gained f S T more g = ap (most g) more.is ∙ most_more g more.before more.after f ∙ ap (λ xs. max (g f) (most g xs)) (sym more.was)

pub filter_kept : (f : Fact) (S T : List Fact) → IsMore f S T → (t : Fact → Bool) → t f ≡ false → filter t T ≡ filter t S
filter_kept f S T more t e = ap (filter t) more.is ∙ filter_same t more.before more.after f e ∙ ap (filter t) (sym more.was)

pub parent_kept : (f : Fact) (S T : List Fact) → IsMore f S T → (l : Id) → begins l f ≡ false → parent_of T l ≡ parent_of S l
parent_kept f S T more l e = ap (λ xs. parent_of xs l) more.is ∙ parent_same more.before more.after f l e ∙ ap (λ xs. parent_of xs l) (sym more.was)

pub deadline_kept : (f : Fact) (S T : List Fact) → IsMore f S T → (l : Id) → begins l f ≡ false → deadline_of T l ≡ deadline_of S l
deadline_kept f S T more l e = ap (λ xs. deadline_of xs l) more.is ∙ deadline_same more.before more.after f l e ∙ ap (λ xs. deadline_of xs l) (sym more.was)

pub heard_kept : (f : Fact) (S T : List Fact) → IsMore f S T → (l : Id) (m : ℕ) (a : Act) → reported l m a f.body ≡ None → heard T l m a ≡ heard S l m a
heard_kept f S T more l m a e = ap (λ xs. heard xs l m a) more.is ∙ heard_same more.before more.after f l m a e ∙ ap (λ xs. heard xs l m a) (sym more.was)

-- the greater set has the new fact and the old ones
pub in_more : (f : Fact) (S T : List Fact) (more : IsMore f S T) (g : Fact) → In g T → (g ≡ f) ⊎ In g S
in_more f S T more g m =
    elim (in_append more.before (f ∷ more.after) g (subst (λ (xs : List Fact). In g xs) more.is m)) [
      | inl a ↦ inr (subst (λ (xs : List Fact). In g xs) (sym more.was) (in_left more.before more.after g a))
      | inr b ↦ by b
    ]
  where
    by : In g (f ∷ more.after) → (g ≡ f) ⊎ In g S
    by (inl s) = inl s
    by (inr b) = inr (subst (λ (xs : List Fact). In g xs) (sym more.was) (in_right more.before more.after g b))

pub in_more_old : (f : Fact) (S T : List Fact) (more : IsMore f S T) (g : Fact) → In g S → In g T
in_more_old f S T more g k =
    subst (λ (xs : List Fact). In g xs) (sym more.is)
    (elim (in_append more.before more.after g (subst (λ (xs : List Fact). In g xs) more.was k)) [
      | inl a ↦ in_left more.before (f ∷ more.after) g a
      | inr b ↦ in_right more.before (f ∷ more.after) g (inr b)
    ])

pub in_more_new : (f : Fact) (S T : List Fact) (more : IsMore f S T) → In f T
in_more_new f S T more = subst (λ (xs : List Fact). In f xs) (sym more.is) (in_right more.before (f ∷ more.after) f (inl refl))

-- What was begun before

-- an LRA that was begun is not begun by the new fact
pub begun_before : (f : Fact) (S T : List Fact) → IsMore f S T → (l : Id) → is_begun S l ≡ true → begins l f ≡ false
begun_before f S T more l b = false_from (begins l f) (λ e.
    let found = any_gives (begins l) S b in
    let one = begins_at l found.0 found.2 in
    let other = begins_at l f e in
    omega (arith, more.newest found.0 found.1 (one.0 ∙ sym other.0), one.1, other.1))

-- and it has a lesser number than a new fact of its home
pub begun_lesser : (f : Fact) (S T : List Fact) → IsMore f S T → (l : Id) → is_begun S l ≡ true → l.home ≡ f.origin → l.num < f.num
begun_lesser f S T more l b at =
    let found = any_gives (begins l) S b in
    let one = begins_at l found.0 found.2 in
    omega (arith, more.newest found.0 found.1 (one.0 ∙ at), one.1)

same_chain_within : (S T : List Fact) → ((l p : Id) → is_begun S l ≡ true → parent_of S l ≡ Some p → is_begun S p ≡ true) → ((l : Id) → is_begun S l ≡ true → parent_of S l ≡ parent_of T l) → (n : ℕ) (l : Id) → is_begun S l ≡ true → chain_within n S l ≡ chain_within n T l
same_chain_within S T up same zero l b = refl
same_chain_within S T up same (suc n) l b =
    ap (λ c. l ∷ c) (same_rest l (chain_within n S) (chain_within n T) (parent_of S l) (λ p e. same_chain_within S T up same n p (up l p b e))
    ∙ ap (λ above. option_map_or (chain_within n T) above []) (same l b))

in_rest : (D : Id → Type 0) (g : Id → List Id) (a : Id) (above : Option Id) → ((p : Id) → above ≡ Some p → In a (g p) → D a) → In a (option_map_or g above []) → D a
in_rest D g a None h m = absurd m
in_rest D g a (Some p) h m = h p refl m

-- a property that passes from an LRA to its parent holds along its chain
pub along_chain : (D : Id → Type 0) (S : List Fact) → ((l p : Id) → D l → parent_of S l ≡ Some p → D p) → (n : ℕ) (l a : Id) → D l → In a (chain_within n S l) → D a
along_chain D S up zero l a d (inl s) = subst D (sym s) d
along_chain D S up zero l a d (inr m) = absurd m
along_chain D S up (suc n) l a d (inl s) = subst D (sym s) d
along_chain D S up (suc n) l a d (inr m) = in_rest D (chain_within n S) a (parent_of S l) (λ p e. along_chain D S up n p a (up l p d e)) m

-- each LRA of a chain was begun
pub chain_begun : (S : List Fact) → IsWhole S → (l : Id) → is_begun S l ≡ true → (a : Id) → In a (chain S l) → is_begun S a ≡ true
chain_begun S whole l b a m = along_chain (λ x. is_begun S x ≡ true) S whole.parents l.num l a b m

-- and the chain stays the same
pub chain_kept : (f : Fact) (S T : List Fact) → IsMore f S T → IsWhole S → (l : Id) → is_begun S l ≡ true → chain T l ≡ chain S l
chain_kept f S T more whole l b = sym (same_chain_within S T whole.parents (λ d e. sym (parent_kept f S T more d (begun_before f S T more d e))) l.num l b)

-- a fact that is no purge purges nothing
pub purges_none : (body : Body) (a : Id) → is_purge_fact body ≡ false → is_purge a body ≡ false
purges_none (Begin p d) a e = refl
purges_none (Join q m links) a e = refl
purges_none (Leave q m) a e = refl
purges_none (Decide q v) a e = refl
purges_none (Report q m act o) a e = refl
purges_none (Forgot q m) a e = refl
purges_none (Told q m) a e = refl
purges_none (Purge q) a e = absurd cc

-- an LRA that was begun stays held or not held, if the fact is no purge
pub held_kept : (f : Fact) (S T : List Fact) → IsMore f S T → IsWhole S → is_purge_fact f.body ≡ false → (l : Id) → is_begun S l ≡ true → is_held T l ≡ is_held S l
held_kept f S T more whole plain l b =
    let begun : is_begun T l ≡ is_begun S l = any_kept f S T more (begins l) (begun_before f S T more l b) in
    let chained = chain_kept f S T more whole l b in
    let purged : list_any (is_purged_root T) (chain S l) ≡ list_any (is_purged_root S) (chain S l) =
    any_agree (is_purged_root T) (is_purged_root S) (chain S l) (λ a m.
    let root : is_root T a ≡ is_root S a = ap is_none (parent_kept f S T more a (begun_before f S T more a (chain_begun S whole l b a m))) in
    let gone : list_any (λ g. is_purge a g.body) T ≡ list_any (λ g. is_purge a g.body) S = any_kept f S T more (λ g. is_purge a g.body) (purges_none f.body a plain) in
    rw (root, gone) refl) in
    rw (begun, chained, purged) refl

-- and so do all LRAs except the one that the fact begins
pub held_stays : (f : Fact) (S T : List Fact) → IsMore f S T → IsWhole S → is_purge_fact f.body ≡ false → (l : Id) → begins l f ≡ false → is_held T l ≡ is_held S l
held_stays f S T more whole plain l e = by (is_begun S l) refl
  where
    begun : is_begun T l ≡ is_begun S l
    begun = any_kept f S T more (begins l) e

    by : (b : Bool) → is_begun S l ≡ b → is_held T l ≡ is_held S l
    by true b = held_kept f S T more whole plain l b
    by false b = rw (begun, b) refl

-- the last purge of a node stays the same if the fact is no purge
pub purge_kept : (f : Fact) (S T : List Fact) → IsMore f S T → is_purge_fact f.body ≡ false → (node : ℕ) → purge_number T node ≡ purge_number S node
purge_kept f S T more e node =
    most_gained f S T more (λ g. cond ((g.origin == node) && is_purge_fact g.body) g.num 0)
    ∙ by (f.origin == node) (is_purge_fact f.body) e
  where
    by : (a b : Bool) → b ≡ false → max (cond (a && b) f.num 0) (purge_number S node) ≡ purge_number S node
    by true b e = rw e (omega arith)
    by false b e = omega arith

-- Tests on a fact that names another LRA

and_none : (a b : Bool) → a ≡ false → (a && b) ≡ false
and_none a b e = rw e refl

unnamed_decision : (l : Id) (v : Verdict) (body : Body) → is_named l body ≡ false → is_decision l v body ≡ false
unnamed_decision l v (Begin p d) e = refl
unnamed_decision l v (Join q m links) e = refl
unnamed_decision l v (Leave q m) e = refl
unnamed_decision l v (Decide q w) e = and_none (same_id q l) _ e
unnamed_decision l v (Report q m act o) e = refl
unnamed_decision l v (Forgot q m) e = refl
unnamed_decision l v (Told q m) e = refl
unnamed_decision l v (Purge q) e = refl

unnamed_leave : (l : Id) (m : ℕ) (body : Body) → is_named l body ≡ false → is_leave l m body ≡ false
unnamed_leave l m (Begin p d) e = refl
unnamed_leave l m (Join q n links) e = refl
unnamed_leave l m (Leave q n) e = and_none (same_id q l) _ e
unnamed_leave l m (Decide q w) e = refl
unnamed_leave l m (Report q n act o) e = refl
unnamed_leave l m (Forgot q n) e = refl
unnamed_leave l m (Told q n) e = refl
unnamed_leave l m (Purge q) e = refl

unnamed_forgot : (l : Id) (m : ℕ) (body : Body) → is_named l body ≡ false → is_forgot l m body ≡ false
unnamed_forgot l m (Begin p d) e = refl
unnamed_forgot l m (Join q n links) e = refl
unnamed_forgot l m (Leave q n) e = refl
unnamed_forgot l m (Decide q w) e = refl
unnamed_forgot l m (Report q n act o) e = refl
unnamed_forgot l m (Forgot q n) e = and_none (same_id q l) _ e
unnamed_forgot l m (Told q n) e = refl
unnamed_forgot l m (Purge q) e = refl

unnamed_told : (l : Id) (m : ℕ) (body : Body) → is_named l body ≡ false → is_told_of l m body ≡ false
unnamed_told l m (Begin p d) e = refl
unnamed_told l m (Join q n links) e = refl
unnamed_told l m (Leave q n) e = refl
unnamed_told l m (Decide q w) e = refl
unnamed_told l m (Report q n act o) e = refl
unnamed_told l m (Told q n) e = and_none (same_id q l) _ e
unnamed_told l m (Forgot q n) e = refl
unnamed_told l m (Purge q) e = refl

unnamed_report : (l : Id) (m : ℕ) (a : Act) (body : Body) → is_named l body ≡ false → reported l m a body ≡ None
unnamed_report l m a (Begin p d) e = refl
unnamed_report l m a (Join q n links) e = refl
unnamed_report l m a (Leave q n) e = refl
unnamed_report l m a (Decide q w) e = refl
unnamed_report l m a (Report q n act o) e = rw e refl
unnamed_report l m a (Forgot q n) e = refl
unnamed_report l m a (Told q n) e = refl
unnamed_report l m a (Purge q) e = refl

pub unnamed_giver : (l : Id) (body : Body) → is_named l body ≡ false → gives_number l body ≡ false
unnamed_giver l (Begin p d) e = e
unnamed_giver l (Join q n links) e = e
unnamed_giver l (Leave q n) e = refl
unnamed_giver l (Decide q w) e = refl
unnamed_giver l (Report q n act o) e = refl
unnamed_giver l (Forgot q n) e = refl
unnamed_giver l (Told q n) e = refl
unnamed_giver l (Purge q) e = refl

-- a fact that says nothing of the participants of l: no leave, no outcome, and no notice that a
-- participant was told to forget or told of the end
pub record IsMute (l : Id) (body : Body) : Type 0 where
  pub leaves : (m : ℕ) → is_leave l m body ≡ false
  pub reports : (m : ℕ) (a : Act) → reported l m a body ≡ None
  pub forgets : (m : ℕ) → is_forgot l m body ≡ false
  pub tells : (m : ℕ) → is_told_of l m body ≡ false

pub unnamed_mute : (l : Id) (body : Body) → is_named l body ≡ false → IsMute l body
unnamed_mute l body e =
    record { leaves = λ m. unnamed_leave l m body e; reports = λ m a. unnamed_report l m a body e; forgets = λ m. unnamed_forgot l m body e; tells = λ m. unnamed_told l m body e }

-- Members

-- what stands for a giver stays the same if the fact is mute
pub member_kept : (f : Fact) (S T : List Fact) → IsMore f S T → (l : Id) → IsMute l f.body → (num : ℕ) (body : Body) → member_by T l num body ≡ member_by S l num body
member_kept f S T more l mute num (Begin p d) = refl
member_kept f S T more l mute num (Join q m links) =
    let left : has_left T l m ≡ has_left S l m = any_kept f S T more (λ g. is_leave l m g.body) (mute.leaves m) in
    let completed = heard_kept f S T more l m Complete (mute.reports m Complete) in
    let compensated = heard_kept f S T more l m Compensate (mute.reports m Compensate) in
    let forgot : has_forgot T l m ≡ has_forgot S l m = any_kept f S T more (λ g. is_forgot l m g.body) (mute.forgets m) in
    let told : has_told T l m ≡ has_told S l m = any_kept f S T more (λ g. is_told_of l m g.body) (mute.tells m) in
    rw (left, completed, compensated, forgot, told) refl
member_kept f S T more l mute num (Leave q m) = refl
member_kept f S T more l mute num (Decide q w) = refl
member_kept f S T more l mute num (Report q m act o) = refl
member_kept f S T more l mute num (Forgot q m) = refl
member_kept f S T more l mute num (Told q m) = refl
member_kept f S T more l mute num (Purge q) = refl

-- the givers stay the same if the fact gives no number
pub givers_kept : (f : Fact) (S T : List Fact) → IsMore f S T → (l : Id) → gives_number l f.body ≡ false → givers T l ≡ givers S l
givers_kept f S T more l none = ap by_number (filter_kept f S T more (λ g. gives_number l g.body) none)

-- and have the fact as their last if it gives one
pub givers_gained : (f : Fact) (S T : List Fact) (more : IsMore f S T) → IsSeated S → (l : Id) → f.origin ≡ l.home → gives_number l f.body ≡ true → givers T l ≡ givers S l ++ f ∷ []
givers_gained f S T more seated l at some =
    ap (λ xs. by_number (filter gives xs)) more.is
    ∙ ap by_number (filter_more gives more.before more.after f some)
    ∙ by_number_last (filter gives more.before) (filter gives more.after) f (subst (AllByRecursion (λ (g : Fact). g.num < f.num)) old lesser)
    ∙ ap (λ xs. by_number xs ++ f ∷ []) (sym old)
  where
    gives : Fact → Bool
    gives g = gives_number l g.body

    old : filter gives S ≡ filter gives more.before ++ filter gives more.after
    old = ap (filter gives) more.was ∙ filter_append gives more.before more.after

    lesser : AllByRecursion (λ (g : Fact). g.num < f.num) (filter gives S)
    lesser = all_from (λ (g : Fact). g.num < f.num) (filter gives S) (λ g m.
        let there = filter_in gives S g m in
        more.newest g there.0 (seated.givers g l there.0 there.1 ∙ sym at))

members_by : (f : Fact) (S T : List Fact) → IsMore f S T → (l : Id) → IsMute l f.body → (gs : List Fact) → map (λ (g : Fact). member_by T l g.num g.body) gs ≡ map (λ (g : Fact). member_by S l g.num g.body) gs
members_by f S T more l mute gs = map_agree (λ (g : Fact). member_by T l g.num g.body) (λ (g : Fact). member_by S l g.num g.body) gs (λ g m. member_kept f S T more l mute g.num g.body)

-- the members stay the same if the fact gives no number and is mute
pub members_kept : (f : Fact) (S T : List Fact) → IsMore f S T → (l : Id) → gives_number l f.body ≡ false → IsMute l f.body → members_of T l ≡ members_of S l
members_kept f S T more l none mute =
    ap (map (λ (g : Fact). member_by T l g.num g.body)) (givers_kept f S T more l none) ∙ members_by f S T more l mute (givers S l)

-- and there is one more of them if the fact gives a number
pub members_gained : (f : Fact) (S T : List Fact) (more : IsMore f S T) → IsSeated S → (l : Id) → f.origin ≡ l.home → gives_number l f.body ≡ true → IsMute l f.body → members_of T l ≡ members_of S l ++ member_by T l f.num f.body ∷ []
members_gained f S T more seated l at some mute =
    ap (map (λ (g : Fact). member_by T l g.num g.body)) (givers_gained f S T more seated l at some)
    ∙ map_last (λ (g : Fact). member_by T l g.num g.body) (givers S l) f
    ∙ ap (λ ms. ms ++ member_by T l f.num f.body ∷ []) (members_by f S T more l mute (givers S l))

-- Stamps

pub stamp_kept : (f : Fact) (S T : List Fact) → IsMore f S T → (l : Id) → is_about l f ≡ false → (node : ℕ) → stamp T l node ≡ stamp S l node
stamp_kept f S T more l e node =
    most_gained f S T more (λ g. cond ((g.origin == node) && is_about l g) g.num 0)
    ∙ by (f.origin == node) (is_about l f) e
  where
    by : (a b : Bool) → b ≡ false → max (cond (a && b) f.num 0) (stamp S l node) ≡ stamp S l node
    by true b e = rw e (omega arith)
    by false b e = omega arith

stamp_elsewhere : (f : Fact) (S T : List Fact) → IsMore f S T → (l : Id) (node : ℕ) → (f.origin == node) ≡ false → stamp T l node ≡ stamp S l node
stamp_elsewhere f S T more l node e =
    most_gained f S T more (λ g. cond ((g.origin == node) && is_about l g) g.num 0) ∙ rw e (omega arith)

pub equal_not : (a b : ℕ) → (a ≡ b → ⊥) → (a == b) ≡ false
equal_not a b n = grind (arith, nat_tests)

stamp_here : (f : Fact) (S T : List Fact) → IsMore f S T → (l : Id) → is_about l f ≡ true → stamp T l f.origin ≡ f.num
stamp_here f S T more l e =
    let same = equal_itself f.origin in
    let below : stamp S l f.origin ≤ f.num = most_least (λ g. cond ((g.origin == f.origin) && is_about l g) g.num 0) S f.num (λ g m. counted g m (g.origin == f.origin) (is_about l g) refl) in
    most_gained f S T more (λ g. cond ((g.origin == f.origin) && is_about l g) g.num 0) ∙ rw (same, e) (omega (arith, below))
  where
    counted : (g : Fact) → In g S → (b c : Bool) → (g.origin == f.origin) ≡ b → cond (b && c) g.num 0 ≤ f.num
    counted g m true true at = let less = more.newest g m (equal_from g.origin f.origin at) in omega (arith, less)
    counted g m true false at = omega arith
    counted g m false c at = omega arith

-- the stamp of the fact's node in an LRA that the fact is about becomes the fact's number
pub stamps_gained : (f : Fact) (S T : List Fact) → IsMore f S T → (l : Id) → is_about l f ≡ true → (n : ℕ) → map (stamp T l) (nodes_to n) ≡ slice_set (map (stamp S l) (nodes_to n)) (f.origin - 1) f.num
stamps_gained f S T more l e n =
    let some = more.some in
    let at : suc (f.origin - 1) ≡ f.origin = omega (arith, some) in
    set_at_node (stamp S l) (stamp T l) (f.origin - 1) f.num n (ap (stamp T l) at ∙ stamp_here f S T more l e)
    (λ k other. stamp_elsewhere f S T more l k (equal_not f.origin k (λ s. other (sym s ∙ sym at))))

-- Places in parents

pub number_kept : (f : Fact) (S T : List Fact) → IsMore f S T → (p : Id) (num : ℕ) → (gives_number p f.body ≡ true → num < f.num) → member_number T p num ≡ member_number S p num
number_kept f S T more p num late =
    ap (λ (fs : List Fact). length fs + 1) (filter_kept f S T more (λ g. gives_number p g.body && nat_lt g.num num) (by (gives_number p f.body) refl))
  where
    not_less : (a b : ℕ) → b < a → nat_lt a b ≡ false
    not_less a b h = grind (arith, nat_tests)

    by : (b : Bool) → gives_number p f.body ≡ b → (b && nat_lt f.num num) ≡ false
    by true e = not_less f.num num (late e)
    by false e = refl

place_kept : (f : Fact) (S T : List Fact) → IsMore f S T → (num : ℕ) (above : Option Id) → ((p : Id) → above ≡ Some p → gives_number p f.body ≡ true → num < f.num) → place_in T num above ≡ place_in S num above
place_kept f S T more num None late = refl
place_kept f S T more num (Some p) late = ap (λ n. Some (record { number = p.num; slot = n })) (number_kept f S T more p num (late p refl))

-- the place where an LRA that was begun is nested stays the same
pub parent_part : (f : Fact) (S T : List Fact) → IsMore f S T → IsWhole S → ((p : Id) → gives_number p f.body ≡ true → f.origin ≡ p.home) → (l : Id) → is_begun S l ≡ true → place_in T l.num (parent_of T l) ≡ place_in S l.num (parent_of S l)
parent_part f S T more whole home l b =
    ap (place_in T l.num) (parent_kept f S T more l (begun_before f S T more l b))
    ∙ place_kept f S T more l.num (parent_of S l) (λ p e g. begun_lesser f S T more l b (sym (parent_home S l p whole.nested e) ∙ sym (home p g)))

-- The record

pub decision_kept : (f : Fact) (S T : List Fact) → IsMore f S T → (l : Id) → ((v : Verdict) → is_decision l v f.body ≡ false) → decision_of T l ≡ decision_of S l
decision_kept f S T more l none =
    let cancel : is_decided T Cancel l ≡ is_decided S Cancel l = any_kept f S T more (λ g. is_decision l Cancel g.body) (none Cancel) in
    let close : is_decided T Close l ≡ is_decided S Close l = any_kept f S T more (λ g. is_decision l Close g.body) (none Close) in
    rw (cancel, close) refl

-- records with equal parts
pub record_is : (home num deadline : ℕ) (p q : Option Place) (c d : Option Verdict) (s t : List ℕ) (m n : List Member) → p ≡ q → c ≡ d → s ≡ t → m ≡ n → ◌≡◌ {A = Record} (record { home = home; num = num; parent = p; deadline = deadline; decision = c; stamps = s; members = m }) (record { home = home; num = num; parent = q; deadline = deadline; decision = d; stamps = t; members = n })
record_is home num deadline p q c d s t m n a b e g = rw (a, b, e, g) refl

-- the record of an LRA that was begun and that the fact does not name stays the same
pub record_kept : (f : Fact) (S T : List Fact) → IsMore f S T → IsSettled S → ((p : Id) → gives_number p f.body ≡ true → f.origin ≡ p.home) → (nodes : ℕ) (l : Id) → is_begun S l ≡ true → is_named l f.body ≡ false → record_of nodes T l ≡ record_of nodes S l
record_kept f S T more settled home nodes l b e =
    let began = begun_before f S T more l b in
    let about : is_about l f ≡ false = rw (began, e) refl in
    rw (deadline_kept f S T more l began)
    (record_is l.home l.num (deadline_of S l) _ _ _ _ _ _ _ _
    (parent_part f S T more settled.whole home l b)
    (decision_kept f S T more l (λ v. unnamed_decision l v f.body e))
    (map_agree (stamp T l) (stamp S l) (nodes_to nodes) (λ k m. stamp_kept f S T more l about k))
    (members_kept f S T more l (unnamed_giver l f.body e) (unnamed_mute l f.body e)))
