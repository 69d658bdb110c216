-- what is required of each fact of a settled set, and that a lawful fact meets it
use Rattle.std.proofs.Common.{◌≡◌, inl, inr, ◌≤◌, ◌<◌, ◌+◌, ◌==◌, ◌&&◌, ℕ, zero, suc, List, [], ◌∷◌, refl, sym, ap, subst, ◌∙◌, Bool, true, false, cond, arith, filter, length, Option, Some, None, IfSome, is_some, nat_lt, slice_get}
use Rattle.std.specs.Option.{option_map_or}
use Rattle.std.proofs.lemmas.Bool.Decides.{nat_tests}
use Rattle.state_ids.specs.Ids.{Id, IsFactNumber, same_id, last_number}
use Rattle.state_ids.specs.Fronts.{count}
use Rattle.state_facts.specs.declared.fact.Body.{Body}
use Rattle.state_facts.specs.declared.fact.Body.TheVariants.{Begin, Join, Leave, Decide, Report, Forgot, Told, Purge}
use Rattle.state_facts.specs.declared.fact.Fact.{Fact}
use Rattle.state_facts.specs.Links.{Links}
use Rattle.state_facts.specs.Lists.{In, IsInside}
use Rattle.state_facts.specs.Sets.{IsNumbered, NamesEarlier, begins, begun_by, chain, chain_within, depth, gives_number, is_begin, is_begun, is_held, is_participant, is_purge, links_of, member_number, numbers_given, parent_named, parent_of}
use Rattle.state_facts.proofs.Membership.{any_gives, any_inside}
use Rattle.state_facts.proofs.Chains.{same_rest}
use Rattle.state_forest.specs.Records.{givers, is_named}
use Rattle.state_forest.specs.Standing.{AreOnce, IsSeated, IsWhole}
use Rattle.state_forest.proofs.Begins.{begins_own, parent_begin, parent_found}
use Rattle.state_forest.proofs.Bools.{all_from, and_left, and_right}
use Rattle.state_forest.proofs.ParentsAndChains.{begins_at, chain_root, chain_up}
use Rattle.state_forest.proofs.GiversOfNumbers.{givers_ascend, get_in, giver_in, length_by_number, number_is, place_is}
use Rattle.state_forest.proofs.NumberedMembers.{join_found, same_is, same_self}
use Rattle.theory_history.specs.Growth.{IsSettled, names_member}
use Rattle.theory_history.specs.Views.{IsCounted}
use Rattle.theory_history.specs.Replies.{Accepted, body_for, judge, next_fact}
use Rattle.state_facts.specs.declared.command.Command.{Command}
use Rattle.state_facts.specs.declared.command.Command.TheVariants.{Begin as BeginAsked, Join as JoinAsked, Leave as LeaveAsked, Decide as DecideAsked, Report as ReportAsked, Forgot as ForgotAsked, Told as ToldAsked, Purge as PurgeAsked}
use Rattle.theory_history.proofs.AcceptedCommands.{IsGiven, lawful_gives, number_left}
use Rattle.theory_history.proofs.Basics.{held_begun}

-- what is required of each fact of a settled set (it carries both "one more lawful fact" and "each
-- closed set")
pub record MeetsSettled (T : List Fact) (f : Fact) : Type 0 where
  pub givers : (l : Id) → gives_number l f.body ≡ true → f.origin ≡ l.home
  pub numbers : (l : Id) (m : ℕ) (links : Links) → f.body ≡ Join l m links → m ≡ member_number T l f.num
  pub few : (l : Id) → gives_number l f.body ≡ true → member_number T l f.num ≤ 32
  pub shallow : is_begin f.body ≡ true → depth T (begun_by f) ≤ 8
  pub numbered : IsNumbered f
  pub named : (l : Id) → is_named l f.body ≡ true → is_begun T l ≡ true
  pub purged : (l : Id) → is_purge l f.body ≡ true → is_begun T l ≡ true
  pub members : (l : Id) (m : ℕ) → names_member l m f.body ≡ true → (1 ≤ m) × (m ≤ numbers_given T l)

-- Counts

-- tests that agree on each element keep the same elements
pub filter_agree : {X : Type 0} (p q : X → Bool) (xs : List X) → ((x : X) → In x xs → p x ≡ q x) → filter p xs ≡ filter q xs
filter_agree p q [] h = refl
filter_agree p q (x ∷ xs) h =
    let at = h x (inl refl) in
    rw at (by (q x) (filter_agree p q xs (λ y m. h y (inr m))))
  where
    by : (b : Bool) → filter p xs ≡ filter q xs → cond b (x ∷ filter p xs) (filter p xs) ≡ cond b (x ∷ filter q xs) (filter q xs)
    by true e = ap (λ ys. x ∷ ys) e
    by false e = e

both_fewer : {X : Type 0} (p q : X → Bool) (xs : List X) → length (filter (λ x. p x && q x) xs) ≤ length (filter p xs)
both_fewer p q [] = omega arith
both_fewer p q (x ∷ xs) = by (p x) (q x) (both_fewer p q xs)
  where
    by : (b c : Bool) → length (filter (λ y. p y && q y) xs) ≤ length (filter p xs) → length (cond (b && c) (x ∷ filter (λ y. p y && q y) xs) (filter (λ y. p y && q y) xs)) ≤ length (cond b (x ∷ filter p xs) (filter p xs))
    by true true e = omega (arith, e)
    by true false e = omega (arith, e)
    by false c e = e

both_less : {X : Type 0} (p q : X → Bool) (xs : List X) (x : X) → In x xs → p x ≡ true → q x ≡ false → length (filter (λ y. p y && q y) xs) + 1 ≤ length (filter p xs)
both_less p q [] x m yes_p no_q = absurd m
both_less p q (z ∷ xs) x (inl s) yes_p no_q = by (p z) (q z) (ap p (sym s) ∙ yes_p) (ap q (sym s) ∙ no_q) (both_fewer p q xs)
  where
    by : (b c : Bool) → b ≡ true → c ≡ false → length (filter (λ y. p y && q y) xs) ≤ length (filter p xs) → length (cond (b && c) (z ∷ filter (λ y. p y && q y) xs) (filter (λ y. p y && q y) xs)) + 1 ≤ length (cond b (z ∷ filter p xs) (filter p xs))
    by true false s t e = omega (arith, e)
    by true true s t e = absurd cc
    by false c s t e = absurd cc
both_less p q (z ∷ xs) x (inr m) yes_p no_q = by (p z) (q z) (both_less p q xs x m yes_p no_q)
  where
    by : (b c : Bool) → length (filter (λ y. p y && q y) xs) + 1 ≤ length (filter p xs) → length (cond (b && c) (z ∷ filter (λ y. p y && q y) xs) (filter (λ y. p y && q y) xs)) + 1 ≤ length (cond b (z ∷ filter p xs) (filter p xs))
    by true true e = omega (arith, e)
    by true false e = omega (arith, e)
    by false c e = e

-- the member number that a fact gives is one of those that were given
pub number_within : (S : List Fact) (l : Id) (f : Fact) → In f S → gives_number l f.body ≡ true → member_number S l f.num ≤ numbers_given S l
number_within S l f m e = both_less (λ (x : Fact). gives_number l x.body) (λ (x : Fact). nat_lt x.num f.num) S f m e (itself f.num)
  where
    itself : (n : ℕ) → nat_lt n n ≡ false
    itself n = grind (arith, nat_tests)

-- a join gives a member number of its LRA
pub join_gives : (l : Id) (m : ℕ) (links : Links) (body : Body) → body ≡ Join l m links → gives_number l body ≡ true
join_gives l m links body e = ap (gives_number l) e ∙ same_self l

-- the number of a participant is one of those that were given
pub join_within : (S : List Fact) (f : Fact) (l : Id) (m : ℕ) (links : Links) → In f S → f.body ≡ Join l m links → m ≡ member_number S l f.num → (1 ≤ m) × (m ≤ numbers_given S l)
join_within S f l m links k e number =
    let bound : member_number S l f.num ≤ numbers_given S l = number_within S l f k (join_gives l m links f.body e) in
    (omega (arith, number), omega (arith, number, bound))

-- Parents and chains in a part of a set

parent_inside : (J T : List Fact) → AreOnce J → AreOnce T → IsInside J T → (l : Id) → is_begun J l ≡ true → parent_of J l ≡ parent_of T l
parent_inside J T once twice inside l e =
    let found = any_gives (begins l) J e in
    parent_found J l found.0 once found.1 found.2 ∙ sym (parent_found T l found.0 twice (inside found.0 found.1) found.2)

chain_inside_within : (J T : List Fact) → IsWhole J → AreOnce J → AreOnce T → IsInside J T → (n : ℕ) (l : Id) → is_begun J l ≡ true → chain_within n J l ≡ chain_within n T l
chain_inside_within J T whole once twice inside zero l e = refl
chain_inside_within J T whole once twice inside (suc n) l e =
    ap (λ c. l ∷ c) (same_rest l (chain_within n J) (chain_within n T) (parent_of J l) (λ p named. chain_inside_within J T whole once twice inside n p (whole.parents l p e named))
    ∙ ap (λ above. option_map_or (chain_within n T) above []) (parent_inside J T once twice inside l e))

-- the chain of an LRA that was begun stays in a greater set
pub chain_inside : (J T : List Fact) → IsWhole J → AreOnce J → AreOnce T → IsInside J T → (l : Id) → is_begun J l ≡ true → chain J l ≡ chain T l
chain_inside J T whole once twice inside l e = chain_inside_within J T whole once twice inside l.num l e

-- an LRA that was begun is begun in a greater set
pub begun_inside : (J T : List Fact) → IsInside J T → (l : Id) → is_begun J l ≡ true → is_begun T l ≡ true
begun_inside J T inside l e = any_inside (begins l) J T inside e

-- Sets whose facts are fit

named_parent : (body : Body) (p : Id) → parent_named body ≡ Some p → is_named p body ≡ true
named_parent (Begin None deadline) p e = absurd cc
named_parent (Begin (Some q) deadline) p e = let same : q ≡ p = cc in ap (λ x. same_id x p) same ∙ same_self p
named_parent (Join id m links) p e = absurd cc
named_parent (Leave id m) p e = absurd cc
named_parent (Decide id verdict) p e = absurd cc
named_parent (Report id m act outcome) p e = absurd cc
named_parent (Forgot id m) p e = absurd cc
named_parent (Told id m) p e = absurd cc
named_parent (Purge root) p e = absurd cc

-- a set is whole if each fact names earlier LRAs that are begun in it
pub whole_from : (T : List Fact) → ((f : Fact) → In f T → NamesEarlier f) → ((f : Fact) (l : Id) → In f T → is_named l f.body ≡ true → is_begun T l ≡ true) → IsWhole T
whole_from T earlier named =
    record {
      nested = all_from NamesEarlier T earlier;
      parents = λ l p e above. let found = parent_begin T l p above in named found.0 p found.1 (named_parent found.0.body p found.3);
    }

all_pass : (xs : List Fact) → filter (λ x. true) xs ≡ xs
all_pass [] = refl
all_pass (x ∷ xs) = ap (λ ys. x ∷ ys) (all_pass xs)

-- an LRA has as many givers as it gave numbers
pub givers_length : (S : List Fact) (l : Id) → length (givers S l) ≡ numbers_given S l
givers_length S l =
    ap (λ (xs : List Fact). length xs) (sym (all_pass (givers S l)))
    ∙ (length_by_number (λ x. true) (filter (λ f. gives_number l f.body) S) ∙ ap (λ (xs : List Fact). length xs) (all_pass (filter (λ f. gives_number l f.body) S)))

get_some : (xs : List Fact) (i : ℕ) → i < length xs → (x : Fact) × (slice_get xs i ≡ Some x)
get_some [] i h = absurd (omega (arith, h))
get_some (x ∷ xs) zero h = (x, refl)
get_some (x ∷ xs) (suc i) h = get_some xs i (omega (arith, h))

few_given : (T : List Fact) (l : Id) → IsSeated T → ((f : Fact) → In f T → gives_number l f.body ≡ true → member_number T l f.num ≤ 32) → numbers_given T l ≤ 32
few_given T l seated few = by (nat_lt 32 (numbers_given T l)) refl
  where
    within : (n : ℕ) → nat_lt 32 n ≡ false → n ≤ 32
    within n e = grind (arith, nat_tests)

    beyond : (n : ℕ) → nat_lt 32 n ≡ true → 32 < n
    beyond n e = grind (arith, nat_tests)

    by : (b : Bool) → nat_lt 32 (numbers_given T l) ≡ b → numbers_given T l ≤ 32
    by false e = within (numbers_given T l) e
    by true e =
        let many : 32 < length (givers T l) = omega (arith, beyond (numbers_given T l) e, givers_length T l) in
        let last = get_some (givers T l) 32 many in
        let there = giver_in T l last.0 (get_in (givers T l) 32 last.0 last.1) in
        let place = place_is (givers T l) 32 last.0 (givers_ascend T l seated) last.1 in
        absurd (omega (arith, number_is T l last.0.num, place, few last.0 there.0 there.1))

own_id : (f : Fact) (l : Id) → begins l f ≡ true → begun_by f ≡ l
own_id f l e = let at = begins_at l f e in ap (λ (k : ℕ). record { home = k; num = f.num }) at.0 ∙ ap (λ (k : ℕ). record { home = l.home; num = k }) at.1

-- a set whose facts are fit is settled
pub settled_from : (T : List Fact) → IsWhole T → AreOnce T → ((f : Fact) → In f T → MeetsSettled T f) → IsSettled T
settled_from T whole once fit =
    let seated : IsSeated T =
    record {
      once = once;
      givers = λ f l m e. (fit f m).givers l e;
      numbers = λ f l m links k e. (fit f k).numbers l m links e;
    } in
    record {
      whole = whole;
      seated = seated;
      shallow = λ l e.
          let found = any_gives (begins l) T e in
          subst (λ (x : Id). depth T x ≤ 8) (own_id found.0 l found.2) ((fit found.0 found.1).shallow (and_left _ _ found.2));
      few = λ l. few_given T l seated (λ f m e. (fit f m).few l e);
      numbered = λ f m. (fit f m).numbered;
      named = λ f l m e. (fit f m).named l e;
      purged = λ f l m e. (fit f m).purged l e;
      members = λ f l m k e. (fit f k).members l m e;
    }

-- What the body that is entered for a command says

-- an LRA that the body names is held
body_named : (S : List Fact) (v : List ℕ) (node : ℕ) (c : Command) (l : Id) → IsGiven S v node c → is_named l (body_for S c) ≡ true → is_held S l ≡ true
body_named S v node (BeginAsked None deadline) l given e = absurd cc
body_named S v node (BeginAsked (Some p) deadline) l given e = subst (λ (x : Id). is_held S x ≡ true) (same_is p l e) given.0.held
body_named S v node (JoinAsked id links) l given e = subst (λ (x : Id). is_held S x ≡ true) (same_is id l e) given.0.held
body_named S v node (LeaveAsked id m) l given e = subst (λ (x : Id). is_held S x ≡ true) (same_is id l e) given.0.held
body_named S v node (DecideAsked id verdict) l given e = subst (λ (x : Id). is_held S x ≡ true) (same_is id l e) given.held
body_named S v node (ReportAsked id m act outcome) l given e = subst (λ (x : Id). is_held S x ≡ true) (same_is id l e) given.0.held
body_named S v node (ForgotAsked id m) l given e = subst (λ (x : Id). is_held S x ≡ true) (same_is id l e) given.0.held
body_named S v node (ToldAsked id m) l given e = subst (λ (x : Id). is_held S x ≡ true) (same_is id l e) given.0.held
body_named S v node (PurgeAsked root) l given e = absurd cc

body_purged : (S : List Fact) (v : List ℕ) (node : ℕ) (c : Command) (l : Id) → IsGiven S v node c → is_purge l (body_for S c) ≡ true → is_held S l ≡ true
body_purged S v node (PurgeAsked root) l given e = subst (λ (x : Id). is_held S x ≡ true) (same_is root l e) given.0.held
body_purged S v node (BeginAsked parent deadline) l given e = absurd cc
body_purged S v node (JoinAsked id links) l given e = absurd cc
body_purged S v node (LeaveAsked id m) l given e = absurd cc
body_purged S v node (DecideAsked id verdict) l given e = absurd cc
body_purged S v node (ReportAsked id m act outcome) l given e = absurd cc
body_purged S v node (ForgotAsked id m) l given e = absurd cc
body_purged S v node (ToldAsked id m) l given e = absurd cc

-- the body gives a number only at its home, and only while a number is left
pub body_gives : (S : List Fact) (v : List ℕ) (node : ℕ) (c : Command) (l : Id) → IsGiven S v node c → gives_number l (body_for S c) ≡ true → (l.home ≡ node) × (numbers_given S l < 32)
body_gives S v node (BeginAsked None deadline) l given e = absurd cc
body_gives S v node (BeginAsked (Some p) deadline) l given e = subst (λ (x : Id). (x.home ≡ node) × (numbers_given S x < 32)) (same_is p l e) (given.0.home, given.1)
body_gives S v node (JoinAsked id links) l given e = subst (λ (x : Id). (x.home ≡ node) × (numbers_given S x < 32)) (same_is id l e) (given.0.home, given.1)
body_gives S v node (LeaveAsked id m) l given e = absurd cc
body_gives S v node (DecideAsked id verdict) l given e = absurd cc
body_gives S v node (ReportAsked id m act outcome) l given e = absurd cc
body_gives S v node (ForgotAsked id m) l given e = absurd cc
body_gives S v node (ToldAsked id m) l given e = absurd cc
body_gives S v node (PurgeAsked root) l given e = absurd cc

-- a parent has room below it
body_parent : (S : List Fact) (v : List ℕ) (node : ℕ) (c : Command) (p : Id) → IsGiven S v node c → parent_named (body_for S c) ≡ Some p → (p.home ≡ node) × (is_held S p ≡ true) × (depth S p < 8)
body_parent S v node (BeginAsked None deadline) p given e = absurd cc
body_parent S v node (BeginAsked (Some q) deadline) p given e =
    let same : q ≡ p = cc in subst (λ (x : Id). (x.home ≡ node) × (is_held S x ≡ true) × (depth S x < 8)) same (given.0.home, given.0.held, given.2)
body_parent S v node (JoinAsked id links) p given e = absurd cc
body_parent S v node (LeaveAsked id m) p given e = absurd cc
body_parent S v node (DecideAsked id verdict) p given e = absurd cc
body_parent S v node (ReportAsked id m act outcome) p given e = absurd cc
body_parent S v node (ForgotAsked id m) p given e = absurd cc
body_parent S v node (ToldAsked id m) p given e = absurd cc
body_parent S v node (PurgeAsked root) p given e = absurd cc

-- a join has the next member number
pub joined_as : (S : List Fact) (v : List ℕ) (c : Command) (l : Id) (m : ℕ) (links : Links) → body_for S c ≡ Join l m links → m ≡ numbers_given S l + 1
joined_as S v (JoinAsked id given) l m links e =
    let same : id ≡ l = cc in
    let number : numbers_given S id + 1 ≡ m = cc in
    sym number ∙ ap (λ (x : Id). numbers_given S x + 1) same
joined_as S v (BeginAsked parent deadline) l m links e = absurd cc
joined_as S v (LeaveAsked id n) l m links e = absurd cc
joined_as S v (DecideAsked id verdict) l m links e = absurd cc
joined_as S v (ReportAsked id n act outcome) l m links e = absurd cc
joined_as S v (ForgotAsked id n) l m links e = absurd cc
joined_as S v (ToldAsked id n) l m links e = absurd cc
joined_as S v (PurgeAsked root) l m links e = absurd cc

same_participant : (S : List Fact) (id l : Id) (n m : ℕ) → is_participant S id n ≡ true → (same_id id l && (n == m)) ≡ true → is_participant S l m ≡ true
same_participant S id l n m joined e =
    let id_is = same_is id l (and_left _ _ e) in
    let number_is = same_number n m (and_right (same_id id l) _ e) in
    subst (λ (k : ℕ). is_participant S l k ≡ true) number_is (subst (λ (x : Id). is_participant S x n ≡ true) id_is joined)
  where
    same_number : (a b : ℕ) → (a == b) ≡ true → a ≡ b
    same_number a b e = grind (arith, nat_tests)

-- the body speaks of participants only
body_member : (S : List Fact) (v : List ℕ) (node : ℕ) (c : Command) (l : Id) (m : ℕ) → IsGiven S v node c → names_member l m (body_for S c) ≡ true → is_participant S l m ≡ true
body_member S v node (LeaveAsked id n) l m given e = same_participant S id l n m given.1 e
body_member S v node (ReportAsked id n act outcome) l m given e = same_participant S id l n m given.1 e
body_member S v node (ForgotAsked id n) l m given e = same_participant S id l n m given.1 e
body_member S v node (ToldAsked id n) l m given e = same_participant S id l n m given.1 e
body_member S v node (BeginAsked parent deadline) l m given e = absurd cc
body_member S v node (JoinAsked id links) l m given e = absurd cc
body_member S v node (DecideAsked id verdict) l m given e = absurd cc
body_member S v node (PurgeAsked root) l m given e = absurd cc

-- a participant has joined
joined_by : (S : List Fact) (l : Id) (m : ℕ) → is_participant S l m ≡ true → (f : Fact) × (links : Links) × In f S × (f.body ≡ Join l m links)
joined_by S l m e = by (links_of S l m) refl (and_left (is_some (links_of S l m)) _ e)
  where
    by : (o : Option Links) → links_of S l m ≡ o → is_some o ≡ true → (f : Fact) × (links : Links) × In f S × (f.body ≡ Join l m links)
    by None t some = absurd cc
    by (Some links) t some = let found = join_found S l m links t in (found.0, links, found.1, found.2)

-- A fact that is lawful in a part of a set

if_some : {X : Type 0} (P : X → Type 0) (o : Option X) → ((x : X) → o ≡ Some x → P x) → IfSome o P
if_some P None h = tt
if_some P (Some x) h = h x refl

begun_counted : (J : List Fact) (v : List ℕ) (l : Id) → IsCounted J v → is_begun J l ≡ true → l.num ≤ count v l.home
begun_counted J v l counted e =
    let found = any_gives (begins l) J e in
    let at = begins_at l found.0 found.2 in
    omega (arith, counted.counted found.0 found.1, at.1, ap (count v) at.0)

-- the parent that a lawful fact names was begun earlier
pub earlier_new : (J : List Fact) (v : List ℕ) (node : ℕ) (c : Command) → IsCounted J v → judge J v node c ≡ Accepted → NamesEarlier (next_fact J v node c)
earlier_new J v node c counted taken =
    if_some (λ (p : Id). (p.home ≡ node) × (p.num < count v node + 1)) (parent_named (body_for J c)) (λ p e.
    let parent = body_parent J v node c p (lawful_gives J v node c taken) e in
    let bound : p.num ≤ count v p.home = begun_counted J v p counted (held_begun J p parent.1) in
    (parent.0, omega (arith, bound, ap (count v) parent.0)))

-- an LRA that a lawful fact names is begun
pub named_new : (J : List Fact) (v : List ℕ) (node : ℕ) (c : Command) (l : Id) → judge J v node c ≡ Accepted → is_named l (body_for J c) ≡ true → is_begun J l ≡ true
named_new J v node c l taken e = held_begun J l (body_named J v node c l (lawful_gives J v node c taken) e)

-- what is known of a fact that was lawful in the part J of the set T
pub record IsEntered (J T : List Fact) (v : List ℕ) (node : ℕ) (c : Command) : Type 0 where
  pub accepted : judge J v node c ≡ Accepted
  pub part : IsInside J T
  pub there : In (next_fact J v node c) T
  pub whole : IsWhole J
  pub once : AreOnce J
  pub next : (l : Id) → gives_number l (body_for J c) ≡ true → member_number T l (count v node + 1) ≡ numbers_given J l + 1
  pub joins : (f : Fact) (l : Id) (m : ℕ) (links : Links) → In f J → f.body ≡ Join l m links → m ≡ member_number T l f.num

fits_number : (n : ℕ) → n < last_number → IsFactNumber (n + 1)
fits_number n h = (omega arith, omega arith)

shallow_new : (J T : List Fact) (v : List ℕ) (node : ℕ) (c : Command) → IsEntered J T v node c → IsWhole T → AreOnce T → is_begin (body_for J c) ≡ true → depth T (begun_by (next_fact J v node c)) ≤ 8
shallow_new J T v node c new whole once e = by (parent_named (body_for J c)) refl
  where
    by : (o : Option Id) → parent_named (body_for J c) ≡ o → depth T (begun_by (next_fact J v node c)) ≤ 8
    by None t =
        let root : parent_of T (begun_by (next_fact J v node c)) ≡ None = parent_found T (begun_by (next_fact J v node c)) (next_fact J v node c) once new.there (begins_own (next_fact J v node c) e) ∙ t in
        omega (arith, ap (λ (c : List Id). length c) (chain_root T whole.nested (begun_by (next_fact J v node c)) root))
    by (Some p) t =
        let above : parent_of T (begun_by (next_fact J v node c)) ≡ Some p = parent_found T (begun_by (next_fact J v node c)) (next_fact J v node c) once new.there (begins_own (next_fact J v node c) e) ∙ t in
        let parent = body_parent J v node c p (lawful_gives J v node c new.accepted) t in
        let same : chain J p ≡ chain T p = chain_inside J T new.whole new.once once new.part p (held_begun J p parent.1) in
        omega (arith, ap (λ (c : List Id). length c) (chain_up T whole.nested (begun_by (next_fact J v node c)) p above), parent.2, ap (λ (c : List Id). length c) same)

-- a fact that was lawful in a part of a set is fit
pub meets_new : (J T : List Fact) (v : List ℕ) (node : ℕ) (c : Command) → IsEntered J T v node c → IsWhole T → AreOnce T → MeetsSettled T (next_fact J v node c)
meets_new J T v node c new whole once =
    let given = lawful_gives J v node c new.accepted in
    record {
      givers = λ l e. sym (body_gives J v node c l given e).0;
      numbers = λ l m links e. joined_as J v c l m links e ∙ sym (new.next l (join_gives l m links (body_for J c) e));
      few = λ l e. omega (arith, new.next l e, (body_gives J v node c l given e).1);
      shallow = λ e. shallow_new J T v node c new whole once e;
      numbered = fits_number (count v node) (number_left J v node c new.accepted);
      named = λ l e. begun_inside J T new.part l (named_new J v node c l new.accepted e);
      purged = λ l e. begun_inside J T new.part l (held_begun J l (body_purged J v node c l given e));
      members = λ l m e.
          let joined = joined_by J l m (body_member J v node c l m given e) in
          join_within T joined.0 l m joined.1 (new.part joined.0 joined.2) joined.3 (new.joins joined.0 l m joined.1 joined.2 joined.3);
    }
