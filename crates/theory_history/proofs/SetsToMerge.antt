-- what a closed set of a lawful history keeps for merges, in addition to being settled
use Rattle.std.proofs.Common.{◌≡◌, ◌≤◌, ◌==◌, ◌&&◌, ℕ, List, refl, sym, ap, subst, ◌∙◌, Bool, true, false, cond, arith, Option, Some, None, is_some, slice_get}
use Rattle.std.proofs.lemmas.Bool.Decides.{nat_tests}
use Rattle.std.specs.Option.{option_map_or}
use Rattle.state_ids.specs.Ids.{Id, same_id}
use Rattle.state_ids.specs.Fronts.{count}
use Rattle.state_ids.specs.States.{same_act}
use Rattle.state_ids.specs.declared.outcome.Act.{Act}
use Rattle.state_ids.specs.declared.outcome.Act.TheVariants.{Complete, Compensate}
use Rattle.state_ids.specs.declared.outcome.Outcome.{Outcome}
use Rattle.state_ids.specs.declared.outcome.Verdict.{Verdict}
use Rattle.state_ids.specs.declared.outcome.Verdict.TheVariants.{Close, Cancel}
use Rattle.state_facts.specs.declared.fact.Body.{Body}
use Rattle.state_facts.specs.declared.fact.Body.TheVariants.{Begin, Join, Leave, Decide, Report, Forgot, Told, Purge}
use Rattle.state_facts.specs.declared.fact.Fact.{Fact}
use Rattle.state_facts.specs.Links.{Links}
use Rattle.state_facts.specs.Duties.{is_forget_duty, is_forgot, owes_forget, is_after_duty, is_told_of, owes_after}
use Rattle.state_facts.specs.Lists.{In}
use Rattle.state_facts.specs.Sets.{demands, is_decision, is_demanded, is_leave, is_participant, is_purge, links_of, reported, want}
use Rattle.state_forest.specs.Standing.{IsSeated}
use Rattle.state_forest.proofs.Bools.{and_left, and_right}
use Rattle.state_forest.proofs.NumberedMembers.{join_found, same_is, seat_of}
use Rattle.theory_history.specs.Histories.{History, IsClosed, IsLawful, Made, facts, made}
use Rattle.theory_history.specs.Replies.{command_of}
use Rattle.theory_history.proofs.SettledFacts.{join_gives}
use Rattle.theory_history.proofs.ClosedSets.{closed_settled, entry_of, facts_inside}
use Rattle.theory_history.proofs.AcceptedCommands.{IsGiven, lawful_gives}
use Rattle.theory_history.proofs.TwoClosedSets.{IsProper, link_for}

-- What an accepted command says of its body

home_of : (id l : Id) (node : ℕ) → id.home ≡ node → same_id id l ≡ true → node ≡ l.home
home_of id l node home same = sym home ∙ ap (λ (x : Id). x.home) (same_is id l same)

leave_home : (J : List Fact) (v : List ℕ) (node : ℕ) (body : Body) (l : Id) (m : ℕ) → IsGiven J v node (command_of body) → is_leave l m body ≡ true → node ≡ l.home
leave_home J v node (Leave id n) l m given e = home_of id l node given.0.home (and_left (same_id id l) (n == m) e)
leave_home J v node (Begin parent deadline) l m given e = absurd cc
leave_home J v node (Join id n links) l m given e = absurd cc
leave_home J v node (Decide id u) l m given e = absurd cc
leave_home J v node (Report id n act outcome) l m given e = absurd cc
leave_home J v node (Forgot id n) l m given e = absurd cc
leave_home J v node (Told id n) l m given e = absurd cc
leave_home J v node (Purge root) l m given e = absurd cc

decision_home : (J : List Fact) (v : List ℕ) (node : ℕ) (body : Body) (l : Id) (u : Verdict) → IsGiven J v node (command_of body) → is_decision l u body ≡ true → node ≡ l.home
decision_home J v node (Decide id x) l u given e = home_of id l node given.home (named id x e)
  where
    named : (id : Id) (x : Verdict) → is_decision l u (Decide id x) ≡ true → same_id id l ≡ true
    named id x e = grind (arith, e)
decision_home J v node (Begin parent deadline) l u given e = absurd cc
decision_home J v node (Join id n links) l u given e = absurd cc
decision_home J v node (Leave id n) l u given e = absurd cc
decision_home J v node (Report id n act outcome) l u given e = absurd cc
decision_home J v node (Forgot id n) l u given e = absurd cc
decision_home J v node (Told id n) l u given e = absurd cc
decision_home J v node (Purge root) l u given e = absurd cc

purge_home : (J : List Fact) (v : List ℕ) (node : ℕ) (body : Body) (a : Id) → IsGiven J v node (command_of body) → is_purge a body ≡ true → node ≡ a.home
purge_home J v node (Purge root) a given e = home_of root a node given.1 e
purge_home J v node (Begin parent deadline) a given e = absurd cc
purge_home J v node (Join id n links) a given e = absurd cc
purge_home J v node (Leave id n) a given e = absurd cc
purge_home J v node (Decide id u) a given e = absurd cc
purge_home J v node (Report id n act outcome) a given e = absurd cc
purge_home J v node (Forgot id n) a given e = absurd cc
purge_home J v node (Told id n) a given e = absurd cc

-- Links that are asked

-- the participant has links that pass the test
record HasLinks (J : List Fact) (l : Id) (m : ℕ) (test : Links → Bool) : Type 0 where
  links : Links
  there : links_of J l m ≡ Some links
  asks : test links ≡ true

asked : (wanted : Option Verdict) (links : Links) (act : Act) → demands wanted links act ≡ true → is_some (link_for act links) ≡ true
asked (Some Close) links Complete e = e
asked (Some Cancel) links Complete e = absurd cc
asked None links Complete e = absurd cc
asked (Some Close) links Compensate e = absurd cc
asked (Some Cancel) links Compensate e = e
asked None links Compensate e = absurd cc

act_is : (a b : Act) → same_act a b ≡ true → a ≡ b
act_is Complete Complete e = refl
act_is Complete Compensate e = absurd cc
act_is Compensate Complete e = absurd cc
act_is Compensate Compensate e = refl

demanded_link : (J : List Fact) (l : Id) (m : ℕ) (act : Act) → is_demanded J l m act ≡ true → HasLinks J l m (λ links. is_some (link_for act links))
demanded_link J l m act e = by (links_of J l m) refl e
  where
    by : (o : Option Links) → links_of J l m ≡ o → option_map_or (λ links. demands (want J l) links act) o false ≡ true → HasLinks J l m (λ links. is_some (link_for act links))
    by (Some links) t e = record { links = links; there = t; asks = asked (want J l) links act e }
    by None t e = absurd cc

forget_link : (J : List Fact) (l : Id) (m : ℕ) → is_forget_duty J l m ≡ true → HasLinks J l m (λ links. is_some links.forget)
forget_link J l m e = by (links_of J l m) refl (and_right (is_participant J l m) (option_map_or (owes_forget J l m) (links_of J l m) false) e)
  where
    second : (a b c : Bool) → (a && (b && c)) ≡ true → b ≡ true
    second true true c e = refl
    second true false c e = absurd cc
    second false b c e = absurd cc

    by : (o : Option Links) → links_of J l m ≡ o → option_map_or (owes_forget J l m) o false ≡ true → HasLinks J l m (λ links. is_some links.forget)
    by (Some links) t e = record { links = links; there = t; asks = second _ (is_some links.forget) _ e }
    by None t e = absurd cc

after_link : (J : List Fact) (l : Id) (m : ℕ) → is_after_duty J l m ≡ true → HasLinks J l m (λ links. is_some links.after)
after_link J l m e = by (links_of J l m) refl (and_right (is_participant J l m) (option_map_or (owes_after J l m) (links_of J l m) false) e)
  where
    second : (a b c : Bool) → (a && (b && c)) ≡ true → b ≡ true
    second true true c e = refl
    second true false c e = absurd cc
    second false b c e = absurd cc

    by : (o : Option Links) → links_of J l m ≡ o → option_map_or (owes_after J l m) o false ≡ true → HasLinks J l m (λ links. is_some links.after)
    by (Some links) t e = record { links = links; there = t; asks = second _ (is_some links.after) _ e }
    by None t e = absurd cc

report_link : (J : List Fact) (v : List ℕ) (node : ℕ) (body : Body) (l : Id) (m : ℕ) (asked_of : Act) (o : Outcome) → IsGiven J v node (command_of body) → reported l m asked_of body ≡ Some o → HasLinks J l m (λ links. is_some (link_for asked_of links))
report_link J v node (Report id n act outcome) l m asked_of o given e = by (same_id id l) (n == m) (same_act act asked_of) refl refl refl e
  where
    by : (b c d : Bool) → same_id id l ≡ b → (n == m) ≡ c → same_act act asked_of ≡ d → cond (b && (c && d)) (Some outcome) None ≡ Some o → HasLinks J l m (λ links. is_some (link_for asked_of links))
    by true true true x y z e =
        let number : n ≡ m = grind (arith, nat_tests, y) in
        demanded_link J l m asked_of (ap (λ i. is_demanded J i m asked_of) (sym (same_is id l x)) ∙ ap (λ k. is_demanded J id k asked_of) (sym number) ∙ ap (is_demanded J id n) (sym (act_is act asked_of z)) ∙ given.2)
    by true true false x y z e = absurd cc
    by true false d x y z e = absurd cc
    by false c d x y z e = absurd cc
report_link J v node (Begin parent deadline) l m asked_of o given e = absurd cc
report_link J v node (Join id n links) l m asked_of o given e = absurd cc
report_link J v node (Leave id n) l m asked_of o given e = absurd cc
report_link J v node (Decide id u) l m asked_of o given e = absurd cc
report_link J v node (Forgot id n) l m asked_of o given e = absurd cc
report_link J v node (Told id n) l m asked_of o given e = absurd cc
report_link J v node (Purge root) l m asked_of o given e = absurd cc

forgot_link : (J : List Fact) (v : List ℕ) (node : ℕ) (body : Body) (l : Id) (m : ℕ) → IsGiven J v node (command_of body) → is_forgot l m body ≡ true → HasLinks J l m (λ links. is_some links.forget)
forgot_link J v node (Forgot id n) l m given e =
    let number : n ≡ m = number_is n m (and_right (same_id id l) (n == m) e) in
    forget_link J l m (ap (λ i. is_forget_duty J i m) (sym (same_is id l (and_left (same_id id l) (n == m) e))) ∙ ap (is_forget_duty J id) (sym number) ∙ given.2)
  where
    number_is : (a b : ℕ) → (a == b) ≡ true → a ≡ b
    number_is a b e = grind (arith, nat_tests)
forgot_link J v node (Begin parent deadline) l m given e = absurd cc
forgot_link J v node (Join id n links) l m given e = absurd cc
forgot_link J v node (Leave id n) l m given e = absurd cc
forgot_link J v node (Decide id u) l m given e = absurd cc
forgot_link J v node (Report id n act outcome) l m given e = absurd cc
forgot_link J v node (Told id n) l m given e = absurd cc
forgot_link J v node (Purge root) l m given e = absurd cc

told_link : (J : List Fact) (v : List ℕ) (node : ℕ) (body : Body) (l : Id) (m : ℕ) → IsGiven J v node (command_of body) → is_told_of l m body ≡ true → HasLinks J l m (λ links. is_some links.after)
told_link J v node (Told id n) l m given e =
    let number : n ≡ m = number_is n m (and_right (same_id id l) (n == m) e) in
    after_link J l m (ap (λ i. is_after_duty J i m) (sym (same_is id l (and_left (same_id id l) (n == m) e))) ∙ ap (is_after_duty J id) (sym number) ∙ given.2)
  where
    number_is : (a b : ℕ) → (a == b) ≡ true → a ≡ b
    number_is a b e = grind (arith, nat_tests)
told_link J v node (Begin parent deadline) l m given e = absurd cc
told_link J v node (Join id n links) l m given e = absurd cc
told_link J v node (Leave id n) l m given e = absurd cc
told_link J v node (Decide id u) l m given e = absurd cc
told_link J v node (Report id n act outcome) l m given e = absurd cc
told_link J v node (Forgot id n) l m given e = absurd cc
told_link J v node (Purge root) l m given e = absurd cc

-- two joins of one member are one
pub joins_once : (S : List Fact) (f g : Fact) (l : Id) (m : ℕ) (a b : Links) → IsSeated S → In f S → f.body ≡ Join l m a → In g S → g.body ≡ Join l m b → a ≡ b
joins_once S f g l m a b seated k joins n also =
    let x = seat_of S l f seated k (join_gives l m a f.body joins) in
    let y = seat_of S l g seated n (join_gives l m b g.body also) in
    let place : x.0 ≡ y.0 = omega (arith, x.2, y.2, seated.numbers f l m a k joins, seated.numbers g l m b n also) in
    let one : Some f ≡ Some g = sym x.1 ∙ ap (slice_get _) place ∙ y.1 in
    let same : f ≡ g = cc in
    let bodies : Join l m a ≡ Join l m b = sym joins ∙ ap (λ (z : Fact). z.body) same ∙ also in
    cc

module _ (h : History) (law : IsLawful h) (v : List ℕ) (closed : IsClosed h v) where
  -- the command of an entry was given what it needs
  given_at : (e : Made) → In e (made h) → IsGiven (facts h e.front) e.front e.fact.origin (command_of e.fact.body)
  given_at e m = lawful_gives (facts h e.front) e.front e.fact.origin (command_of e.fact.body) (law.each e m).lawful.accepted

  -- the links in the set of an entry's front are those in the closed set
  links_here : (test : Links → Bool) (e : Made) (l : Id) (m : ℕ) (g : Fact) (links : Links) → In e (made h) → e.fact.num ≤ count v e.fact.origin → HasLinks (facts h e.front) l m test → In g (facts h v) → g.body ≡ Join l m links → test links ≡ true
  links_here test e l m g links k bound has n joins =
      let f = join_found (facts h e.front) l m has.links has.there in
      let there = facts_inside h e.front v (closed.kept e k bound) f.0 f.1 in
      let same = joins_once (facts h v) f.0 g l m has.links links (closed_settled h law v closed).seated there f.2 n joins in
      ap test (sym same) ∙ has.asks

  -- so the set is proper
  pub closed_proper : IsProper (facts h v)
  closed_proper =
      record {
        leaves = λ f l m k e.
            let x = entry_of h v f k in
            ap (λ (y : Fact). y.origin) x.2 ∙ leave_home (facts h x.0.front) x.0.front x.0.fact.origin x.0.fact.body l m (given_at x.0 x.1) (subst (λ (y : Fact). is_leave l m y.body ≡ true) x.2 e);
        decisions = λ f l u k e.
            let x = entry_of h v f k in
            ap (λ (y : Fact). y.origin) x.2 ∙ decision_home (facts h x.0.front) x.0.front x.0.fact.origin x.0.fact.body l u (given_at x.0 x.1) (subst (λ (y : Fact). is_decision l u y.body ≡ true) x.2 e);
        purges = λ f a k e.
            let x = entry_of h v f k in
            ap (λ (y : Fact). y.origin) x.2 ∙ purge_home (facts h x.0.front) x.0.front x.0.fact.origin x.0.fact.body a (given_at x.0 x.1) (subst (λ (y : Fact). is_purge a y.body ≡ true) x.2 e);
        reports = λ f g l m links act o k e n joins.
            let x = entry_of h v f k in
            let bound : x.0.fact.num ≤ count v x.0.fact.origin = subst (λ (y : Fact). y.num ≤ count v y.origin) x.2 x.3 in
            links_here (λ z. is_some (link_for act z)) x.0 l m g links x.1 bound
            (report_link (facts h x.0.front) x.0.front x.0.fact.origin x.0.fact.body l m act o (given_at x.0 x.1) (subst (λ (y : Fact). reported l m act y.body ≡ Some o) x.2 e)) n joins;
        forgets = λ f g l m links k e n joins.
            let x = entry_of h v f k in
            let bound : x.0.fact.num ≤ count v x.0.fact.origin = subst (λ (y : Fact). y.num ≤ count v y.origin) x.2 x.3 in
            links_here (λ z. is_some z.forget) x.0 l m g links x.1 bound
            (forgot_link (facts h x.0.front) x.0.front x.0.fact.origin x.0.fact.body l m (given_at x.0 x.1) (subst (λ (y : Fact). is_forgot l m y.body ≡ true) x.2 e)) n joins;
        tells = λ f g l m links k e n joins.
            let x = entry_of h v f k in
            let bound : x.0.fact.num ≤ count v x.0.fact.origin = subst (λ (y : Fact). y.num ≤ count v y.origin) x.2 x.3 in
            links_here (λ z. is_some z.after) x.0 l m g links x.1 bound
            (told_link (facts h x.0.front) x.0.front x.0.fact.origin x.0.fact.body l m (given_at x.0 x.1) (subst (λ (y : Fact). is_told_of l m y.body ≡ true) x.2 e)) n joins;
      }
