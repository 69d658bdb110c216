-- how many participants are open under an LRA, if there are more facts
use Rattle.std.proofs.Common.{◌≡◌, ◌↔◌, inl, inr, ◌≤◌, ◌<◌, ◌&&◌, ◌||◌, ℕ, List, [], ◌∷◌, refl, sym, ap, subst, ◌∙◌, Bool, true, false, cond, arith, filter, is_some, length, map, Option, Some, None}
use mathlib.Core.Bool.{not}
use Rattle.std.specs.List.{list_any}
use Rattle.std.specs.Option.{option_map_or}
use Rattle.state_ids.specs.Ids.{Id}
use Rattle.state_ids.specs.declared.outcome.Act.{Act}
use Rattle.state_ids.specs.declared.outcome.Act.TheVariants.{Complete, Compensate}
use Rattle.state_ids.specs.declared.outcome.Verdict.{Verdict}
use Rattle.state_facts.specs.declared.fact.Body.{Body}
use Rattle.state_facts.specs.declared.fact.Body.TheVariants.{Begin, Join, Leave, Decide, Report, Forgot, Told, Purge}
use Rattle.state_facts.specs.declared.fact.Fact.{Fact}
use Rattle.state_facts.specs.Duties.{is_pending}
use Rattle.state_facts.specs.Links.{Links}
use Rattle.state_facts.specs.Lists.{In, IsInside}
use Rattle.state_facts.specs.Sets.{chain, demands, has_left, heard, is_begun, is_ended, is_leave, is_open, is_participant, is_under, links_of, shows, some_shows, status_by, want}
use Rattle.state_facts.proofs.Heard.{heard_inside}
use Rattle.state_facts.proofs.Membership.{any_agree, any_from, any_inside, filter_in, in_filter}
use Rattle.state_forest.proofs.Bools.{and_left, and_right, not_false}
use Rattle.state_forest.proofs.GiversOfNumbers.{filter_both}
use Rattle.state_forest.proofs.NumberedMembers.{join_found, same_self}
use Rattle.theory_history.specs.Growth.{IsSettled}
use Rattle.theory_history.specs.Histories.{History, facts, is_counted, made}
use Rattle.theory_history.proofs.Basics.{both_true, false_from}
use Rattle.theory_history.proofs.ClosedSets.{closed_settled, fact_of, facts_inside}
use Rattle.theory_history.proofs.Decisions.{active_begun, asks_active, entered_before}
use Rattle.theory_history.proofs.Ranks.{stays_final}
use Rattle.theory_history.proofs.RanksRise.{IsGrown, kept_chain, kept_want}
use Rattle.wire_callbacks.specs.declared.duty.Duty.{Duty}
use Rattle.theory_progress.specs.Calls.{HearsAnEnd, IsActUnder, count_under, is_open_at, open_under, joins_under}
use Rattle.theory_progress.proofs.ActsAsked.{IsAsked, asked_final, asked_open, call_asked, heard_act}
use Rattle.theory_progress.proofs.UnderWay.{in_under, links_joined, under_in}

clash : (b : Bool) → b ≡ true → b ≡ false → ⊥
clash b e f = let wrong : true ≡ false = sym e ∙ f in cc

-- Counts

-- if each element that passes one test passes another, the other keeps no fewer
fewer : {X : Type 0} (p q : X → Bool) (xs : List X) → ((x : X) → In x xs → p x ≡ true → q x ≡ true) → length (filter p xs) ≤ length (filter q xs)
fewer p q [] h = omega arith
fewer p q (x ∷ xs) h = by (p x) (q x) (h x (inl refl)) (fewer p q xs (λ y m. h y (inr m)))
  where
    by : (b c : Bool) → (b ≡ true → c ≡ true) → length (filter p xs) ≤ length (filter q xs) → length (cond b (x ∷ filter p xs) (filter p xs)) ≤ length (cond c (x ∷ filter q xs) (filter q xs))
    by true true t rest = omega (arith, rest)
    by true false t rest = absurd (let wrong : false ≡ true = t refl in cc)
    by false true t rest = omega (arith, rest)
    by false false t rest = rest

-- and it keeps more, if an element that passes it doesn't pass the first
less : {X : Type 0} (p q : X → Bool) (xs : List X) (y : X) → ((x : X) → In x xs → p x ≡ true → q x ≡ true) → In y xs → p y ≡ false → q y ≡ true → length (filter p xs) < length (filter q xs)
less p q [] y h m fails holds = absurd m
less p q (x ∷ xs) y h (inl s) fails holds = by (p x) (q x) (ap p (sym s) ∙ fails) (ap q (sym s) ∙ holds) (fewer p q xs (λ z m. h z (inr m)))
  where
    by : (b c : Bool) → b ≡ false → c ≡ true → length (filter p xs) ≤ length (filter q xs) → length (cond b (x ∷ filter p xs) (filter p xs)) < length (cond c (x ∷ filter q xs) (filter q xs))
    by true c s t rest = absurd cc
    by false true s t rest = omega (arith, rest)
    by false false s t rest = absurd cc
less p q (x ∷ xs) y h (inr m) fails holds = by (p x) (q x) (h x (inl refl)) (less p q xs y (λ z n. h z (inr n)) m fails holds)
  where
    by : (b c : Bool) → (b ≡ true → c ≡ true) → length (filter p xs) < length (filter q xs) → length (cond b (x ∷ filter p xs) (filter p xs)) < length (cond c (x ∷ filter q xs) (filter q xs))
    by true true t rest = omega (arith, rest)
    by true false t rest = absurd (let wrong : false ≡ true = t refl in cc)
    by false true t rest = omega (arith, rest)
    by false false t rest = rest

none_kept : {X : Type 0} (p : X → Bool) (xs : List X) → length (filter p xs) ≡ 0 → list_any p xs ≡ false
none_kept p [] e = refl
none_kept p (x ∷ xs) e = by (p x) (none_kept p xs) e
  where
    by : (b : Bool) → (length (filter p xs) ≡ 0 → list_any p xs ≡ false) → length (cond b (x ∷ filter p xs) (filter p xs)) ≡ 0 → (b || list_any p xs) ≡ false
    by true rest e = absurd (omega (arith, e))
    by false rest e = rest e

kept_none : {X : Type 0} (p : X → Bool) (xs : List X) → list_any p xs ≡ false → length (filter p xs) ≡ 0
kept_none p [] e = refl
kept_none p (x ∷ xs) e = by (p x) (kept_none p xs) e
  where
    by : (b : Bool) → (list_any p xs ≡ false → length (filter p xs) ≡ 0) → (b || list_any p xs) ≡ false → length (cond b (x ∷ filter p xs) (filter p xs)) ≡ 0
    by true rest e = absurd cc
    by false rest e = rest e

-- An LRA has ended exactly if no participant under it is open

-- a participant is open exactly if its status shows that
open_shows : (S : List Fact) (l : Id) (body : Body) → joins_under (is_open_at S) S l body ≡ shows is_open S l body
open_shows S l (Join d m links) = refl
open_shows S l (Begin parent deadline) = refl
open_shows S l (Leave id m) = refl
open_shows S l (Decide id verdict) = refl
open_shows S l (Report id m act outcome) = refl
open_shows S l (Forgot id m) = refl
open_shows S l (Told id m) = refl
open_shows S l (Purge root) = refl

pub some_open : (S : List Fact) (l : Id) → list_any (λ f. joins_under (is_open_at S) S l f.body) S ≡ some_shows is_open S l
some_open S l = any_agree (λ (f : Fact). joins_under (is_open_at S) S l f.body) (λ (f : Fact). shows is_open S l f.body) S (λ f i. open_shows S l f.body)

pub ended_none : (S : List Fact) (l : Id) → is_some (want S l) ≡ true → (is_ended S l ≡ true) ↔ (open_under S l ≡ 0)
ended_none S l wants = (
  λ ended. kept_none (λ (f : Fact). joins_under (is_open_at S) S l f.body) S (some_open S l ∙ not_false (some_shows is_open S l) (and_right (is_some (want S l)) _ ended)),
  λ none. both_true (is_some (want S l)) _ wants (ap not (sym (some_open S l) ∙ none_kept (λ (f : Fact). joins_under (is_open_at S) S l f.body) S none)),
)

-- The participant of a call

-- a participant has joined and did not leave
pub joined_as : (S : List Fact) (d : Id) (m : ℕ) → is_participant S d m ≡ true → (links : Links) × (f : Fact) × In f S × (f.body ≡ Join d m links)
joined_as S d m known = by (links_of S d m) refl (and_left (is_some (links_of S d m)) _ known)
  where
    by : (o : Option Links) → links_of S d m ≡ o → is_some o ≡ true → (links : Links) × (f : Fact) × In f S × (f.body ≡ Join d m links)
    by None at some = absurd cc
    by (Some links) at some = let found = join_found S d m links at in (links, found.0, found.1, found.2)

pub stayed_by : (S : List Fact) (d : Id) (m : ℕ) → is_participant S d m ≡ true → has_left S d m ≡ false
stayed_by S d m known = not_false (has_left S d m) (and_right (is_some (links_of S d m)) _ known)

-- a fact that counts is the join of a participant that is under l, did not leave, and passes the
-- test
pub record IsTold (test : Id → ℕ → Links → Bool) (S : List Fact) (l d : Id) (m : ℕ) (links : Links) : Type 0 where
  pub under : is_under S l d ≡ true
  pub stayed : has_left S d m ≡ false
  pub passes : test d m links ≡ true

pub told_join : (test : Id → ℕ → Links → Bool) (S : List Fact) (l : Id) (body : Body) → joins_under test S l body ≡ true → (d : Id) × (m : ℕ) × (links : Links) × (body ≡ Join d m links) × IsTold test S l d m links
told_join test S l (Join d m links) e =
    let rest = and_right (is_under S l d) _ e in (
      d,
      m,
      links,
      refl,
      record {
        under = and_left (is_under S l d) _ e;
        stayed = not_false (has_left S d m) (and_left (not (has_left S d m)) _ rest);
        passes = and_right (not (has_left S d m)) _ rest;
      },
    )
told_join test S l (Begin parent deadline) e = absurd cc
told_join test S l (Leave id m) e = absurd cc
told_join test S l (Decide id verdict) e = absurd cc
told_join test S l (Report id m act outcome) e = absurd cc
told_join test S l (Forgot id m) e = absurd cc
told_join test S l (Told id m) e = absurd cc
told_join test S l (Purge root) e = absurd cc

pub join_told : (test : Id → ℕ → Links → Bool) (S : List Fact) (l d : Id) (m : ℕ) (links : Links) (body : Body) → body ≡ Join d m links → IsTold test S l d m links → joins_under test S l body ≡ true
join_told test S l d m links body e h =
    ap (joins_under test S l) e ∙ both_true (is_under S l d) _ h.under (both_true (not (has_left S d m)) _ (ap not h.stayed) h.passes)

-- the join of a participant that fails the test does not count
pub told_not : (test : Id → ℕ → Links → Bool) (S : List Fact) (l d : Id) (m : ℕ) (links : Links) (body : Body) → body ≡ Join d m links → test d m links ≡ false → joins_under test S l body ≡ false
told_not test S l d m links body e fails = ap (joins_under test S l) e ∙ never (is_under S l d) (not (has_left S d m)) (test d m links) fails
  where
    never : (a b c : Bool) → c ≡ false → (a && (b && c)) ≡ false
    never true true c e = e
    never true false c e = refl
    never false b c e = refl

-- a participant that is to be called is open
pub call_open : (S : List Fact) (l : Id) (call : Duty) → IsSettled S → IsActUnder S l call → (links : Links) (f : Fact) → In f S → f.body ≡ Join call.id call.member links → joins_under (is_open_at S) S l f.body ≡ true
call_open S l call settled due links f i body =
    let d = call.id in
    let m = call.member in
    let asked = call_asked S l call due in
    let joined = links_joined S f d m links settled.seated i body in
    let demanded : demands (want S d) links call.act ≡ true = sym (ap (λ o. option_map_or (λ (y : Links). demands (want S d) y call.act) o false) joined) ∙ asked.demanded in
    let opened : is_open_at S d m links ≡ true =
    asked_open (want S d) links call.act (heard S d m Complete) (heard S d m Compensate) demanded (ap is_pending (heard_act S d m call.act) ∙ asked.pending) in
    join_told (is_open_at S) S l d m links f.body body (record { under = due.under; stayed = stayed_by S d m asked.known; passes = opened })

-- so none is called under an LRA that has ended
pub ended_uncalled : (S : List Fact) (l : Id) (call : Duty) → IsSettled S → is_ended S l ≡ true → IsActUnder S l call → ⊥
ended_uncalled S l call settled ended due =
    let joined = joined_as S call.id call.member (call_asked S l call due).known in
    let opened = any_from (λ (f : Fact). joins_under (is_open_at S) S l f.body) S joined.1 joined.2 (call_open S l call settled due joined.0 joined.1 joined.2 joined.3) in
    clash (some_shows is_open S l) (sym (some_open S l) ∙ opened) (not_false (some_shows is_open S l) (and_right (is_some (want S l)) _ ended))

-- Two sets as parts of all facts

abbrev all : History → List Fact
all h = map fact_of (made h)

-- counts in two sets of one history, if whatever is counted in the second is in the first and
-- counted there
module _ (h : History) (v w : List ℕ) (p q : Fact → Bool) (kept : (f : Fact) → In f (facts h w) → q f ≡ true → In f (facts h v) × (p f ≡ true)) where
  count_is : (u : List ℕ) (t : Fact → Bool) → length (filter t (facts h u)) ≡ length (filter (λ f. is_counted u f && t f) (all h))
  count_is u t = ap (λ (fs : List Fact). length fs) (sym (filter_both (is_counted u) t (all h)))

  kept_test : (f : Fact) → In f (all h) → (is_counted w f && q f) ≡ true → (is_counted v f && p f) ≡ true
  kept_test f i e =
      let is = kept f (in_filter (is_counted w) (all h) f i (and_left (is_counted w f) _ e)) (and_right (is_counted w f) _ e) in
      both_true (is_counted v f) _ (filter_in (is_counted v) (all h) f is.0).1 is.1

  pub facts_fewer : length (filter q (facts h w)) ≤ length (filter p (facts h v))
  facts_fewer = omega (arith, count_is v p, count_is w q, fewer (λ (f : Fact). is_counted w f && q f) (λ (f : Fact). is_counted v f && p f) (all h) kept_test)

  -- the count falls if one fact is no longer counted
  pub facts_less : (f : Fact) → In f (facts h v) → p f ≡ true → q f ≡ false → length (filter q (facts h w)) < length (filter p (facts h v))
  facts_less f i holds fails =
      let there = filter_in (is_counted v) (all h) f i in
      omega (
        arith,
        count_is v p,
        count_is w q,
        less (λ (x : Fact). is_counted w x && q x) (λ (x : Fact). is_counted v x && p x) (all h) f kept_test there.0
            (never (is_counted w f) (q f) fails) (both_true (is_counted v f) _ there.1 holds),
      )
    where
      never : (a b : Bool) → b ≡ false → (a && b) ≡ false
      never true b e = e
      never false b e = refl

-- a test that no new fact makes true of a participant
abbrev pub Fades : History → (v w : List ℕ) → (List Fact → Id → ℕ → Links → Bool) → Id → Type 0
Fades h v w test l = (d : Id) (m : ℕ) (links : Links) → is_begun (facts h v) d ≡ true → In l (chain (facts h w) d) → test (facts h w) d m links ≡ true → test (facts h v) d m links ≡ true

module _ (h : History) (v w : List ℕ) (g : IsGrown h v w) (l : Id) (x : Verdict) (wanted : want (facts h v) l ≡ Some x) (later : want (facts h w) l ≡ Some x) where
  -- each fact under l that the greater set counts, the lesser counts too
  kept_fact : (test : List Fact → Id → ℕ → Links → Bool) → Fades h v w test l → (f : Fact) → In f (facts h w) → joins_under (test (facts h w)) (facts h w) l f.body ≡ true → In f (facts h v) × (joins_under (test (facts h v)) (facts h v) l f.body ≡ true)
  kept_fact test fades f i e =
      let S = facts h v in
      let T = facts h w in
      let inside : IsInside S T = facts_inside h v w g.below in
      let who = told_join (test T) T l f.body e in
      let d = who.0 in
      let m = who.1 in
      let links = who.2 in
      let under = under_in T l d who.4.under in
      let asks : asks_active d f.body ≡ true = ap (asks_active d) who.3 ∙ same_self d in
      let had = entered_before h g.lawful v w g.before g.after l x wanted f i d asks under in
      let begun : is_begun S d ≡ true = active_begun h g.lawful v g.before f d had asks in
      let leaves : has_left S d m ≡ true → has_left T d m ≡ true = any_inside (λ (y : Fact). is_leave d m y.body) S T inside in (
        had,
        join_told (test S) S l d m links f.body who.3 (record {
          under = in_under S l d (subst (λ (c : List Id). In l c) (sym (kept_chain h v w g d begun)) under);
          stayed = false_from (has_left S d m) (λ left. clash (has_left T d m) (leaves left) who.4.stayed);
          passes = fades d m links begun under who.4.passes;
        }),
      )

  pub count_fewer : (test : List Fact → Id → ℕ → Links → Bool) → Fades h v w test l → count_under (test (facts h w)) (facts h w) l ≤ count_under (test (facts h v)) (facts h v) l
  count_fewer test fades =
      facts_fewer h v w (λ (f : Fact). joins_under (test (facts h v)) (facts h v) l f.body) (λ (f : Fact). joins_under (test (facts h w)) (facts h w) l f.body) (kept_fact test fades)

  pub count_less : (test : List Fact → Id → ℕ → Links → Bool) → Fades h v w test l → (f : Fact) → In f (facts h v) → joins_under (test (facts h v)) (facts h v) l f.body ≡ true → joins_under (test (facts h w)) (facts h w) l f.body ≡ false
      → count_under (test (facts h w)) (facts h w) l < count_under (test (facts h v)) (facts h v) l
  count_less test fades f i holds fails =
      facts_less h v w (λ (y : Fact). joins_under (test (facts h v)) (facts h v) l y.body) (λ (y : Fact). joins_under (test (facts h w)) (facts h w) l y.body) (kept_fact test fades) f i holds fails

  -- no participant is open that was not open before
  pub open_fades : Fades h v w is_open_at l
  open_fades = λ d m links begun under e.
      let S = facts h v in
      let T = facts h w in
      let inside : IsInside S T = facts_inside h v w g.below in
      let wants : want S d ≡ want T d = kept_want h v w g l x wanted later d begun under in
      let still : is_open (status_by (want S d) links (heard T d m Complete) (heard T d m Compensate)) ≡ true = rw wants e in
      stays_final (want S d) links (heard S d m Complete) (heard S d m Compensate) (heard T d m Complete) (heard T d m Compensate)
      (heard_inside S T inside d m Complete) (heard_inside S T inside d m Compensate) still

  pub open_stays : open_under (facts h w) l ≤ open_under (facts h v) l
  open_stays = count_fewer is_open_at open_fades

  -- a participant that has ended its act is not open
  pub ended_not_open : (f : Fact) (d : Id) (m : ℕ) (links : Links) (act : Act) → In f (facts h v) → f.body ≡ Join d m links → is_under (facts h v) l d ≡ true → IsAsked (facts h v) d m act → is_pending (heard (facts h w) d m act) ≡ false → is_open_at (facts h w) d m links ≡ false
  ended_not_open f d m links act i body under asked ends =
      let S = facts h v in
      let T = facts h w in
      let asks : asks_active d f.body ≡ true = ap (asks_active d) body ∙ same_self d in
      let begun : is_begun S d ≡ true = active_begun h g.lawful v g.before f d i asks in
      let beneath : In l (chain T d) = subst (λ (c : List Id). In l c) (kept_chain h v w g d begun) (under_in S l d under) in
      let wants : want S d ≡ want T d = kept_want h v w g l x wanted later d begun beneath in
      let joined = links_joined S f d m links (closed_settled h g.lawful v g.before).seated i body in
      let demanded : demands (want S d) links act ≡ true = sym (ap (λ o. option_map_or (λ (y : Links). demands (want S d) y act) o false) joined) ∙ asked.demanded in
      asked_final (want T d) links act (heard T d m Complete) (heard T d m Compensate) (ap (λ y. demands y links act) (sym wants) ∙ demanded) (ap is_pending (heard_act T d m act) ∙ ends)

  pub act_falls : (call : Duty) → IsActUnder (facts h v) l call → is_pending (heard (facts h w) call.id call.member call.act) ≡ false → open_under (facts h w) l < open_under (facts h v) l
  act_falls call due ends =
      let S = facts h v in
      let T = facts h w in
      let asked = call_asked S l call due in
      let joined = joined_as S call.id call.member asked.known in
      count_less is_open_at open_fades joined.1 joined.2
      (call_open S l call (closed_settled h g.lawful v g.before) due joined.0 joined.1 joined.2 joined.3)
      (told_not (is_open_at T) T l call.id call.member joined.0 joined.1.body joined.3 (ended_not_open joined.1 call.id call.member joined.0 call.act joined.2 joined.3 due.under asked ends))

  pub open_falls : HearsAnEnd (facts h v) (facts h w) l → open_under (facts h w) l < open_under (facts h v) l
  open_falls hears = act_falls hears.call hears.due hears.ends
