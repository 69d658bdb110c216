-- two closed sets of one history, their fronts, and the union
use Rattle.std.proofs.Common.{◌≡◌, inl, inr, ◌≤◌, ◌==◌, ◌&&◌, ℕ, List, refl, sym, ap, subst, ◌∙◌, Bool, true, false, cond, arith, Option, Some, is_some}
use Rattle.std.proofs.lemmas.Bool.Decides.{nat_tests}
use Rattle.std.specs.List.{list_any}
use Rattle.state_ids.specs.Ids.{Id}
use Rattle.state_ids.specs.Fronts.{count}
use Rattle.state_ids.specs.declared.outcome.Act.{Act}
use Rattle.state_ids.specs.declared.outcome.Act.TheVariants.{Complete, Compensate}
use Rattle.state_ids.specs.declared.outcome.Outcome.{Outcome}
use Rattle.state_ids.specs.declared.outcome.Verdict.{Verdict}
use Rattle.state_ids.specs.declared.outcome.Verdict.TheVariants.{Close, Cancel}
use Rattle.state_facts.specs.declared.fact.Body.{Body}
use Rattle.state_facts.specs.declared.fact.Body.TheVariants.{Begin, Join, Leave, Decide, Report, Forgot, Told, Purge}
use Rattle.state_facts.specs.declared.fact.Fact.{Fact}
use Rattle.state_facts.specs.Links.{Links}
use Rattle.state_facts.specs.Duties.{is_forgot, is_told_of}
use Rattle.state_facts.specs.Lists.{In, IsInside, IsUnion}
use Rattle.state_facts.specs.Sets.{reported, is_decision, is_decided, is_leave, is_purge}
use Rattle.state_facts.proofs.Membership.{any_from, any_gives, most_bounds, most_least, same_bools}
use Rattle.state_forest.specs.Records.{is_about, is_named, stamp, givers, decision_of}
use Rattle.state_forest.proofs.Begins.{once_in}
use Rattle.state_forest.proofs.GiversOfNumbers.{giver_in, givers_ascend, in_givers}
use Rattle.theory_history.specs.Growth.{IsSettled}
use Rattle.theory_history.specs.Views.{IsCounted}
use Rattle.theory_history.proofs.Prefixes.{IsLonger, longer, same_ascending}
use Rattle.theory_history.proofs.Basics.{about_named, at_most, decision_names, giver_names}

-- the link at which a participant is asked for an act
abbrev pub link_for : Act → Links → Option (List ℕ)
link_for Complete links = links.complete
link_for Compensate links = links.compensate

-- what else holds of the facts of closed sets: decisions, leaves and purges are their home's, and
-- what is reported or marked of a participant was asked by one of its links
pub record IsProper (U : List Fact) : Type 0 where
  pub leaves : (f : Fact) (l : Id) (m : ℕ) → In f U → is_leave l m f.body ≡ true → f.origin ≡ l.home
  pub decisions : (f : Fact) (l : Id) (v : Verdict) → In f U → is_decision l v f.body ≡ true → f.origin ≡ l.home
  pub purges : (f : Fact) (a : Id) → In f U → is_purge a f.body ≡ true → f.origin ≡ a.home
  pub reports : (f g : Fact) (l : Id) (m : ℕ) (links : Links) (act : Act) (o : Outcome) → In f U → reported l m act f.body ≡ Some o → In g U → g.body ≡ Join l m links → is_some (link_for act links) ≡ true
  pub forgets : (f g : Fact) (l : Id) (m : ℕ) (links : Links) → In f U → is_forgot l m f.body ≡ true → In g U → g.body ≡ Join l m links → is_some links.forget ≡ true
  pub tells : (f g : Fact) (l : Id) (m : ℕ) (links : Links) → In f U → is_told_of l m f.body ≡ true → In g U → g.body ≡ Join l m links → is_some links.after ≡ true

-- two sets that fronts count, and their union
pub record AreTogether (S T U : List Fact) (v w : List ℕ) : Type 0 where
  pub first : IsSettled S
  pub second : IsSettled T
  pub both : IsSettled U
  pub union : IsUnion S T U
  pub counted_first : IsCounted S v
  pub counted_second : IsCounted T w
  pub proper : IsProper U

-- the same, in the other order
pub swapped : (S T U : List Fact) (v w : List ℕ) → AreTogether S T U v w → AreTogether T S U w v
swapped S T U v w t =
    record {
      first = t.second;
      second = t.first;
      both = t.both;
      union = record { left = t.union.right; right = t.union.left; only = λ f m. elim (t.union.only f m) [ inl a ↦ inr a | inr b ↦ inl b ] };
      counted_first = t.counted_second;
      counted_second = t.counted_first;
      proper = t.proper;
    }

-- What is named

pub named_leave : (l : Id) (m : ℕ) (body : Body) → is_leave l m body ≡ true → is_named l body ≡ true
named_leave l m (Begin parent deadline) e = absurd cc
named_leave l m (Join id n links) e = absurd cc
named_leave l m (Leave id n) e = grind (arith, e)
named_leave l m (Decide id v) e = absurd cc
named_leave l m (Report id n act outcome) e = absurd cc
named_leave l m (Forgot id n) e = absurd cc
named_leave l m (Told id n) e = absurd cc
named_leave l m (Purge root) e = absurd cc

-- Stamps

kept_num : (b : Bool) (n c : ℕ) → (b ≡ true → n ≤ c) → cond b n 0 ≤ c
kept_num true n c f = f refl
kept_num false n c f = omega arith

-- no stamp is beyond the front's count
pub stamp_counted : (S : List Fact) (v : List ℕ) (l : Id) (node : ℕ) → IsCounted S v → stamp S l node ≤ count v node
stamp_counted S v l node counted =
    most_least (λ f. cond ((f.origin == node) && is_about l f) f.num 0) S (count v node) (λ f m.
    kept_num ((f.origin == node) && is_about l f) f.num (count v node) (λ e.
    let at : f.origin ≡ node = origin_is f.origin node (is_about l f) e in
    omega (arith, counted.counted f m, ap (count v) at)))
  where
    origin_is : (a b : ℕ) (c : Bool) → ((a == b) && c) ≡ true → a ≡ b
    origin_is a b c e = grind (arith, nat_tests)

-- the stamp reaches the number of each fact about the LRA
pub stamp_reaches : (S : List Fact) (l : Id) (f : Fact) (node : ℕ) → In f S → f.origin ≡ node → is_about l f ≡ true → f.num ≤ stamp S l node
stamp_reaches S l f node m at about =
    let test : ((f.origin == node) && is_about l f) ≡ true = rw about (same f.origin node at) in
    let here : cond ((f.origin == node) && is_about l f) f.num 0 ≡ f.num = rw test refl in
    omega (arith, most_bounds (λ g. cond ((g.origin == node) && is_about l g) g.num 0) S f m, here)
  where
    same : (a b : ℕ) → a ≡ b → ((a == b) && true) ≡ true
    same a b e = grind (arith, nat_tests)

-- What one set knows of the other

module _ (S T U : List Fact) (v w : List ℕ) (t : AreTogether S T U v w) where
  -- a fact of the second set that the first front counts is in the first set
  pub known : (f : Fact) → In f T → f.num ≤ count v f.origin → In f S
  known f m bound =
      let some = t.counted_second.some f m in
      let g = t.counted_first.all f.origin f.num some.0 some.1 bound in
      let same : g.0 ≡ f = once_in U t.both.seated.once g.0 f (t.union.left g.0 g.1) (t.union.right f m) g.2 g.3 in
      subst (λ (x : Fact). In x S) same g.1

  -- and so is each home fact about an LRA, if the first set has the greater home stamp
  pub home_known : (l : Id) → stamp T l l.home ≤ stamp S l l.home → (f : Fact) → In f T → f.origin ≡ l.home → is_named l f.body ≡ true → In f S
  home_known l le f m at named =
      let reach = stamp_reaches T l f l.home m at (about_named l f named) in
      known f m (omega (arith, reach, le, stamp_counted S v l l.home t.counted_first, ap (count v) at))

  -- so is each fact that gives a member number of the LRA
  pub givers_known : (l : Id) → stamp T l l.home ≤ stamp S l l.home → IsInside (givers T l) (givers S l)
  givers_known l le f m =
      let g = giver_in T l f m in
      in_givers S l f (home_known l le f g.0 (t.second.seated.givers f l g.0 g.1) (giver_names l f.body g.1)) g.1

  -- the givers of the union are those of the first set
  pub givers_union : (l : Id) → stamp T l l.home ≤ stamp S l l.home → givers U l ≡ givers S l
  givers_union l le =
      same_ascending (givers U l) (givers S l) (givers_ascend U l t.both.seated) (givers_ascend S l t.first.seated)
      (λ f m. let g = giver_in U l f m in elim (t.union.only f g.0) [
        | inl s ↦ in_givers S l f s g.1
        | inr k ↦ givers_known l le f (in_givers T l f k g.1)
      ])
      (λ f m. let g = giver_in S l f m in in_givers U l f (t.union.left f g.0) g.1)

  -- and the givers of the second set are the first of them
  pub givers_longer : (l : Id) → stamp T l l.home ≤ stamp S l l.home → IsLonger (givers S l) (givers T l)
  givers_longer l le =
      longer (givers S l) (givers T l) (givers_ascend S l t.first.seated) (givers_ascend T l t.second.seated) (givers_known l le) (λ f m.
      let g = giver_in S l f m in
      elim (at_most f.num (count w f.origin)) [
        | inl near ↦ inl (in_givers T l f (back f g.0 near) g.1)
        | inr far ↦ inr (λ k n.
            let x = giver_in T l k n in
            let home : k.origin ≡ f.origin = t.second.seated.givers k l x.0 x.1 ∙ sym (t.first.seated.givers f l g.0 g.1) in
            omega (arith, t.counted_second.counted k x.0, far, ap (count w) home))
      ])
    where
      back : (f : Fact) → In f S → f.num ≤ count w f.origin → In f T
      back f m bound =
          let some = t.counted_first.some f m in
          let g = t.counted_second.all f.origin f.num some.0 some.1 bound in
          let same : g.0 ≡ f = once_in U t.both.seated.once g.0 f (t.union.right g.0 g.1) (t.union.left f m) g.2 g.3 in
          subst (λ (x : Fact). In x T) same g.1

  -- a test that only home facts about an LRA pass finds in the union what it finds in the first set
  test_union : (l : Id) → stamp T l l.home ≤ stamp S l l.home → (test : Fact → Bool) → ((f : Fact) → In f U → test f ≡ true → (f.origin ≡ l.home) × (is_named l f.body ≡ true)) → list_any test U ≡ list_any test S
  test_union l le test own =
      same_bools (list_any test U) (list_any test S)
      (λ e. let f = any_gives test U e in elim (t.union.only f.0 f.1) [
        | inl s ↦ any_from test S f.0 s f.2
        | inr k ↦ let o = own f.0 f.1 f.2 in any_from test S f.0 (home_known l le f.0 k o.0 o.1) f.2
      ])
      (λ e. let f = any_gives test S e in any_from test U f.0 (t.union.left f.0 f.1) f.2)

  -- which participants left is what the first set says
  pub left_union : (l : Id) → stamp T l l.home ≤ stamp S l l.home → (m : ℕ) → list_any (λ f. is_leave l m f.body) U ≡ list_any (λ f. is_leave l m f.body) S
  left_union l le m = test_union l le (λ f. is_leave l m f.body) (λ f k e. (t.proper.leaves f l m k e, named_leave l m f.body e))

  -- the decision is that of the first set
  pub decision_union : (l : Id) → stamp T l l.home ≤ stamp S l l.home → decision_of U l ≡ decision_of S l
  decision_union l le =
      let close : is_decided U Close l ≡ is_decided S Close l = test_union l le (λ f. is_decision l Close f.body) (λ f k e. (t.proper.decisions f l Close k e, decision_names l Close f.body e)) in
      let cancel : is_decided U Cancel l ≡ is_decided S Cancel l = test_union l le (λ f. is_decision l Cancel f.body) (λ f k e. (t.proper.decisions f l Cancel k e, decision_names l Cancel f.body e)) in
      rw (close, cancel) refl
