-- the last participant whose compensation is pending is the one that is due
use Rattle.std.proofs.Common.{◌≡◌, inl, inr, ◌||◌, ◌&&◌, ◌<◌, ◌++◌, ℕ, zero, suc, List, [], ◌∷◌, refl, sym, ap, ◌∙◌, Bool, true, false, cond, arith, Option, Some, None, is_some}
use mathlib.Core.Bool.{not}
use Rattle.std.specs.List.{list_any, AllByRecursion}
use Rattle.std.specs.Option.{option_map_or}
use Rattle.std.proofs.lemmas.Bool.Decides.{nat_tests}
use Rattle.state_ids.specs.Ids.{Id, same_id}
use Rattle.state_ids.specs.declared.outcome.Verdict.TheVariants.{Close, Cancel}
use Rattle.state_facts.specs.Links.{Links}
use Rattle.state_facts.specs.declared.fact.Body.{Body}
use Rattle.state_facts.specs.declared.fact.Body.TheVariants.{Begin, Join, Leave, Decide, Report, Forgot, Told, Purge}
use Rattle.state_facts.specs.declared.fact.Fact.{Fact}
use Rattle.state_facts.specs.Duties.{holds_back, is_compensation_due, is_later, is_uncompensated, last_that, saga_path, slots_below, topmost_cancelled, wants_cancel}
use Rattle.state_facts.specs.Lists.{In}
use Rattle.state_facts.specs.Sets.{chain, has_left, is_decided, is_participant, is_under, links_of, parent_of, want, NamesEarlier}
use Rattle.state_facts.proofs.Chains.{parent_lesser}
use Rattle.state_facts.proofs.Membership.{any_from, any_gives}
use Rattle.state_forest.specs.declared.record.Place.{Place}
use Rattle.state_forest.specs.Dues.{is_topmost}
use Rattle.state_forest.specs.Records.{decision_of}
use Rattle.state_forest.proofs.Bools.{and_left, and_right, not_false, or_cases}
use Rattle.state_forest.proofs.ParentsAndChains.{chain_up, chain_root}
use Rattle.state_forest.proofs.GreatestByPath.{IsGreatest}
use Rattle.state_forest.proofs.LaterPaths.{later_asymmetric, not_later_self}
use Rattle.state_forest.proofs.Paths.{slots_from, under_home, under_number}
use Rattle.state_forest.proofs.LastPending.{IsPendingUnder, path_under}
use Rattle.state_forest.proofs.NumberedMembers.{join_found, join_links, same_is, same_self}
use Rattle.state_forest.proofs.UnderAnLra.{nested_at, or_right, under_root, under_self, under_up}

-- The topmost cancelled LRA of a chain

topmost_up : (S : List Fact) → AllByRecursion NamesEarlier S → (l p : Id) → parent_of S l ≡ Some p → topmost_cancelled S l ≡ option_map_or (λ y. Some y) (topmost_cancelled S p) (cond (is_decided S Cancel l) (Some l) None)
topmost_up S nested l p up = ap (last_that (is_decided S Cancel)) (chain_up S nested l p up)

topmost_root : (S : List Fact) → AllByRecursion NamesEarlier S → (l : Id) → parent_of S l ≡ None → topmost_cancelled S l ≡ cond (is_decided S Cancel l) (Some l) None
topmost_root S nested l up = ap (last_that (is_decided S Cancel)) (chain_root S nested l up)

-- an LRA that is topmost is the topmost cancelled one of all that is under it
pub topmost_below : (S : List Fact) → AllByRecursion NamesEarlier S → (a : Id) → topmost_cancelled S a ≡ Some a → (n : ℕ) (d : Id) → d.num < n → is_under S a d ≡ true → topmost_cancelled S d ≡ Some a
topmost_below S nested a top zero d e under = absurd (omega (arith, e))
topmost_below S nested a top (suc n) d e under = by (λ p less above. topmost_below S nested a top n p less above) (parent_of S d) refl
  where
    same : a ≡ d → topmost_cancelled S d ≡ Some a
    same s = ap (topmost_cancelled S) (sym s) ∙ top

    by : ((p : Id) → p.num < n → is_under S a p ≡ true → topmost_cancelled S p ≡ Some a) → (o : Option Id) → parent_of S d ≡ o → topmost_cancelled S d ≡ Some a
    by rest None at = same (under_root S nested a d at under)
    by rest (Some p) at =
        let lesser = parent_lesser S d p nested at in
        elim (or_cases (same_id a d) (is_under S a p) (sym (under_up S nested a d p at) ∙ under)) [ inl here ↦ same (same_is a d here) | inr above ↦ topmost_up S nested d p at ∙ ap (λ o. option_map_or (λ y. Some y) o (cond (is_decided S Cancel d) (Some d) None)) (rest p (omega (arith, e, lesser)) above) ]

-- l is under its topmost cancelled LRA, and that is its own
pub record IsTop (S : List Fact) (l a : Id) : Type 0 where
  pub under : is_under S a l ≡ true
  pub own : topmost_cancelled S a ≡ Some a

own_top : (S : List Fact) → AllByRecursion NamesEarlier S → (l a : Id) → topmost_cancelled S l ≡ Some a → (b : Bool) → cond b (Some l) None ≡ Some a → IsTop S l a
own_top S nested l a top true e =
    let same : l ≡ a = cc in
    record { under = ap (λ (x : Id). is_under S x l) (sym same) ∙ under_self S nested l; own = ap (topmost_cancelled S) (sym same) ∙ top }
own_top S nested l a top false e = absurd cc

pub top_is : (S : List Fact) → AllByRecursion NamesEarlier S → (n : ℕ) (l a : Id) → l.num < n → topmost_cancelled S l ≡ Some a → IsTop S l a
top_is S nested zero l a e top = absurd (omega (arith, e))
top_is S nested (suc n) l a e top = by (λ p b less above. top_is S nested n p b less above) (parent_of S l) refl
  where
    by : ((p b : Id) → p.num < n → topmost_cancelled S p ≡ Some b → IsTop S p b) → (o : Option Id) → parent_of S l ≡ o → IsTop S l a
    by rest None at = own_top S nested l a top (is_decided S Cancel l) (sym (topmost_root S nested l at) ∙ top)
    by rest (Some p) at = above (topmost_cancelled S p) refl (sym (topmost_up S nested l p at) ∙ top)
      where
        above : (o : Option Id) → topmost_cancelled S p ≡ o → option_map_or (λ y. Some y) o (cond (is_decided S Cancel l) (Some l) None) ≡ Some a → IsTop S l a
        above None t h = own_top S nested l a top (is_decided S Cancel l) h
        above (Some b) t h =
            let same : b ≡ a = cc in
            let higher = rest p a (omega (arith, e, parent_lesser S l p nested at)) (t ∙ h) in
            record { under = under_up S nested a l p at ∙ or_right (same_id a l) _ higher.under; own = higher.own }

pub last_none : (t : Id → Bool) (xs : List Id) → last_that t xs ≡ None → list_any t xs ≡ false
last_none t [] e = refl
last_none t (x ∷ xs) e = by (last_that t xs) refl (t x) refl e (last_none t xs)
  where
    by : (o : Option Id) → last_that t xs ≡ o → (b : Bool) → t x ≡ b → option_map_or (λ y. Some y) o (cond b (Some x) None) ≡ None → (last_that t xs ≡ None → list_any t xs ≡ false) → (t x || list_any t xs) ≡ false
    by (Some y) s b u e rest = absurd cc
    by None s true u e rest = absurd cc
    by None s false u e rest = rw u (rest s)

pub last_some : (t : Id → Bool) (xs : List Id) (y : Id) → last_that t xs ≡ Some y → list_any t xs ≡ true
last_some t [] y e = absurd cc
last_some t (x ∷ xs) y e = by (last_that t xs) refl (t x) refl e (last_some t xs)
  where
    by : (o : Option Id) → last_that t xs ≡ o → (b : Bool) → t x ≡ b → option_map_or (λ z. Some z) o (cond b (Some x) None) ≡ Some y → ((z : Id) → last_that t xs ≡ Some z → list_any t xs ≡ true) → (t x || list_any t xs) ≡ true
    by (Some z) s b u e rest = or_right (t x) _ (rest z s)
    by None s true u e rest = rw u refl
    by None s false u e rest = absurd cc

-- an LRA is the topmost cancelled LRA if it is cancelled and no LRA above it is
pub topmost_is : (S : List Fact) → AllByRecursion NamesEarlier S → (l p : Id) → parent_of S l ≡ Some p → is_topmost S l ≡ (is_decided S Cancel l && not (list_any (is_decided S Cancel) (chain S p)))
topmost_is S nested l p up = ap (λ o. option_map_or (same_id l) o false) (topmost_up S nested l p up) ∙ by (topmost_cancelled S p) refl (is_decided S Cancel l)
  where
    by : (o : Option Id) → topmost_cancelled S p ≡ o → (b : Bool) → option_map_or (same_id l) (option_map_or (λ y. Some y) o (cond b (Some l) None)) false ≡ (b && not (list_any (is_decided S Cancel) (chain S p)))
    by None t true = let none = last_none (is_decided S Cancel) (chain S p) t in rw (none, same_self l) refl
    by None t false = refl
    by (Some a) t b =
        let some = last_some (is_decided S Cancel) (chain S p) a t in
        let at_most = under_number S nested a (suc p.num) p (omega arith) (top_is S nested (suc p.num) p a (omega arith) t).under in
        let lesser = parent_lesser S l p nested up in
        let other : same_id l a ≡ false = grind (arith, nat_tests, at_most, lesser) in
        rw (some, other) (no b)
      where
        no : (b : Bool) → false ≡ (b && false)
        no true = refl
        no false = refl

pub topmost_alone : (S : List Fact) → AllByRecursion NamesEarlier S → (l : Id) → parent_of S l ≡ None → is_topmost S l ≡ is_decided S Cancel l
topmost_alone S nested l up = ap (λ o. option_map_or (same_id l) o false) (topmost_root S nested l up) ∙ by (is_decided S Cancel l)
  where
    by : (b : Bool) → option_map_or (same_id l) (cond b (Some l) None) false ≡ b
    by true = same_self l
    by false = refl

-- an LRA that is topmost is its own topmost cancelled LRA
pub topmost_own : (S : List Fact) (l : Id) → is_topmost S l ≡ true → topmost_cancelled S l ≡ Some l
topmost_own S l e = by (topmost_cancelled S l) e
  where
    by : (o : Option Id) → option_map_or (same_id l) o false ≡ true → o ≡ Some l
    by None e = absurd cc
    by (Some a) e = ap (λ x. Some x) (sym (same_is l a e))

pub own_topmost : (S : List Fact) (l : Id) → topmost_cancelled S l ≡ Some l → is_topmost S l ≡ true
own_topmost S l e = rw e (same_self l)

pub decision_cancels : (S : List Fact) (l : Id) → wants_cancel (decision_of S l) ≡ is_decided S Cancel l
decision_cancels S l = by (is_decided S Cancel l) (is_decided S Close l)
  where
    by : (a b : Bool) → wants_cancel (cond a (Some Cancel) (cond b (Some Close) None)) ≡ a
    by true b = refl
    by false true = refl
    by false false = refl

pub want_cancels : (S : List Fact) (l : Id) → wants_cancel (want S l) ≡ list_any (is_decided S Cancel) (chain S l)
want_cancels S l = by (list_any (is_decided S Cancel) (chain S l)) (list_any (is_decided S Close) (chain S l))
  where
    by : (a b : Bool) → wants_cancel (cond a (Some Cancel) (cond b (Some Close) None)) ≡ a
    by true b = refl
    by false true = refl
    by false false = refl

-- What is due

-- a participant that is pending, did not leave, and is later than a path
pub record HoldsBack (S : List Fact) (a : Id) (path : List ℕ) (d : Id) (m : ℕ) (links : Links) : Type 0 where
  pub under : is_under S a d ≡ true
  pub stayed : has_left S d m ≡ false
  pub later : is_later (saga_path S d m) path ≡ true
  pub pending : is_uncompensated S d m ≡ true

back_join : (S : List Fact) (a : Id) (path : List ℕ) (body : Body) → holds_back S a path body ≡ true → (d : Id) × (m : ℕ) × (links : Links) × (body ≡ Join d m links) × HoldsBack S a path d m links
back_join S a path (Join d m links) e =
    let rest = and_right (is_under S a d) _ e in
    let more = and_right (not (has_left S d m)) _ rest in (
      d,
      m,
      links,
      refl,
      record {
        under = and_left (is_under S a d) _ e;
        stayed = not_false (has_left S d m) (and_left (not (has_left S d m)) _ rest);
        later = and_left (is_later (saga_path S d m) path) _ more;
        pending = and_right (is_later (saga_path S d m) path) _ more;
      },
    )
back_join S a path (Begin parent deadline) e = absurd cc
back_join S a path (Leave id m) e = absurd cc
back_join S a path (Decide id verdict) e = absurd cc
back_join S a path (Report id m act outcome) e = absurd cc
back_join S a path (Forgot id m) e = absurd cc
back_join S a path (Told id m) e = absurd cc
back_join S a path (Purge root) e = absurd cc

join_back : (S : List Fact) (a : Id) (path : List ℕ) (d : Id) (m : ℕ) (links : Links) → HoldsBack S a path d m links → holds_back S a path (Join d m links) ≡ true
join_back S a path d m links h = rw (h.under, h.stayed, h.later) h.pending

-- from the topmost cancelled LRA the path is the saga path
saga_path_is : (S : List Fact) (a d : Id) (m : ℕ) → topmost_cancelled S d ≡ Some a → saga_path S d m ≡ slots_from S a d ++ m ∷ []
saga_path_is S a d m top = ap (λ o. option_map_or (λ x. slots_below S x (chain S d)) o [] ++ m ∷ []) top

participant_by : (S : List Fact) (d : Id) (m : ℕ) (links : Links) (f : Fact) → In f S → f.body ≡ Join d m links → has_left S d m ≡ false → is_participant S d m ≡ true
participant_by S d m links f i body stayed = by (links_of S d m) refl
  where
    by : (o : Option Links) → links_of S d m ≡ o → (is_some o && not (has_left S d m)) ≡ true
    by None e = absurd (join_links S d m links f i body e)
    by (Some k) e = rw stayed refl

-- what is due under a
pub record IsOwed (S : List Fact) (a d : Id) (m : ℕ) : Type 0 where
  pub known : is_participant S d m ≡ true
  pub pending : is_uncompensated S d m ≡ true
  pub free : list_any (λ f. holds_back S a (saga_path S d m) f.body) S ≡ false

owed_is : (S : List Fact) (a d : Id) (m : ℕ) → topmost_cancelled S d ≡ Some a → is_compensation_due S d m ≡ true → IsOwed S a d m
owed_is S a d m top due =
    let test : (is_participant S d m && (is_uncompensated S d m && not (list_any (λ f. holds_back S a (saga_path S d m) f.body) S))) ≡ true =
    sym (ap (λ o. option_map_or (λ x. is_participant S d m && (is_uncompensated S d m && not (list_any (λ f. holds_back S x (saga_path S d m) f.body) S))) o false) top) ∙ due in
    let rest = and_right (is_participant S d m) _ test in
    record {
      known = and_left (is_participant S d m) _ test;
      pending = and_left (is_uncompensated S d m) _ rest;
      free = not_false _ (and_right (is_uncompensated S d m) _ rest);
    }

owed_due : (S : List Fact) (a d : Id) (m : ℕ) → topmost_cancelled S d ≡ Some a → IsOwed S a d m → is_compensation_due S d m ≡ true
owed_due S a d m top owed =
    let test : (is_participant S d m && (is_uncompensated S d m && not (list_any (λ f. holds_back S a (saga_path S d m) f.body) S))) ≡ true = rw (owed.known, owed.pending, owed.free) refl in
    ap (λ o. option_map_or (λ x. is_participant S d m && (is_uncompensated S d m && not (list_any (λ f. holds_back S x (saga_path S d m) f.body) S))) o false) top ∙ test

-- if all that is pending under a comes before y, y is due
pub last_due : (S : List Fact) → AllByRecursion NamesEarlier S → (a : Id) (y : Place) → topmost_cancelled S a ≡ Some a → IsGreatest (IsPendingUnder S a) (path_under S a) (Some y) → is_compensation_due S (nested_at a y.number) y.slot ≡ true
last_due S nested a y top greatest =
    let d = nested_at a y.number in
    let own = topmost_below S nested a top (suc y.number) d (omega arith) greatest.0.under in
    owed_due S a d y.slot own (record { known = greatest.0.known; pending = greatest.0.pending; free = none (list_any (λ f. holds_back S a (saga_path S d y.slot) f.body) S) refl })
  where
    path : saga_path S (nested_at a y.number) y.slot ≡ path_under S a y
    path = saga_path_is S a (nested_at a y.number) y.slot (topmost_below S nested a top (suc y.number) (nested_at a y.number) (omega arith) greatest.0.under)

    before : (x : Place) → IsPendingUnder S a x → is_later (path_under S a x) (path_under S a y) ≡ true → ⊥
    before x p e = elim (greatest.1 x p) [ inl same ↦ not_later_self (path_under S a y) (ap (λ (z : Place). is_later (path_under S a z) (path_under S a y)) (sym same) ∙ e) | inr less ↦ both less ]
      where
        both : is_later (path_under S a y) (path_under S a x) ≡ true → ⊥
        both less = let no : is_later (path_under S a x) (path_under S a y) ≡ false = later_asymmetric (path_under S a y) (path_under S a x) less in cc

    held_back : (f : Fact) → In f S → (d : Id) (m : ℕ) (links : Links) → f.body ≡ Join d m links → HoldsBack S a (saga_path S (nested_at a y.number) y.slot) d m links → ⊥
    held_back f i d m links body h =
        let home = under_home S nested a (suc d.num) d (omega arith) h.under in
        let here : d ≡ nested_at a d.num = ap (λ (k : ℕ). record { home = k; num = d.num }) home in
        let x : Place = record { number = d.num; slot = m } in
        let p : IsPendingUnder S a x = record {
          under = ap (is_under S a) (sym here) ∙ h.under;
          known = ap (λ (z : Id). is_participant S z m) (sym here) ∙ participant_by S d m links f i body h.stayed;
          pending = ap (λ (z : Id). is_uncompensated S z m) (sym here) ∙ h.pending;
        } in
        let way : saga_path S d m ≡ path_under S a x =
        saga_path_is S a d m (topmost_below S nested a top (suc d.num) d (omega arith) h.under) ∙ ap (λ (z : Id). slots_from S a z ++ m ∷ []) here in
        before x p (ap (λ q. is_later q (path_under S a y)) (sym way) ∙ ap (is_later (saga_path S d m)) (sym path) ∙ h.later)

    none : (b : Bool) → list_any (λ f. holds_back S a (saga_path S (nested_at a y.number) y.slot) f.body) S ≡ b → list_any (λ f. holds_back S a (saga_path S (nested_at a y.number) y.slot) f.body) S ≡ false
    none false e = e
    none true e =
        let found = any_gives (λ (f : Fact). holds_back S a (saga_path S (nested_at a y.number) y.slot) f.body) S e in
        let join = back_join S a (saga_path S (nested_at a y.number) y.slot) found.0.body found.2 in
        absurd (held_back found.0 found.1 join.0 join.1 join.2 join.3 join.4)

-- the participant that is due under a is the last that is pending there
pub due_last : (S : List Fact) → AllByRecursion NamesEarlier S → (a d : Id) (m : ℕ) (o : Option Place) → topmost_cancelled S d ≡ Some a → is_compensation_due S d m ≡ true → IsGreatest (IsPendingUnder S a) (path_under S a) o → o ≡ Some (record { number = d.num; slot = m })
due_last S nested a d m o top due greatest = by o greatest
  where
    x : Place
    x = record { number = d.num; slot = m }

    tops : IsTop S d a
    tops = top_is S nested (suc d.num) d a (omega arith) top

    owed : IsOwed S a d m
    owed = owed_is S a d m top due

    here : d ≡ nested_at a d.num
    here = ap (λ (k : ℕ). record { home = k; num = d.num }) (under_home S nested a (suc d.num) d (omega arith) tops.under)

    pending : IsPendingUnder S a x
    pending = record {
      under = ap (is_under S a) (sym here) ∙ tops.under;
      known = ap (λ (z : Id). is_participant S z m) (sym here) ∙ owed.known;
      pending = ap (λ (z : Id). is_uncompensated S z m) (sym here) ∙ owed.pending;
    }

    path : saga_path S d m ≡ path_under S a x
    path = saga_path_is S a d m top ∙ ap (λ (z : Id). slots_from S a z ++ m ∷ []) here

    held_back : (y : Place) → IsPendingUnder S a y → is_later (path_under S a y) (path_under S a x) ≡ true → ⊥
    held_back y p later = joined (links_of S e y.slot) refl (and_left (is_some (links_of S e y.slot)) _ p.known)
      where
        e : Id
        e = nested_at a y.number

        joined : (k : Option Links) → links_of S e y.slot ≡ k → is_some k ≡ true → ⊥
        joined None at some = absurd cc
        joined (Some links) at some =
            let f = join_found S e y.slot links at in
            let way : saga_path S e y.slot ≡ path_under S a y = saga_path_is S a e y.slot (topmost_below S nested a tops.own (suc y.number) e (omega arith) p.under) in
            let h : HoldsBack S a (saga_path S d m) e y.slot links = record {
              under = p.under;
              stayed = not_false (has_left S e y.slot) (and_right (is_some (links_of S e y.slot)) _ p.known);
              later = ap (λ q. is_later q (saga_path S d m)) way ∙ ap (is_later (path_under S a y)) path ∙ later;
              pending = p.pending;
            } in
            let there = any_from (λ (g : Fact). holds_back S a (saga_path S d m) g.body) S f.0 f.1 (ap (holds_back S a (saga_path S d m)) f.2 ∙ join_back S a (saga_path S d m) e y.slot links h) in
            let wrong : true ≡ false = sym there ∙ owed.free in
            cc

    by : (o : Option Place) → IsGreatest (IsPendingUnder S a) (path_under S a) o → o ≡ Some (record { number = d.num; slot = m })
    by None none = absurd (none x pending)
    by (Some y) last = elim (last.1 x pending) [ inl same ↦ ap (λ z. Some z) (sym same) | inr later ↦ absurd (held_back y last.0 later) ]
