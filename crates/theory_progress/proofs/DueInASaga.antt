-- if a compensation under a topmost cancelled LRA is pending, one is due there
use Rattle.std.proofs.Common.{◌≡◌, inl, inr, ◌&&◌, ℕ, suc, List, [], refl, sym, ap, ◌∙◌, Bool, true, false, arith, Option, Some, None, is_some}
use mathlib.Core.Bool.{not}
use Rattle.std.specs.List.{list_any, AllByRecursion}
use Rattle.std.specs.Option.{option_map_or}
use Rattle.state_ids.specs.Ids.{Id}
use Rattle.state_facts.specs.declared.fact.Body.{Body}
use Rattle.state_facts.specs.declared.fact.Body.TheVariants.{Begin, Join, Leave, Decide, Report, Forgot, Told, Purge}
use Rattle.state_facts.specs.declared.fact.Fact.{Fact}
use Rattle.state_facts.specs.Duties.{holds_back, is_compensation_due, is_later, is_uncompensated, saga_path, topmost_cancelled}
use Rattle.state_facts.specs.Links.{Links}
use Rattle.state_facts.specs.Lists.{In}
use Rattle.state_facts.specs.Sets.{NamesEarlier, has_left, is_participant, is_under, links_of}
use Rattle.state_facts.proofs.Membership.{any_gives}
use Rattle.state_forest.proofs.Bools.{and_left, and_right, not_false}
use Rattle.state_forest.proofs.NumberedMembers.{join_links}
use Rattle.state_forest.proofs.SagaOrder.{topmost_below}
use Rattle.theory_history.proofs.Basics.{both_true, false_from}
use Rattle.theory_progress.proofs.LastInOrder.{IsLast, last_of_all}

-- the fact joins a participant under a that is still to compensate
abbrev pub tells_pending : List Fact → Id → Body → Bool
tells_pending S a (Join d m links) = is_under S a d && (not (has_left S d m) && is_uncompensated S d m)
tells_pending S a _ = false

-- and the path of that participant in the saga
abbrev pub path_told : List Fact → Body → List ℕ
path_told S (Join d m links) = saga_path S d m
path_told S _ = []

pub record IsPending (S : List Fact) (a d : Id) (m : ℕ) : Type 0 where
  pub under : is_under S a d ≡ true
  pub stayed : has_left S d m ≡ false
  pub pending : is_uncompensated S d m ≡ true

pending_told : (S : List Fact) (a : Id) (body : Body) → tells_pending S a body ≡ true → (d : Id) × (m : ℕ) × (links : Links) × (body ≡ Join d m links) × IsPending S a d m
pending_told S a (Join d m links) e =
    let rest = and_right (is_under S a d) _ e in (
      d,
      m,
      links,
      refl,
      record {
        under = and_left (is_under S a d) _ e;
        stayed = not_false (has_left S d m) (and_left (not (has_left S d m)) _ rest);
        pending = and_right (not (has_left S d m)) _ rest;
      },
    )
pending_told S a (Begin parent deadline) e = absurd cc
pending_told S a (Leave id m) e = absurd cc
pending_told S a (Decide id verdict) e = absurd cc
pending_told S a (Report id m act outcome) e = absurd cc
pending_told S a (Forgot id m) e = absurd cc
pending_told S a (Told id m) e = absurd cc
pending_told S a (Purge root) e = absurd cc

pub told_pending : (S : List Fact) (a d : Id) (m : ℕ) (links : Links) → IsPending S a d m → tells_pending S a (Join d m links) ≡ true
told_pending S a d m links h = rw (h.under, h.stayed) h.pending

-- a fact that holds a compensation back joins a participant that is pending and later
back_told : (S : List Fact) (a : Id) (path : List ℕ) (body : Body) → holds_back S a path body ≡ true → (tells_pending S a body ≡ true) × (is_later (path_told S body) path ≡ true)
back_told S a path (Join d m links) e =
    let rest = and_right (is_under S a d) _ e in
    let more = and_right (not (has_left S d m)) _ rest in (
      told_pending S a d m links (record {
        under = and_left (is_under S a d) _ e;
        stayed = not_false (has_left S d m) (and_left (not (has_left S d m)) _ rest);
        pending = and_right (is_later (saga_path S d m) path) _ more;
      }),
      and_left (is_later (saga_path S d m) path) _ more,
    )
back_told S a path (Begin parent deadline) e = absurd cc
back_told S a path (Leave id m) e = absurd cc
back_told S a path (Decide id verdict) e = absurd cc
back_told S a path (Report id m act outcome) e = absurd cc
back_told S a path (Forgot id m) e = absurd cc
back_told S a path (Told id m) e = absurd cc
back_told S a path (Purge root) e = absurd cc

pub participant_by : (S : List Fact) (d : Id) (m : ℕ) (links : Links) (f : Fact) → In f S → f.body ≡ Join d m links → has_left S d m ≡ false → is_participant S d m ≡ true
participant_by S d m links f i body stayed = by (links_of S d m) refl
  where
    by : (o : Option Links) → links_of S d m ≡ o → (is_some o && not (has_left S d m)) ≡ true
    by None e = absurd (join_links S d m links f i body e)
    by (Some k) e = rw stayed refl

clash : (b : Bool) → b ≡ true → b ≡ false → ⊥
clash b e f = let wrong : true ≡ false = sym e ∙ f in cc

-- the last pending participant is due
last_due : (S : List Fact) → AllByRecursion NamesEarlier S → (a : Id) → topmost_cancelled S a ≡ Some a → (f : Fact) (d : Id) (m : ℕ) (links : Links) → In f S → f.body ≡ Join d m links → IsPending S a d m
    → ((g : Fact) → In g S → tells_pending S a g.body ≡ true → is_later (path_told S g.body) (saga_path S d m) ≡ false) → is_compensation_due S d m ≡ true
last_due S nested a top f d m links i body p last =
    ap (λ o. option_map_or (λ x. is_participant S d m && (is_uncompensated S d m && not (list_any (λ g. holds_back S x (saga_path S d m) g.body) S))) o false) own ∙ test
  where
    own : topmost_cancelled S d ≡ Some a
    own = topmost_below S nested a top (suc d.num) d (omega arith) p.under

    free : list_any (λ g. holds_back S a (saga_path S d m) g.body) S ≡ false
    free = false_from (list_any (λ g. holds_back S a (saga_path S d m) g.body) S) (λ held.
        let found = any_gives (λ (g : Fact). holds_back S a (saga_path S d m) g.body) S held in
        let back = back_told S a (saga_path S d m) found.0.body found.2 in
        clash (is_later (path_told S found.0.body) (saga_path S d m)) back.1 (last found.0 found.1 back.0))

    test : (is_participant S d m && (is_uncompensated S d m && not (list_any (λ g. holds_back S a (saga_path S d m) g.body) S))) ≡ true
    test =
        both_true (is_participant S d m) _ (participant_by S d m links f i body p.stayed)
        (both_true (is_uncompensated S d m) _ p.pending (ap not free))

-- so some participant is due
pub some_due : (S : List Fact) → AllByRecursion NamesEarlier S → (a : Id) → topmost_cancelled S a ≡ Some a → (f : Fact) → In f S → tells_pending S a f.body ≡ true → (d : Id) × (m : ℕ) × (is_under S a d ≡ true) × (is_compensation_due S d m ≡ true)
some_due S nested a top f i e = elim (last_of_all (λ (g : Fact). tells_pending S a g.body) (λ (g : Fact). path_told S g.body) S) [
  | inl last ↦ found last.0 last.1
  | inr none ↦ absurd (clash (tells_pending S a f.body) e (none f i))
]
  where
    found : (g : Fact) → IsLast (λ (x : Fact). tells_pending S a x.body) (λ (x : Fact). path_told S x.body) S g → (d : Id) × (m : ℕ) × (is_under S a d ≡ true) × (is_compensation_due S d m ≡ true)
    found g last =
        let who = pending_told S a g.body last.own in (
          who.0,
          who.1,
          who.4.under,
          last_due S nested a top g who.0 who.1 who.2 last.there who.3 who.4 (λ x m t.
              ap (is_later (path_told S x.body)) (sym (ap (path_told S) who.3)) ∙ last.none x m t),
        )
