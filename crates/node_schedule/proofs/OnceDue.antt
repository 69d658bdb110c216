-- The duties of a list are due, and no participant is due twice.
use Rattle.std.proofs.Common.{◌≡◌, ◌≤◌, ◌<◌, ◌∷◌, [], ◌⊎◌, ◌&&◌, ◌==◌, ◌∙◌, ℕ, Bool, true, false, List, Option, Some, None, ap, arith, cond, inl, inr, nat_lt, refl, subst, sym}
use mathlib.Core.Bool.{not}
use Rattle.std.proofs.lemmas.Bool.Decides.{nat_tests}
use Rattle.std.proofs.lemmas.List.Sums.{sum_by-cons}
use Rattle.std.specs.List.{AllByRecursion, list_any}
use Rattle.std.specs.Option.{option_map_or}
use Rattle.std.specs.Prelude.{is_some}
use Rattle.state_ids.specs.Ids.{Id}
use Rattle.state_ids.specs.States.{compensating, completing}
use Rattle.state_ids.specs.declared.outcome.Act.{Act}
use Rattle.state_ids.specs.declared.outcome.Act.TheVariants.{Complete as CompleteAct, Compensate as CompensateAct}
use Rattle.state_ids.specs.declared.outcome.Outcome.{Outcome}
use Rattle.state_ids.specs.declared.outcome.Outcome.TheVariants.{Busy, Done, Failed}
use Rattle.state_ids.specs.declared.status.MemberStatus.TheVariants.{Compensated, Completed}
use Rattle.state_ids.specs.declared.outcome.Verdict.{Verdict}
use Rattle.state_ids.specs.declared.outcome.Verdict.TheVariants.{Cancel, Close}
use Rattle.state_facts.specs.declared.fact.Fact.{Fact}
use Rattle.state_facts.specs.Duties.{has_forgot, has_to_compensate, has_to_forget, holds_back, is_compensation_due, is_forget_duty, is_over, is_pending, is_uncompensated, owes_forget, saga_path, topmost_cancelled}
use Rattle.state_facts.specs.Links.{Links}
use Rattle.state_facts.specs.Lists.{In}
use Rattle.state_facts.specs.Sets.{chain, demands, heard, is_decided, is_demanded, is_participant, is_root, links_of, status_by, want}
use Rattle.state_forest.proofs.Bools.{and_left, and_right, or_cases}
use Rattle.state_forest.proofs.SagaOrder.{last_some}
use Rattle.state_forest.specs.Dues.{AreAll, IsOrdered, is_before, is_complete_duty, is_topmost_before, topmost_number}
use Rattle.state_forest.specs.declared.duties.Due.{Due}
use Rattle.wire_callbacks.specs.CallDuties.{IsDuty, comes_first, due_of, is_before_at, is_owed, stage}
use Rattle.wire_callbacks.specs.declared.answer.Kind.{Kind}
use Rattle.wire_callbacks.specs.declared.answer.Kind.TheVariants as kind
use Rattle.wire_callbacks.specs.declared.duty.Duty.{Duty}
use Rattle.node_schedule.specs.Once.{NamesNobodyTwice, duties_for, is_for}
use Rattle.node_schedule.specs.Slips.{called_of, is_after}
use Rattle.node_schedule.specs.declared.slip.Called.{Called}
use Rattle.node_schedule.proofs.Counts.{called_is}
use Rattle.node_schedule.proofs.Once.{bit}

false_true : false ≡ true → ⊥
false_true e = cc

-- what holds for a participant that is to complete, and for one that is to compensate

pub record Completes (S : List Fact) (l : Id) (m : ℕ) : Type 0 where
  pub wants : want S l ≡ Some Close
  pub links : Links
  pub joined : links_of S l m ≡ Some links
  pub complete : is_some links.complete ≡ true
  pub pending : is_pending (heard S l m CompleteAct) ≡ true

pub record Compensates (S : List Fact) (l : Id) (m : ℕ) : Type 0 where
  pub wants : want S l ≡ Some Cancel
  pub links : Links
  pub joined : links_of S l m ≡ Some links
  pub compensate : is_some links.compensate ≡ true
  pub pending : is_pending (heard S l m CompensateAct) ≡ true

completes_by : (S : List Fact) (l : Id) (m : ℕ) (w : Option Verdict) (o : Option Links) → want S l ≡ w → links_of S l m ≡ o → is_pending (heard S l m CompleteAct) ≡ true
    → option_map_or (λ links. demands w links CompleteAct) o false ≡ true → Completes S l m
completes_by S l m w None u j p e = absurd (false_true e)
completes_by S l m None (Some links) u j p e = absurd (false_true e)
completes_by S l m (Some Close) (Some links) u j p e = record { wants = u; links = links; joined = j; complete = e; pending = p }
completes_by S l m (Some Cancel) (Some links) u j p e = absurd (false_true e)

completes : (S : List Fact) (l : Id) (m : ℕ) → is_complete_duty S l m ≡ true → Completes S l m
completes S l m e =
    let rest = and_right (is_participant S l m) (is_demanded S l m CompleteAct && is_pending (heard S l m CompleteAct)) e in
    completes_by S l m (want S l) (links_of S l m) refl refl (and_right (is_demanded S l m CompleteAct) (is_pending (heard S l m CompleteAct)) rest)
    (and_left (is_demanded S l m CompleteAct) (is_pending (heard S l m CompleteAct)) rest)

wants_cancelled : (S : List Fact) (l a : Id) → topmost_cancelled S l ≡ Some a → want S l ≡ Some Cancel
wants_cancelled S l a top = let some : list_any (is_decided S Cancel) (chain S l) ≡ true = last_some (is_decided S Cancel) (chain S l) a top in rw some refl

compensates_by : (S : List Fact) (l : Id) (m : ℕ) (o : Option Links) → want S l ≡ Some Cancel → links_of S l m ≡ o
    → option_map_or (λ links. has_to_compensate links (heard S l m CompensateAct)) o false ≡ true → Compensates S l m
compensates_by S l m None u j e = absurd (false_true e)
compensates_by S l m (Some links) u j e = record {
  wants = u;
  links = links;
  joined = j;
  compensate = and_left (is_some links.compensate) (is_pending (heard S l m CompensateAct)) e;
  pending = and_right (is_some links.compensate) (is_pending (heard S l m CompensateAct)) e;
}

compensates_at : (S : List Fact) (l : Id) (m : ℕ) (o : Option Id) → topmost_cancelled S l ≡ o
    → option_map_or (λ a. is_participant S l m && (is_uncompensated S l m && not (list_any (λ (f : Fact). holds_back S a (saga_path S l m) f.body) S))) o false ≡ true → Compensates S l m
compensates_at S l m None top e = absurd (false_true e)
compensates_at S l m (Some a) top e =
    let rest = and_right (is_participant S l m) _ e in
    compensates_by S l m (links_of S l m) (wants_cancelled S l a top) refl (and_left (is_uncompensated S l m) _ rest)

compensates : (S : List Fact) (l : Id) (m : ℕ) → is_compensation_due S l m ≡ true → Compensates S l m
compensates S l m e = compensates_at S l m (topmost_cancelled S l) refl e

-- what a participant shows that is to forget
forgets : (S : List Fact) (l : Id) (m : ℕ) (links : Links) → links_of S l m ≡ Some links → is_forget_duty S l m ≡ true
    → has_to_forget (not (is_root S l)) (status_by (want S l) links (heard S l m CompleteAct) (heard S l m CompensateAct)) ≡ true
forgets S l m links joined e =
    let owes : option_map_or (owes_forget S l m) (links_of S l m) false ≡ true = and_right (is_participant S l m) _ e in
    let owed : owes_forget S l m links ≡ true = subst (λ (o : Option Links). option_map_or (owes_forget S l m) o false ≡ true) joined owes in
    let second = and_right (is_over S l) _ owed in
    let third = and_right (is_some links.forget) _ second in
    and_right (not (has_forgot S l m)) _ third

completing_forgets : (nested : Bool) (o : Option Outcome) → is_pending o ≡ true → has_to_forget nested (completing o) ≡ true → ⊥
completing_forgets true None p e = false_true e
completing_forgets true (Some Busy) p e = false_true e
completing_forgets true (Some Done) p e = false_true p
completing_forgets true (Some Failed) p e = false_true p
completing_forgets false None p e = false_true e
completing_forgets false (Some Busy) p e = false_true e
completing_forgets false (Some Done) p e = false_true p
completing_forgets false (Some Failed) p e = false_true p

compensating_forgets : (nested : Bool) (o : Option Outcome) → is_pending o ≡ true → has_to_forget nested (compensating o) ≡ true → ⊥
compensating_forgets true None p e = false_true e
compensating_forgets true (Some Busy) p e = false_true e
compensating_forgets true (Some Done) p e = false_true p
compensating_forgets true (Some Failed) p e = false_true p
compensating_forgets false None p e = false_true e
compensating_forgets false (Some Busy) p e = false_true e
compensating_forgets false (Some Done) p e = false_true p
compensating_forgets false (Some Failed) p e = false_true p

not_both : (S : List Fact) (l : Id) (m : ℕ) → Completes S l m → Compensates S l m → ⊥
not_both S l m c k = let e : Some Close ≡ Some Cancel = sym c.wants ∙ k.wants in cc

not_forgets : (S : List Fact) (l : Id) (m : ℕ) → Completes S l m → is_forget_duty S l m ≡ true → ⊥
not_forgets S l m c f =
    let shows = forgets S l m c.links c.joined f in
    let closing = subst (λ (w : Option Verdict). has_to_forget (not (is_root S l)) (status_by w c.links (heard S l m CompleteAct) (heard S l m CompensateAct)) ≡ true) c.wants shows in
    let asked = subst (λ (b : Bool). has_to_forget (not (is_root S l)) (cond b (completing (heard S l m CompleteAct)) Completed) ≡ true) c.complete closing in
    completing_forgets (not (is_root S l)) (heard S l m CompleteAct) c.pending asked

forgets_not : (S : List Fact) (l : Id) (m : ℕ) → Compensates S l m → is_forget_duty S l m ≡ true → ⊥
forgets_not S l m c f =
    let shows = forgets S l m c.links c.joined f in
    let cancelled = subst (λ (w : Option Verdict). has_to_forget (not (is_root S l)) (status_by w c.links (heard S l m CompleteAct) (heard S l m CompensateAct)) ≡ true) c.wants shows in
    let asked = subst (λ (b : Bool). has_to_forget (not (is_root S l)) (cond b (compensating (heard S l m CompensateAct)) Compensated) ≡ true) c.compensate cancelled in
    compensating_forgets (not (is_root S l)) (heard S l m CompensateAct) c.pending asked

-- for what a participant is due, given the stage
abbrev pub Stands : List Fact → Id → ℕ → ℕ → Bool → Type 0
Stands S l m n after =
    ((n ≡ 0) × (is_complete_duty S l m ≡ true) × (after ≡ false))
    ⊎ (((n ≡ 1) × (is_compensation_due S l m ≡ true) × (after ≡ false)) ⊎ (((n ≡ 2) × (is_forget_duty S l m ≡ true) × (after ≡ false)) ⊎ ((n ≡ 3) × (after ≡ true))))

stands : (S : List Fact) (l : Id) (m : ℕ) (k : Kind) (act : Act) → is_owed S k act l m ≡ true → Stands S l m (stage k act) (is_after k)
stands S l m kind.Complete CompleteAct e = inl (refl, and_left (is_complete_duty S l m) _ e, refl)
stands S l m kind.Complete CompensateAct e = absurd (false_true e)
stands S l m kind.Compensate CompleteAct e = absurd (false_true e)
stands S l m kind.Compensate CompensateAct e = inr (inl (refl, and_left (is_compensation_due S l m) _ e, refl))
stands S l m kind.Status CompleteAct e = inl (refl, and_left (is_complete_duty S l m) _ e, refl)
stands S l m kind.Status CompensateAct e = inr (inl (refl, and_left (is_compensation_due S l m) _ e, refl))
stands S l m kind.Forget CompleteAct e = inr (inr (inl (refl, and_left (is_forget_duty S l m) _ e, refl)))
stands S l m kind.Forget CompensateAct e = inr (inr (inl (refl, and_left (is_forget_duty S l m) _ e, refl)))
stands S l m kind.After CompleteAct e = inr (inr (inr (refl, refl)))
stands S l m kind.After CompensateAct e = inr (inr (inr (refl, refl)))

one_stage : (S : List Fact) (l : Id) (m n k : ℕ) (after : Bool) → Stands S l m n after → Stands S l m k after → n < k → ⊥
one_stage S l m n k after (inl a) (inl b) less = omega (arith, a.0, b.0)
one_stage S l m n k after (inl a) (inr (inl b)) less = not_both S l m (completes S l m a.1) (compensates S l m b.1)
one_stage S l m n k after (inl a) (inr (inr (inl b))) less = not_forgets S l m (completes S l m a.1) b.1
one_stage S l m n k after (inl a) (inr (inr (inr b))) less = false_true (sym a.2 ∙ b.1)
one_stage S l m n k after (inr (inl a)) (inl b) less = omega (arith, a.0, b.0)
one_stage S l m n k after (inr (inl a)) (inr (inl b)) less = omega (arith, a.0, b.0)
one_stage S l m n k after (inr (inl a)) (inr (inr (inl b))) less = forgets_not S l m (compensates S l m a.1) b.1
one_stage S l m n k after (inr (inl a)) (inr (inr (inr b))) less = false_true (sym a.2 ∙ b.1)
one_stage S l m n k after (inr (inr (inl a))) (inl b) less = omega (arith, a.0, b.0)
one_stage S l m n k after (inr (inr (inl a))) (inr (inl b)) less = omega (arith, a.0, b.0)
one_stage S l m n k after (inr (inr (inl a))) (inr (inr (inl b))) less = omega (arith, a.0, b.0)
one_stage S l m n k after (inr (inr (inl a))) (inr (inr (inr b))) less = false_true (sym a.2 ∙ b.1)
one_stage S l m n k after (inr (inr (inr a))) (inl b) less = omega (arith, a.0, b.0)
one_stage S l m n k after (inr (inr (inr a))) (inr (inl b)) less = omega (arith, a.0, b.0)
one_stage S l m n k after (inr (inr (inr a))) (inr (inr (inl b))) less = omega (arith, a.0, b.0)
one_stage S l m n k after (inr (inr (inr a))) (inr (inr (inr b))) less = omega (arith, a.0, b.0)

less_is : (a b : ℕ) → nat_lt a b ≡ true → a < b
less_is a b e = grind (arith, nat_tests, e)

never_less : (a : ℕ) → nat_lt a a ≡ true → ⊥
never_less a e = let less : a < a = less_is a a e in omega arith

before_itself : (S : List Fact) (n : ℕ) (d : Due) → is_before_at S n d d ≡ true → ⊥
before_itself S n d e = by (n == 1) e
  where
    by : (t : Bool) → cond t (is_topmost_before S d d) (is_before d d) ≡ true → ⊥
    by true f = never_less (topmost_number S d.lra) f
    by false f =
        elim (or_cases (nat_lt d.lra.num d.lra.num) ((d.lra.num == d.lra.num) && nat_lt d.member d.member) f) [
          | inl less ↦ never_less d.lra.num less
          | inr same ↦ never_less d.member (and_right (d.lra.num == d.lra.num) (nat_lt d.member d.member) same)
        ]

-- two duties of one participant don't come one before the other
clash : (home : ℕ) (S : List Fact) (x y : Duty) → IsDuty home S x → IsDuty home S y → called_of x ≡ called_of y → comes_first S x y ≡ true → ⊥
clash home S x y dx dy one first =
    let id : y.id ≡ x.id = sym (ap (λ (w : Called). w.id) one) in
    let member : y.member ≡ x.member = sym (ap (λ (w : Called). w.member) one) in
    let after : is_after y.kind ≡ is_after x.kind = sym (ap (λ (w : Called). w.of_end) one) in
    let same : due_of y ≡ due_of x = ap (λ (l : Id). record { lra = l; member = y.member }) id ∙ ap (λ (m : ℕ). record { lra = x.id; member = m }) member in
    let sx : Stands S x.id x.member (stage x.kind x.act) (is_after x.kind) = stands S x.id x.member x.kind x.act dx.owed in
    let sy : Stands S x.id x.member (stage y.kind y.act) (is_after x.kind) =
    subst (λ (b : Bool). Stands S x.id x.member (stage y.kind y.act) b) after
    (subst (λ (m : ℕ). Stands S x.id m (stage y.kind y.act) (is_after y.kind)) member
    (subst (λ (l : Id). Stands S l y.member (stage y.kind y.act) (is_after y.kind)) id (stands S y.id y.member y.kind y.act dy.owed))) in
    elim (or_cases (nat_lt (stage x.kind x.act) (stage y.kind y.act)) ((stage x.kind x.act == stage y.kind y.act) && is_before_at S (stage x.kind x.act) (due_of x) (due_of y)) first) [
      | inl less ↦ one_stage S x.id x.member (stage x.kind x.act) (stage y.kind y.act) (is_after x.kind) sx sy (less_is (stage x.kind x.act) (stage y.kind y.act) less)
      | inr equal ↦ before_itself S (stage x.kind x.act) (due_of x)
          (subst (λ (d : Due). is_before_at S (stage x.kind x.act) (due_of x) d ≡ true) same (and_right (stage x.kind x.act == stage y.kind y.act) _ equal))
    ]

none_for : (home : ℕ) (S : List Fact) (who : Called) (x : Duty) → IsDuty home S x → called_of x ≡ who → (ys : List Duty) → AllByRecursion (λ y. comes_first S x y ≡ true) ys
    → ((y : Duty) → In y ys → IsDuty home S y) → duties_for who ys ≡ 0
none_for home S who x dx is [] order duties = refl
none_for home S who x dx is (y ∷ ys) order duties =
    let rest = none_for home S who x dx is ys order.1 (λ z m. duties z (inr m)) in
    elim (is_for who y) as (λ b. is_for who y ≡ b → duties_for who (y ∷ ys) ≡ 0) [
      | true ↦ λ e. absurd (clash home S x y dx (duties y (inl refl)) (is ∙ sym (called_is (called_of y) who e)) order.0)
      | false ↦ λ e. omega (arith, sum_by-cons (λ (d : Duty). bit (is_for who d)) y ys, ap {B = ℕ} bit e, rest)
    ] refl

once_for : (home : ℕ) (S : List Fact) (who : Called) (xs : List Duty) → IsOrdered (comes_first S) xs → ((x : Duty) → In x xs → IsDuty home S x) → duties_for who xs ≤ 1
once_for home S who [] order duties = omega arith
once_for home S who (x ∷ xs) order duties =
    let rest = once_for home S who xs order.1 (λ z m. duties z (inr m)) in
    elim (is_for who x) as (λ b. is_for who x ≡ b → duties_for who (x ∷ xs) ≤ 1) [
      | true ↦ λ e. omega (
        arith,
        sum_by-cons (λ (d : Duty). bit (is_for who d)) x xs,
        ap {B = ℕ} bit e,
        none_for home S who x (duties x (inl refl)) (called_is (called_of x) who e) xs order.0 (λ z m. duties z (inr m)),
      )
      | false ↦ λ e. omega (arith, sum_by-cons (λ (d : Duty). bit (is_for who d)) x xs, ap {B = ℕ} bit e, rest)
    ] refl

-- all duties of a home, in their order, name no participant twice
pub named_once : (home : ℕ) (S : List Fact) (duties : List Duty) → AreAll (IsDuty home S) (comes_first S) duties → NamesNobodyTwice duties
named_once home S duties all who = once_for home S who duties all.order all.only
