-- the duties of a home as one list
use Rattle.std.proofs.Common.{◌≡◌, ◌⊎◌, inl, inr, ◌&&◌, ◌++◌, ◌∙◌, ℕ, List, [], map, refl, sym, ap, Bool, true, false, cond, Option, Some, None, nat_lt, subst}
use mathlib.Core.Bool.{not}
use Rattle.std.specs.Option.{option_map_or}
use Rattle.std.proofs.lemmas.List.{append_assoc}
use Rattle.state_ids.specs.Ids.{Id}
use Rattle.state_ids.specs.declared.outcome.Act.{Act}
use Rattle.state_ids.specs.declared.outcome.Act.TheVariants.{Complete as CompleteAct, Compensate as CompensateAct}
use Rattle.state_ids.specs.declared.outcome.Verdict.{Verdict}
use Rattle.state_ids.specs.declared.outcome.Verdict.TheVariants.{Close, Cancel}
use Rattle.state_ids.specs.declared.status.LraStatus.{LraStatus}
use Rattle.state_facts.specs.declared.fact.Fact.{Fact}
use Rattle.state_facts.specs.Duties.{is_after_duty, is_compensation_due, is_forget_duty}
use Rattle.state_facts.specs.Sets.{parent_of, want}
use Rattle.state_forest.specs.declared.duties.Due.{Due}
use Rattle.state_forest.specs.Dues.{AreAll, IsDueAt, is_before, is_complete_duty, is_topmost_before}
use Rattle.state_forest.proofs.Bools.{and_left, and_right, not_false}
use Rattle.state_forest.proofs.ListsByRecord.{all_append, all_map}
use Rattle.wire_callbacks.specs.declared.answer.Kind.{Kind}
use Rattle.wire_callbacks.specs.declared.answer.Kind.TheVariants.{Complete, Compensate, Status, Forget, After}
use Rattle.wire_callbacks.specs.declared.duty.Duty.{Duty}
use Rattle.wire_callbacks.specs.declared.duty.Purpose.{Purpose}
use Rattle.wire_callbacks.specs.declared.duty.Purpose.TheVariants.{Call, Release, Tell}
use Rattle.wire_callbacks.specs.CallDuties.{IsDuty, act_wanted, asks_status, comes_first, due_of, is_act_wanted, is_owed, link_given, shown_for, stage}
use Rattle.wire_callbacks.specs.Errands.{act_from, due_by, duty_from, kind_from, kind_of_act}
use Rattle.wire_callbacks.proofs.Ready.{IsReady, link_is, ready}

-- the errand on which a duty is done
abbrev pub errand_of : Kind → Act → Purpose
errand_of Complete act = Call CompleteAct
errand_of Compensate act = Call CompensateAct
errand_of Status act = Call act
errand_of Forget act = Release
errand_of After act = Tell

-- a duty that is done on this errand
pub record IsOn (home : ℕ) (S : List Fact) (errand : Purpose) (d : Duty) : Type 0 where
  pub duty : IsDuty home S d
  pub on : errand_of d.kind d.act ≡ errand

abbrev pub turn : Purpose → ℕ
turn (Call CompleteAct) = 0
turn (Call CompensateAct) = 1
turn Release = 2
turn Tell = 3

stage_is : (kind : Kind) (act : Act) → stage kind act ≡ turn (errand_of kind act)
stage_is Complete act = refl
stage_is Compensate act = refl
stage_is Status CompleteAct = refl
stage_is Status CompensateAct = refl
stage_is Forget act = refl
stage_is After act = refl

-- in the order of participants
abbrev pub before_by : Purpose → List Fact → Due → Due → Bool
before_by (Call CompleteAct) S = is_before
before_by (Call CompensateAct) S = is_topmost_before S
before_by Release S = is_before
before_by Tell S = is_before

wanted_act : (w : Option Verdict) (act : Act) → act_wanted w ≡ Some act → is_act_wanted w act ≡ true
wanted_act None act e = absurd cc
wanted_act (Some Close) CompleteAct e = refl
wanted_act (Some Close) CompensateAct e = absurd cc
wanted_act (Some Cancel) CompleteAct e = absurd cc
wanted_act (Some Cancel) CompensateAct e = refl

act_is : (w : Option Verdict) (act : Act) → is_act_wanted w act ≡ true → act_wanted w ≡ Some act
act_is None act e = absurd cc
act_is (Some Close) CompleteAct e = refl
act_is (Some Close) CompensateAct e = absurd cc
act_is (Some Cancel) CompleteAct e = absurd cc
act_is (Some Cancel) CompensateAct e = refl

both : (a b : Bool) → a ≡ true → b ≡ true → (a && b) ≡ true
both a b e f = rw (e, f) refl

-- the call for what is due is the call that is owed
owed_so : (S : List Fact) (errand : Purpose) (d : Due) (act : Act) → due_by errand S d.lra d.member ≡ true → act_from S errand d ≡ Some act → is_owed S (kind_from S errand d) act d.lra d.member ≡ true
owed_so S Release d act due wanted = both (is_forget_duty S d.lra d.member) _ due (wanted_act (want S d.lra) act wanted)
owed_so S Tell d act due wanted = both (is_after_duty S d.lra d.member) _ due (wanted_act (want S d.lra) act wanted)
owed_so S (Call a) d act due wanted = subst (λ (b : Act). is_owed S (kind_from S (Call a) d) b d.lra d.member ≡ true) same (by a (asks_status S d.lra d.member a) refl due)
  where
    same : a ≡ act
    same = let e : ◌≡◌ {A = Option Act} (Some a) (Some act) = wanted in cc

    by : (a : Act) (b : Bool) → asks_status S d.lra d.member a ≡ b → due_by (Call a) S d.lra d.member ≡ true → is_owed S (cond b Status (kind_of_act a)) a d.lra d.member ≡ true
    by CompleteAct true e f = both (is_complete_duty S d.lra d.member) _ f e
    by CompleteAct false e f = both (is_complete_duty S d.lra d.member) _ f (ap not e)
    by CompensateAct true e f = both (is_compensation_due S d.lra d.member) _ f e
    by CompensateAct false e f = both (is_compensation_due S d.lra d.member) _ f (ap not e)

errand_so : (S : List Fact) (errand : Purpose) (d : Due) (act : Act) → act_from S errand d ≡ Some act → errand_of (kind_from S errand d) act ≡ errand
errand_so S Release d act wanted = refl
errand_so S Tell d act wanted = refl
errand_so S (Call a) d act wanted = subst (λ (b : Act). errand_of (kind_from S (Call a) d) b ≡ Call a) same (by a (asks_status S d.lra d.member a))
  where
    same : a ≡ act
    same = let e : ◌≡◌ {A = Option Act} (Some a) (Some act) = wanted in cc

    by : (a : Act) (b : Bool) → errand_of (cond b Status (kind_of_act a)) a ≡ Call a
    by a true = refl
    by CompleteAct false = refl
    by CompensateAct false = refl

-- what is made for a participant to whom something is due is a duty
pub there : (home : ℕ) (S : List Fact) (errand : Purpose) (d : Due) → IsDueAt home S (due_by errand) d → IsOn home S errand (duty_from S errand d)
there home S errand d due =
    record {
      duty = record {
        own = due.own;
        held = due.held;
        owed = owed_so S errand d (duty_from S errand d).act due.owed acts;
        called = links;
        nested = refl;
        shown = refl;
      };
      on = errand_so S errand d (duty_from S errand d).act acts;
    }
  where
    r : IsReady S errand d
    r = ready home S errand d due

    acts : act_from S errand d ≡ Some (duty_from S errand d).act
    acts = r.wanted ∙ sym (ap (λ (o : Option Act). Some (option_map_or (λ act. act) o CompleteAct)) r.wanted)

    links : link_given S (kind_from S errand d) d.lra d.member ≡ Some (duty_from S errand d).link
    links = link_is S errand d r ∙ sym (ap (λ (o : Option (List ℕ)). Some (option_map_or (λ link. link) o [])) (link_is S errand d r))

-- what a duty was made of
record IsOwedSo (S : List Fact) (kind : Kind) (act : Act) (errand : Purpose) (d : Due) : Type 0 where
  due : due_by errand S d.lra d.member ≡ true
  kinds : kind_from S errand d ≡ kind
  acts : act_from S errand d ≡ Some act

owed_back : (S : List Fact) (kind : Kind) (act : Act) (d : Due) → is_owed S kind act d.lra d.member ≡ true → IsOwedSo S kind act (errand_of kind act) d
owed_back S Complete CompleteAct d e =
    let asks = not_false _ (and_right (is_complete_duty S d.lra d.member) _ e) in
    record { due = and_left (is_complete_duty S d.lra d.member) _ e; kinds = ap (λ b. cond b Status Complete) asks; acts = refl }
owed_back S Complete CompensateAct d e = absurd cc
owed_back S Compensate CompleteAct d e = absurd cc
owed_back S Compensate CompensateAct d e =
    let asks = not_false _ (and_right (is_compensation_due S d.lra d.member) _ e) in
    record { due = and_left (is_compensation_due S d.lra d.member) _ e; kinds = ap (λ b. cond b Status Compensate) asks; acts = refl }
owed_back S Status CompleteAct d e =
    record { due = and_left (is_complete_duty S d.lra d.member) _ e; kinds = ap (λ b. cond b Status Complete) (and_right (is_complete_duty S d.lra d.member) _ e); acts = refl }
owed_back S Status CompensateAct d e =
    record { due = and_left (is_compensation_due S d.lra d.member) _ e; kinds = ap (λ b. cond b Status Compensate) (and_right (is_compensation_due S d.lra d.member) _ e); acts = refl }
owed_back S Forget act d e =
    record { due = and_left (is_forget_duty S d.lra d.member) _ e; kinds = refl; acts = act_is (want S d.lra) act (and_right (is_forget_duty S d.lra d.member) _ e) }
owed_back S After act d e =
    record { due = and_left (is_after_duty S d.lra d.member) _ e; kinds = refl; acts = act_is (want S d.lra) act (and_right (is_after_duty S d.lra d.member) _ e) }

back : (home : ℕ) (S : List Fact) (errand : Purpose) (y : Duty) → IsOn home S errand y → (d : Due) × IsDueAt home S (due_by errand) d × (y ≡ duty_from S errand d)
back home S errand y on = (due_of y, record { own = on.duty.own; held = on.duty.held; owed = from.due }, whole)
  where
    from : IsOwedSo S y.kind y.act errand (due_of y)
    from = subst (λ (e : Purpose). IsOwedSo S y.kind y.act e (due_of y)) on.on (owed_back S y.kind y.act (due_of y) on.duty.owed)

    mk : Kind → Act → List ℕ → Option Id → Option LraStatus → Duty
    mk k a l o s = record { kind = k; act = a; id = y.id; member = y.member; link = l; parent = o; shows = s }

    linked : y.link ≡ option_map_or (λ link. link) (link_given S (kind_from S errand (due_of y)) y.id y.member) []
    linked = sym (ap (λ (o : Option (List ℕ)). option_map_or (λ link. link) o []) (ap (λ k. link_given S k y.id y.member) from.kinds ∙ on.duty.called))

    acting : y.act ≡ option_map_or (λ act. act) (act_from S errand (due_of y)) CompleteAct
    acting = sym (ap (λ (o : Option Act). option_map_or (λ act. act) o CompleteAct) from.acts)

    the_act : Act
    the_act = option_map_or (λ act. act) (act_from S errand (due_of y)) CompleteAct

    the_link : List ℕ
    the_link = option_map_or (λ link. link) (link_given S (kind_from S errand (due_of y)) y.id y.member) []

    showing : y.shows ≡ shown_for S (kind_from S errand (due_of y)) y.id
    showing = on.duty.shown ∙ sym (ap (λ k. shown_for S k y.id) from.kinds)

    whole : y ≡ duty_from S errand (due_of y)
    whole =
        ap (λ k. mk k y.act y.link y.parent y.shows) (sym from.kinds) ∙ ap (λ a. mk (kind_from S errand (due_of y)) a y.link y.parent y.shows) acting
        ∙ ap (λ l. mk (kind_from S errand (due_of y)) the_act l y.parent y.shows) linked ∙ ap (λ o. mk (kind_from S errand (due_of y)) the_act the_link o y.shows) on.duty.nested
        ∙ ap (mk (kind_from S errand (due_of y)) the_act the_link (parent_of S y.id)) showing

-- The order

place : (home : ℕ) (S : List Fact) (errand : Purpose) (y : Duty) → IsOn home S errand y → stage y.kind y.act ≡ turn errand
place home S errand y on = stage_is y.kind y.act ∙ ap turn on.on

later_turn : (home : ℕ) (S : List Fact) (first second : Purpose) (x y : Duty) → nat_lt (turn first) (turn second) ≡ true → IsOn home S first x → IsOn home S second y → comes_first S x y ≡ true
later_turn home S first second x y less a b = let p = place home S first x a in let q = place home S second y b in rw (p, q, less) refl

same_turn : (home : ℕ) (S : List Fact) (errand : Purpose) (x y : Due) → IsDueAt home S (due_by errand) x → IsDueAt home S (due_by errand) y → before_by errand S x y ≡ true → comes_first S (duty_from S errand x) (duty_from S errand y) ≡ true
same_turn home S errand x y a b before =
    by errand (place home S errand (duty_from S errand x) (there home S errand x a)) (place home S errand (duty_from S errand y) (there home S errand y b)) before
  where
    by : (e : Purpose) → stage (duty_from S errand x).kind (duty_from S errand x).act ≡ turn e → stage (duty_from S errand y).kind (duty_from S errand y).act ≡ turn e → before_by e S x y ≡ true → comes_first S (duty_from S errand x) (duty_from S errand y) ≡ true
    by (Call CompleteAct) p q f = rw (p, q, f) refl
    by (Call CompensateAct) p q f = rw (p, q, f) refl
    by Release p q f = rw (p, q, f) refl
    by Tell p q f = rw (p, q, f) refl

-- the duties of one errand, and of all errands
on_errand : (home : ℕ) (S : List Fact) (errand : Purpose) (dues : List Due) → AreAll (IsDueAt home S (due_by errand)) (before_by errand S) dues → AreAll (IsOn home S errand) (comes_first S) (map (duty_from S errand) dues)
on_errand home S errand dues h =
    all_map (duty_from S errand) (IsDueAt home S (due_by errand)) (IsOn home S errand) (before_by errand S) (comes_first S) dues
    (there home S errand) (back home S errand) (same_turn home S errand) h

all_same : {X : Type 0} (P Q : X → Type 0) (before : X → X → Bool) (xs : List X) → ((x : X) → P x → Q x) → ((x : X) → Q x → P x) → AreAll P before xs → AreAll Q before xs
all_same P Q before xs to fro h = record { all = λ x q. h.all x (fro x q); only = λ x i. to x (h.only x i); order = h.order }

pub all_picked : (home : ℕ) (S : List Fact) (first second third fourth : List Due) → AreAll (IsDueAt home S is_complete_duty) is_before first → AreAll (IsDueAt home S is_compensation_due) (is_topmost_before S) second → AreAll (IsDueAt home S is_forget_duty) is_before third → AreAll (IsDueAt home S is_after_duty) is_before fourth
    → AreAll (IsDuty home S) (comes_first S) (map (duty_from S (Call CompleteAct)) first ++ (map (duty_from S (Call CompensateAct)) second ++ (map (duty_from S Release) third ++ map (duty_from S Tell) fourth)))
all_picked home S first second third fourth a b c e =
    all_same (λ x. On (Call CompleteAct) x ⊎ (On (Call CompensateAct) x ⊎ (On Release x ⊎ On Tell x))) (IsDuty home S) (comes_first S) _ to fro
    (all_append (On (Call CompleteAct)) (λ x. On (Call CompensateAct) x ⊎ (On Release x ⊎ On Tell x)) (comes_first S) _ _ across (on_errand home S (Call CompleteAct) first a)
    (all_append (On (Call CompensateAct)) (λ x. On Release x ⊎ On Tell x) (comes_first S) _ _ beyond (on_errand home S (Call CompensateAct) second b)
    (all_append (On Release) (On Tell) (comes_first S) _ _ (λ x y. later_turn home S Release Tell x y refl) (on_errand home S Release third c) (on_errand home S Tell fourth e))))
  where
    On : Purpose → Duty → Type 0
    On = IsOn home S

    across : (x y : Duty) → On (Call CompleteAct) x → On (Call CompensateAct) y ⊎ (On Release y ⊎ On Tell y) → comes_first S x y ≡ true
    across x y p (inl q) = later_turn home S (Call CompleteAct) (Call CompensateAct) x y refl p q
    across x y p (inr (inl q)) = later_turn home S (Call CompleteAct) Release x y refl p q
    across x y p (inr (inr q)) = later_turn home S (Call CompleteAct) Tell x y refl p q

    beyond : (x y : Duty) → On (Call CompensateAct) x → On Release y ⊎ On Tell y → comes_first S x y ≡ true
    beyond x y p (inl q) = later_turn home S (Call CompensateAct) Release x y refl p q
    beyond x y p (inr q) = later_turn home S (Call CompensateAct) Tell x y refl p q

    to : (x : Duty) → On (Call CompleteAct) x ⊎ (On (Call CompensateAct) x ⊎ (On Release x ⊎ On Tell x)) → IsDuty home S x
    to x (inl p) = p.duty
    to x (inr (inl p)) = p.duty
    to x (inr (inr (inl p))) = p.duty
    to x (inr (inr (inr p))) = p.duty

    fro : (x : Duty) → IsDuty home S x → On (Call CompleteAct) x ⊎ (On (Call CompensateAct) x ⊎ (On Release x ⊎ On Tell x))
    fro x d = by (errand_of x.kind x.act) refl
      where
        by : (e : Purpose) → errand_of x.kind x.act ≡ e → On (Call CompleteAct) x ⊎ (On (Call CompensateAct) x ⊎ (On Release x ⊎ On Tell x))
        by (Call CompleteAct) e = inl (record { duty = d; on = e })
        by (Call CompensateAct) e = inr (inl (record { duty = d; on = e }))
        by Release e = inr (inr (inl (record { duty = d; on = e })))
        by Tell e = inr (inr (inr (record { duty = d; on = e })))

-- four lists that are added one after another
pub four_added : {X : Type 0} (none one two three four first second third fourth : List X) → none ≡ [] → one ≡ none ++ first → two ≡ one ++ second → three ≡ two ++ third → four ≡ three ++ fourth → four ≡ first ++ (second ++ (third ++ fourth))
four_added none one two three four first second third fourth empty by_one by_two by_three by_four =
    by_four ∙ ap (λ xs. xs ++ fourth) (by_three ∙ ap (λ xs. xs ++ third) (by_two ∙ ap (λ xs. xs ++ second) (by_one ∙ ap (λ xs. xs ++ first) empty)))
    ∙ append_assoc (first ++ second) third fourth ∙ append_assoc first second (third ++ fourth)
