-- What was due of a participant is still due, unless something was entered that takes its place.
use Rattle.std.proofs.Common.{◌≡◌, ◌⊎◌, inl, inr, ◌≤◌, ◌&&◌, ℕ, suc, List, refl, sym, ap, subst, ◌∙◌, Bool, true, false, cond, arith, Option, Some, None, is_some}
use mathlib.Core.Bool.{not}
use Rattle.std.specs.List.{list_any}
use Rattle.std.specs.Option.{option_map_or}
use Rattle.state_ids.specs.Ids.{Id, same_id}
use Rattle.state_ids.specs.States.{compensating, completing, level}
use Rattle.state_ids.specs.declared.status.MemberStatus.TheVariants.{Compensated, Compensating, Completed, Completing}
use Rattle.state_ids.specs.declared.outcome.Act.{Act}
use Rattle.state_ids.specs.declared.outcome.Act.TheVariants.{Complete as CompleteAct, Compensate as CompensateAct}
use Rattle.state_ids.specs.declared.outcome.Outcome.{Outcome}
use Rattle.state_ids.specs.declared.outcome.Outcome.TheVariants.{Busy, Done, Failed}
use Rattle.state_ids.specs.declared.outcome.Verdict.{Verdict}
use Rattle.state_ids.specs.declared.outcome.Verdict.TheVariants.{Close, Cancel}
use Rattle.state_facts.specs.declared.fact.Body.{Body}
use Rattle.state_facts.specs.declared.fact.Body.TheVariants.{Begin, Decide, Forgot, Join, Leave, Purge, Report, Told}
use Rattle.state_facts.specs.declared.fact.Fact.{Fact}
use Rattle.state_facts.specs.Duties.{has_to_compensate, has_to_forget, holds_back, is_compensation_due, is_later, is_pending, is_uncompensated, saga_path, topmost_cancelled}
use Rattle.state_facts.specs.Links.{Links}
use Rattle.state_facts.specs.Lists.{In}
use Rattle.state_facts.specs.Sets.{chain, demands, has_left, heard, is_begun, is_decided, is_demanded, is_held, is_participant, is_under, links_of, parent_of, status_by, want}
use Rattle.state_facts.proofs.Heard.{heard_inside}
use Rattle.state_facts.proofs.Membership.{any_from, any_gives}
use Rattle.state_forest.specs.Dues.{is_complete_duty}
use Rattle.state_forest.proofs.Bools.{and_left, and_right, not_false}
use Rattle.state_forest.proofs.NumberedMembers.{same_is, same_self}
use Rattle.state_forest.proofs.SagaOrder.{last_none, last_some, top_is, topmost_below}
use Rattle.theory_history.specs.Histories.{History, facts}
use Rattle.theory_history.proofs.Basics.{both_true, false_from}
use Rattle.theory_history.proofs.Decisions.{active_begun, asks_active, entered_before, wanted_begun}
use Rattle.theory_history.proofs.Ranks.{force}
use Rattle.theory_history.proofs.RanksRise.{IsGrown, kept_chain, wants_more}
use Rattle.wire_callbacks.specs.declared.answer.Kind.{Kind}
use Rattle.wire_callbacks.specs.declared.answer.Kind.TheVariants.{Complete, Compensate, Status, Forget, After}
use Rattle.wire_callbacks.specs.declared.duty.Duty.{Duty}
use Rattle.wire_callbacks.specs.CallDuties.{asks_status, is_busy, is_owed, link_for, link_given, shown_for}
use Rattle.theory_progress.specs.Calls.{asks_to_act, is_answered}
use Rattle.theory_trail.specs.LastingCalls.{Answered, IsKept, Overtaken, StillDue}
use Rattle.theory_progress.proofs.LaterSets.{IsMember, clash, in_under, inside, links_joined, links_kept, member_kept, path_same, pending_earlier, settled, settled_later, stayed_before, under_in}

pub some_of : {X : Type 0} (o : Option X) → is_some o ≡ true → (x : X) × (o ≡ Some x)
some_of None e = absurd cc
some_of (Some x) e = (x, refl)

-- Wants

-- an LRA that has a topmost cancelled LRA wants Cancel
pub cancels : (S : List Fact) (l a : Id) → topmost_cancelled S l ≡ Some a → want S l ≡ Some Cancel
cancels S l a top = let some : list_any (is_decided S Cancel) (chain S l) ≡ true = last_some (is_decided S Cancel) (chain S l) a top in rw some refl

-- and an LRA that wants Cancel has one
pub top_of : (S : List Fact) (l : Id) → want S l ≡ Some Cancel → (a : Id) × (topmost_cancelled S l ≡ Some a)
top_of S l wanted = by (topmost_cancelled S l) refl
  where
    never : (c k : Bool) → c ≡ false → cond c (Some Cancel) (cond k (Some Close) None) ≡ Some Cancel → ⊥
    never true k e f = absurd cc
    never false true e f = absurd cc
    never false false e f = absurd cc

    by : (o : Option Id) → topmost_cancelled S l ≡ o → (a : Id) × (topmost_cancelled S l ≡ Some a)
    by None at = absurd (never (list_any (is_decided S Cancel) (chain S l)) _ (last_none (is_decided S Cancel) (chain S l) at) wanted)
    by (Some a) at = (a, at)

-- a participant that is asked to complete is of an LRA that closes
closes : (x : Option Verdict) (o : Option Links) → option_map_or (λ links. demands x links CompleteAct) o false ≡ true → x ≡ Some Close
closes x None e = absurd cc
closes None (Some links) e = absurd cc
closes (Some Close) (Some links) e = refl
closes (Some Cancel) (Some links) e = absurd cc

-- Busy

busy_still : (a b : Option Outcome) → level a ≤ level b → is_pending b ≡ true → is_busy a ≡ true → is_busy b ≡ true
busy_still None b le p e = absurd cc
busy_still (Some Done) b le p e = absurd cc
busy_still (Some Failed) b le p e = absurd cc
busy_still (Some Busy) None le p e = absurd (omega (arith, le))
busy_still (Some Busy) (Some Busy) le p e = refl
busy_still (Some Busy) (Some Done) le p e = absurd cc
busy_still (Some Busy) (Some Failed) le p e = absurd cc

-- Owing

-- the act is due of a participant
abbrev pub is_act_due : Act → List Fact → Id → ℕ → Bool
is_act_due CompleteAct = is_complete_duty
is_act_due CompensateAct = is_compensation_due

abbrev pub kind_of_act : Act → Kind
kind_of_act CompleteAct = Complete
kind_of_act CompensateAct = Compensate

owed_act : (T : List Fact) (act : Act) (l : Id) (m : ℕ) → is_act_due act T l m ≡ true → asks_status T l m act ≡ false → is_owed T (kind_of_act act) act l m ≡ true
owed_act T CompleteAct l m due asks = both_true (is_complete_duty T l m) _ due (ap not asks)
owed_act T CompensateAct l m due asks = both_true (is_compensation_due T l m) _ due (ap not asks)

owed_status : (T : List Fact) (act : Act) (l : Id) (m : ℕ) → is_act_due act T l m ≡ true → asks_status T l m act ≡ true → is_owed T Status act l m ≡ true
owed_status T CompleteAct l m due asks = both_true (is_complete_duty T l m) _ due asks
owed_status T CompensateAct l m due asks = both_true (is_compensation_due T l m) _ due asks

-- how a participant that is to act is called: for the act, or for its status if it is busy
abbrev IsCalledFor : List Fact → Act → Duty → Type 0
IsCalledFor S act call = (call.kind ≡ kind_of_act act) ⊎ ((call.kind ≡ Status) × (asks_status S call.id call.member act ≡ true))

asks_for : (S : List Fact) (act : Act) (call : Duty) → IsCalledFor S act call → asks_to_act call.kind ≡ true
asks_for S CompleteAct call (inl k) = ap asks_to_act k
asks_for S CompensateAct call (inl k) = ap asks_to_act k
asks_for S act call (inr (k, asks)) = ap asks_to_act k

-- such a call is answered by the end of its act
act_answered : (S T : List Fact) (act : Act) (call : Duty) → IsCalledFor S act call → call.act ≡ act → is_pending (heard T call.id call.member act) ≡ false → is_answered call.kind T call.id call.member call.act ≡ true
act_answered S T act call so is ends = by call.kind (asks_for S act call so)
  where
    ended : not (is_pending (heard T call.id call.member call.act)) ≡ true
    ended = ap (λ (a : Act). not (is_pending (heard T call.id call.member a))) is ∙ ap not ends

    by : (kind : Kind) → asks_to_act kind ≡ true → is_answered kind T call.id call.member call.act ≡ true
    by Complete asks = ended
    by Compensate asks = ended
    by Status asks = ended
    by Forget asks = absurd cc
    by After asks = absurd cc

-- a call of this kind is due
pub still : (home : ℕ) (S T : List Fact) (call : Duty) (kind : Kind) (link : List ℕ) → call.id.home ≡ home → is_held T call.id ≡ true → is_owed T kind call.act call.id call.member ≡ true
    → link_given T kind call.id call.member ≡ Some link → (kind ≡ call.kind) ⊎ ((asks_to_act call.kind ≡ true) × (kind ≡ Status)) → IsKept home S T call
still home S T call kind link own held owed given so =
    StillDue (record {
      later = record { kind = kind; act = call.act; id = call.id; member = call.member; link = link; parent = parent_of T call.id; shows = shown_for T kind call.id };
      due = record { own = own; held = held; owed = owed; called = given; nested = refl; shown = refl };
      id = refl;
      member = refl;
      act = refl;
      kind = so;
    })

-- Forgetting

never : (nested : Bool) → has_to_forget nested Completing ≡ true → ⊥
never true e = absurd cc
never false e = absurd cc

none : (nested : Bool) → has_to_forget nested Compensating ≡ true → ⊥
none true e = absurd cc
none false e = absurd cc

made : (nested : Bool) → has_to_forget nested Compensated ≡ true → ⊥
made true e = absurd cc
made false e = absurd cc

-- a participant that has something to forget still has it after greater outcomes
pub forgets_still : (nested : Bool) (x : Option Verdict) (links : Links) (a b c d : Option Outcome) → level a ≤ level c → level b ≤ level d → has_to_forget nested (status_by x links a b) ≡ true → has_to_forget nested (status_by x links c d) ≡ true
forgets_still nested None links a b c d p q e = e
forgets_still nested (Some Close) links a b c d p q e = by (is_some links.complete) a c p e
  where
    by : (given : Bool) (a c : Option Outcome) → level a ≤ level c → has_to_forget nested (cond given (completing a) Completed) ≡ true → has_to_forget nested (cond given (completing c) Completed) ≡ true
    by false a c p e = e
    by true None c p e = absurd (never nested e)
    by true (Some Busy) c p e = absurd (never nested e)
    by true (Some Done) None p e = absurd (omega (arith, p))
    by true (Some Done) (Some Busy) p e = absurd (omega (arith, p))
    by true (Some Done) (Some Done) p e = e
    by true (Some Done) (Some Failed) p e = refl
    by true (Some Failed) None p e = absurd (omega (arith, p))
    by true (Some Failed) (Some Busy) p e = absurd (omega (arith, p))
    by true (Some Failed) (Some Done) p e = absurd (omega (arith, p))
    by true (Some Failed) (Some Failed) p e = e
forgets_still nested (Some Cancel) links a b c d p q e = by (is_some links.compensate) b d q e
  where
    by : (given : Bool) (b d : Option Outcome) → level b ≤ level d → has_to_forget nested (cond given (compensating b) Compensated) ≡ true → has_to_forget nested (cond given (compensating d) Compensated) ≡ true
    by false b d p e = e
    by true None d p e = absurd (none nested e)
    by true (Some Busy) d p e = absurd (none nested e)
    by true (Some Done) d p e = absurd (made nested e)
    by true (Some Failed) None p e = absurd (omega (arith, p))
    by true (Some Failed) (Some Busy) p e = absurd (omega (arith, p))
    by true (Some Failed) (Some Done) p e = absurd (omega (arith, p))
    by true (Some Failed) (Some Failed) p e = e

-- What holds in two sets

module _ (h : History) (v w : List ℕ) (g : IsGrown h v w) (home : ℕ) (call : Duty) (own : call.id.home ≡ home) (held : is_held (facts h w) call.id ≡ true) where
  -- Calls to act

  asks_still : (act : Act) → IsMember h v w g call.id call.member → is_pending (heard (facts h w) call.id call.member act) ≡ true → asks_status (facts h v) call.id call.member act ≡ true → asks_status (facts h w) call.id call.member act ≡ true
  asks_still act of pending asks =
      both_true (is_busy (heard (facts h w) call.id call.member act)) _
      (busy_still (heard (facts h v) call.id call.member act) (heard (facts h w) call.id call.member act) (heard_inside (facts h v) (facts h w) (inside h v w g) call.id call.member act) pending
      (and_left (is_busy (heard (facts h v) call.id call.member act)) _ asks))
      (ap (λ (o : Option Links). option_map_or (λ (x : Links). is_some x.status) o false) (of.after ∙ sym of.before) ∙ and_right (is_busy (heard (facts h v) call.id call.member act)) _ asks)

  -- a participant that is still to act is called for the act, or asked for its status
  act_still : (act : Act) → call.act ≡ act → IsCalledFor (facts h v) act call → (of : IsMember h v w g call.id call.member) → is_pending (heard (facts h w) call.id call.member act) ≡ true
      → is_some (link_for (kind_of_act act) of.links) ≡ true → is_act_due act (facts h w) call.id call.member ≡ true → IsKept home (facts h v) (facts h w) call
  act_still act is so of pending given due = by (asks_status (facts h w) call.id call.member act) refl
    where
      linked : (kind : Kind) → is_some (link_for kind of.links) ≡ true → (link : List ℕ) × (link_given (facts h w) kind call.id call.member ≡ Some link)
      linked kind some = let link = some_of (link_for kind of.links) some in (link.0, ap (λ (o : Option Links). option_map_or (link_for kind) o None) of.after ∙ link.1)

      owed : (kind : Kind) → is_owed (facts h w) kind act call.id call.member ≡ true → is_owed (facts h w) kind call.act call.id call.member ≡ true
      owed kind e = ap (λ (a : Act). is_owed (facts h w) kind a call.id call.member) is ∙ e

      by : (b : Bool) → asks_status (facts h w) call.id call.member act ≡ b → IsKept home (facts h v) (facts h w) call
      by true asks =
          let status : is_some (link_for Status of.links) ≡ true =
          sym (ap (λ (o : Option Links). option_map_or (λ (x : Links). is_some x.status) o false) of.after) ∙ and_right (is_busy (heard (facts h w) call.id call.member act)) _ asks in
          let link = linked Status status in
          still home (facts h v) (facts h w) call Status link.0 own held (owed Status (owed_status (facts h w) act call.id call.member due asks)) link.1 (inr (asks_for (facts h v) act call so, refl))
      by false asks =
          let link = linked (kind_of_act act) given in
          still home (facts h v) (facts h w) call (kind_of_act act) link.0 own held (owed (kind_of_act act) (owed_act (facts h w) act call.id call.member due asks)) link.1
          (elim so [ inl k ↦ inl (sym k) | inr was ↦ clash (asks_status (facts h w) call.id call.member act) (asks_still act of pending was.1) asks ])

  -- To complete

  pub complete_kept : call.act ≡ CompleteAct → IsCalledFor (facts h v) CompleteAct call → is_complete_duty (facts h v) call.id call.member ≡ true → IsKept home (facts h v) (facts h w) call
  complete_kept is so due = by (is_pending (heard (facts h w) call.id call.member CompleteAct)) refl
    where
      demanded : is_demanded (facts h v) call.id call.member CompleteAct ≡ true
      demanded = and_left (is_demanded (facts h v) call.id call.member CompleteAct) _ (and_right (is_participant (facts h v) call.id call.member) _ due)

      wanted : want (facts h v) call.id ≡ Some Close
      wanted = closes (want (facts h v) call.id) (links_of (facts h v) call.id call.member) demanded

      of : IsMember h v w g call.id call.member
      of = member_kept h v w g call.id call.member Close wanted (and_left (is_participant (facts h v) call.id call.member) _ due)

      given : is_some of.links.complete ≡ true
      given =
          sym (ap (λ (x : Option Verdict). demands x of.links CompleteAct) wanted)
          ∙ sym (ap (λ (o : Option Links). option_map_or (λ (y : Links). demands (want (facts h v) call.id) y CompleteAct) o false) of.before)
          ∙ demanded

      begun : is_begun (facts h v) call.id ≡ true
      begun = wanted_begun h g.lawful v g.before call.id Close wanted

      more : force (Some Close) ≤ force (want (facts h w) call.id)
      more = subst (λ (o : Option Verdict). force o ≤ force (want (facts h w) call.id)) wanted (wants_more h v w g call.id begun)

      wants : is_pending (heard (facts h w) call.id call.member CompleteAct) ≡ true → (o : Option Verdict) → want (facts h w) call.id ≡ o → force (Some Close) ≤ force o → IsKept home (facts h v) (facts h w) call
      wants pending None later le = absurd (omega (arith, le))
      wants pending (Some Close) later le =
          let asked : is_demanded (facts h w) call.id call.member CompleteAct ≡ true =
          ap (λ (o : Option Links). option_map_or (λ (y : Links). demands (want (facts h w) call.id) y CompleteAct) o false) of.after ∙ ap (λ (x : Option Verdict). demands x of.links CompleteAct) later ∙ given in
          act_still CompleteAct is so of pending given (both_true (is_participant (facts h w) call.id call.member) _ of.known (both_true (is_demanded (facts h w) call.id call.member CompleteAct) _ asked pending))
      wants pending (Some Cancel) later le =
          let top = top_of (facts h w) call.id later in
          Overtaken (record {
            asks = asks_for (facts h v) CompleteAct call so;
            held = held;
            top = top.0;
            cancelled = top.1;
            other = λ same. let wrong : Some Cancel ≡ Some Close = sym (cancels (facts h v) call.id top.0 same) ∙ wanted in cc;
            known = of.known;
            pending = λ act. absurd (let wrong : CompleteAct ≡ CompensateAct = sym is ∙ act in cc);
          })

      by : (b : Bool) → is_pending (heard (facts h w) call.id call.member CompleteAct) ≡ b → IsKept home (facts h v) (facts h w) call
      by true pending = wants pending (want (facts h w) call.id) refl more
      by false ends = Answered (act_answered (facts h v) (facts h w) CompleteAct call so is ends)

  -- To compensate

  -- what holds the compensation back in the later set held it back before
  back_before : (a : Id) → topmost_cancelled (facts h v) call.id ≡ Some a → topmost_cancelled (facts h w) call.id ≡ Some a → (f : Fact) → In f (facts h w) → (body : Body) → f.body ≡ body
      → holds_back (facts h w) a (saga_path (facts h w) call.id call.member) body ≡ true → In f (facts h v) × (holds_back (facts h v) a (saga_path (facts h v) call.id call.member) body ≡ true)
  back_before a top later f i (Join d m links) body e =
      let S = facts h v in
      let T = facts h w in
      let nested = (settled h v w g).whole.nested in
      let nested_later = (settled_later h v w g).whole.nested in
      let own_top = (top_is S nested (suc call.id.num) call.id a (omega arith) top).own in
      let own_later = (top_is T nested_later (suc call.id.num) call.id a (omega arith) later).own in
      let under : is_under T a d ≡ true = and_left (is_under T a d) _ e in
      let stay = and_right (is_under T a d) _ e in
      let rest = and_right (not (has_left T d m)) _ stay in
      let asks : asks_active d f.body ≡ true = ap (asks_active d) body ∙ same_self d in
      let had = entered_before h g.lawful v w g.before g.after a Cancel (cancels S a a own_top) f i d asks (under_in T a d under) in
      let begun = active_begun h g.lawful v g.before f d had asks in
      let beneath : is_under S a d ≡ true = in_under S a d (subst (λ (c : List Id). In a c) (sym (kept_chain h v w g d begun)) (under_in T a d under)) in
      let top_here = topmost_below S nested a own_top (suc d.num) d (omega arith) beneath in
      let top_there = topmost_below T nested_later a own_later (suc d.num) d (omega arith) under in
      let way = path_same h v w g d m begun (top_here ∙ sym top_there) in
      let own_begun = wanted_begun h g.lawful v g.before call.id Cancel (cancels S call.id a top) in
      let own_way = path_same h v w g call.id call.member own_begun (top ∙ sym later) in
      let after : is_later (saga_path S d m) (saga_path S call.id call.member) ≡ true =
      ap (λ (p : List ℕ). is_later p (saga_path S call.id call.member)) way ∙ ap (is_later (saga_path T d m)) own_way ∙ and_left (is_later (saga_path T d m) (saga_path T call.id call.member)) _ rest in
      let at = links_joined S f d m links (settled h v w g).seated had body in
      let has : has_to_compensate links (heard T d m CompensateAct) ≡ true =
      sym (ap (λ (o : Option Links). option_map_or (λ (x : Links). has_to_compensate x (heard T d m CompensateAct)) o false) (links_kept h v w g d m links at)) ∙ and_right (is_later (saga_path T d m) (saga_path T call.id call.member)) _ rest in
      let had_to : has_to_compensate links (heard S d m CompensateAct) ≡ true =
      both_true (is_some links.compensate) _ (and_left (is_some links.compensate) _ has) (pending_earlier h v w g d m CompensateAct (and_right (is_some links.compensate) _ has)) in
      let pending : is_uncompensated S d m ≡ true = ap (λ (o : Option Links). option_map_or (λ (x : Links). has_to_compensate x (heard S d m CompensateAct)) o false) at ∙ had_to in
      let stayed : has_left S d m ≡ false = stayed_before h v w g d m (not_false (has_left T d m) (and_left (not (has_left T d m)) _ stay)) in (
        had,
        both_true (is_under S a d) _ beneath (both_true (not (has_left S d m)) _ (ap not stayed) (both_true (is_later (saga_path S d m) (saga_path S call.id call.member)) _ after pending)),
      )
  back_before a top later f i (Begin parent deadline) body e = absurd cc
  back_before a top later f i (Leave l m) body e = absurd cc
  back_before a top later f i (Decide l verdict) body e = absurd cc
  back_before a top later f i (Report l m act outcome) body e = absurd cc
  back_before a top later f i (Forgot l m) body e = absurd cc
  back_before a top later f i (Told l m) body e = absurd cc
  back_before a top later f i (Purge root) body e = absurd cc

  free_still : (a : Id) → topmost_cancelled (facts h v) call.id ≡ Some a → topmost_cancelled (facts h w) call.id ≡ Some a
      → list_any (λ f. holds_back (facts h v) a (saga_path (facts h v) call.id call.member) f.body) (facts h v) ≡ false
      → list_any (λ f. holds_back (facts h w) a (saga_path (facts h w) call.id call.member) f.body) (facts h w) ≡ false
  free_still a top later free = false_from _ (λ back.
      let found = any_gives (λ (f : Fact). holds_back (facts h w) a (saga_path (facts h w) call.id call.member) f.body) (facts h w) back in
      let was = back_before a top later found.0 found.1 found.0.body refl found.2 in
      clash (list_any (λ (f : Fact). holds_back (facts h v) a (saga_path (facts h v) call.id call.member) f.body) (facts h v))
      (any_from (λ (f : Fact). holds_back (facts h v) a (saga_path (facts h v) call.id call.member) f.body) (facts h v) found.0 was.0 was.1) free)

  -- what is due of a participant under its topmost cancelled LRA
  record IsOwed (S : List Fact) (a : Id) : Type 0 where
    known : is_participant S call.id call.member ≡ true
    pending : is_uncompensated S call.id call.member ≡ true
    free : list_any (λ f. holds_back S a (saga_path S call.id call.member) f.body) S ≡ false

  due_owed : (S : List Fact) → is_compensation_due S call.id call.member ≡ true → (a : Id) × (topmost_cancelled S call.id ≡ Some a) × IsOwed S a
  due_owed S due = by (topmost_cancelled S call.id) refl due
    where
      by : (o : Option Id) → topmost_cancelled S call.id ≡ o
          → option_map_or (λ a. is_participant S call.id call.member && (is_uncompensated S call.id call.member && not (list_any (λ f. holds_back S a (saga_path S call.id call.member) f.body) S))) o false ≡ true
          → (a : Id) × (topmost_cancelled S call.id ≡ Some a) × IsOwed S a
      by None at e = absurd cc
      by (Some a) at e =
          let rest = and_right (is_participant S call.id call.member) _ e in (
            a,
            at,
            record {
              known = and_left (is_participant S call.id call.member) _ e;
              pending = and_left (is_uncompensated S call.id call.member) _ rest;
              free = not_false _ (and_right (is_uncompensated S call.id call.member) _ rest);
            },
          )

  owed_due : (S : List Fact) (a : Id) → topmost_cancelled S call.id ≡ Some a → IsOwed S a → is_compensation_due S call.id call.member ≡ true
  owed_due S a top owed =
      ap (λ (o : Option Id). option_map_or (λ x. is_participant S call.id call.member && (is_uncompensated S call.id call.member && not (list_any (λ f. holds_back S x (saga_path S call.id call.member) f.body) S))) o false) top
      ∙ both_true (is_participant S call.id call.member) _ owed.known (both_true (is_uncompensated S call.id call.member) _ owed.pending (ap not owed.free))

  under_kept : (a : Id) → topmost_cancelled (facts h v) call.id ≡ Some a → IsOwed (facts h v) a → call.act ≡ CompensateAct → IsCalledFor (facts h v) CompensateAct call → IsKept home (facts h v) (facts h w) call
  under_kept a top owed is so = by (is_pending (heard (facts h w) call.id call.member CompensateAct)) refl
    where
      wanted : want (facts h v) call.id ≡ Some Cancel
      wanted = cancels (facts h v) call.id a top

      of : IsMember h v w g call.id call.member
      of = member_kept h v w g call.id call.member Cancel wanted owed.known

      given : is_some of.links.compensate ≡ true
      given =
          and_left (is_some of.links.compensate) _
          (sym (ap (λ (o : Option Links). option_map_or (λ (x : Links). has_to_compensate x (heard (facts h v) call.id call.member CompensateAct)) o false) of.before) ∙ owed.pending)

      more : force (Some Cancel) ≤ force (want (facts h w) call.id)
      more = subst (λ (o : Option Verdict). force o ≤ force (want (facts h w) call.id)) wanted (wants_more h v w g call.id (wanted_begun h g.lawful v g.before call.id Cancel wanted))

      no_more : (o : Option Verdict) → force (Some Cancel) ≤ force o → o ≡ Some Cancel
      no_more None le = absurd (omega (arith, le))
      no_more (Some Close) le = absurd (omega (arith, le))
      no_more (Some Cancel) le = refl

      tops : (b : Id) → topmost_cancelled (facts h w) call.id ≡ Some b → is_pending (heard (facts h w) call.id call.member CompensateAct) ≡ true → (same : Bool) → same_id b a ≡ same → IsKept home (facts h v) (facts h w) call
      tops b later pending true same =
          let now : topmost_cancelled (facts h w) call.id ≡ Some a = later ∙ ap (λ (x : Id). Some x) (same_is b a same) in
          let undone : is_uncompensated (facts h w) call.id call.member ≡ true =
          ap (λ (o : Option Links). option_map_or (λ (x : Links). has_to_compensate x (heard (facts h w) call.id call.member CompensateAct)) o false) of.after ∙ both_true (is_some of.links.compensate) _ given pending in
          act_still CompensateAct is so of pending given (owed_due (facts h w) a now (record { known = of.known; pending = undone; free = free_still a top now owed.free }))
      tops b later pending false other =
          Overtaken (record {
            asks = asks_for (facts h v) CompensateAct call so;
            held = held;
            top = b;
            cancelled = later;
            other = λ same. let one : a ≡ b = (let both : Some a ≡ Some b = sym top ∙ same in cc) in clash (same_id b a) (ap (same_id b) one ∙ same_self b) other;
            known = of.known;
            pending = λ act. ap (λ (o : Option Links). option_map_or (λ (x : Links). has_to_compensate x (heard (facts h w) call.id call.member CompensateAct)) o false) of.after ∙ both_true (is_some of.links.compensate) _ given pending;
          })

      by : (b : Bool) → is_pending (heard (facts h w) call.id call.member CompensateAct) ≡ b → IsKept home (facts h v) (facts h w) call
      by true pending =
          let later = top_of (facts h w) call.id (no_more (want (facts h w) call.id) more) in
          tops later.0 later.1 pending (same_id later.0 a) refl
      by false ends = Answered (act_answered (facts h v) (facts h w) CompensateAct call so is ends)

  pub compensate_kept : call.act ≡ CompensateAct → IsCalledFor (facts h v) CompensateAct call → is_compensation_due (facts h v) call.id call.member ≡ true → IsKept home (facts h v) (facts h w) call
  compensate_kept is so due = let owed = due_owed (facts h v) due in under_kept owed.0 owed.1 owed.2 is so
