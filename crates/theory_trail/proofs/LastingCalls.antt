-- No call that was due is lost.
use Rattle.std.proofs.Common.{◌≡◌, inl, inr, ◌≤◌, ◌&&◌, ◌||◌, ℕ, List, refl, sym, ap, subst, ◌∙◌, Bool, true, false, Option, Some, None, is_none, is_some}
use mathlib.Core.Bool.{not}
use Rattle.std.specs.Option.{option_map_or}
use Rattle.state_ids.specs.Fronts.{IsBelow}
use Rattle.state_ids.specs.Ids.{Id}
use Rattle.state_ids.specs.States.{level}
use Rattle.state_ids.specs.declared.outcome.Act.{Act}
use Rattle.state_ids.specs.declared.outcome.Act.TheVariants.{Complete as CompleteAct, Compensate as CompensateAct}
use Rattle.state_ids.specs.declared.outcome.Verdict.{Verdict}
use Rattle.state_facts.specs.declared.fact.Fact.{Fact}
use Rattle.state_facts.specs.Duties.{has_forgot, has_to_forget, has_told, is_after_duty, is_at_end, is_compensation_due, is_forget_duty, is_over, owes_after, owes_forget, wants_cancel}
use Rattle.state_facts.specs.Links.{Links}
use Rattle.state_facts.specs.Lists.{In}
use Rattle.state_facts.specs.Sets.{chain, heard, is_begun, is_ended, is_held, is_participant, is_root, joined_status, status_by, want}
use Rattle.state_facts.proofs.Heard.{heard_inside}
use Rattle.state_facts.proofs.Membership.{any_from, any_gives}
use Rattle.state_forest.specs.Dues.{is_complete_duty}
use Rattle.state_forest.proofs.Bools.{and_left, and_right}
use Rattle.theory_history.specs.Histories.{History, IsClosed, IsLawful, facts}
use Rattle.theory_history.proofs.Basics.{both_true, own_in_chain}
use Rattle.theory_history.proofs.Decisions.{parent_both, wanted_begun}
use Rattle.theory_history.proofs.RanksRise.{IsGrown, begun_later, kept_chain, kept_want}
use Rattle.wire_callbacks.specs.declared.answer.Kind.{Kind}
use Rattle.wire_callbacks.specs.declared.answer.Kind.TheVariants.{Complete, Compensate, Status, Forget, After}
use Rattle.wire_callbacks.specs.declared.duty.Duty.{Duty}
use Rattle.wire_callbacks.specs.CallDuties.{IsDuty, is_act_wanted, is_owed, link_for, link_given}
use Rattle.theory_progress.specs.Calls.{is_answered}
use Rattle.theory_trail.specs.LastingCalls.{Answered, IsKept, Purged}
use Rattle.theory_progress.proofs.LaterSets.{IsMember, inside, member_kept}
use Rattle.theory_trail.proofs.StillDue.{compensate_kept, complete_kept, forgets_still, some_of, still}

some_wanted : (x : Option Verdict) (act : Act) → is_act_wanted x act ≡ true → (y : Verdict) × (x ≡ Some y)
some_wanted None act e = absurd cc
some_wanted (Some y) act e = (y, refl)

-- a call other than to act is answered if its participant was told
pub forget_answered : (T : List Fact) (call : Duty) → call.kind ≡ Forget → has_forgot T call.id call.member ≡ true → is_answered call.kind T call.id call.member call.act ≡ true
forget_answered T call is e = ap (λ (k : Kind). is_answered k T call.id call.member call.act) is ∙ e

pub after_answered : (T : List Fact) (call : Duty) → call.kind ≡ After → has_told T call.id call.member ≡ true → is_answered call.kind T call.id call.member call.act ≡ true
after_answered T call is e = ap (λ (k : Kind). is_answered k T call.id call.member call.act) is ∙ e

module _
    (ends_want : (h : History) (v w : List ℕ) (l : Id) → IsLawful h → IsClosed h v → IsClosed h w → IsBelow v w → is_at_end (facts h v) l ≡ true → want (facts h w) l ≡ want (facts h v) l)
    (ends_stay : (h : History) (v w : List ℕ) (l : Id) → IsLawful h → IsClosed h v → IsClosed h w → IsBelow v w → is_at_end (facts h v) l ≡ true → is_at_end (facts h w) l ≡ true)
    (h : History) (v w : List ℕ) (g : IsGrown h v w) (home : ℕ) (call : Duty) (own : call.id.home ≡ home) (held : is_held (facts h w) call.id ≡ true) where
  -- the same call is still due
  same_still : (kind : Kind) → call.kind ≡ kind → (of : IsMember h v w g call.id call.member) → is_owed (facts h w) kind call.act call.id call.member ≡ true
      → link_given (facts h v) call.kind call.id call.member ≡ Some call.link → IsKept home (facts h v) (facts h w) call
  same_still kind is of owed linked =
      still home (facts h v) (facts h w) call kind call.link own held owed
      (ap (λ (o : Option Links). option_map_or (link_for kind) o None) (of.after ∙ sym of.before) ∙ ap (λ (k : Kind). link_given (facts h v) k call.id call.member) (sym is) ∙ linked) (inl (sym is))

  -- To hear of the end

  after_kept : call.kind ≡ After → is_after_duty (facts h v) call.id call.member ≡ true → is_act_wanted (want (facts h v) call.id) call.act ≡ true
      → link_given (facts h v) call.kind call.id call.member ≡ Some call.link → IsKept home (facts h v) (facts h w) call
  after_kept is due acts linked = by (has_told (facts h w) call.id call.member) refl
    where
      wanted : (x : Verdict) × (want (facts h v) call.id ≡ Some x)
      wanted = some_wanted (want (facts h v) call.id) call.act acts

      of : IsMember h v w g call.id call.member
      of = member_kept h v w g call.id call.member wanted.0 wanted.1 (and_left (is_participant (facts h v) call.id call.member) _ due)

      owes : owes_after (facts h v) call.id call.member of.links ≡ true
      owes =
          sym (ap (λ (o : Option Links). option_map_or (owes_after (facts h v) call.id call.member) o false) of.before)
          ∙ and_right (is_participant (facts h v) call.id call.member) _ due

      ends : is_at_end (facts h v) call.id ≡ true
      ends = and_left (is_at_end (facts h v) call.id) _ owes

      given : is_some of.links.after ≡ true
      given = and_left (is_some of.links.after) _ (and_right (is_at_end (facts h v) call.id) _ owes)

      by : (b : Bool) → has_told (facts h w) call.id call.member ≡ b → IsKept home (facts h v) (facts h w) call
      by true told = Answered (after_answered (facts h w) call is told)
      by false untold =
          let later : owes_after (facts h w) call.id call.member of.links ≡ true =
          both_true (is_at_end (facts h w) call.id) _ (ends_stay h v w call.id g.lawful g.before g.after g.below ends) (both_true (is_some of.links.after) _ given (ap not untold)) in
          let still_due : is_after_duty (facts h w) call.id call.member ≡ true =
          both_true (is_participant (facts h w) call.id call.member) _ of.known (ap (λ (o : Option Links). option_map_or (owes_after (facts h w) call.id call.member) o false) of.after ∙ later) in
          let wants : is_act_wanted (want (facts h w) call.id) call.act ≡ true =
          ap (λ (o : Option Verdict). is_act_wanted o call.act) (ends_want h v w call.id g.lawful g.before g.after g.below ends) ∙ acts in
          same_still After is of (both_true (is_after_duty (facts h w) call.id call.member) _ still_due wants) linked

  -- To forget

  -- a root that has ended is at its end
  root_ends : (r : Id) → is_root (facts h v) r ≡ true → is_ended (facts h v) r ≡ true → is_at_end (facts h v) r ≡ true
  root_ends r root ended =
      both_true (is_ended (facts h v) r) _ ended
      (right (wants_cancel (want (facts h v) r)) _
      (any_from (λ (a : Id). is_root (facts h v) a && is_some (want (facts h v) a)) (chain (facts h v) r) r (own_in_chain (facts h v) r.num r)
      (both_true (is_root (facts h v) r) _ root (and_left (is_some (want (facts h v) r)) _ ended))))
    where
      right : (a b : Bool) → b ≡ true → (a || b) ≡ true
      right true b e = refl
      right false b e = e

  -- the root of l has ended, and so it has in the later set, in which l wants the same
  record IsOver (l : Id) : Type 0 where
    over : is_over (facts h w) l ≡ true
    wants : want (facts h v) l ≡ want (facts h w) l

  over_still : (l : Id) → is_begun (facts h v) l ≡ true → is_over (facts h v) l ≡ true → IsOver l
  over_still l begun over =
      let S = facts h v in
      let T = facts h w in
      let found = any_gives (λ (a : Id). is_root S a && is_ended S a) (chain S l) over in
      let r = found.0 in
      let root = and_left (is_root S r) _ found.2 in
      let ended = and_right (is_root S r) _ found.2 in
      let ends = root_ends r root ended in
      let wanted = some_of (want S r) (and_left (is_some (want S r)) _ ended) in
      let later = ends_want h v w r g.lawful g.before g.after g.below ends ∙ wanted.1 in
      let root_begun = wanted_begun h g.lawful v g.before r wanted.0 wanted.1 in
      let same = parent_both h g.lawful v w g.before g.after r root_begun (begun_later h v w g r root_begun) in
      let root_later : is_root T r ≡ true = ap is_none (sym same) ∙ root in
      let ended_later : is_ended T r ≡ true = and_left (is_ended T r) _ (ends_stay h v w r g.lawful g.before g.after g.below ends) in
      let chained : In r (chain T l) = subst (λ (c : List Id). In r c) (kept_chain h v w g l begun) found.1 in
      record {
        over = any_from (λ (a : Id). is_root T a && is_ended T a) (chain T l) r chained (both_true (is_root T r) _ root_later ended_later);
        wants = kept_want h v w g r wanted.0 wanted.1 later l begun chained;
      }

  forget_kept : call.kind ≡ Forget → is_forget_duty (facts h v) call.id call.member ≡ true → is_act_wanted (want (facts h v) call.id) call.act ≡ true
      → link_given (facts h v) call.kind call.id call.member ≡ Some call.link → IsKept home (facts h v) (facts h w) call
  forget_kept is due acts linked = by (has_forgot (facts h w) call.id call.member) refl
    where
      wanted : (x : Verdict) × (want (facts h v) call.id ≡ Some x)
      wanted = some_wanted (want (facts h v) call.id) call.act acts

      begun : is_begun (facts h v) call.id ≡ true
      begun = wanted_begun h g.lawful v g.before call.id wanted.0 wanted.1

      of : IsMember h v w g call.id call.member
      of = member_kept h v w g call.id call.member wanted.0 wanted.1 (and_left (is_participant (facts h v) call.id call.member) _ due)

      owes : owes_forget (facts h v) call.id call.member of.links ≡ true
      owes =
          sym (ap (λ (o : Option Links). option_map_or (owes_forget (facts h v) call.id call.member) o false) of.before)
          ∙ and_right (is_participant (facts h v) call.id call.member) _ due

      is_still : IsOver call.id
      is_still = over_still call.id begun (and_left (is_over (facts h v) call.id) _ owes)

      rest : (is_some of.links.forget && (not (has_forgot (facts h v) call.id call.member) && has_to_forget (not (is_root (facts h v) call.id)) (joined_status (facts h v) call.id call.member of.links))) ≡ true
      rest = and_right (is_over (facts h v) call.id) _ owes

      nested : is_root (facts h v) call.id ≡ is_root (facts h w) call.id
      nested = ap is_none (parent_both h g.lawful v w g.before g.after call.id begun (begun_later h v w g call.id begun))

      heard_more : (act : Act) → level (heard (facts h v) call.id call.member act) ≤ level (heard (facts h w) call.id call.member act)
      heard_more act = heard_inside (facts h v) (facts h w) (inside h v w g) call.id call.member act

      forgets : has_to_forget (not (is_root (facts h w) call.id)) (joined_status (facts h w) call.id call.member of.links) ≡ true
      forgets =
          ap (λ (b : Bool). has_to_forget (not b) (joined_status (facts h w) call.id call.member of.links)) (sym nested)
          ∙ ap (λ (x : Option Verdict). has_to_forget (not (is_root (facts h v) call.id)) (status_by x of.links (heard (facts h w) call.id call.member CompleteAct) (heard (facts h w) call.id call.member CompensateAct))) (sym is_still.wants)
          ∙ forgets_still (not (is_root (facts h v) call.id)) (want (facts h v) call.id) of.links
          (heard (facts h v) call.id call.member CompleteAct) (heard (facts h v) call.id call.member CompensateAct)
          (heard (facts h w) call.id call.member CompleteAct) (heard (facts h w) call.id call.member CompensateAct) (heard_more CompleteAct) (heard_more CompensateAct)
          (and_right (not (has_forgot (facts h v) call.id call.member)) _ (and_right (is_some of.links.forget) _ rest))

      by : (b : Bool) → has_forgot (facts h w) call.id call.member ≡ b → IsKept home (facts h v) (facts h w) call
      by true forgot = Answered (forget_answered (facts h w) call is forgot)
      by false untold =
          let later : owes_forget (facts h w) call.id call.member of.links ≡ true =
          both_true (is_over (facts h w) call.id) _ is_still.over
          (both_true (is_some of.links.forget) _ (and_left (is_some of.links.forget) _ rest) (both_true (not (has_forgot (facts h w) call.id call.member)) _ (ap not untold) forgets)) in
          let still_due : is_forget_duty (facts h w) call.id call.member ≡ true =
          both_true (is_participant (facts h w) call.id call.member) _ of.known (ap (λ (o : Option Links). option_map_or (owes_forget (facts h w) call.id call.member) o false) of.after ∙ later) in
          let wants : is_act_wanted (want (facts h w) call.id) call.act ≡ true = ap (λ (o : Option Verdict). is_act_wanted o call.act) (sym is_still.wants) ∙ acts in
          same_still Forget is of (both_true (is_forget_duty (facts h w) call.id call.member) _ still_due wants) linked

  -- Any call

  held_kept : IsDuty home (facts h v) call → IsKept home (facts h v) (facts h w) call
  held_kept due = by call.kind call.act refl refl due.owed
    where
      by : (kind : Kind) (act : Act) → call.kind ≡ kind → call.act ≡ act → is_owed (facts h v) kind act call.id call.member ≡ true → IsKept home (facts h v) (facts h w) call
      by Complete CompleteAct k a e = complete_kept h v w g home call own held a (inl k) (and_left (is_complete_duty (facts h v) call.id call.member) _ e)
      by Status CompleteAct k a e = complete_kept h v w g home call own held a (inr (k, and_right (is_complete_duty (facts h v) call.id call.member) _ e)) (and_left (is_complete_duty (facts h v) call.id call.member) _ e)
      by Compensate CompensateAct k a e = compensate_kept h v w g home call own held a (inl k) (and_left (is_compensation_due (facts h v) call.id call.member) _ e)
      by Status CompensateAct k a e = compensate_kept h v w g home call own held a (inr (k, and_right (is_compensation_due (facts h v) call.id call.member) _ e)) (and_left (is_compensation_due (facts h v) call.id call.member) _ e)
      by Complete CompensateAct k a e = absurd cc
      by Compensate CompleteAct k a e = absurd cc
      by Forget act k a e =
          forget_kept k (and_left (is_forget_duty (facts h v) call.id call.member) _ e)
          (ap (is_act_wanted (want (facts h v) call.id)) a ∙ and_right (is_forget_duty (facts h v) call.id call.member) _ e) due.called
      by After act k a e =
          after_kept k (and_left (is_after_duty (facts h v) call.id call.member) _ e)
          (ap (is_act_wanted (want (facts h v) call.id)) a ∙ and_right (is_after_duty (facts h v) call.id call.member) _ e) due.called

module _
    (ends_want : (h : History) (v w : List ℕ) (l : Id) → IsLawful h → IsClosed h v → IsClosed h w → IsBelow v w → is_at_end (facts h v) l ≡ true → want (facts h w) l ≡ want (facts h v) l)
    (ends_stay : (h : History) (v w : List ℕ) (l : Id) → IsLawful h → IsClosed h v → IsClosed h w → IsBelow v w → is_at_end (facts h v) l ≡ true → is_at_end (facts h w) l ≡ true) where
  pub sets_keep : (h : History) (v w : List ℕ) (home : ℕ) (call : Duty) → IsLawful h → IsClosed h v → IsClosed h w → IsBelow v w → IsDuty home (facts h v) call → IsKept home (facts h v) (facts h w) call
  sets_keep h v w home call lawful cv cw below due = by (is_held (facts h w) call.id) refl
    where
      by : (b : Bool) → is_held (facts h w) call.id ≡ b → IsKept home (facts h v) (facts h w) call
      by true held = held_kept ends_want ends_stay h v w (record { lawful = lawful; before = cv; after = cw; below = below }) home call due.own held due
      by false gone = Purged gone
