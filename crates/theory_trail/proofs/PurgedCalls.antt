-- A home purges no tree while a call in it is due.
use Rattle.std.proofs.Common.{◌≡◌, inl, inr, ◌≤◌, ℕ, List, [], ◌∷◌, refl, sym, ap, subst, ◌∙◌, Bool, true, false, arith, Option, Some, None, is_some}
use mathlib.Core.Bool.{not}
use Rattle.std.specs.Option.{option_map_or}
use Rattle.state_ids.specs.Fronts.{IsBelow}
use Rattle.state_ids.specs.Ids.{Id}
use Rattle.state_ids.specs.declared.outcome.Act.{Act}
use Rattle.state_ids.specs.declared.outcome.Act.TheVariants.{Complete as CompleteAct, Compensate as CompensateAct}
use Rattle.state_ids.specs.declared.outcome.Verdict.{Verdict}
use Rattle.state_ids.specs.declared.outcome.Verdict.TheVariants.{Close, Cancel}
use Rattle.state_facts.specs.declared.fact.Fact.{Fact}
use Rattle.state_facts.specs.Duties.{has_to_compensate, is_after_duty, is_at_end, is_forget_duty, is_forgot, is_pending, is_told_of, is_untold, is_untold_by, owes_after}
use Rattle.state_facts.specs.Links.{Links}
use Rattle.state_facts.specs.Lists.{In, IsInside}
use Rattle.state_facts.specs.Sets.{heard, is_ended, is_held, is_participant, is_under, links_of, want}
use Rattle.state_facts.proofs.Heard.{heard_inside}
use Rattle.state_facts.proofs.Membership.{any_inside}
use Rattle.state_forest.specs.declared.duties.Due.{Due}
use Rattle.state_forest.specs.Dues.{IsFirst, due_by, is_before, least_due}
use Rattle.state_forest.proofs.Bools.{and_left, and_right, not_false}
use Rattle.state_forest.proofs.LeastDutyUnderARoot.{TellsOf, least_first}
use Rattle.state_forest.proofs.NumberedMembers.{join_found}
use Rattle.state_facts.specs.declared.fact.Body.TheVariants.{Join}
use Rattle.theory_history.specs.Growth.{IsSettled}
use Rattle.theory_history.specs.Histories.{History, IsClosed, IsLawful, facts}
use Rattle.theory_history.specs.Views.{View}
use Rattle.theory_history.proofs.Basics.{both_true, false_from}
use Rattle.theory_history.proofs.ClosedSets.{closed_settled}
use Rattle.theory_history.proofs.Decisions.{wanted_begun}
use Rattle.theory_history.proofs.Ranks.{force}
use Rattle.theory_history.proofs.RanksRise.{wants_more}
use Rattle.wire_callbacks.specs.declared.answer.Kind.{Kind}
use Rattle.wire_callbacks.specs.declared.answer.Kind.TheVariants.{After, Compensate, Complete, Forget, Status}
use Rattle.wire_callbacks.specs.declared.duty.Duty.{Duty}
use Rattle.wire_callbacks.specs.CallDuties.{IsDuty, is_owed}
use Rattle.wire_callbacks.specs.ViewDuties.{duties_of}
use Rattle.script_world.specs.declared.event.Event.{Event}
use Rattle.script_world.specs.declared.event.EventReply.{EventReply}
use Rattle.script_world.specs.Headline.{IsNode}
use Rattle.script_world.specs.Worlds.{IsWorld, Runs, State, front_of, set_of}
use Rattle.script_world.proofs.Moving.{IsKeptBy, run_keeps, step_keeps, step_moves}
use Rattle.theory_progress.specs.Calls.{IsActUnder, asks_to_act, is_answered}
use Rattle.theory_trail.specs.Crashes.{AreTrailsWithCrashes, Happening}
use Rattle.theory_trail.specs.LastingCalls.{Answered, IsDone, IsKept, IsOvertaken, Overtaken, Purged, StillDue}
use Rattle.theory_trail.proofs.AtOtherNodes.{node_still}
use Rattle.theory_trail.proofs.Crashing.{crashes_run}
use Rattle.theory_trail.proofs.KeptCalls.{listed, world_keeps}
use Rattle.theory_progress.proofs.LaterSets.{clash, pending_before}
use Rattle.theory_trail.proofs.PurgedTrees.{IsPurging, ended_above, grown, has_cancelled, same_set, set_inside, step_purges}
use Rattle.theory_trail.proofs.StillDue.{cancels}

-- The moment of a purge

-- the node came to a state in which it held the LRA and accepted the purge of its root
record IsPurgedIn (s t : State) (node : ℕ) (l : Id) : Type 0 where
  mid : State
  events : List Event
  replies : List EventReply
  runs : Runs s events replies mid
  world : IsWorld mid
  is : IsNode mid node
  purging : IsPurging mid node l
  later : IsKeptBy mid t

purge_moment : (s t : State) (events : List Event) (replies : List EventReply) (node : ℕ) (l : Id) → IsWorld s → Runs s events replies t → IsNode s node → l.home ≡ node → is_held (set_of s node) l ≡ true → is_held (set_of t node) l ≡ false
    → IsPurgedIn s t node l
purge_moment s t [] [] node l world runs is home held gone = clash (is_held (set_of s node) l) held (subst (λ (u : State). is_held (set_of u node) l ≡ false) runs gone)
purge_moment s t [] (reply ∷ replies) node l world runs is home held gone = absurd runs
purge_moment s t (event ∷ events) [] node l world runs is home held gone = absurd runs
purge_moment s t (event ∷ events) (reply ∷ replies) node l world (mid, steps, rest) is home held gone =
    by (is_held (set_of mid node) l) refl (λ still. purge_moment mid t events replies node l kept.world rest (node_still s mid node is kept) home still gone)
  where
    kept : IsKeptBy s mid
    kept = step_keeps s mid event reply world steps

    by : (b : Bool) → is_held (set_of mid node) l ≡ b → (is_held (set_of mid node) l ≡ true → IsPurgedIn mid t node l) → IsPurgedIn s t node l
    by true e later =
        let moment = later e in
        record {
          mid = moment.mid;
          events = event ∷ moment.events;
          replies = reply ∷ moment.replies;
          runs = (mid, steps, moment.runs);
          world = moment.world;
          is = moment.is;
          purging = moment.purging;
          later = moment.later;
        }
    by false e later =
        record {
          mid = s;
          events = [];
          replies = [];
          runs = refl;
          world = world;
          is = is;
          purging = step_purges s mid world kept node is l home (step_moves s mid event reply steps) held e;
          later = run_keeps s t (event ∷ events) (reply ∷ replies) world (mid, steps, rest);
        }

-- Nobody is called then

-- if there is no least participant, the errand is due of none
none_due : (due : List Fact → Id → ℕ → Bool) (S : List Fact) (root l : Id) (m : ℕ) → is_participant S l m ≡ true → is_under S root l ≡ true → due S l m ≡ true → least_due due S S root ≡ None → ⊥
none_due due S root l m known under owed none = by (links_of S l m) refl (and_left (is_some (links_of S l m)) _ known)
  where
    first : IsFirst (TellsOf due S root S) is_before None
    first = subst (λ (o : Option Due). IsFirst (TellsOf due S root S) is_before o) none (least_first due S root S)

    by : (o : Option Links) → links_of S l m ≡ o → is_some o ≡ true → ⊥
    by None at some = absurd cc
    by (Some links) at some =
        let join = join_found S l m links at in
        let tells : due_by due S root (Join l m links) ≡ Some (record { lra = l; member = m }) = rw (under, owed) refl in
        first (record { lra = l; member = m }) (join.0, join.1, ap (due_by due S root) join.2 ∙ tells)

-- a participant that is to hear of the end now has not been told of it
hears_untold : (S : List Fact) (l : Id) (m : ℕ) → is_after_duty S l m ≡ true → is_untold S l m ≡ true
hears_untold S l m due = both_true (is_participant S l m) _ (and_left (is_participant S l m) _ due) (by (links_of S l m) (and_right (is_participant S l m) _ due))
  where
    by : (o : Option Links) → option_map_or (owes_after S l m) o false ≡ true → option_map_or (is_untold_by S l m) o false ≡ true
    by None e = absurd cc
    by (Some links) e = and_right (is_at_end S l) _ e

-- an answer in one set is an answer in each greater set
answered_later : (S T : List Fact) (kind : Kind) (l : Id) (m : ℕ) (act : Act) → IsInside S T → is_answered kind S l m act ≡ true → is_answered kind T l m act ≡ true
answered_later S T kind l m act inside e = by kind e
  where
    ends : not (is_pending (heard S l m act)) ≡ true → not (is_pending (heard T l m act)) ≡ true
    ends ended = ap not (false_from (is_pending (heard T l m act)) (λ pending.
        clash (is_pending (heard S l m act)) (pending_before (heard S l m act) (heard T l m act) (heard_inside S T inside l m act) pending) (not_false (is_pending (heard S l m act)) ended)))

    by : (kind : Kind) → is_answered kind S l m act ≡ true → is_answered kind T l m act ≡ true
    by Complete e = ends e
    by Compensate e = ends e
    by Status e = ends e
    by Forget e = any_inside (λ (f : Fact). is_forgot l m f.body) S T inside e
    by After e = any_inside (λ (f : Fact). is_told_of l m f.body) S T inside e

module _ (ended_law : (S : List Fact) (l : Id) (call : Duty) → IsSettled S → is_ended S l ≡ true → IsActUnder S l call → ⊥)
    (ends_want : (h : History) (v w : List ℕ) (l : Id) → IsLawful h → IsClosed h v → IsClosed h w → IsBelow v w → is_at_end (facts h v) l ≡ true → want (facts h w) l ≡ want (facts h v) l)
    (ends_stay : (h : History) (v w : List ℕ) (l : Id) → IsLawful h → IsClosed h v → IsClosed h w → IsBelow v w → is_at_end (facts h v) l ≡ true → is_at_end (facts h w) l ≡ true) where
  nobody_due : (s : State) (node : ℕ) (l : Id) (later : Duty) → IsWorld s → IsNode s node → IsPurging s node l → later.id ≡ l → IsDuty node (set_of s node) later → ⊥
  nobody_due s node l later world is purging own due = by later.kind later.act refl due.owed
    where
      under : is_under (set_of s node) purging.root later.id ≡ true
      under = subst (λ (x : Id). is_under (set_of s node) purging.root x ≡ true) (sym own) purging.under

      acts : asks_to_act later.kind ≡ true → ⊥
      acts asks =
          ended_law (set_of s node) purging.root later (closed_settled s.history world.lawful (front_of s node) (world.current node is.some is.there).closed) purging.given.3
          (record { duty = subst (λ (home : ℕ). IsDuty home (set_of s node) later) (sym purging.given.1) due; under = under; asks = asks })

      by : (kind : Kind) (act : Act) → later.kind ≡ kind → is_owed (set_of s node) kind act later.id later.member ≡ true → ⊥
      by Complete act k e = acts (ap asks_to_act k)
      by Compensate act k e = acts (ap asks_to_act k)
      by Status act k e = acts (ap asks_to_act k)
      by Forget act k e =
          let due = and_left (is_forget_duty (set_of s node) later.id later.member) _ e in
          none_due is_forget_duty (set_of s node) purging.root later.id later.member (and_left (is_participant (set_of s node) later.id later.member) _ due) under due purging.given.4
      by After act k e =
          let due = and_left (is_after_duty (set_of s node) later.id later.member) _ e in
          none_due is_untold (set_of s node) purging.root later.id later.member (and_left (is_participant (set_of s node) later.id later.member) _ due) under
          (hears_untold (set_of s node) later.id later.member due) purging.given.5

  purged_done : (s t : State) (events : List Event) (replies : List EventReply) (node : ℕ) (call : Duty) → IsWorld s → Runs s events replies t → IsNode s node → IsDuty node (set_of s node) call
      → is_held (set_of t node) call.id ≡ false → IsDone (set_of t node) call
  purged_done s t events replies node call world runs is due gone = by (world_keeps ends_want ends_stay s moment.mid moment.events moment.replies node call world moment.runs is due)
    where
      moment : IsPurgedIn s t node call.id
      moment = purge_moment s t events replies node call.id world runs is due.own due.held gone

      inside : IsInside (set_of moment.mid node) (set_of t node)
      inside = set_inside moment.mid t moment.world moment.later node moment.is

      no_more : (o : Option Verdict) → force (Some Cancel) ≤ force o → o ≡ Some Cancel
      no_more None le = absurd (omega (arith, le))
      no_more (Some Close) le = absurd (omega (arith, le))
      no_more (Some Cancel) le = refl

      cancelled : IsOvertaken (set_of s node) (set_of moment.mid node) call → want (set_of t node) call.id ≡ Some Cancel
      cancelled o =
          let g = grown moment.mid t moment.world moment.later node moment.is in
          let same = same_set moment.mid t moment.world moment.later node moment.is in
          let wants : want (facts t.history (front_of moment.mid node)) call.id ≡ Some Cancel = ap (λ (S : List Fact). want S call.id) same ∙ cancels (set_of moment.mid node) call.id o.top o.cancelled in
          no_more (want (set_of t node) call.id)
          (subst (λ (x : Option Verdict). force x ≤ force (want (set_of t node) call.id)) wants
          (wants_more t.history (front_of moment.mid node) (front_of t node) g call.id (wanted_begun t.history g.lawful (front_of moment.mid node) g.before call.id Cancel wants)))

      -- a compensation that was overtaken is not done, if the root has ended
      undone : IsOvertaken (set_of s node) (set_of moment.mid node) call → call.act ≡ CompensateAct → ⊥
      undone o act =
          let S = set_of moment.mid node in
          let was = has_cancelled S call.id call.member (record { held = o.held; wants = cancels S call.id o.top o.cancelled; known = o.known; pending = o.pending act }) in
          let pending : is_pending (heard S call.id call.member CompensateAct) ≡ true =
          and_right (is_some was.links.compensate) _ (sym (ap (λ (k : Option Links). option_map_or (λ (x : Links). has_to_compensate x (heard S call.id call.member CompensateAct)) k false) was.joined) ∙ o.pending act) in
          clash (is_pending (heard S call.id call.member CompensateAct)) pending (ended_above S moment.purging.root call.id call.member moment.purging.under moment.purging.given.3 was)

      overtaken : (act : Act) → call.act ≡ act → IsOvertaken (set_of s node) (set_of moment.mid node) call → IsDone (set_of t node) call
      overtaken CompleteAct is_act o = inr (is_act, cancelled o)
      overtaken CompensateAct is_act o = absurd (undone o is_act)

      by : IsKept node (set_of s node) (set_of moment.mid node) call → IsDone (set_of t node) call
      by (StillDue still) = absurd (nobody_due moment.mid node call.id still.later moment.world moment.is moment.purging still.id still.due)
      by (Answered e) = inl (answered_later (set_of moment.mid node) (set_of t node) call.kind call.id call.member call.act inside e)
      by (Purged lost) = clash (is_held (set_of moment.mid node) call.id) moment.purging.held lost
      by (Overtaken o) = overtaken call.act refl o

  pub servers_done : (s t : State) (views ends : ℕ → View) (happened : List Happening) (node : ℕ) (call : Duty) → AreTrailsWithCrashes s views happened t ends → IsNode s node → In call (duties_of (views node) node)
      → is_held (set_of t node) call.id ≡ false → IsDone (set_of t node) call
  servers_done s t views ends happened node call trails is due gone =
      let run = (crashes_run s t views ends happened trails).2 in
      purged_done s t _ run.replies node call trails.world run.runs is ((listed node s (views node) call (trails.served node is)).0 due) gone
