-- What becomes of a server's calls, whatever happens.
use Rattle.std.proofs.Common.{◌≡◌, ◌↔◌, inl, inr, ℕ, List, [], ◌∷◌, refl, sym, ap, subst, ◌∙◌, Bool, true, false, cond, arith, Option, Some, None, is_some}
use Rattle.std.specs.Option.{option_map_or}
use Rattle.state_ids.specs.Fronts.{IsBelow}
use Rattle.state_ids.specs.Ids.{Id}
use Rattle.state_ids.specs.States.{compensating}
use Rattle.state_ids.specs.declared.status.LraStatus.{LraStatus}
use Rattle.state_ids.specs.declared.status.LraStatus.TheVariants.{Cancelling}
use Rattle.state_ids.specs.declared.status.MemberStatus.TheVariants.{Compensated}
use Rattle.state_ids.specs.declared.outcome.Act.TheVariants.{Complete as CompleteAct, Compensate as CompensateAct}
use Rattle.state_ids.specs.declared.outcome.Outcome.{Outcome}
use Rattle.state_ids.specs.declared.outcome.Outcome.TheVariants.{Busy, Done, Failed}
use Rattle.state_ids.specs.declared.outcome.Verdict.{Verdict}
use Rattle.state_ids.specs.declared.outcome.Verdict.TheVariants.{Cancel}
use Rattle.state_facts.specs.declared.fact.Fact.{Fact}
use Rattle.state_facts.specs.Duties.{has_to_compensate, is_at_end, is_pending}
use Rattle.state_facts.specs.Links.{Links}
use Rattle.state_facts.specs.Lists.{In}
use Rattle.state_facts.specs.Sets.{has_left, heard, is_open, joined_status, links_of, shows_now, some_shows, status_by, want}
use Rattle.state_forest.specs.Dues.{AreAll}
use Rattle.state_forest.proofs.Bools.{and_left, and_right, not_false}
use Rattle.state_forest.proofs.NumberedMembers.{join_found}
use Rattle.state_forest.proofs.UnderAnLra.{join_shows, under_self}
use Rattle.theory_history.specs.Growth.{IsSettled}
use Rattle.theory_history.specs.Histories.{History, IsClosed, IsLawful, facts}
use Rattle.theory_history.specs.Views.{View}
use Rattle.wire_callbacks.specs.declared.duty.Duty.{Duty}
use Rattle.wire_callbacks.specs.CallDuties.{IsDuty, comes_first}
use Rattle.wire_callbacks.specs.ViewDuties.{duties_of}
use Rattle.wire_callbacks.proofs.Viewed.{all_of_view}
use Rattle.script_world.specs.declared.event.Event.{Event}
use Rattle.script_world.specs.declared.event.EventReply.{EventReply}
use Rattle.script_world.specs.Headline.{IsNode}
use Rattle.script_world.specs.Worlds.{IsWorld, Runs, State, front_of, set_of}
use Rattle.script_world.proofs.Moving.{run_keeps}
use Rattle.state_book.specs.Trails.{entry}
use Rattle.theory_progress.specs.Calls.{IsActUnder, IsUnderWay, saga_of}
use Rattle.theory_trail.specs.Crashes.{AreTrailsWithCrashes, GoesOn, Happening, LostCall}
use Rattle.theory_trail.specs.LastingCalls.{HasToCompensate, IsKept, IsOvertaken}
use Rattle.theory_trail.specs.NodeTrails.{Follows, IsServed, event_of}
use Rattle.theory_trail.proofs.Crashing.{crashes_run}
use Rattle.theory_trail.proofs.LastingCalls.{sets_keep}
use Rattle.theory_trail.proofs.OwnCommands.{settled_of, there_in}
use Rattle.theory_trail.proofs.StillDue.{cancels, some_of}

-- A node's list has the duties of what it holds

all_of : (node : ℕ) (s : State) (a : View) → IsServed node s a → AreAll (IsDuty node (set_of s node)) (comes_first (set_of s node)) (duties_of a node)
all_of node s a served = all_of_view (set_of s node) a node (settled_of node s a served) served.holds.stands served.node.some (there_in node s a served)

pub listed : (node : ℕ) (s : State) (a : View) (call : Duty) → IsServed node s a → In call (duties_of a node) ↔ IsDuty node (set_of s node) call
listed node s a call served = let all = all_of node s a served in (all.only call, all.all call)

-- What follows a lost call is a run

follows_runs : (s t : State) (o : Option Event) → Follows s o t → (events : List Event) × ((replies : List EventReply) × Runs s events replies t)
follows_runs s t None same = ([], ([], same))
follows_runs s t (Some event) (reply, steps) = (event ∷ [], (reply ∷ [], (t, steps, refl)))

pub lost_runs : (s t : State) (a : View) (lost : LostCall) → GoesOn s a lost t → (events : List Event) × ((replies : List EventReply) × Runs s events replies t)
lost_runs s t a lost on = elim on.moved [
  | inl same ↦ ([], ([], same))
  | inr it ↦ follows_runs s t (event_of lost.node lost.frame (entry lost.asked lost.moment it.0)) it.2
]

module _
    (ends_want : (h : History) (v w : List ℕ) (l : Id) → IsLawful h → IsClosed h v → IsClosed h w → IsBelow v w → is_at_end (facts h v) l ≡ true → want (facts h w) l ≡ want (facts h v) l)
    (ends_stay : (h : History) (v w : List ℕ) (l : Id) → IsLawful h → IsClosed h v → IsClosed h w → IsBelow v w → is_at_end (facts h v) l ≡ true → is_at_end (facts h w) l ≡ true) where
  pub world_keeps : (s t : State) (events : List Event) (replies : List EventReply) (node : ℕ) (call : Duty) → IsWorld s → Runs s events replies t → IsNode s node → IsDuty node (set_of s node) call
      → IsKept node (set_of s node) (set_of t node) call
  world_keeps s t events replies node call world runs is due =
      let kept = run_keeps s t events replies world runs in
      let was : IsClosed s.history (front_of s node) = (world.current node is.some is.there).closed in
      let now : IsClosed t.history (front_of t node) = (kept.world.current node is.some (omega (arith, is.there, kept.grown.nodes))).closed in
      let same = kept.grown.same (front_of s node) was in
      subst (λ (S : List Fact). IsKept node S (set_of t node) call) same
      (sets_keep ends_want ends_stay t.history (front_of s node) (front_of t node) node call kept.world.lawful (kept.grown.closed (front_of s node) was) now (kept.risen node is)
      (subst (λ (S : List Fact). IsDuty node S call) (sym same) due))

  pub servers_keep : (s t : State) (views ends : ℕ → View) (happened : List Happening) (node : ℕ) (call : Duty) → AreTrailsWithCrashes s views happened t ends → IsNode s node → In call (duties_of (views node) node)
      → IsKept node (set_of s node) (set_of t node) call
  servers_keep s t views ends happened node call trails is due =
      let run = (crashes_run s t views ends happened trails).2 in
      world_keeps s t _ run.replies node call trails.world run.runs is ((listed node s (views node) call (trails.served node is)).0 due)

  pub lost_keeps : (s t : State) (a : View) (lost : LostCall) (call : Duty) → IsServed lost.node s a → GoesOn s a lost t → In call (duties_of a lost.node)
      → IsKept lost.node (set_of s lost.node) (set_of t lost.node) call
  lost_keeps s t a lost call served on due =
      let runs = lost_runs s t a lost on in
      world_keeps s t runs.0 runs.1.0 lost.node call served.world runs.1.1 served.node ((listed lost.node s a call served).0 due)

-- A compensation that waits

-- a participant that is to compensate is open
pub still_open : (links : Links) (a b : Option Outcome) → has_to_compensate links b ≡ true → is_open (status_by (Some Cancel) links a b) ≡ true
still_open links a b e = by (is_some links.compensate) b (and_left (is_some links.compensate) _ e) (and_right (is_some links.compensate) _ e)
  where
    by : (given : Bool) (b : Option Outcome) → given ≡ true → is_pending b ≡ true → is_open (cond given (compensating b) Compensated) ≡ true
    by false b g p = absurd cc
    by true None g p = refl
    by true (Some Busy) g p = refl
    by true (Some Done) g p = absurd cc
    by true (Some Failed) g p = absurd cc

-- so its LRA is under way
pub cancelled_waits : (T : List Fact) (l : Id) (m : ℕ) → IsSettled T → HasToCompensate T l m → IsUnderWay T l
cancelled_waits T l m settled has = inr (rw has.held (ap (λ (x : LraStatus). Some x) shows))
  where
    opened : some_shows is_open T l ≡ true
    opened =
        let links = some_of (links_of T l m) (and_left (is_some (links_of T l m)) _ has.known) in
        let stayed = not_false (has_left T l m) (and_right (is_some (links_of T l m)) _ has.known) in
        let join = join_found T l m links.0 links.1 in
        let owes : has_to_compensate links.0 (heard T l m CompensateAct) ≡ true =
        sym (ap (λ (k : Option Links). option_map_or (λ (x : Links). has_to_compensate x (heard T l m CompensateAct)) k false) links.1) ∙ has.pending in
        let passes : is_open (joined_status T l m links.0) ≡ true =
        ap (λ (x : Option Verdict). is_open (status_by x links.0 (heard T l m CompleteAct) (heard T l m CompensateAct))) has.wants
        ∙ still_open links.0 (heard T l m CompleteAct) (heard T l m CompensateAct) owes in
        join_shows is_open T l l m links.0 join.0 join.1 join.2 (record { under = under_self T settled.whole.nested l; stayed = stayed; passes = passes })

    shows : shows_now T l ≡ Cancelling
    shows = rw (has.wants, opened) refl

pub overtaken_waits : (S T : List Fact) (call : Duty) → IsSettled T → (o : IsOvertaken S T call) → call.act ≡ CompensateAct → IsUnderWay T call.id
overtaken_waits S T call settled o act =
    cancelled_waits T call.id call.member settled (record { held = o.held; wants = cancels T call.id o.top o.cancelled; known = o.known; pending = o.pending act })

-- and a participant under the topmost cancelled LRA is called
pub next_called : ((T : List Fact) (l : Id) → IsSettled T → IsUnderWay T l → (next : Duty) × IsActUnder T (saga_of T l) next)
    → (S T : List Fact) (call : Duty) → IsSettled T → (o : IsOvertaken S T call) → call.act ≡ CompensateAct → (next : Duty) × IsActUnder T o.top next
next_called stuck S T call settled o act =
    let next = stuck T call.id settled (overtaken_waits S T call settled o act) in
    (next.0, subst (λ (a : Id). IsActUnder T a next.0) (ap (λ (k : Option Id). option_map_or (λ x. x) k call.id) o.cancelled) next.1)
