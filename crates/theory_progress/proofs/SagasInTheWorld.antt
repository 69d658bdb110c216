-- sagas at nodes of the world, and one of which a nested LRA is part
use Rattle.std.proofs.Common.{◌≡◌, ℕ, List, [], ◌∷◌, refl, subst, true, arith, map, Some, None}
use Rattle.state_ids.specs.Fronts.{IsBelow}
use Rattle.state_ids.specs.Ids.{Id}
use Rattle.state_ids.specs.declared.outcome.Act.{Act}
use Rattle.state_ids.specs.declared.outcome.Act.TheVariants.{Compensate}
use Rattle.state_ids.specs.declared.outcome.Outcome.TheVariants.{Done}
use Rattle.state_ids.specs.declared.outcome.Verdict.TheVariants.{Cancel}
use Rattle.state_facts.specs.declared.command.Command.{Command}
use Rattle.state_facts.specs.declared.command.Command.TheVariants.{Begin, Decide, Join, Report}
use Rattle.state_facts.specs.declared.fact.Fact.{Fact}
use Rattle.state_facts.specs.Duties.{is_compensation_due}
use Rattle.theory_history.specs.Histories.{History, IsClosed, IsLawful, facts}
use Rattle.wire_callbacks.specs.declared.answer.Kind.TheVariants.{Compensate as ToCompensate}
use Rattle.wire_callbacks.specs.declared.duty.Duty.{Duty}
use Rattle.wire_callbacks.specs.CallDuties.{is_owed}
use Rattle.script_world.specs.declared.event.Event.{Event}
use Rattle.script_world.specs.declared.event.Event.TheVariants.{Act as Enter}
use Rattle.script_world.specs.declared.event.EventReply.{EventReply}
use Rattle.script_world.specs.Headline.{IsNode}
use Rattle.script_world.specs.Worlds.{IsWorld, Runs, State, front_of, set_of, start}
use Rattle.script_world.proofs.Moving.{IsKeptBy, run_keeps, start_is}
use Rattle.theory_progress.specs.Asked.{IsAskedFor}
use Rattle.theory_progress.specs.SagaOrder.{HasCompensated, IsBehind}
use Rattle.theory_progress.proofs.ActsAsked.{owed_due}
use Rattle.theory_progress.proofs.AskedInTheWorld.{as_before, asked_at, grown_at}
use Rattle.theory_progress.proofs.EachEdge.{after_all, have_run, links, lra, replied}
use Rattle.theory_progress.proofs.Hearing.{still_node}
use Rattle.theory_progress.proofs.SagasBackwards.{behind_ended, behind_unasked}

pub sets_ended : (h : History) (v w : List ℕ) (l d : Id) (m n : ℕ) → IsLawful h → IsClosed h v → IsClosed h w → IsBelow v w → is_compensation_due (facts h v) l m ≡ true → IsBehind (facts h v) l m d n → HasCompensated (facts h w) d n
sets_ended h v w l d m n lawful before after below due behind =
    behind_ended h v w (record { lawful = lawful; before = before; after = after; below = below }) l d m n due behind

-- a participant that is asked to compensate is due
due_at : (s : State) (node : ℕ) (l : Id) (m : ℕ) → IsAskedFor s node l m Compensate → is_compensation_due (set_of s node) l m ≡ true
due_at s node l m asked =
    subst (λ (d : Id). is_compensation_due (set_of s node) d m ≡ true) asked.due.lra
    (subst (λ (n : ℕ). is_compensation_due (set_of s node) asked.call.id n ≡ true) asked.due.member
    (owed_due (set_of s node) asked.call.kind Compensate asked.call.id asked.call.member asked.asks
    (subst (λ (a : Act). is_owed (set_of s node) asked.call.kind a asked.call.id asked.call.member ≡ true) asked.acts asked.due.due.owed)))

module _ (s t : State) (events : List Event) (replies : List EventReply) (node : ℕ) (l d : Id) (m n : ℕ) (world : IsWorld s) (runs : Runs s events replies t) (is : IsNode s node) (asked : IsAskedFor s node l m Compensate) (behind : IsBehind (set_of s node) l m d n) where
  kept : IsKeptBy s t
  kept = run_keeps s t events replies world runs

  due : is_compensation_due (facts t.history (front_of s node)) l m ≡ true
  due = as_before (λ (S : List Fact). is_compensation_due S l m ≡ true) s t node world kept is (due_at s node l m asked)

  still : IsBehind (facts t.history (front_of s node)) l m d n
  still = as_before (λ (S : List Fact). IsBehind S l m d n) s t node world kept is behind

  pub world_ended : HasCompensated (set_of t node) d n
  world_ended = behind_ended t.history (front_of s node) (front_of t node) (grown_at s t node world kept is) l d m n due still

  pub world_unasked : (act : Act) → IsAskedFor t node d n act → ⊥
  world_unasked act again =
      behind_unasked t.history (front_of s node) (front_of t node) (grown_at s t node world kept is) l d m n due still act
      (asked_at t node d n act kept.world (still_node s t node kept is) again)

-- A participant joined a root, and another one an LRA that is nested in it. The root was cancelled,
-- and the nested participant was compensated

abbrev commands : List Command
commands =
    Begin None 0 ∷ Join (lra 1) links ∷ Begin (Some (lra 1)) 0 ∷ Join (lra 3) links ∷ Decide (lra 1) Cancel ∷ Report (lra 3) 1 Compensate Done ∷ []

abbrev turn : State
turn = after_all (start 1) commands

abbrev call : Duty
call = record { kind = ToCompensate; act = Compensate; id = lra 1; member = 1; link = []; parent = None; shows = None }

asked_then : IsAskedFor turn 1 (lra 1) 1 Compensate
asked_then =
    record {
      call = call;
      due = record { due = record { own = refl; held = refl; owed = refl; called = refl; nested = refl; shown = refl }; lra = refl; member = refl };
      asks = refl;
      acts = refl;
    }

behind_then : IsBehind (set_of turn 1) (lra 1) 1 (lra 3) 1
behind_then = record { known = refl; saga = refl; later = refl }

pub turn_is_met : (s : State) × (l : Id) × (d : Id) × IsWorld s × IsNode s 1 × IsAskedFor s 1 l 1 Compensate × IsBehind (set_of s 1) l 1 d 1
turn_is_met =
    let world = start_is 1 (omega arith) in
    let run = have_run (start 1) commands world (record { some = omega arith; there = omega arith }) in
    (turn, lra 1, lra 3, (run_keeps (start 1) turn (map (λ c. Enter 1 c) commands) (replied (start 1) commands) world run.runs).world, run.there, asked_then, behind_then)
