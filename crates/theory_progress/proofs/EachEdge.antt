-- each edge of the diagram happens, by one more command at the only node of a world
use Rattle.std.proofs.Common.{◌≡◌, ℕ, List, [], ◌∷◌, refl, sym, subst, ◌++◌, Bool, true, arith, Some, None, Ok, map}
use Rattle.state_ids.specs.Ids.{Id}
use Rattle.state_ids.specs.declared.status.LraStatus.{LraStatus}
use Rattle.state_ids.specs.declared.status.LraStatus.TheVariants.{Active, Cancelled, Cancelling, Closed, Closing, FailedToCancel, FailedToClose}
use Rattle.state_ids.specs.declared.outcome.Act.TheVariants.{Compensate, Complete}
use Rattle.state_ids.specs.declared.outcome.Outcome.TheVariants.{Done, Failed}
use Rattle.state_ids.specs.declared.outcome.Verdict.TheVariants.{Cancel, Close}
use Rattle.state_facts.specs.declared.command.Command.{Command}
use Rattle.state_facts.specs.declared.command.Command.TheVariants.{Begin, Decide, Join, Report}
use Rattle.state_facts.specs.Links.{Links}
use Rattle.script_world.specs.declared.event.Event.TheVariants.{Act}
use Rattle.script_world.specs.declared.event.EventReply.{EventReply}
use Rattle.script_world.specs.declared.event.EventReply.TheVariants.{Answered}
use Rattle.script_world.specs.Headline.{IsNode, shown_at}
use Rattle.script_world.specs.Worlds.{Acts, IfNode, IsWorld, Runs, State, Steps, after_command, reply_at, start}
use Rattle.script_world.proofs.Moving.{start_is, step_keeps}
use Rattle.theory_progress.specs.Diagram.{IsCrossed, is_edge}
use Rattle.theory_progress.proofs.Hearing.{still_node}
use Rattle.theory_progress.proofs.NeverRefused.{node_is}

-- Commands at node 1, one after another

abbrev pub after_all : State → List Command → State
after_all s [] = s
after_all s (c ∷ cs) = after_all (after_command s 1 c) cs

abbrev pub replied : State → List Command → List EventReply
replied s [] = []
replied s (c ∷ cs) = Answered (reply_at s 1 c) ∷ replied (after_command s 1 c) cs

acts : (s : State) (c : Command) → IsNode s 1 → Steps s (Act 1 c) (Answered (reply_at s 1 c)) (after_command s 1 c)
acts s c is = subst (λ (b : Bool). IfNode b s (Acts s 1 c (Answered (reply_at s 1 c)) (after_command s 1 c)) (Answered (reply_at s 1 c)) (after_command s 1 c)) (sym (node_is s 1 is)) (refl, refl)

pub record HaveRun (s : State) (cs : List Command) : Type 0 where
  pub there : IsNode (after_all s cs) 1
  pub runs : Runs s (map (λ c. Act 1 c) cs) (replied s cs) (after_all s cs)

pub have_run : (s : State) (cs : List Command) → IsWorld s → IsNode s 1 → HaveRun s cs
have_run s [] world is = record { there = is; runs = refl }
have_run s (c ∷ cs) world is =
    let step = acts s c is in
    let kept = step_keeps s (after_command s 1 c) (Act 1 c) (Answered (reply_at s 1 c)) world step in
    let rest = have_run (after_command s 1 c) cs kept.world (still_node s (after_command s 1 c) 1 kept is) in
    record { there = rest.there; runs = (after_command s 1 c, step, rest.runs) }

pub happens : (cs : List Command) (c : Command) (l : Id) (a b : LraStatus) → shown_at (after_all (start 1) cs) 1 l ≡ Ok a → shown_at (after_command (after_all (start 1) cs) 1 c) 1 l ≡ Ok b → IsCrossed a b
happens cs c l a b before after =
    let s = after_all (start 1) cs in
    let run = have_run (start 1) cs (start_is 1 (omega arith)) (record { some = omega arith; there = omega arith }) in
    record {
      nodes = 1;
      node = 1;
      l = l;
      s = s;
      t = after_command s 1 c;
      events = map (λ c. Act 1 c) cs;
      replies = replied (start 1) cs;
      event = Act 1 c;
      reply = Answered (reply_at s 1 c);
      there = run.there;
      runs = run.runs;
      steps = acts s c run.there;
      before = before;
      after = after;
    }

-- A root with one participant, and an LRA that is nested in a root

abbrev pub lra : ℕ → Id
lra n = record { home = 1; num = n }

abbrev pub links : Links
links = record { complete = Some []; compensate = Some []; status = None; forget = None; after = None }

abbrev root : List Command
root = Begin None 0 ∷ Join (lra 1) links ∷ []

abbrev closing : List Command
closing = root ++ Decide (lra 1) Close ∷ []

abbrev cancelling : List Command
cancelling = root ++ Decide (lra 1) Cancel ∷ []

abbrev child : List Command
child = Begin None 0 ∷ Begin (Some (lra 1)) 0 ∷ Join (lra 2) links ∷ Decide (lra 2) Close ∷ []

pub edge_happens : (a b : LraStatus) → is_edge a b ≡ true → IsCrossed a b
edge_happens Active Closing e = happens root (Decide (lra 1) Close) (lra 1) Active Closing refl refl
edge_happens Active Cancelling e = happens root (Decide (lra 1) Cancel) (lra 1) Active Cancelling refl refl
edge_happens Closing Closed e = happens closing (Report (lra 1) 1 Complete Done) (lra 1) Closing Closed refl refl
edge_happens Closing FailedToClose e = happens closing (Report (lra 1) 1 Complete Failed) (lra 1) Closing FailedToClose refl refl
edge_happens Cancelling Cancelled e = happens cancelling (Report (lra 1) 1 Compensate Done) (lra 1) Cancelling Cancelled refl refl
edge_happens Cancelling FailedToCancel e = happens cancelling (Report (lra 1) 1 Compensate Failed) (lra 1) Cancelling FailedToCancel refl refl
edge_happens Closed FailedToClose e =
    happens (closing ++ Report (lra 1) 1 Complete Done ∷ []) (Report (lra 1) 1 Complete Failed) (lra 1) Closed FailedToClose refl refl
edge_happens Cancelled FailedToCancel e =
    happens (cancelling ++ Report (lra 1) 1 Compensate Done ∷ []) (Report (lra 1) 1 Compensate Failed) (lra 1) Cancelled FailedToCancel refl refl
edge_happens Closing Cancelling e = happens child (Decide (lra 1) Cancel) (lra 2) Closing Cancelling refl refl
edge_happens Closed Cancelling e = happens (child ++ Report (lra 2) 1 Complete Done ∷ []) (Decide (lra 1) Cancel) (lra 2) Closed Cancelling refl refl
edge_happens FailedToClose Cancelling e =
    happens (child ++ Report (lra 2) 1 Complete Failed ∷ []) (Decide (lra 1) Cancel) (lra 2) FailedToClose Cancelling refl refl
edge_happens a b e = absurd cc
