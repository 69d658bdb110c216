-- Which calls a server's lost command ends.
use Rattle.std.proofs.Common.{◌≡◌, ◌⊎◌, inl, inr, ◌+◌, ◌-◌, ℕ, cond, List, [], ◌∷◌, sym, ap, subst, ◌∙◌, Bool, true, false, arith, get_or-set_same, Some, None}
use Rattle.state_ids.specs.Fronts.{IsBelow, count}
use Rattle.state_ids.specs.Ids.{Id}
use Rattle.state_facts.specs.declared.command.Command.{Command}
use Rattle.state_facts.specs.declared.command.CommandReply.{CommandReply}
use Rattle.state_facts.specs.declared.fact.Fact.{Fact}
use Rattle.state_facts.specs.Duties.{is_at_end}
use Rattle.state_facts.specs.Lists.{In}
use Rattle.state_facts.specs.Sets.{want}
use Rattle.state_facts.proofs.Membership.{in_append}
use Rattle.theory_history.specs.Changes.{raised}
use Rattle.theory_history.specs.Growth.{IsMore}
use Rattle.theory_history.specs.Histories.{History, IsClosed, IsLawful, facts}
use Rattle.theory_history.specs.NodeViews.{IsCurrent, entry_for}
use Rattle.theory_history.specs.Replies.{Accepted, AlreadyKnown, Denied, Judgement, body_for, judge}
use Rattle.theory_history.specs.Views.{View}
use Rattle.theory_history.proofs.Basics.{in_left, in_right}
use Rattle.theory_history.proofs.OneMoreEntry.{one_more}
use Rattle.wire_callbacks.specs.declared.duty.Duty.{Duty}
use Rattle.wire_callbacks.specs.CallDuties.{IsDuty}
use Rattle.wire_callbacks.specs.ViewDuties.{duties_of}
use Rattle.script_world.specs.declared.event.Event.{Event}
use Rattle.script_world.specs.declared.event.Event.TheVariants.{Act}
use Rattle.script_world.specs.declared.event.EventReply.{EventReply}
use Rattle.script_world.specs.Headline.{IsNode}
use Rattle.script_world.specs.Worlds.{Acts, IfNode, IsWorld, Runs, State, Steps, after_command, front_of, if_taken, is_node, set_of, with_command}
use Rattle.script_world.proofs.Moving.{run_keeps}
use Rattle.state_book.specs.declared.calls.Call.{Call}
use Rattle.state_book.specs.declared.calls.Call.TheVariants.{Command as Enter}
use Rattle.state_book.specs.declared.calls.Reply.{Reply as BookReply}
use Rattle.state_book.specs.declared.calls.Reply.TheVariants.{Command as Entered}
use Rattle.state_book.specs.Trails.{entry}
use Rattle.theory_trail.specs.Crashes.{AreTrailsWithCrashes, GoesOn, Happening, LostCall}
use Rattle.theory_trail.specs.LastingCalls.{IsEnded, IsStillDue, ends_call}
use Rattle.theory_trail.specs.NodeTrails.{Arrival, Follows, IsReplied, IsServed, event_by, event_of, is_accepted}
use Rattle.theory_trail.proofs.Crashing.{crashes_run}
use Rattle.theory_trail.proofs.EndedCalls.{due_or_ended}
use Rattle.theory_trail.proofs.KeptCalls.{listed, lost_runs}
use Rattle.theory_trail.proofs.LastingCalls.{sets_keep}

-- One command

-- a command leaves the state as it was, or with the command's entry
abbrev IsOneCommand : State → ℕ → Command → State → Type 0
IsOneCommand s node c t = (t ≡ s) ⊎ (t ≡ with_command s node c)

command_left : (s t : State) (node : ℕ) (c : Command) → t ≡ after_command s node c → IsOneCommand s node c t
command_left s t node c = by (judge (set_of s node) (front_of s node) node c)
  where
    by : (j : Judgement) → t ≡ if_taken j s (with_command s node c) → IsOneCommand s node c t
    by (Denied refusal) e = inl e
    by AlreadyKnown e = inl e
    by Accepted e = inr e

act_left : (s t : State) (node : ℕ) (c : Command) (reply : EventReply) → Steps s (Act node c) reply t → IsOneCommand s node c t
act_left s t node c reply steps = by (is_node s node) steps
  where
    by : (b : Bool) → IfNode b s (Acts s node c reply t) reply t → IsOneCommand s node c t
    by true h = command_left s t node c h.1
    by false h = inl h.1

entered_left : (s t : State) (node : ℕ) (frame : Arrival) (now : ℕ) (c : Command) (r : CommandReply) → Follows s (event_by node frame now (Enter c) (Entered r)) t → IsOneCommand s node c t
entered_left s t node frame now c r = by (is_accepted r)
  where
    by : (b : Bool) → Follows s (cond b (Some (Act node c)) None) t → IsOneCommand s node c t
    by true (reply, steps) = act_left s t node c reply steps
    by false same = inl same

lost_left : (s t : State) (a : View) (lost : LostCall) (c : Command) → GoesOn s a lost t → lost.asked ≡ Enter c → IsOneCommand s lost.node c t
lost_left s t a lost c on asked = elim on.moved [
  | inl same ↦ inl same
  | inr it ↦ replied (subst (λ (call : Call). IsReplied lost.node s a call lost.moment lost.frame lost.found t) asked it)
]
  where
    replied : IsReplied lost.node s a (Enter c) lost.moment lost.frame lost.found t → IsOneCommand s lost.node c t
    replied (reply, next, follows) =
        entered_left s t lost.node lost.frame lost.moment c _
        (subst (λ (r : BookReply). Follows s (event_of lost.node lost.frame (entry (Enter c) lost.moment r)) t) next.0 follows)

-- One fact

-- the node's set with the command's entry has one more fact, the command's
pub command_more : (s : State) (node : ℕ) (c : Command) → IsWorld s → IsNode s node
    → IsMore (record { origin = node; num = count (front_of s node) node + 1; body = body_for (set_of s node) c }) (set_of s node) (set_of (with_command s node c) node)
command_more s node c world is =
    let mine : IsCurrent s.history node (front_of s node) = world.current node is.some is.there in
    let front : front_of (with_command s node c) node ≡ raised (front_of s node) node =
    get_or-set_same s.fronts (node - 1) (raised (front_of s node) node) [] (omega (arith, is.some, is.there, world.nodes)) in
    subst (λ (T : List Fact). IsMore (record { origin = node; num = count (front_of s node) node + 1; body = body_for (set_of s node) c }) (set_of s node) T)
    (sym (ap (facts (with_command s node c).history) front))
    (one_more s.history (front_of s node) node (entry_for s.history (front_of s node) c) is.some is.there mine.closed mine.own)

-- the only new fact is that one
pub new_fact : (f : Fact) (S T : List Fact) → IsMore f S T → (x : Fact) → In x T → (In x S → ⊥) → x ≡ f
new_fact f S T more x i new = elim (in_append more.before (f ∷ more.after) x (subst (In x) more.is i)) [
  | inl before ↦ absurd (new (subst (In x) (sym more.was) (in_left more.before more.after x before)))
  | inr (inl same) ↦ same
  | inr (inr after) ↦ absurd (new (subst (In x) (sym more.was) (in_right more.before more.after x after)))
]

module _
    (ends_want : (h : History) (v w : List ℕ) (l : Id) → IsLawful h → IsClosed h v → IsClosed h w → IsBelow v w → is_at_end (facts h v) l ≡ true → want (facts h w) l ≡ want (facts h v) l)
    (ends_stay : (h : History) (v w : List ℕ) (l : Id) → IsLawful h → IsClosed h v → IsClosed h w → IsBelow v w → is_at_end (facts h v) l ≡ true → is_at_end (facts h w) l ≡ true) where
  pub sets_end : (h : History) (v w : List ℕ) (home : ℕ) (call : Duty) → IsLawful h → IsClosed h v → IsClosed h w → IsBelow v w → IsDuty home (facts h v) call
      → IsStillDue home (facts h w) call ⊎ IsEnded (facts h v) (facts h w) call
  sets_end h v w home call lawful cv cw below due =
      due_or_ended h v w (record { lawful = lawful; before = cv; after = cw; below = below }) home call due (sets_keep ends_want ends_stay h v w home call lawful cv cw below due)

  pub world_ends : (s t : State) (events : List Event) (replies : List EventReply) (node : ℕ) (call : Duty) → IsWorld s → Runs s events replies t → IsNode s node → IsDuty node (set_of s node) call
      → IsStillDue node (set_of t node) call ⊎ IsEnded (set_of s node) (set_of t node) call
  world_ends s t events replies node call world runs is due =
      let kept = run_keeps s t events replies world runs in
      let was : IsClosed s.history (front_of s node) = (world.current node is.some is.there).closed in
      let now : IsClosed t.history (front_of t node) = (kept.world.current node is.some (omega (arith, is.there, kept.grown.nodes))).closed in
      let same = kept.grown.same (front_of s node) was in
      subst (λ (S : List Fact). IsStillDue node (set_of t node) call ⊎ IsEnded S (set_of t node) call) same
      (sets_end t.history (front_of s node) (front_of t node) node call kept.world.lawful (kept.grown.closed (front_of s node) was) now (kept.risen node is)
      (subst (λ (S : List Fact). IsDuty node S call) (sym same) due))

  pub servers_end : (s t : State) (views ends : ℕ → View) (happened : List Happening) (node : ℕ) (call : Duty) → AreTrailsWithCrashes s views happened t ends → IsNode s node → In call (duties_of (views node) node)
      → IsStillDue node (set_of t node) call ⊎ IsEnded (set_of s node) (set_of t node) call
  servers_end s t views ends happened node call trails is due =
      let run = (crashes_run s t views ends happened trails).2 in
      world_ends s t _ run.replies node call trails.world run.runs is ((listed node s (views node) call (trails.served node is)).0 due)

  -- a lost command ends a call by its own fact
  pub command_ends : (s t : State) (a : View) (lost : LostCall) (c : Command) (call : Duty) → IsServed lost.node s a → GoesOn s a lost t → lost.asked ≡ Enter c → In call (duties_of a lost.node)
      → IsStillDue lost.node (set_of t lost.node) call ⊎ (ends_call (set_of t lost.node) call (body_for (set_of s lost.node) c) ≡ true)
  command_ends s t a lost c call served on asked due =
      let runs = lost_runs s t a lost on in
      elim (world_ends s t runs.0 runs.1.0 lost.node call served.world runs.1.1 served.node ((listed lost.node s a call served).0 due)) [
        | inl still ↦ inl still
        | inr ended ↦ inr (by ended (lost_left s t a lost c on asked))
      ]
    where
      by : IsEnded (set_of s lost.node) (set_of t lost.node) call → IsOneCommand s lost.node c t → ends_call (set_of t lost.node) call (body_for (set_of s lost.node) c) ≡ true
      by ended (inl same) = absurd (ended.new (subst (λ (u : State). In ended.fact (set_of u lost.node)) same ended.there))
      by ended (inr entered) =
          let more = command_more s lost.node c served.world served.node in
          let is = new_fact _ (set_of s lost.node) (set_of (with_command s lost.node c) lost.node) more ended.fact (subst (λ (u : State). In ended.fact (set_of u lost.node)) entered ended.there) ended.new in
          ap (λ (f : Fact). ends_call (set_of t lost.node) call f.body) (sym is) ∙ ended.ends
