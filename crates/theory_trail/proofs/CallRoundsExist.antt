-- Answers alone make a round of calls.
use Rattle.std.proofs.Common.{◌≡◌, ◌⊎◌, inl, inr, ◌≤◌, ◌<◌, ◌+◌, ◌&&◌, ℕ, List, [], ◌∷◌, refl, sym, ap, subst, ◌∙◌, Bool, true, false, arith, nat_le}
use Rattle.std.proofs.lemmas.Bool.Decides.{nat_tests}
use Rattle.std.specs.List.{list_any}
use Rattle.state_ids.specs.Fronts.{IsBelow, count}
use Rattle.state_ids.specs.Ids.{Id, last_number, same_id}
use Rattle.state_ids.specs.declared.outcome.Act.{Act as TheAct}
use Rattle.state_facts.specs.declared.command.Command.{Command}
use Rattle.state_facts.specs.declared.fact.Body.{Body}
use Rattle.state_facts.specs.declared.fact.Body.TheVariants.{Begin, Decide, Forgot, Join, Leave, Purge, Report, Told}
use Rattle.state_facts.specs.declared.fact.Fact.{Fact}
use Rattle.state_facts.specs.Duties.{is_at_end, is_pending}
use Rattle.state_facts.specs.Lists.{In}
use Rattle.state_facts.specs.Sets.{chain, heard, is_begun, is_ended, is_held, is_under, reported, want}
use Rattle.state_facts.proofs.Membership.{in_append}
use Rattle.state_forest.proofs.Bools.{not_false}
use Rattle.theory_history.specs.Growth.{IsMore, IsSettled}
use Rattle.theory_history.specs.Histories.{History, IsClosed, IsLawful, facts}
use Rattle.theory_history.specs.Replies.{Accepted, Judgement, body_for, judge}
use Rattle.theory_history.proofs.Basics.{held_begun, in_left, in_right}
use Rattle.theory_history.proofs.ClosedSets.{closed_settled}
use Rattle.theory_history.proofs.RanksRise.{IsGrown, kept_chain}
use Rattle.wire_callbacks.specs.declared.answer.Kind.{Kind}
use Rattle.wire_callbacks.specs.declared.answer.Kind.TheVariants.{After, Compensate, Complete, Forget, Status}
use Rattle.wire_callbacks.specs.declared.duty.Duty.{Duty}
use Rattle.wire_callbacks.specs.CallDuties.{IsDuty}
use Rattle.script_world.specs.declared.event.Event.{Event}
use Rattle.script_world.specs.declared.event.Event.TheVariants.{Act}
use Rattle.script_world.specs.declared.event.EventReply.{EventReply}
use Rattle.script_world.specs.Headline.{IsNode}
use Rattle.script_world.specs.Worlds.{Acts, IfNode, IsWorld, Runs, State, Steps, front_of, if_taken, is_node, nodes_of, set_of, with_command}
use Rattle.script_world.proofs.Moving.{IsKeptBy, run_keeps, step_keeps}
use Rattle.theory_progress.specs.Calls.{IsActUnder, IsUnderWay, asks_to_act, open_under, saga_of}
use Rattle.theory_progress.specs.CallRounds.{IsCallRound}
use Rattle.theory_progress.specs.Ends.{AreAnswers, CanEnd, answer_to}
use Rattle.theory_trail.specs.LastingCalls.{IsEnded, IsStillDue, answers, ends_call}
use Rattle.theory_trail.proofs.EndedCalls.{reported_heard}
use Rattle.theory_trail.proofs.LostCommands.{command_more, sets_end}

-- What answers enter

-- the fact says what an answer to a call says
abbrev is_answer : Body → Bool
is_answer (Report l m act outcome) = true
is_answer (Forgot l m) = true
is_answer (Told l m) = true
is_answer _ = false

answer_is : (S : List Fact) (k : Kind) (l : Id) (m : ℕ) (act : TheAct) → is_answer (body_for S (answer_to k l m act)) ≡ true
answer_is S Complete l m act = refl
answer_is S Compensate l m act = refl
answer_is S Status l m act = refl
answer_is S Forget l m act = refl
answer_is S After l m act = refl

-- a fact of the greater set is in the smaller one, or is the new fact
one_or_new : (f : Fact) (S T : List Fact) → IsMore f S T → (x : Fact) → In x T → In x S ⊎ (x ≡ f)
one_or_new f S T more x i = elim (in_append more.before (f ∷ more.after) x (subst (In x) more.is i)) [
  | inl before ↦ inl (subst (In x) (sym more.was) (in_left more.before more.after x before))
  | inr (inl same) ↦ inr same
  | inr (inr after) ↦ inl (subst (In x) (sym more.was) (in_right more.before more.after x after))
]

node_so : (s : State) (node : ℕ) → IsNode s node → is_node s node ≡ true
node_so s node is = both (le 1 node is.some) (le node (nodes_of s) is.there)
  where
    le : (a b : ℕ) → a ≤ b → nat_le a b ≡ true
    le a b h = grind (arith, nat_tests)

    both : {a b : Bool} → a ≡ true → b ≡ true → (a && b) ≡ true
    both e f = rw (e, f) refl

-- a command that is accepted is entered
entered : (s t : State) (node : ℕ) (c : Command) (reply : EventReply) → IsNode s node → judge (set_of s node) (front_of s node) node c ≡ Accepted → Steps s (Act node c) reply t → t ≡ with_command s node c
entered s t node c reply is taken steps = by (is_node s node) (node_so s node is) steps
  where
    by : (b : Bool) → b ≡ true → IfNode b s (Acts s node c reply t) reply t → t ≡ with_command s node c
    by true e h = h.1 ∙ ap (λ (j : Judgement). if_taken j s (with_command s node c)) taken
    by false e h = absurd cc

-- the facts that are new after answers are those of the answers
new_answers : (node : ℕ) (l : Id) (s t : State) (events : List Event) (replies : List EventReply) → IsWorld s → IsNode s node → AreAnswers node l s events → Runs s events replies t → (x : Fact) → In x (set_of t node) → In x (set_of s node) ⊎ (is_answer x.body ≡ true)
new_answers node l s t [] [] world is all runs x i = inl (subst (λ (u : State). In x (set_of u node)) runs i)
new_answers node l s t [] (reply ∷ replies) world is all runs x i = absurd runs
new_answers node l s t (event ∷ events) [] world is all runs x i = absurd runs
new_answers node l s t (event ∷ events) (reply ∷ replies) world is (c, same, answer, rest) (mid, steps, runs) x i =
    let step : Steps s (Act node c) reply mid = subst (λ (e : Event). Steps s e reply mid) same steps in
    let after : mid ≡ with_command s node c = entered s mid node c reply is answer.taken step in
    let kept = step_keeps s mid (Act node c) reply world step in
    let later = new_answers node l mid t events replies kept.world (record { some = is.some; there = omega (arith, is.there, kept.grown.nodes) }) (subst (λ (u : State). AreAnswers node l u events) (sym after) rest) runs x i in
    elim later [
      | inl before ↦ elim (one_or_new _ (set_of s node) (set_of (with_command s node c) node) (command_more s node c world is) x (subst (λ (u : State). In x (set_of u node)) after before)) [
        | inl old ↦ inl old
        | inr new ↦ inr (ap (λ (f : Fact). is_answer f.body) new
            ∙ ap (λ (d : Command). is_answer (body_for (set_of s node) d)) answer.answers
            ∙ answer_is (set_of s node) answer.call.kind answer.call.id answer.call.member answer.call.act)
      ]
      | inr new ↦ inr new
    ]

-- an answer ends a call to act by what it reports
ends_so : (k : Kind) (l : Id) (m : ℕ) (act : TheAct) (body : Body) → asks_to_act k ≡ true → answers k l m act body ≡ true → is_pending (reported l m act body) ≡ false
ends_so Complete l m act body asks e = not_false (is_pending (reported l m act body)) e
ends_so Compensate l m act body asks e = not_false (is_pending (reported l m act body)) e
ends_so Status l m act body asks e = not_false (is_pending (reported l m act body)) e
ends_so Forget l m act body asks e = absurd cc
ends_so After l m act body asks e = absurd cc

reports_end : (T : List Fact) (call : Duty) (body : Body) → asks_to_act call.kind ≡ true → is_answer body ≡ true → ends_call T call body ≡ true → is_pending (reported call.id call.member call.act body) ≡ false
reports_end T call (Report l m act outcome) asks is e = ends_so call.kind call.id call.member call.act (Report l m act outcome) asks e
reports_end T call (Forgot l m) asks is e = ends_so call.kind call.id call.member call.act (Forgot l m) asks e
reports_end T call (Told l m) asks is e = ends_so call.kind call.id call.member call.act (Told l m) asks e
reports_end T call (Begin parent deadline) asks is e = absurd cc
reports_end T call (Join l m links) asks is e = absurd cc
reports_end T call (Leave l m) asks is e = absurd cc
reports_end T call (Decide l verdict) asks is e = absurd cc
reports_end T call (Purge root) asks is e = absurd cc

-- The round

module _
    (ends_want : (h : History) (v w : List ℕ) (l : Id) → IsLawful h → IsClosed h v → IsClosed h w → IsBelow v w → is_at_end (facts h v) l ≡ true → want (facts h w) l ≡ want (facts h v) l)
    (ends_stay : (h : History) (v w : List ℕ) (l : Id) → IsLawful h → IsClosed h v → IsClosed h w → IsBelow v w → is_at_end (facts h v) l ≡ true → is_at_end (facts h w) l ≡ true)
    (uncalled : (S : List Fact) (l : Id) (call : Duty) → IsSettled S → is_ended S l ≡ true → IsActUnder S l call → ⊥)
    (can_end : (s : State) (node : ℕ) (l : Id) → IsWorld s → IsNode s node → IsUnderWay (set_of s node) l
    → count (front_of s node) node + open_under (set_of s node) (saga_of (set_of s node) l) < last_number → CanEnd s node l (saga_of (set_of s node) l) (open_under (set_of s node) (saga_of (set_of s node) l))) where
  pub call_round : (s : State) (node : ℕ) (l : Id) → IsWorld s → IsNode s node → IsUnderWay (set_of s node) l
      → count (front_of s node) node + open_under (set_of s node) (saga_of (set_of s node) l) < last_number → (t : State) × IsCallRound node l s t
  call_round s node l world is way free = (t, record { events = ends.events; replies = ends.replies; runs = ends.runs; hears = hears })
    where
      a : Id
      a = saga_of (set_of s node) l

      ends : CanEnd s node l a (open_under (set_of s node) a)
      ends = can_end s node l world is way free

      t : State
      t = ends.state

      kept : IsKeptBy s t
      kept = run_keeps s t ends.events ends.replies world ends.runs

      T : List Fact
      T = set_of t node

      was : IsClosed s.history (front_of s node)
      was = (world.current node is.some is.there).closed

      now : IsClosed t.history (front_of t node)
      now = (kept.world.current node is.some (omega (arith, is.there, kept.grown.nodes))).closed

      same : facts t.history (front_of s node) ≡ set_of s node
      same = kept.grown.same (front_of s node) was

      grown : IsGrown t.history (front_of s node) (front_of t node)
      grown = record { lawful = kept.world.lawful; before = kept.grown.closed (front_of s node) was; after = now; below = kept.risen node is }

      either : (call : Duty) → IsDuty l.home (set_of s node) call → IsStillDue l.home T call ⊎ IsEnded (set_of s node) T call
      either call due =
          subst (λ (S : List Fact). IsStillDue l.home T call ⊎ IsEnded S T call) same
          (sets_end ends_want ends_stay t.history (front_of s node) (front_of t node) l.home call kept.world.lawful grown.before now grown.below
          (subst (λ (S : List Fact). IsDuty l.home S call) (sym same) due))

      settled : IsSettled T
      settled = closed_settled t.history kept.world.lawful (front_of t node) now

      -- an LRA that was under l is still under it
      under_still : (d : Id) → is_held (set_of s node) d ≡ true → is_under (set_of s node) l d ≡ true → is_under T l d ≡ true
      under_still d held under =
          let begun : is_begun (facts t.history (front_of s node)) d ≡ true = ap (λ (S : List Fact). is_begun S d) same ∙ held_begun (set_of s node) d held in
          ap (list_any (same_id l)) (sym (kept_chain t.history (front_of s node) (front_of t node) grown d begun) ∙ ap (λ (S : List Fact). chain S d) same) ∙ under

      asks_still : (call : Duty) (still : IsStillDue l.home T call) → asks_to_act call.kind ≡ true → asks_to_act still.later.kind ≡ true
      asks_still call still asks = elim still.kind [
        | inl kind ↦ ap asks_to_act kind ∙ asks
        | inr busy ↦ ap asks_to_act busy.1
      ]

      hears : (call : Duty) → IsActUnder (set_of s node) l call → is_pending (heard T call.id call.member call.act) ≡ false
      hears call due = elim (either call due.duty) [
        | inl still ↦
            absurd (uncalled T l still.later settled ends.ended
            (record { duty = still.due; under = ap (is_under T l) still.id ∙ under_still call.id due.duty.held due.under; asks = asks_still call still due.asks }))
        | inr ended ↦ elim (new_answers node a s t ends.events ends.replies world is ends.answers ends.runs ended.fact ended.there) [
          | inl old ↦ absurd (ended.new old)
          | inr new ↦ reported_heard T call.id call.member call.act ended.fact ended.there (reports_end T call ended.fact.body due.asks new ended.ends)
        ]
      ]
