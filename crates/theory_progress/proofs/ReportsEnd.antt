-- one report after another, each of a call that is due, leads to an end
use Rattle.std.proofs.Common.{◌≡◌, ◌&&◌, ◌==◌, ◌≤◌, ◌<◌, ◌+◌, ℕ, zero, suc, List, [], ◌∷◌, refl, sym, ap, subst, ◌∙◌, Bool, true, false, cond, arith, Option, Some, None, is_some, nat_lt}
use mathlib.Core.Bool.{not}
use Rattle.std.proofs.lemmas.Bool.Decides.{nat_tests}
use Rattle.std.specs.List.{list_any}
use Rattle.std.specs.Option.{option_map_or}
use Rattle.state_ids.specs.Ids.{Id, last_number, same_id}
use Rattle.state_ids.specs.Fronts.{count}
use Rattle.state_ids.specs.States.{level, same_act}
use Rattle.state_ids.specs.declared.outcome.Act.{Act}
use Rattle.state_ids.specs.declared.outcome.Act.TheVariants.{Complete, Compensate}
use Rattle.state_ids.specs.declared.outcome.Outcome.{Outcome}
use Rattle.state_ids.specs.declared.outcome.Outcome.TheVariants.{Done}
use Rattle.state_ids.specs.declared.outcome.Verdict.{Verdict}
use Rattle.state_ids.specs.declared.outcome.Verdict.TheVariants.{Close, Cancel}
use Rattle.state_facts.specs.declared.fact.Body.TheVariants.{Report as ReportMade}
use Rattle.state_facts.specs.declared.fact.Fact.{Fact}
use Rattle.state_facts.specs.Duties.{is_pending, last_that, topmost_cancelled}
use Rattle.state_facts.specs.Lists.{In}
use Rattle.state_facts.specs.Sets.{chain, heard, is_begun, is_decided, is_decision, is_ended, is_held, is_open, reported, some_shows, want}
use Rattle.state_facts.proofs.Heard.{level_heard}
use Rattle.state_facts.proofs.Membership.{any_agree, most_bounds}
use Rattle.state_forest.proofs.CompensationUnderAnLra.{held_above}
use Rattle.state_forest.proofs.NumberedMembers.{same_self}
use Rattle.state_forest.proofs.SagaOrder.{top_is}
use Rattle.state_facts.specs.declared.command.Command.TheVariants.{Report}
use Rattle.theory_history.specs.Growth.{IsMore, IsSettled}
use Rattle.theory_history.specs.Histories.{facts}
use Rattle.theory_history.specs.NodeViews.{IsCurrent}
use Rattle.theory_history.proofs.Basics.{both_true, equal_itself, held_begun}
use Rattle.theory_history.proofs.ClosedSets.{closed_counted, closed_settled}
use Rattle.theory_history.proofs.LeftAsItWas.{any_kept, chain_kept, held_kept, in_more_new}
use Rattle.theory_history.proofs.RanksRise.{IsGrown, kept_chain}
use Rattle.wire_callbacks.specs.declared.answer.Kind.{Kind}
use Rattle.wire_callbacks.specs.declared.answer.Kind.TheVariants.{After, Compensate as CompensateCall, Complete as CompleteCall, Forget, Status}
use Rattle.wire_callbacks.specs.declared.duty.Duty.{Duty}
use Rattle.script_world.specs.declared.event.Event.TheVariants.{Act as Acting}
use Rattle.script_world.specs.declared.event.EventReply.TheVariants.{Answered}
use Rattle.script_world.specs.Headline.{IsNode}
use Rattle.theory_history.specs.Replies.{Accepted, judge}
use Rattle.script_world.specs.Worlds.{IsWorld, State, Steps, front_of, reply_at, set_of, with_command}
use Rattle.script_world.proofs.Moving.{IsKeptBy, run_keeps}
use Rattle.theory_progress.specs.Calls.{HearsAnEnd, IsActUnder, IsUnderWay, asks_to_act, open_under, saga_of}
use Rattle.theory_progress.specs.Ends.{AreAnswers, CanEnd, GoesOn, IsAnswer, answer_to}
use Rattle.theory_progress.proofs.ActsAsked.{cancels}
use Rattle.theory_progress.proofs.EndsAccepted.{end_accepted}
use Rattle.theory_progress.proofs.EndsInTheWorld.{earlier_set, world_falls}
use Rattle.theory_progress.proofs.Entering.{HasEntered, entering}
use Rattle.theory_progress.proofs.Hearing.{still_node}
use Rattle.theory_progress.proofs.OpenUnder.{ended_none}
use Rattle.theory_progress.proofs.UnderWay.{ended_under, in_under, open_calls, saga_above, saga_none, saga_some, under_in, way_calls, way_open}

-- One more report

-- tests that agree find the same last element
last_agree : (p q : Id → Bool) (xs : List Id) → ((x : Id) → p x ≡ q x) → last_that p xs ≡ last_that q xs
last_agree p q [] h = refl
last_agree p q (x ∷ xs) h =
    ap (λ (o : Option Id). option_map_or (λ y. Some y) o (cond (p x) (Some x) None)) (last_agree p q xs h)
    ∙ ap (λ (b : Bool). option_map_or (λ y. Some y) (last_that q xs) (cond b (Some x) None)) (h x)

-- what a report leaves as it was
record IsReported (S T : List Fact) (a : Id) : Type 0 where
  held : is_held T a ≡ is_held S a
  wants : want T a ≡ want S a
  saga : saga_of T a ≡ saga_of S a

reported_of : (node num : ℕ) (l : Id) (m : ℕ) (act : Act) (outcome : Outcome) (S T : List Fact) (a : Id) → IsMore (record { origin = node; num = num; body = ReportMade l m act outcome }) S T → IsSettled S → is_begun S a ≡ true → IsReported S T a
reported_of node num l m act outcome S T a more settled begun =
    record {
      held = held_kept f S T more settled.whole refl a begun;
      wants = ap (λ (c : List Id). cond (list_any (is_decided T Cancel) c) (Some Cancel) (cond (list_any (is_decided T Close) c) (Some Close) None)) chained
          ∙ ap (λ (b : Bool). cond b (Some Cancel) (cond (list_any (is_decided T Close) (chain S a)) (Some Close) None)) (any_agree (is_decided T Cancel) (is_decided S Cancel) (chain S a) (λ x i. decided Cancel x))
          ∙ ap (λ (b : Bool). cond (list_any (is_decided S Cancel) (chain S a)) (Some Cancel) (cond b (Some Close) None)) (any_agree (is_decided T Close) (is_decided S Close) (chain S a) (λ x i. decided Close x));
      saga = ap (λ (o : Option Id). option_map_or (λ x. x) o a)
          (ap (last_that (is_decided T Cancel)) chained ∙ last_agree (is_decided T Cancel) (is_decided S Cancel) (chain S a) (λ x. decided Cancel x));
    }
  where
    f : Fact
    f = record { origin = node; num = num; body = ReportMade l m act outcome }

    chained : chain T a ≡ chain S a
    chained = chain_kept f S T more settled.whole a begun

    decided : (v : Verdict) (x : Id) → is_decided T v x ≡ is_decided S v x
    decided v x = any_kept f S T more (λ (g : Fact). is_decision x v g.body) refl

-- the outcome that is reported is heard
pub heard_done : (node num : ℕ) (l : Id) (m : ℕ) (act : Act) (S T : List Fact) → IsMore (record { origin = node; num = num; body = ReportMade l m act Done }) S T → is_pending (heard T l m act) ≡ false
heard_done node num l m act S T more =
    let f : Fact = record { origin = node; num = num; body = ReportMade l m act Done } in
    let own : reported l m act f.body ≡ Some Done = let test : (same_id l l && ((m == m) && same_act act act)) ≡ true = both_true (same_id l l) _ (same_self l) (both_true (m == m) _ (equal_itself m) (same act)) in rw test refl in
    let bound = most_bounds (λ (g : Fact). level (reported l m act g.body)) T f (in_more_new f S T more) in
    ended (level (heard T l m act)) (omega (arith, bound, level_heard T l m act, ap level own))
  where
    same : (a : Act) → same_act a a ≡ true
    same Complete = refl
    same Compensate = refl

    ended : (n : ℕ) → 2 ≤ n → nat_lt n 2 ≡ false
    ended n h = grind (arith, nat_tests, h)

-- the state after the report
record HasReported (s : State) (node : ℕ) (a : Id) (call : Duty) : Type 0 where
  state : State
  is : state ≡ with_command s node (Report call.id call.member call.act Done)
  answer : IsAnswer s node a (Report call.id call.member call.act Done)
  steps : Steps s (Acting node (Report call.id call.member call.act Done)) (Answered (reply_at s node (Report call.id call.member call.act Done))) state
  kept : IsKeptBy s state
  counts : count (front_of state node) node ≡ count (front_of s node) node + 1
  still : IsReported (set_of s node) (set_of state node) a
  hears : HearsAnEnd (set_of s node) (set_of state node) a

report : (s : State) (node : ℕ) (a : Id) (call : Duty) → IsWorld s → IsNode s node → is_held (set_of s node) a ≡ true → IsActUnder (set_of s node) a call → count (front_of s node) node < last_number → HasReported s node a call
report s node a call world is held due free =
    record {
      state = t;
      is = made.is;
      answer = record { call = call; due = record { duty = due.duty; under = due.under }; answers = sym (done call.kind due.asks); taken = taken };
      steps = made.steps;
      kept = made.kept;
      counts = made.counts;
      still = reported_of node (count (front_of s node) node + 1) call.id call.member call.act Done (set_of s node) (set_of t node) a made.more settled (held_begun (set_of s node) a held);
      hears = record {
        call = call;
        due = due;
        ends = heard_done node (count (front_of s node) node + 1) call.id call.member call.act (set_of s node) (set_of t node) made.more;
      };
    }
  where
    mine : IsCurrent s.history node (front_of s node)
    mine = world.current node is.some is.there

    settled : IsSettled (set_of s node)
    settled = closed_settled s.history world.lawful (front_of s node) mine.closed

    taken : judge (set_of s node) (front_of s node) node (Report call.id call.member call.act Done) ≡ Accepted
    taken = end_accepted (set_of s node) (front_of s node) node a call Done (closed_counted s.history (front_of s node) mine.closed) due refl free

    done : (k : Kind) → asks_to_act k ≡ true → answer_to k call.id call.member call.act ≡ Report call.id call.member call.act Done
    done CompleteCall asks = refl
    done CompensateCall asks = refl
    done Status asks = refl
    done Forget asks = absurd cc
    done After asks = absurd cc

    made : HasEntered s node (Report call.id call.member call.act Done)
    made = entering s node (Report call.id call.member call.act Done) world is taken

    t : State
    t = made.state

-- One report after another

none_more : (s : State) (node : ℕ) (a : Id) (most : ℕ) → is_ended (set_of s node) a ≡ true → CanEnd s node a a most
none_more s node a most ended =
    record { events = []; replies = []; state = s; runs = refl; answers = tt; few = omega arith; ended = ended }

one_before : (s : State) (node : ℕ) (a : Id) (call : Duty) (n : ℕ) (first : HasReported s node a call) → CanEnd first.state node a a n → CanEnd s node a a (suc n)
one_before s node a call n first rest =
    record {
      events = Acting node (Report call.id call.member call.act Done) ∷ rest.events;
      replies = Answered (reply_at s node (Report call.id call.member call.act Done)) ∷ rest.replies;
      state = rest.state;
      runs = (first.state, first.steps, rest.runs);
      answers = (Report call.id call.member call.act Done, refl, first.answer, subst (λ (u : State). AreAnswers node a u rest.events) first.is rest.answers);
      few = omega (arith, rest.few);
      ended = rest.ended;
    }

-- an LRA that is held and wants something, and for which no other has to wait, ends after n reports
abbrev Ends : ℕ → ℕ → Id → Verdict → Type 0
Ends n node a verdict =
    (s : State) → IsWorld s → IsNode s node → is_held (set_of s node) a ≡ true → want (set_of s node) a ≡ Some verdict → saga_of (set_of s node) a ≡ a → open_under (set_of s node) a ≤ n → count (front_of s node) node + n < last_number → CanEnd s node a a n

ends_on : (n node : ℕ) (a : Id) (verdict : Verdict) → Ends n node a verdict → Ends (suc n) node a verdict
ends_on n node a verdict rest s world is held wants own few free = by (some_shows is_open (set_of s node) a) refl
  where
    S : List Fact
    S = set_of s node

    settled : IsSettled S
    settled = closed_settled s.history world.lawful (front_of s node) (world.current node is.some is.there).closed

    next : (call : Duty) → IsActUnder S a call → CanEnd s node a a (suc n)
    next call due =
        let first = report s node a call world is held due (omega (arith, free)) in
        let t = first.state in
        let later : want (set_of t node) a ≡ Some verdict = first.still.wants ∙ wants in
        let fewer = world_falls s t node a verdict world first.kept is wants later first.hears in
        one_before s node a call n first
        (rest t first.kept.world (still_node s t node first.kept is) (first.still.held ∙ held) later (first.still.saga ∙ own) (omega (arith, fewer, few)) (omega (arith, first.counts, free)))

    by : (b : Bool) → some_shows is_open S a ≡ b → CanEnd s node a a (suc n)
    by false shut = none_more s node a (suc n) (both_true (is_some (want S a)) _ (ap is_some wants) (ap not shut))
    by true opened =
        let made = open_calls S a verdict settled held wants opened in
        next made.0 (subst (λ (x : Id). IsActUnder S x made.0) own made.1)

ends_by : (n node : ℕ) (a : Id) (verdict : Verdict) → Ends n node a verdict
ends_by zero node a verdict = λ s world is held wants own few free.
    none_more s node a zero ((ended_none (set_of s node) a (ap is_some wants)).1 (omega (arith, few)))
ends_by (suc n) node a verdict = ends_on n node a verdict (ends_by n node a verdict)

-- so an LRA that is under way can be ended
saga_own : (S : List Fact) (l : Id) → IsSettled S → saga_of S (saga_of S l) ≡ saga_of S l
saga_own S l settled = by (topmost_cancelled S l) refl
  where
    by : (o : Option Id) → topmost_cancelled S l ≡ o → saga_of S (saga_of S l) ≡ saga_of S l
    by None top = ap (saga_of S) (saga_none S l top)
    by (Some a) top =
        ap (saga_of S) (saga_some S l a top) ∙ saga_some S a a (top_is S settled.whole.nested (suc l.num) l a (omega arith) top).own ∙ sym (saga_some S l a top)

saga_wants : (S : List Fact) (l : Id) (verdict : Verdict) → IsSettled S → want S l ≡ Some verdict → (x : Verdict) × (want S (saga_of S l) ≡ Some x)
saga_wants S l verdict settled wants = by (topmost_cancelled S l) refl
  where
    by : (o : Option Id) → topmost_cancelled S l ≡ o → (x : Verdict) × (want S (saga_of S l) ≡ Some x)
    by None top = (verdict, ap (want S) (saga_none S l top) ∙ wants)
    by (Some a) top =
        (Cancel, ap (want S) (saga_some S l a top) ∙ cancels S a a (top_is S settled.whole.nested (suc l.num) l a (omega arith) top).own)

pub can_end : (s : State) (node : ℕ) (l : Id) → IsWorld s → IsNode s node → IsUnderWay (set_of s node) l
    → count (front_of s node) node + open_under (set_of s node) (saga_of (set_of s node) l) < last_number → CanEnd s node l (saga_of (set_of s node) l) (open_under (set_of s node) (saga_of (set_of s node) l))
can_end s node l world is way free =
    record {
      events = ends.events;
      replies = ends.replies;
      state = t;
      runs = ends.runs;
      answers = ends.answers;
      few = ends.few;
      ended = ended_under (set_of t node) a l later (in_under (set_of t node) a l (subst (λ (c : List Id). In a c) chained (under_in S a l (saga_above S settled.whole.nested l)))) ends.ended;
    }
  where
    S : List Fact
    S = set_of s node

    settled : IsSettled S
    settled = closed_settled s.history world.lawful (front_of s node) (world.current node is.some is.there).closed

    a : Id
    a = saga_of S l

    held : is_held S l ≡ true
    held = (way_open S l way).held

    wanted : (x : Verdict) × (want S a ≡ Some x)
    wanted = saga_wants S l (way_open S l way).verdict settled (way_open S l way).wants

    ends : CanEnd s node a a (open_under S a)
    ends = ends_by (open_under S a) node a wanted.0 s world is (held_above S settled.whole a (suc l.num) l (omega arith) (saga_above S settled.whole.nested l) held) wanted.1 (saga_own S l settled) (omega arith) free

    t : State
    t = ends.state

    kept : IsKeptBy s t
    kept = run_keeps s t ends.events ends.replies world ends.runs

    there : IsNode t node
    there = still_node s t node kept is

    later : IsSettled (set_of t node)
    later = closed_settled t.history kept.world.lawful (front_of t node) (kept.world.current node there.some there.there).closed

    same : facts t.history (front_of s node) ≡ S
    same = earlier_set s t node world kept is

    grown : IsGrown t.history (front_of s node) (front_of t node)
    grown =
        record {
          lawful = kept.world.lawful;
          before = kept.grown.closed (front_of s node) (world.current node is.some is.there).closed;
          after = (kept.world.current node there.some there.there).closed;
          below = kept.risen node is;
        }

    chained : chain S l ≡ chain (set_of t node) l
    chained =
        ap (λ (X : List Fact). chain X l) (sym same)
        ∙ kept_chain t.history (front_of s node) (front_of t node) grown l (ap (λ (X : List Fact). is_begun X l) same ∙ held_begun S l held)

-- and one more end can be heard
pub can_go_on : (s : State) (node : ℕ) (l : Id) → IsWorld s → IsNode s node → IsUnderWay (set_of s node) l → count (front_of s node) node < last_number → (t : State) × GoesOn node (saga_of (set_of s node) l) s t
can_go_on s node l world is way free =
    let settled : IsSettled (set_of s node) = closed_settled s.history world.lawful (front_of s node) (world.current node is.some is.there).closed in
    let a = saga_of (set_of s node) l in
    let held : is_held (set_of s node) a ≡ true = held_above (set_of s node) settled.whole a (suc l.num) l (omega arith) (saga_above (set_of s node) settled.whole.nested l) (way_open (set_of s node) l way).held in
    let call = way_calls (set_of s node) l settled way in
    let made = report s node a call.0 world is held call.1 free in (
      made.state,
      record {
        events = Acting node (Report call.0.id call.0.member call.0.act Done) ∷ [];
        replies = Answered (reply_at s node (Report call.0.id call.0.member call.0.act Done)) ∷ [];
        runs = (made.state, made.steps, refl);
        wants = made.still.wants;
        hears = made.hears;
      },
    )
