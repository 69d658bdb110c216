-- The trails of all nodes of a world are one run of it.
use Rattle.std.proofs.Common.{◌≡◌, ◌==◌, ℕ, List, [], ◌∷◌, refl, sym, ap, subst, ◌∙◌, Bool, true, false, cond, arith}
use Rattle.std.proofs.lemmas.Bool.Decides.{nat_tests}
use Rattle.theory_history.specs.Views.{View}
use Rattle.script_world.specs.declared.event.EventReply.{EventReply}
use Rattle.script_world.specs.Headline.{IsNode}
use Rattle.script_world.specs.Worlds.{Runs, State}
use Rattle.state_book.specs.Trails.{LeadsTo}
use Rattle.theory_trail.specs.NodeTrails.{Follows, IsServed, WasSent, event_of}
use Rattle.theory_trail.specs.Servers.{AnswersConverge, AreOneRun, AreServed, AreTrails, AreTurnReplies, TakeTurns, Turn, events_in, trail_at}
use Rattle.theory_trail.proofs.Answering.{shows_cancel, shows_close}
use Rattle.theory_trail.proofs.Played.{IsMeant, converges, entry_meant}

pub same_test : (n : ℕ) → (n == n) ≡ true
same_test n = grind (arith, nat_tests)

pub same_node : (n k : ℕ) → (n == k) ≡ true → n ≡ k
same_node n k e = grind (arith, nat_tests)

pub other_node : (n k : ℕ) → (n == k) ≡ false → n ≡ k → ⊥
other_node n k e same = never (n == k) (ap (λ (m : ℕ). n == m) (sym same) ∙ same_test n) e
  where
    never : (b : Bool) → b ≡ true → b ≡ false → ⊥
    never true e f = absurd cc
    never false e f = absurd cc

-- the run so far, without the claim that what follows from there is a run
record AreRunSoFar (s : State) (turns : List Turn) (t : State) (ends : ℕ → View) : Type 0 where
  replies : List EventReply
  runs : Runs s (events_in turns) replies t
  same : AreTurnReplies t turns replies
  served : AreServed t ends

-- the views after that of one node was replaced
abbrev with_view : (ℕ → View) → ℕ → View → ℕ → View
with_view views node next k = cond (node == k) next (views k)

-- what holds after a turn
record IsTurned (s : State) (views : ℕ → View) (turn : Turn) (turns : List Turn) (mid : State) (ends : ℕ → View) : Type 0 where
  next : View
  meant : IsMeant turn.node s (event_of turn.node turn.frame turn.entry) turn.entry.reply mid next
  served : AreServed mid (with_view views turn.node next)
  legal : (node : ℕ) → IsNode mid node → LeadsTo node (with_view views turn.node next node) (trail_at node turns) (ends node)

turned : (s : State) (views : ℕ → View) (turn : Turn) (turns : List Turn) (mid : State) (ends : ℕ → View) → AreServed s views
    → ((node : ℕ) → IsNode s node → LeadsTo node (views node) (trail_at node (turn ∷ turns)) (ends node)) → IsNode s turn.node
    → WasSent s turn.frame turn.entry.call turn.entry.reply → Follows s (event_of turn.node turn.frame turn.entry) mid → IsTurned s views turn turns mid ends
turned s views turn turns mid ends served legal is sent follows = record { next = next; meant = meant; served = now_served; legal = now_legal }
  where
    n : ℕ
    n = turn.node

    leads : LeadsTo n (views n) (turn.entry ∷ trail_at n turns) (ends n)
    leads = subst (λ (b : Bool). LeadsTo n (views n) (cond b (turn.entry ∷ trail_at n turns) (trail_at n turns)) (ends n)) (same_test n) (legal n is)

    next : View
    next = leads.0

    meant : IsMeant n s (event_of n turn.frame turn.entry) turn.entry.reply mid next
    meant = entry_meant n s turn.frame (views n) next turn.entry mid (served n is) leads.1 sent follows

    was_node : (k : ℕ) → IsNode mid k → IsNode s k
    was_node k here = record { some = here.some; there = omega (arith, here.there, meant.nodes) }

    now_served : AreServed mid (with_view views n next)
    now_served k here = by (n == k) refl
      where
        by : (b : Bool) → (n == k) ≡ b → IsServed k mid (cond b next (views k))
        by true e = subst (λ (m : ℕ). IsServed m mid next) (same_node n k e) meant.served
        by false e = meant.others k (views k) (other_node n k e) (served k (was_node k here))

    now_legal : (k : ℕ) → IsNode mid k → LeadsTo k (with_view views n next k) (trail_at k turns) (ends k)
    now_legal k here = by (n == k) refl (legal k (was_node k here))
      where
        by : (b : Bool) → (n == k) ≡ b → LeadsTo k (views k) (cond b (turn.entry ∷ trail_at k turns) (trail_at k turns)) (ends k) → LeadsTo k (cond b next (views k)) (trail_at k turns) (ends k)
        by true e was = subst (λ (m : ℕ). LeadsTo m next (trail_at m turns) (ends m)) (same_node n k e) leads.2
        by false e was = was

turns_so_far : (s : State) (views : ℕ → View) (turns : List Turn) (t : State) (ends : ℕ → View) → AreServed s views
    → ((node : ℕ) → IsNode s node → LeadsTo node (views node) (trail_at node turns) (ends node)) → TakeTurns s turns t → AreRunSoFar s turns t ends
turns_so_far s views [] t ends served legal came =
    record {
      replies = [];
      runs = came;
      same = refl;
      served = subst (λ (u : State). AreServed u ends) (sym came) (λ node is. subst (IsServed node s) (sym (legal node is)) (served node is));
    }
turns_so_far s views (turn ∷ turns) t ends served legal (is, sent, (mid, follows, came)) =
    let now = turned s views turn turns mid ends served legal is sent follows in
    let rest = turns_so_far mid (with_view views turn.node now.next) turns t ends now.served now.legal came in
    let whole = now.meant.goes_on (events_in turns) rest.replies t rest.runs in
    record { replies = whole.0; runs = whole.1; same = (rest.replies, whole.2, rest.same); served = rest.served }

pub one_run : (s t : State) (views ends : ℕ → View) (turns : List Turn) → AreTrails s views turns t ends → AreOneRun s turns t ends
one_run s t views ends turns trails =
    let run = turns_so_far s views turns t ends trails.served trails.legal trails.taken in
    record {
      replies = run.replies;
      runs = run.runs;
      same = run.same;
      served = run.served;
      converges = converges s t (events_in turns) run.replies trails.world run.runs;
    }

-- so what the servers answer converges
pub answers_converge : (s t : State) (views ends : ℕ → View) (turns : List Turn) → AreTrails s views turns t ends → AnswersConverge s views t ends
answers_converge s t views ends turns trails =
    let run = one_run s t views ends turns trails in
    let whole = run.converges.whole in
    record {
      equal = λ one other took. (run.converges.agree one other took).view (ends one) (ends other) (run.served one took.one_node).holds (run.served other took.other_node).holds;
      cancelled_late = λ one other l before now closed cancelled.
          whole.cancelled_late one other l before now (shows_close one s (views one) l (trails.served one before) closed) (shows_cancel other t (ends other) l (run.served other now) cancelled);
      closed_late = λ one other l before now cancelled closed.
          whole.closed_late one other l before now (shows_cancel one s (views one) l (trails.served one before) cancelled) (shows_close other t (ends other) l (run.served other now) closed);
    }
