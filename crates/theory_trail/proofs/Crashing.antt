-- Servers that are killed go on like servers that are not.
use Rattle.std.proofs.Common.{◌≡◌, ◌==◌, ◌⊎◌, inl, inr, ℕ, List, [], ◌∷◌, refl, sym, subst, Bool, true, false, cond, arith, Option}
use Rattle.theory_history.specs.Views.{View}
use Rattle.script_world.specs.declared.event.Event.{Event}
use Rattle.script_world.specs.Headline.{IsNode}
use Rattle.script_world.specs.Worlds.{State, front_of}
use Rattle.script_world.proofs.Agreeing.{same_view}
use Rattle.state_book.specs.declared.calls.Entry.{Entry}
use Rattle.state_book.specs.declared.calls.Reply.{Reply}
use Rattle.state_book.specs.Next.{IsNext}
use Rattle.state_book.specs.Trails.{LeadsTo}
use Rattle.theory_trail.specs.Crashes.{AreTrailsWithCrashes, CanBeHeard, CanBeLost, GoesOn, Happening, HappenAll, Heard, Keeps, Lost, LostCall, turn_of, with_view}
use Rattle.theory_trail.specs.NodeTrails.{Arrival, Follows, Here, IsPlayed, IsReplied, IsServed, WasSent, event_of}
use Rattle.theory_trail.specs.Servers.{AnswersConverge, AreOneRun, AreServed, AreTrails, TakeTurns, Turn, trail_at}
use Rattle.theory_trail.proofs.ManyServers.{answers_converge, one_run, other_node, same_node}
use Rattle.theory_trail.proofs.Played.{IsMeant, entry_happens, entry_meant, found_answer}

-- A turn that goes before others

-- what holds of turns that can all come, apart from what each node holds
pub record AreLegal (s : State) (views : ℕ → View) (turns : List Turn) (t : State) (ends : ℕ → View) : Type 0 where
  pub legal : (node : ℕ) → IsNode s node → LeadsTo node (views node) (trail_at node turns) (ends node)
  pub taken : TakeTurns s turns t

-- the meaning of a turn, if the world went on
pub heard_meant : (s : State) (views : ℕ → View) (turn : Turn) (next : View) (mid : State) → AreServed s views → CanBeHeard s (views turn.node) turn next
    → Follows s (event_of turn.node turn.frame turn.entry) mid → IsMeant turn.node s (event_of turn.node turn.frame turn.entry) turn.entry.reply mid next
heard_meant s views turn next mid served can follows = entry_meant turn.node s turn.frame (views turn.node) next turn.entry mid (served turn.node can.node) can.next can.sent follows

-- then each node is served by its next view
pub served_on : (s : State) (views : ℕ → View) (n : ℕ) (o : Option Event) (reply : Reply) (next : View) (mid : State) → AreServed s views → IsMeant n s o reply mid next → AreServed mid (with_view views n next)
served_on s views n o reply next mid served meant k here = by (n == k) refl
  where
    by : (b : Bool) → (n == k) ≡ b → IsServed k mid (cond b next (views k))
    by true e = subst (λ (m : ℕ). IsServed m mid next) (same_node n k e) meant.served
    by false e = meant.others k (views k) (other_node n k e) (served k (record { some = here.some; there = omega (arith, here.there, meant.nodes) }))

pub turn_legal : (s : State) (views : ℕ → View) (turn : Turn) (next : View) (mid : State) (turns : List Turn) (t : State) (ends : ℕ → View) → AreServed s views → CanBeHeard s (views turn.node) turn next
    → Follows s (event_of turn.node turn.frame turn.entry) mid → AreLegal mid (with_view views turn.node next) turns t ends → AreLegal s views (turn ∷ turns) t ends
turn_legal s views turn next mid turns t ends served can follows rest = record { legal = legal; taken = (can.node, can.sent, (mid, follows, rest.taken)) }
  where
    n : ℕ
    n = turn.node

    meant : IsMeant n s (event_of n turn.frame turn.entry) turn.entry.reply mid next
    meant = heard_meant s views turn next mid served can follows

    legal : (k : ℕ) → IsNode s k → LeadsTo k (views k) (trail_at k (turn ∷ turns)) (ends k)
    legal k here = by (n == k) refl (rest.legal k (record { some = here.some; there = omega (arith, here.there, meant.nodes) }))
      where
        by : (b : Bool) → (n == k) ≡ b → LeadsTo k (cond b next (views k)) (trail_at k turns) (ends k) → LeadsTo k (views k) (cond b (turn.entry ∷ trail_at k turns) (trail_at k turns)) (ends k)
        by true e later = (next, subst (λ (m : ℕ). IsNext m (views m) turn.entry.call turn.entry.moment turn.entry.reply next) (same_node n k e) can.next, later)
        by false e later = later

-- A lost call

-- a lost call can come as a turn, if its reply leads to the view that was found
lost_heard : (s : State) (a : View) (lost : LostCall) (reply : Reply) → CanBeLost s a lost → IsNext lost.node a lost.asked lost.moment reply lost.found → CanBeHeard s a (turn_of lost reply) lost.found
lost_heard s a lost reply can next = record { node = can.node; next = next; sent = can.sent reply next }

-- if the world is as it was, the view that was found is the one before the call
found_same : (s : State) (a : View) (lost : LostCall) → IsServed lost.node s a → IsServed lost.node s lost.found → lost.found ≡ a
found_same s a lost before after = same_view s.history (front_of s lost.node) (front_of s lost.node) lost.found a refl after.holds before.holds

-- so each node's view is as it was
pub views_same : (views : ℕ → View) (n : ℕ) (next : View) (k : ℕ) → next ≡ views n → with_view views n next k ≡ views k
views_same views n next k same = by (n == k) refl
  where
    by : (b : Bool) → (n == k) ≡ b → cond b next (views k) ≡ views k
    by true e = subst (λ (m : ℕ). next ≡ views m) (same_node n k e) same
    by false e = refl

lost_legal : (s : State) (views : ℕ → View) (n : ℕ) (next : View) (turns : List Turn) (t : State) (ends : ℕ → View) → next ≡ views n → AreLegal s (with_view views n next) turns t ends → AreLegal s views turns t ends
lost_legal s views n next turns t ends same rest =
    record { legal = λ k here. subst (λ (view : View). LeadsTo k view (trail_at k turns) (ends k)) (views_same views n next k same) (rest.legal k here); taken = rest.taken }

same_served : (s : State) (views : ℕ → View) (n : ℕ) (next : View) → next ≡ views n → AreServed s views → AreServed s (with_view views n next)
same_served s views n next same served k here = subst (IsServed k s) (sym (views_same views n next k same)) (served k here)

-- By recursion on what happened

record AreKept (s : State) (views : ℕ → View) (happened : List Happening) (t : State) (ends : ℕ → View) : Type 0 where
  turns : List Turn
  legal : AreLegal s views turns t ends
  keeps : Keeps happened turns

-- a lost call is kept, if all that happened after it is kept
lost_kept : (s : State) (views : ℕ → View) (lost : LostCall) (mid : State) (happened : List Happening) (t : State) (ends : ℕ → View) → AreServed s views → CanBeLost s (views lost.node) lost
    → GoesOn s (views lost.node) lost mid
    → ((u : State) → AreServed u (with_view views lost.node lost.found) → HappenAll u (with_view views lost.node lost.found) happened t ends → AreKept u (with_view views lost.node lost.found) happened t ends)
    → HappenAll mid (with_view views lost.node lost.found) happened t ends → AreKept s views (Lost lost ∷ happened) t ends
lost_kept s views lost mid happened t ends served can on later goes = by on.moved
  where
    n : ℕ
    n = lost.node

    found : View
    found = lost.found

    by : (mid ≡ s) ⊎ IsReplied n s (views n) lost.asked lost.moment lost.frame found mid → AreKept s views (Lost lost ∷ happened) t ends
    by (inl still) =
        let same = found_same s (views n) lost (served n can.node) (subst (λ (u : State). IsServed n u found) still on.served) in
        let rest = later s (same_served s views n found same served) (subst (λ (u : State). HappenAll u (with_view views n found) happened t ends) still goes) in
        record { turns = rest.turns; legal = lost_legal s views n found rest.turns t ends same rest.legal; keeps = inl rest.keeps }
    by (inr (reply, next, follows)) =
        let turn = turn_of lost reply in
        let heard = lost_heard s (views n) lost reply can next in
        let meant = heard_meant s views turn found mid served heard follows in
        let rest = later mid (served_on s views n (event_of n lost.frame turn.entry) reply found mid served meant) goes in
        record {
          turns = turn ∷ rest.turns;
          legal = turn_legal s views turn found mid rest.turns t ends served heard follows rest.legal;
          keeps = inr (reply, (rest.turns, refl, rest.keeps));
        }

kept : (s : State) (views : ℕ → View) (happened : List Happening) (t : State) (ends : ℕ → View) → AreServed s views → HappenAll s views happened t ends → AreKept s views happened t ends
kept s views [] t ends served (same, same_ends) = record { turns = []; legal = record { legal = same_ends; taken = same }; keeps = refl }
kept s views (Heard turn ∷ happened) t ends served (mid, (next, (can, follows), rest)) =
    let meant = heard_meant s views turn next mid served can follows in
    let later = kept mid (with_view views turn.node next) happened t ends
    (served_on s views turn.node (event_of turn.node turn.frame turn.entry) turn.entry.reply next mid served meant) rest in
    record {
      turns = turn ∷ later.turns;
      legal = turn_legal s views turn next mid later.turns t ends served can follows later.legal;
      keeps = (later.turns, refl, later.keeps);
    }
kept s views (Lost lost ∷ happened) t ends served (mid, (next, (can, on, is), rest)) =
    lost_kept s views lost mid happened t ends served can on (λ u later goes. kept u (with_view views lost.node lost.found) happened t ends later goes)
    (subst (λ (view : View). HappenAll mid (with_view views lost.node view) happened t ends) is rest)

pub crashes_kept : (s t : State) (views ends : ℕ → View) (happened : List Happening) → AreTrailsWithCrashes s views happened t ends
    → (turns : List Turn) × Keeps happened turns × AreTrails s views turns t ends
crashes_kept s t views ends happened trails =
    let all = kept s views happened t ends trails.served trails.happen in
    (all.turns, all.keeps, record { world = trails.world; served = trails.served; legal = all.legal.legal; taken = all.legal.taken })

pub crashes_run : (s t : State) (views ends : ℕ → View) (happened : List Happening) → AreTrailsWithCrashes s views happened t ends
    → (turns : List Turn) × Keeps happened turns × AreOneRun s turns t ends
crashes_run s t views ends happened trails =
    let all = crashes_kept s t views ends happened trails in
    (all.0, all.1, one_run s t views ends all.0 all.2)

pub crashes_converge : (s t : State) (views ends : ℕ → View) (happened : List Happening) → AreTrailsWithCrashes s views happened t ends → AnswersConverge s views t ends
crashes_converge s t views ends happened trails =
    let all = crashes_kept s t views ends happened trails in
    answers_converge s t views ends all.0 all.2

-- What can come next does come

pub lost_goes_on : (s : State) (a : View) (lost : LostCall) → IsServed lost.node s a → CanBeLost s a lost → (t : State) × GoesOn s a lost t
lost_goes_on s a lost served can =
    let on = found_answer lost.node s a lost.found lost.asked lost.moment lost.frame served can.sent can.behind in
    (on.0, record { moved = on.1; served = on.2 })

pub one_played : (me : ℕ) (s : State) (a b : View) (entry : Entry) (frame : Arrival) → IsServed me s a → IsNext me a entry.call entry.moment entry.reply b → WasSent s frame entry.call entry.reply
    → (t : State) × IsPlayed me s a (Here entry frame ∷ []) t b
one_played me s a b entry frame served next sent =
    let went = entry_happens me s a b entry frame served next sent in
    (went.0, record { served = served; legal = (b, next, refl); happen = (sent, (went.0, went.1, refl)) })

pub one_trail : (s : State) (views : ℕ → View) (turn : Turn) (b : View) → AreServed s views → CanBeHeard s (views turn.node) turn b
    → (t : State) × AreTrails s views (turn ∷ []) t (with_view views turn.node b)
one_trail s views turn b served can =
    let went = entry_happens turn.node s (views turn.node) b turn.entry turn.frame (served turn.node can.node) can.next can.sent in
    let legal = turn_legal s views turn b went.0 [] went.0 (with_view views turn.node b) served can went.1 (record { legal = λ node is. refl; taken = refl }) in
    (went.0, record { world = (served turn.node can.node).world; served = served; legal = legal.legal; taken = legal.taken })
