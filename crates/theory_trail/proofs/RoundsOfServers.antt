-- From each state the servers can make a round: each is asked for a frame since nothing, and each
-- takes all these frames.
use Rattle.std.proofs.Common.{◌≡◌, ◌≤◌, ◌*◌, ◌-◌, ◌||◌, inl, inr, ◌==◌, ℕ, zero, suc, List, [], ◌∷◌, ◌++◌, Ok, refl, sym, ap, subst, ◌∙◌, Bool, true, false, cond, arith, Option, Some, length, min, replicate, slice_index}
use Rattle.std.proofs.lemmas.List.{length-replicate}
use Rattle.state_ids.specs.Fronts.{IsBelow, count, meet_fronts}
use Rattle.state_facts.specs.Lists.{In}
use Rattle.theory_history.specs.Histories.{History, IsClosed, facts}
use Rattle.theory_history.specs.ViewShape.{HasShape}
use Rattle.theory_history.specs.Views.{View}
use Rattle.theory_history.proofs.Basics.{same_or_not}
use Rattle.wire_frames.specs.Frames.{Frame, IsFrame, frame_of}
use Rattle.wire_frames.specs.Encoding.{encoding_as}
use Rattle.wire_frames.specs.Rules.{IsDelta}
use Rattle.wire_frames.specs.TakenFrames.{IsTaken}
use Rattle.wire_frames.specs.declared.version.Version.TheVariants.{Two}
use Rattle.wire_frames.proofs.FramesOfHistories.{some_view}
use Rattle.wire_frames.proofs.Grammar.{grammar_law}
use Rattle.wire_frames.proofs.HaveEncodings.{is_delta}
use Rattle.wire_frames.proofs.OfSets.{frame_stands}
use Rattle.wire_pulls.specs.PullBodies.{asked}
use Rattle.theory_progress.specs.Rounds.{may_enter}
use Rattle.theory_progress.proofs.FramesEnterNothing.{run_same}
use Rattle.script_world.specs.declared.event.Event.{Event}
use Rattle.script_world.specs.declared.event.Event.TheVariants.{Deliver, Send}
use Rattle.script_world.specs.Headline.{IsNode}
use Rattle.script_world.specs.Worlds.{IsWorld, SentFrame, State, front_of, nodes_of}
use Rattle.script_world.proofs.Moving.{frame_in}
use Rattle.state_book.specs.declared.calls.Call.{Call}
use Rattle.state_book.specs.declared.calls.Call.TheVariants.{Pull, Take}
use Rattle.state_book.specs.declared.calls.Entry.{Entry}
use Rattle.state_book.specs.declared.calls.Reply.{Reply}
use Rattle.state_book.specs.declared.calls.Reply.TheVariants.{Gave, Took}
use Rattle.state_book.specs.Next.{IsNext, Takes, pull_reply}
use Rattle.state_book.specs.Trails.{LeadsTo, entry}
use Rattle.theory_trail.specs.Crashes.{CanBeHeard, with_view}
use Rattle.theory_trail.specs.NodeTrails.{Follows, IsServed, IsTold, event_of}
use Rattle.theory_trail.specs.ServerRounds.{FitIntoFrames, HasCall, HasServerRound}
use Rattle.theory_trail.specs.Servers.{AreServed, TakeTurns, Turn, trail_at}
use Rattle.theory_trail.proofs.Crashing.{AreLegal, heard_meant, served_on, turn_legal, views_same}
use Rattle.theory_trail.proofs.KeptFrames.{step_told}
use Rattle.theory_trail.proofs.ManyServers.{same_test}
use Rattle.theory_trail.proofs.Played.{IsMeant, entry_happens}

-- Turns behind turns

leads_on : (me : ℕ) (a b c : View) (xs ys : List Entry) → LeadsTo me a xs b → LeadsTo me b ys c → LeadsTo me a (xs ++ ys) c
leads_on me a b c [] ys one other = subst (λ (v : View). LeadsTo me v ys c) one other
leads_on me a b c (x ∷ xs) ys (mid, next, rest) other = (mid, next, leads_on me mid b c xs ys rest other)

trails_on : (k : ℕ) (xs ys : List Turn) → trail_at k (xs ++ ys) ≡ trail_at k xs ++ trail_at k ys
trails_on k [] ys = refl
trails_on k (x ∷ xs) ys = by (x.node == k) (trails_on k xs ys)
  where
    by : (b : Bool) → trail_at k (xs ++ ys) ≡ trail_at k xs ++ trail_at k ys → cond b (x.entry ∷ trail_at k (xs ++ ys)) (trail_at k (xs ++ ys)) ≡ cond b (x.entry ∷ trail_at k xs) (trail_at k xs) ++ trail_at k ys
    by true e = ap (λ (es : List Entry). x.entry ∷ es) e
    by false e = e

takes_on : (s t u : State) (xs ys : List Turn) → TakeTurns s xs t → TakeTurns t ys u → TakeTurns s (xs ++ ys) u
takes_on s t u [] ys one other = subst (λ (v : State). TakeTurns v ys u) one other
takes_on s t u (x ∷ xs) ys (is, sent, (mid, follows, rest)) other = (is, sent, (mid, follows, takes_on mid t u xs ys rest other))

in_before : (e : Entry) (xs ys : List Entry) → In e xs → In e (xs ++ ys)
in_before e [] ys there = absurd there
in_before e (x ∷ xs) ys (inl same) = inl same
in_before e (x ∷ xs) ys (inr later) = inr (in_before e xs ys later)

in_behind : (e : Entry) (xs ys : List Entry) → In e ys → In e (xs ++ ys)
in_behind e [] ys there = there
in_behind e (x ∷ xs) ys there = inr (in_behind e xs ys there)

-- the entry of a turn is in its node's trail
turn_there : (turn : Turn) → In turn.entry (trail_at turn.node (turn ∷ []))
turn_there turn = subst (λ (b : Bool). In turn.entry (cond b (turn.entry ∷ []) [])) (sym (same_test turn.node)) (inl refl)

-- a body that asks for a frame since nothing, of up to eight nodes
abbrev for_all : ℕ → List ℕ
for_all n = n ∷ replicate (8 * n) 0

asks_for_all : (n : ℕ) → 1 ≤ n → n ≤ 8 → asked n (for_all n) ≡ Ok (replicate n 0)
asks_for_all zero some few = absurd (omega (arith, some))
asks_for_all (suc zero) some few = refl
asks_for_all (suc (suc zero)) some few = refl
asks_for_all (suc (suc (suc zero))) some few = refl
asks_for_all (suc (suc (suc (suc zero)))) some few = refl
asks_for_all (suc (suc (suc (suc (suc zero))))) some few = refl
asks_for_all (suc (suc (suc (suc (suc (suc zero)))))) some few = refl
asks_for_all (suc (suc (suc (suc (suc (suc (suc zero))))))) some few = refl
asks_for_all (suc (suc (suc (suc (suc (suc (suc (suc zero)))))))) some few = refl
asks_for_all (suc (suc (suc (suc (suc (suc (suc (suc (suc n))))))))) some few = absurd (omega (arith, few))

-- the common part of the front of nothing and any front is the front of nothing
meets_nothing : (n : ℕ) (v : List ℕ) → length v ≡ n → meet_fronts (replicate n 0) v ≡ replicate n 0
meets_nothing zero [] e = refl
meets_nothing zero (x ∷ v) e = absurd cc
meets_nothing (suc n) [] e = absurd cc
meets_nothing (suc n) (x ∷ v) e = let less : min 0 x ≡ 0 = omega arith in rw less (ap (λ (l : List ℕ). 0 ∷ l) (meets_nothing n v (omega (arith, e))))

nothing_below : (n : ℕ) (v : List ℕ) → IsBelow (replicate n 0) v
nothing_below n v node = let none : count (replicate n 0) node ≡ 0 = none_at n (node - 1) in omega (arith, none)
  where
    none_at : (k i : ℕ) → slice_index (replicate k 0) i ≡ 0
    none_at zero i = refl
    none_at (suc k) zero = refl
    none_at (suc k) (suc i) = none_at k i

module _ (s : State) (views : ℕ → View) where
  -- turns that lead on from here and enter nothing
  record HasTurns : Type 0 where
    turns : List Turn
    state : State
    ends : ℕ → View
    legal : AreLegal s views turns state ends
    served : AreServed state ends
    history : state.history ≡ s.history

  node_there : (p : HasTurns) (k : ℕ) → IsNode s k → IsNode p.state k
  node_there p k is = record { some = is.some; there = omega (arith, is.there, ap (λ (h : History). length h) p.history) }

  -- the second has all calls of the first, and its frames
  record IsFurther (p q : HasTurns) : Type 0 where
    calls : (k : ℕ) (call : Call) (reply : Reply) → HasCall (trail_at k p.turns) call reply → HasCall (trail_at k q.turns) call reply
    told : (number : ℕ) (frame : Frame) → IsTold p.state number frame → IsTold q.state number frame

  same_turns : (p : HasTurns) → IsFurther p p
  same_turns p = record { calls = λ k call reply has. has; told = λ number frame is. is }

  further_on : (p q r : HasTurns) → IsFurther p q → IsFurther q r → IsFurther p r
  further_on p q r one other = record { calls = λ k call reply has. other.calls k call reply (one.calls k call reply has); told = λ number frame is. other.told number frame (one.told number frame is) }

  -- one more turn, which enters nothing
  record HasMore (p : HasTurns) (turn : Turn) (b : View) : Type 0 where
    next : HasTurns
    further : IsFurther p next
    has : HasCall (trail_at turn.node next.turns) turn.entry.call turn.entry.reply
    ends : (k : ℕ) → next.ends k ≡ with_view p.ends turn.node b k
    meant : IsMeant turn.node p.state (event_of turn.node turn.frame turn.entry) turn.entry.reply next.state b

  more : (p : HasTurns) (turn : Turn) (event : Event) (b : View) → IsWorld p.state → CanBeHeard p.state (p.ends turn.node) turn b → event_of turn.node turn.frame turn.entry ≡ Some event → may_enter event ≡ false → HasMore p turn b
  more p turn event b world can is quiet =
      record {
        next = record {
          turns = p.turns ++ turn ∷ [];
          state = t;
          ends = with_view p.ends turn.node b;
          legal = record {
            legal = λ k here. subst (λ (es : List Entry). LeadsTo k (views k) es (with_view p.ends turn.node b k)) (sym (trails_on k p.turns (turn ∷ [])))
                (leads_on k (views k) (p.ends k) (with_view p.ends turn.node b k) (trail_at k p.turns) (trail_at k (turn ∷ [])) (p.legal.legal k here) (last.legal k (node_there p k here)));
            taken = takes_on s p.state t p.turns (turn ∷ []) p.legal.taken last.taken;
          };
          served = served_on p.state p.ends turn.node (event_of turn.node turn.frame turn.entry) turn.entry.reply b t p.served meant;
          history = run_same p.state t (event ∷ []) (step.0 ∷ []) (t, step.1, refl) (ap (λ (x : Bool). x || false) quiet) ∙ p.history;
        };
        further = record {
          calls = λ k call reply has. (has.0, subst (λ (es : List Entry). In (entry call has.0 reply) es) (sym (trails_on k p.turns (turn ∷ []))) (in_before (entry call has.0 reply) (trail_at k p.turns) (trail_at k (turn ∷ [])) has.1));
          told = λ number frame is. step_told p.state t event step.0 number frame world step.1 is;
        };
        has = (turn.entry.moment, subst (λ (es : List Entry). In turn.entry es) (sym (trails_on turn.node p.turns (turn ∷ []))) (in_behind turn.entry (trail_at turn.node p.turns) (trail_at turn.node (turn ∷ [])) (turn_there turn)));
        ends = λ k. refl;
        meant = meant;
      }
    where
      went : (u : State) × Follows p.state (event_of turn.node turn.frame turn.entry) u
      went = entry_happens turn.node p.state (p.ends turn.node) b turn.entry turn.frame (p.served turn.node can.node) can.next can.sent

      t : State
      t = went.0

      meant : IsMeant turn.node p.state (event_of turn.node turn.frame turn.entry) turn.entry.reply t b
      meant = heard_meant p.state p.ends turn b t p.served can went.1

      step : Follows p.state (Some event) t
      step = subst (λ (o : Option Event). Follows p.state o t) is went.1

      last : AreLegal p.state p.ends (turn ∷ []) t (with_view p.ends turn.node b)
      last = turn_legal p.state p.ends turn b t [] t (with_view p.ends turn.node b) p.served can went.1 (record { legal = λ k here. refl; taken = refl })

  -- What nodes give

  -- the node gave a frame since nothing
  record IsGiven (p : HasTurns) (from : ℕ) : Type 0 where
    frame : Frame
    asked_for : List ℕ
    gave : HasCall (trail_at from p.turns) (Pull asked_for) (Gave frame)
    number : ℕ
    told : IsTold p.state number frame
    rules : IsDelta frame
    base : frame.base ≡ replicate (nodes_of s) 0

  given_still : (p q : HasTurns) (from : ℕ) → IsFurther p q → IsGiven p from → IsGiven q from
  given_still p q from further given =
      record {
        frame = given.frame;
        asked_for = given.asked_for;
        gave = further.calls from (Pull given.asked_for) (Gave given.frame) given.gave;
        number = given.number;
        told = further.told given.number given.frame given.told;
        rules = given.rules;
        base = given.base;
      }

  -- each of the first n nodes gave a frame, and their views are as they were
  record HaveGiven (n : ℕ) : Type 0 where
    now : HasTurns
    same : (k : ℕ) → now.ends k ≡ views k
    each : (from : ℕ) → 1 ≤ from → from ≤ n → IsGiven now from

  abbrev given_by : ℕ → Frame
  given_by n = frame_of (views n) (replicate (nodes_of s) 0)

  abbrev pull_of : ℕ → Turn
  pull_of n = record { node = n; entry = entry (Pull (for_all (nodes_of s))) 0 (Gave (given_by n)); frame = record { number = 0; version = Two } }

  module _ (served : AreServed s views) (few : nodes_of s ≤ 8) (fit : FitIntoFrames s views) where
    counts : (k : ℕ) → IsNode s k → length (views k).front ≡ nodes_of s
    counts k is = ap (λ (v : List ℕ). length v) (served k is).holds.counts ∙ ((served k is).world.current k is.some is.there).closed.nodes

    -- a pull is answered with such a frame
    gives : (n : ℕ) → IsNode s n → (a : View) → a ≡ views n → IsNext n a (Pull (for_all (nodes_of s))) 0 (Gave (given_by n)) a
    gives n is a same =
        subst (λ (v : View). IsNext n v (Pull (for_all (nodes_of s))) 0 (Gave (given_by n)) v) (sym same) (
          ap (λ (base : List ℕ). Gave (frame_of (views n) base)) (sym (meets_nothing (nodes_of s) (views n).front (counts n is)))
              ∙ ap (pull_reply (views n)) (sym (asks_for_all (nodes_of s) (omega (arith, is.some, is.there)) few))
              ∙ ap (λ (k : ℕ). pull_reply (views n) (asked k (for_all (nodes_of s)))) (sym (counts n is)),
          refl,
        )

    rules : (n : ℕ) → IsNode s n → IsDelta (given_by n)
    rules n is =
        let world = (served n is).world in
        is_delta (given_by n) (fit n is)
        (grammar_law s.history (front_of s n) (replicate (nodes_of s) 0) (views n) world.lawful (world.current n is.some is.there).closed (served n is).holds.stands
        (length-replicate {A = ℕ} (nodes_of s) 0 ∙ sym (counts n is)) (nothing_below (nodes_of s) (views n).front))

    -- one more node gives a frame
    gives_more : (n : ℕ) → IsNode s (suc n) → HaveGiven n → HaveGiven (suc n)
    gives_more n is before =
        record {
          now = one.next;
          same = λ k. one.ends k ∙ views_same p.ends (suc n) (p.ends (suc n)) k refl ∙ before.same k;
          each = λ from some few. elim (same_or_not from (suc n)) [
            | inl same ↦ subst (IsGiven one.next) (sym same) (record {
              frame = given_by (suc n);
              asked_for = for_all (nodes_of s);
              gave = one.has;
              number = told.0;
              told = told.1;
              rules = rules (suc n) is;
              base = refl;
            })
            | inr other ↦ given_still p one.next from one.further (before.each from some (omega (arith, few, other)))
          ];
        }
      where
        p : HasTurns
        p = before.now

        here : IsNode p.state (suc n)
        here = node_there p (suc n) is

        next : IsNext (suc n) (p.ends (suc n)) (Pull (for_all (nodes_of s))) 0 (Gave (given_by (suc n))) (p.ends (suc n))
        next = gives (suc n) is (p.ends (suc n)) (before.same (suc n))

        one : HasMore p (pull_of (suc n)) (p.ends (suc n))
        one = more p (pull_of (suc n)) (Send (suc n) (replicate (nodes_of s) 0) Two) (p.ends (suc n)) (p.served (suc n) here).world (record { node = here; next = next; sent = tt }) refl refl

        told : (number : ℕ) × IsTold one.next.state number (given_by (suc n))
        told = let said = one.meant.goes_on [] [] one.next.state refl in (said.2.2.0, said.2.2.2)

    all_give : (n : ℕ) → n ≤ nodes_of s → HaveGiven n
    all_give zero few = record {
      now = record { turns = []; state = s; ends = views; legal = record { legal = λ k here. refl; taken = refl }; served = served; history = refl };
      same = λ k. refl;
      each = λ from some none. absurd (omega (arith, some, none));
    }
    all_give (suc n) few = gives_more n (record { some = omega arith; there = few }) (all_give n (omega (arith, few)))

    -- What nodes take

    abbrev take_of : (to : ℕ) → Frame → (number : ℕ) → Turn
    take_of to frame number = record { node = to; entry = entry (Take frame) 0 Took; frame = record { number = number; version = Two } }

    -- a frame that was given can be taken
    can_take : (p : HasTurns) (from to : ℕ) → (given : IsGiven p from) → IsNode p.state to → (b : View) × CanBeHeard p.state (p.ends to) (take_of to given.frame given.number) b
    can_take p from to given is = (some.0, record { node = is; next = inl (refl, takes); sent = (given.told, given.rules) })
      where
        mine : IsServed to p.state (p.ends to)
        mine = p.served to is

        sent : SentFrame
        sent = given.told.sent

        closed : IsClosed p.state.history (front_of p.state to)
        closed = (mine.world.current to is.some is.there).closed

        shut : IsClosed p.state.history sent.front
        shut = (mine.world.sent sent (frame_in p.state given.number sent given.told.numbered)).closed

        base : sent.base ≡ replicate (nodes_of s) 0
        base = sym (ap (λ (f : Frame). f.base) given.told.told) ∙ given.base

        nodes : length (p.ends to).front ≡ length given.frame.front
        nodes =
            ap (λ (v : List ℕ). length v) mine.holds.counts ∙ closed.nodes ∙ sym shut.nodes
            ∙ ap (λ (v : List ℕ). length v) (sym given.told.sender.counts) ∙ ap (λ (f : Frame). length f.front) (sym given.told.told)

        some : (c : View) × IsTaken (p.ends to) given.frame c × HasShape c
        some =
            some_view p.state.history (front_of p.state to) sent.front sent.base (p.ends to) given.frame mine.world.lawful closed shut mine.holds.stands
            (subst (λ (f : Frame). IsFrame (facts p.state.history sent.front) sent.base f) (sym given.told.told)
            (frame_stands (facts p.state.history sent.front) given.told.view sent.base given.told.sender.stands))
            nodes (subst (λ (v : List ℕ). IsBelow v (p.ends to).front) (sym base) (nothing_below (nodes_of s) (p.ends to).front))

        takes : Takes (p.ends to) given.frame some.0
        takes =
            record {
              reached = subst (λ (v : List ℕ). IsBelow v (p.ends to).front) (sym given.base) (nothing_below (nodes_of s) (p.ends to).front);
              taken = some.1;
              shape = some.2;
            }

    -- one node gave a frame, and another took it
    record IsToldTo (p : HasTurns) (from to : ℕ) : Type 0 where
      frame : Frame
      asked_for : List ℕ
      gave : HasCall (trail_at from p.turns) (Pull asked_for) (Gave frame)
      took : HasCall (trail_at to p.turns) (Take frame) Took

    told_still : (p q : HasTurns) (from to : ℕ) → IsFurther p q → IsToldTo p from to → IsToldTo q from to
    told_still p q from to further told =
        record {
          frame = told.frame;
          asked_for = told.asked_for;
          gave = further.calls from (Pull told.asked_for) (Gave told.frame) told.gave;
          took = further.calls to (Take told.frame) Took told.took;
        }

    abbrev AllGiven : HasTurns → Type 0
    AllGiven p = (from : ℕ) → 1 ≤ from → from ≤ nodes_of s → IsGiven p from

    -- one node took the frames of the first n nodes
    record HasTaken (p : HasTurns) (to n : ℕ) : Type 0 where
      now : HasTurns
      further : IsFurther p now
      each : (from : ℕ) → 1 ≤ from → from ≤ n → IsToldTo now from to

    takes_more : (p : HasTurns) (to n : ℕ) → AllGiven p → IsNode s to → suc n ≤ nodes_of s → HasTaken p to n → HasTaken p to (suc n)
    takes_more p to n given is few before =
        record {
          now = one.next;
          further = further_on p q one.next before.further one.further;
          each = λ from some few. elim (same_or_not from (suc n)) [
            | inl same ↦ subst (λ (k : ℕ). IsToldTo one.next k to) (sym same) (record {
              frame = last.frame;
              asked_for = last.asked_for;
              gave = one.further.calls (suc n) (Pull last.asked_for) (Gave last.frame) last.gave;
              took = one.has;
            })
            | inr other ↦ told_still q one.next from to one.further (before.each from some (omega (arith, few, other)))
          ];
        }
      where
        q : HasTurns
        q = before.now

        last : IsGiven q (suc n)
        last = given_still p q (suc n) before.further (given (suc n) (omega arith) few)

        can : (b : View) × CanBeHeard q.state (q.ends to) (take_of to last.frame last.number) b
        can = can_take q (suc n) to last (node_there q to is)

        one : HasMore q (take_of to last.frame last.number) can.0
        one = more q (take_of to last.frame last.number) (Deliver last.number to (length (encoding_as Two last.frame))) can.0 (q.served to (node_there q to is)).world can.1 refl refl

    takes_all : (p : HasTurns) (to n : ℕ) → AllGiven p → IsNode s to → n ≤ nodes_of s → HasTaken p to n
    takes_all p to zero given is few = record { now = p; further = same_turns p; each = λ from some none. absurd (omega (arith, some, none)) }
    takes_all p to (suc n) given is few = takes_more p to n given is few (takes_all p to n given is (omega (arith, few)))

    -- the first n nodes took the frames of all
    record HaveHeard (p : HasTurns) (n : ℕ) : Type 0 where
      now : HasTurns
      further : IsFurther p now
      each : (from to : ℕ) → 1 ≤ from → from ≤ nodes_of s → 1 ≤ to → to ≤ n → IsToldTo now from to

    hear_all : (p : HasTurns) (n : ℕ) → AllGiven p → n ≤ nodes_of s → HaveHeard p n
    hear_all p zero given few = record { now = p; further = same_turns p; each = λ from to some there one none. absurd (omega (arith, one, none)) }
    hear_all p (suc n) given few =
        let before = hear_all p n given (omega (arith, few)) in
        let last = takes_all before.now (suc n) (nodes_of s) (λ from some there. given_still p before.now from before.further (given from some there)) (record { some = omega arith; there = few }) (omega arith) in
        record {
          now = last.now;
          further = further_on p before.now last.now before.further last.further;
          each = λ from to some there one few. elim (same_or_not to (suc n)) [
            | inl same ↦ subst (λ (k : ℕ). IsToldTo last.now from k) (sym same) (last.each from some there)
            | inr other ↦ told_still before.now last.now from to last.further (before.each from to some there one (omega (arith, few, other)))
          ];
        }

    pub server_round : IsWorld s → HasServerRound s views
    server_round world =
        let gave = all_give (nodes_of s) (omega arith) in
        let heard = hear_all gave.now (nodes_of s) gave.each (omega arith) in
        record {
          turns = heard.now.turns;
          state = heard.now.state;
          ends = heard.now.ends;
          trails = record { world = world; served = served; legal = heard.now.legal.legal; taken = heard.now.legal.taken };
          round = λ from to one other apart.
              let told = heard.each from to one.some one.there other.some other.there in
              record { frame = told.frame; asked = told.asked_for; gave = told.gave; heard = inl told.took };
          still = heard.now.history;
        }

pub server_round_exists : (s : State) (views : ℕ → View) → IsWorld s → AreServed s views → nodes_of s ≤ 8 → FitIntoFrames s views → HasServerRound s views
server_round_exists s views world served few fit = server_round s views served few fit world
