-- What a step may do to a state, and that each such move leaves a world.
use Rattle.std.proofs.Common.{◌≡◌, inl, inr, ◌≤◌, ◌<◌, ◌-◌, ◌==◌, ℕ, zero, suc, List, [], ◌∷◌, ◌++◌, refl, sym, ap, subst, ◌∙◌, Bool, true, false, cond, arith, Option, None, Some, get_or, get_or-set_other, get_or-set_same, length, nat_le, replicate, slice_get, slice_set}
use Rattle.std.proofs.lemmas.Bool.Decides.{nat_tests}
use Rattle.std.proofs.lemmas.List.{length-replicate, length-set}
use Rattle.state_ids.specs.Fronts.{IsBelow, join_fronts}
use Rattle.state_ids.specs.Ids.{Id}
use Rattle.state_ids.specs.declared.outcome.Verdict.TheVariants.{Cancel}
use Rattle.state_facts.specs.Lists.{In}
use Rattle.state_facts.proofs.Membership.{in_append}
use Rattle.state_forest.proofs.Bools.{and_left, and_right}
use Rattle.state_forest.proofs.GiversOfNumbers.{get_in}
use Rattle.state_facts.specs.declared.command.Command.{Command}
use Rattle.state_facts.specs.declared.command.Command.TheVariants.{Decide}
use Rattle.theory_history.specs.Histories.{Entry, History, entries_of, facts, with_entry}
use Rattle.theory_history.specs.NodeViews.{IsCurrent, entry_for}
use Rattle.theory_history.specs.Changes.{raised}
use Rattle.theory_history.specs.Replies.{Judgement, Denied, AlreadyKnown, Accepted, judge}
use Rattle.theory_history.proofs.Basics.{same_or_not}
use Rattle.theory_history.proofs.OneMoreEntry.{below_raised, closed_with, lawful_with, length_with, own_with, accepted_lawful}
use Rattle.theory_history.proofs.PatchedHistories.{empty_view_in}
use Rattle.theory_history.proofs.JoinedFronts.{closed_join, count_join}
use Rattle.wire_frames.specs.declared.version.Version.{Version}
use Rattle.script_world.specs.declared.event.Event.{Event}
use Rattle.script_world.specs.declared.event.Event.TheVariants.{Act, Deliver, Restart, Send, Tick}
use Rattle.script_world.specs.declared.event.EventReply.{EventReply}
use Rattle.script_world.specs.Headline.{IsNode}
use Rattle.script_world.specs.Worlds.{Acts, Comes, Expires, SentFrame, IfNode, IsSent, IsWorld, Runs, Sends, State, Steps, Takes, Ticks, after_command, frame_at, front_of, if_taken, is_node, nodes_of, set_of, start, with_command, with_frame, with_front}
use Rattle.script_world.proofs.GrowingHistories.{IsGrown, grown_more, grown_none, grown_with, sent_still}

-- nothing changes, a node enters a command that it accepts, a node joins the front of a frame, or a node sends a frame
pub data IsMove (s t : State) : Type 0 where
  Still : t ≡ s → IsMove s t
  Entered : (node : ℕ) (c : Command) → IsNode s node → judge (set_of s node) (front_of s node) node c ≡ Accepted → t ≡ with_command s node c → IsMove s t
  Joined : (node : ℕ) (frame : SentFrame) → IsNode s node → In frame s.sent → t ≡ with_front s node (join_fronts (front_of s node) frame.front) → IsMove s t
  Posted : (version : Version) (node : ℕ) (base : List ℕ) → IsNode s node → length base ≡ nodes_of s → IsBelow base (front_of s node)
      → t ≡ with_frame s version node base → IsMove s t

-- Each step is such a move

pub node_is : (s : State) (node : ℕ) → is_node s node ≡ true → IsNode s node
node_is s node e =
    record {
      some = le 1 node (and_left (nat_le 1 node) (nat_le node (nodes_of s)) e);
      there = le node (nodes_of s) (and_right (nat_le 1 node) (nat_le node (nodes_of s)) e);
    }
  where
    le : (a b : ℕ) → nat_le a b ≡ true → a ≤ b
    le a b h = grind (arith, nat_tests)

if_node_moves : (b : Bool) (s t : State) (node : ℕ) (happens : Type 0) (reply : EventReply) → is_node s node ≡ b → (IsNode s node → happens → IsMove s t) → IfNode b s happens reply t → IsMove s t
if_node_moves true s t node happens reply e by h = by (node_is s node e) h
if_node_moves false s t node happens reply e by h = Still h.1

after_moves : (s t : State) (node : ℕ) (c : Command) → IsNode s node → t ≡ after_command s node c → IsMove s t
after_moves s t node c is e = by (judge (set_of s node) (front_of s node) node c) refl e
  where
    by : (j : Judgement) → judge (set_of s node) (front_of s node) node c ≡ j → t ≡ if_taken j s (with_command s node c) → IsMove s t
    by (Denied r) j k = Still k
    by AlreadyKnown j k = Still k
    by Accepted j k = Entered node c is j k

sends_move : (s t : State) (node : ℕ) (base : List ℕ) (version : Version) (reply : EventReply) → IsNode s node → Sends s node base version reply t → IsMove s t
sends_move s t node base version reply is (inl h) = Still h.1.1
sends_move s t node base version reply is (inr (inl h)) = Still h.2.1
sends_move s t node base version reply is (inr (inr (inl h))) = Still h.3.1
sends_move s t node base version reply is (inr (inr (inr h))) = Posted version node base is h.0 h.1 h.4

takes_move : (s t : State) (node : ℕ) (frame : SentFrame) (bytes : List ℕ) (kept : ℕ) (reply : EventReply) → IsNode s node → In frame s.sent → Takes s node frame bytes kept reply t → IsMove s t
takes_move s t node frame bytes kept reply is m (inl h) = Still h.1.1
takes_move s t node frame bytes kept reply is m (inr (inl h)) = Still h.1.2.1
takes_move s t node frame bytes kept reply is m (inr (inr (inl h))) = Still h.2.1
takes_move s t node frame bytes kept reply is m (inr (inr (inr h))) = Joined node frame is m h.3

pub frame_in : (s : State) (number : ℕ) (frame : SentFrame) → frame_at s number ≡ Some frame → In frame s.sent
frame_in s number frame e = by (number == 0) e
  where
    by : (b : Bool) → cond b None (slice_get s.sent (number - 1)) ≡ Some frame → In frame s.sent
    by true e = absurd cc
    by false e = get_in s.sent (number - 1) frame e

comes_move : (s t : State) (node number kept : ℕ) (found : Option SentFrame) (reply : EventReply) → IsNode s node → frame_at s number ≡ found → Comes s node found kept reply t → IsMove s t
comes_move s t node number kept None reply is e h = Still h.1
comes_move s t node number kept (Some frame) reply is e h = takes_move s t node frame h.0 kept reply is (frame_in s number frame e) h.2

expires_move : (s t : State) (node : ℕ) (found : Option Id) (reply : EventReply) → IsNode s node → Expires s node found reply t → IsMove s t
expires_move s t node None reply is h = Still h.1
expires_move s t node (Some l) reply is h = after_moves s t node (Decide l Cancel) is h.1

pub step_moves : (s t : State) (event : Event) (reply : EventReply) → Steps s event reply t → IsMove s t
step_moves s t (Act node c) reply h =
    if_node_moves (is_node s node) s t node (Acts s node c reply t) reply refl (λ is k. after_moves s t node c is k.1) h
step_moves s t (Send node base version) reply h =
    if_node_moves (is_node s node) s t node (Sends s node base version reply t) reply refl (λ is k. sends_move s t node base version reply is k) h
step_moves s t (Deliver number node kept) reply h =
    if_node_moves (is_node s node) s t node (Comes s node (frame_at s number) kept reply t) reply refl
    (λ is k. comes_move s t node number kept (frame_at s number) reply is refl k) h
step_moves s t (Restart node) reply h =
    if_node_moves (is_node s node) s t node _ reply refl (λ is k. Still k.1) h
step_moves s t (Tick node now) reply h =
    if_node_moves (is_node s node) s t node (Ticks s node now reply t) reply refl (λ is k. expires_move s t node k.0 reply is k.2) h

-- Each move leaves a world

-- what is kept from one state to the next
pub record IsKeptBy (s t : State) : Type 0 where
  pub world : IsWorld t
  pub grown : IsGrown s.history t.history
  pub risen : (node : ℕ) → IsNode s node → IsBelow (front_of s node) (front_of t node)

pub kept_still : (s : State) → IsWorld s → IsKeptBy s s
kept_still s w = record { world = w; grown = grown_none s.history; risen = λ node is n. omega arith }

-- one front is changed, and it rises
risen_at : (fronts : List (List ℕ)) (place : ℕ) (new : List ℕ) → place < length fronts → IsBelow (get_or fronts place []) new
    → (other : ℕ) → IsBelow (get_or fronts other []) (get_or (slice_set fronts place new) other [])
risen_at fronts place new at up other = elim (same_or_not other place) [
  | inl same ↦
      subst (λ (k : ℕ). IsBelow (get_or fronts k []) (get_or (slice_set fronts place new) k [])) (sym same)
      (subst (IsBelow (get_or fronts place [])) (sym (get_or-set_same fronts place new [] at)) up)
  | inr apart ↦ subst (IsBelow (get_or fronts other [])) (sym (get_or-set_other fronts place other new [] apart)) (λ n. omega arith)
]

-- a node enters a command that it accepts
pub kept_entered : (s : State) (node : ℕ) (c : Command) → IsWorld s → IsNode s node → judge (set_of s node) (front_of s node) node c ≡ Accepted → IsKeptBy s (with_command s node c)
kept_entered s node c w is taken =
    record {
      world = record {
        lawful = lawful_with h v node e is.some is.there mine.closed mine.own w.lawful refl (accepted_lawful (facts h v) v node c taken);
        nodes = length-set s.fronts (node - 1) (raised v node) ∙ w.nodes ∙ sym (length_with h node e);
        current = λ n some there. current n some (omega (arith, there, length_with h node e));
        sent = λ frame m. sent_still h longer grown frame (w.sent frame m);
      };
      grown = grown;
      risen = λ n there. risen_at s.fronts (node - 1) (raised v node) at (below_raised v node) (n - 1);
    }
  where
    h : History
    h = s.history

    v : List ℕ
    v = front_of s node

    e : Entry
    e = entry_for h v c

    longer : History
    longer = with_entry h node e

    mine : IsCurrent h node v
    mine = w.current node is.some is.there

    grown : IsGrown h longer
    grown = grown_with h node e is.some is.there

    here : IsCurrent longer node (raised v node)
    here =
        record {
          some = is.some;
          there = omega (arith, is.there, length_with h node e);
          closed = closed_with h v node e is.some is.there mine.closed mine.own refl;
          own = own_with h v node e is.some is.there mine.closed mine.own;
        }

    at : node - 1 < length s.fronts
    at = omega (arith, is.some, is.there, w.nodes)

    current : (n : ℕ) → 1 ≤ n → n ≤ length h → IsCurrent longer n (get_or (slice_set s.fronts (node - 1) (raised v node)) (n - 1) [])
    current n some there = elim (same_or_not n node) [
      | inl same ↦
          subst (λ (k : ℕ). IsCurrent longer k (get_or (slice_set s.fronts (node - 1) (raised v node)) (k - 1) [])) (sym same)
          (subst (IsCurrent longer node) (sym (get_or-set_same s.fronts (node - 1) (raised v node) [] at)) here)
      | inr other ↦
          let apart : n - 1 ≡ node - 1 → ⊥ = (λ q. other (omega (arith, q, some, is.some))) in
          let was = w.current n some there in
          subst (IsCurrent longer n) (sym (get_or-set_other s.fronts (node - 1) (n - 1) (raised v node) [] apart))
          (record {
            some = some;
            there = omega (arith, there, length_with h node e);
            closed = grown.closed (front_of s n) was.closed;
            own = was.own ∙ ap (λ (es : List Entry). length es) (sym (get_or-set_other h (node - 1) (n - 1) (entries_of h node ++ e ∷ []) [] apart));
          })
    ]

-- a node joins the front of a frame
pub kept_joined : (s : State) (node : ℕ) (frame : SentFrame) → IsWorld s → IsNode s node → In frame s.sent → IsKeptBy s (with_front s node (join_fronts (front_of s node) frame.front))
kept_joined s node frame w is m =
    record {
      world = record {
        lawful = w.lawful;
        nodes = length-set s.fronts (node - 1) both ∙ w.nodes;
        current = current;
        sent = w.sent;
      };
      grown = grown_none h;
      risen = λ n there. risen_at s.fronts (node - 1) both at (λ k. omega (arith, count_join v frame.front k)) (n - 1);
    }
  where
    h : History
    h = s.history

    v : List ℕ
    v = front_of s node

    both : List ℕ
    both = join_fronts v frame.front

    mine : IsCurrent h node v
    mine = w.current node is.some is.there

    from : IsSent h frame
    from = w.sent frame m

    here : IsCurrent h node both
    here =
        record {
          some = is.some;
          there = is.there;
          closed = closed_join h v frame.front mine.closed from.closed;
          own = omega (arith, count_join v frame.front node, mine.own, from.closed.within node);
        }

    at : node - 1 < length s.fronts
    at = omega (arith, is.some, is.there, w.nodes)

    current : (n : ℕ) → 1 ≤ n → n ≤ length h → IsCurrent h n (get_or (slice_set s.fronts (node - 1) both) (n - 1) [])
    current n some there = elim (same_or_not n node) [
      | inl same ↦
          subst (λ (k : ℕ). IsCurrent h k (get_or (slice_set s.fronts (node - 1) both) (k - 1) [])) (sym same)
          (subst (IsCurrent h node) (sym (get_or-set_same s.fronts (node - 1) both [] at)) here)
      | inr other ↦
          let apart : n - 1 ≡ node - 1 → ⊥ = (λ q. other (omega (arith, q, some, is.some))) in
          subst (IsCurrent h n) (sym (get_or-set_other s.fronts (node - 1) (n - 1) both [] apart)) (w.current n some there)
    ]

-- a node sends a frame
pub kept_posted : (s : State) (version : Version) (node : ℕ) (base : List ℕ) → IsWorld s → IsNode s node → length base ≡ nodes_of s → IsBelow base (front_of s node)
    → IsKeptBy s (with_frame s version node base)
kept_posted s version node base w is nodes below =
    record {
      world = record {
        lawful = w.lawful;
        nodes = w.nodes;
        current = w.current;
        sent = λ frame m. elim (in_append s.sent (added ∷ []) frame m) [
          | inl old ↦ w.sent frame old
          | inr (inl new) ↦ subst (IsSent s.history) (sym new) fresh
          | inr (inr none) ↦ absurd none
        ];
      };
      grown = grown_none s.history;
      risen = λ n there k. omega arith;
    }
  where
    added : SentFrame
    added = record { version = version; base = base; front = front_of s node }

    fresh : IsSent s.history added
    fresh = record { closed = (w.current node is.some is.there).closed; below = below; nodes = nodes }

pub move_keeps : (s t : State) → IsWorld s → IsMove s t → IsKeptBy s t
move_keeps s t w (Still e) = subst (IsKeptBy s) (sym e) (kept_still s w)
move_keeps s t w (Entered node c is taken e) = subst (IsKeptBy s) (sym e) (kept_entered s node c w is taken)
move_keeps s t w (Joined node frame is m e) = subst (IsKeptBy s) (sym e) (kept_joined s node frame w is m)
move_keeps s t w (Posted version node base is nodes below e) = subst (IsKeptBy s) (sym e) (kept_posted s version node base w is nodes below)

pub step_keeps : (s t : State) (event : Event) (reply : EventReply) → IsWorld s → Steps s event reply t → IsKeptBy s t
step_keeps s t event reply w h = move_keeps s t w (step_moves s t event reply h)

-- so each run leaves a world
pub run_keeps : (s t : State) (events : List Event) (replies : List EventReply) → IsWorld s → Runs s events replies t → IsKeptBy s t
run_keeps s t [] [] w h = subst (IsKeptBy s) (sym h) (kept_still s w)
run_keeps s t [] (reply ∷ replies) w h = absurd h
run_keeps s t (event ∷ events) [] w h = absurd h
run_keeps s t (event ∷ events) (reply ∷ replies) w h =
    let first = step_keeps s h.0 event reply w h.1 in
    let rest = run_keeps h.0 t events replies first.world h.2 in
    record {
      world = rest.world;
      grown = grown_more s.history h.0.history t.history first.grown rest.grown;
      risen = λ node is k.
          let there : IsNode h.0 node = record { some = is.some; there = omega (arith, is.there, first.grown.nodes) } in
          omega (arith, first.risen node is k, rest.risen node there k);
    }

-- The first state

pub same_at : (n i : ℕ) (v : List ℕ) → i < n → get_or (replicate n v) i [] ≡ v
same_at zero i v h = absurd (omega (arith, h))
same_at (suc n) zero v h = refl
same_at (suc n) (suc i) v h = same_at n i v (omega (arith, h))

pub start_is : (nodes : ℕ) → 1 ≤ nodes → IsWorld (start nodes)
start_is nodes some =
    record {
      lawful = (empty_view_in nodes 1 (omega arith) some).lawful;
      nodes = length-replicate {A = List ℕ} nodes (replicate nodes 0) ∙ sym (length-replicate {A = List Entry} nodes []);
      current = λ node one there.
          let within : node ≤ nodes = omega (arith, there, length-replicate {A = List Entry} nodes []) in
          subst (IsCurrent (replicate nodes []) node) (sym (same_at nodes (node - 1) (replicate nodes 0) (omega (arith, one, within))))
          (empty_view_in nodes node one within).current;
      sent = λ frame m. absurd m;
    }
