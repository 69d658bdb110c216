-- The effects of what a line asks for.
use Rattle.std.proofs.Common.{◌≡◌, ◌≤◌, ◌-◌, ◌==◌, ◌&&◌, inl, inr, ℕ, List, Bool, true, false, Option, None, Some, cond, refl, sym, ap, subst, ◌∙◌, arith, length, nat_le, slice_get}
use Rattle.std.specs.Prelude.{IfSome, unwrap_or, option_map}
use Rattle.std.proofs.lemmas.Bool.Decides.{nat_tests}
use Rattle.std.proofs.lemmas.Option.{slice_get_within}
use Rattle.state_facts.specs.declared.fact.Fact.{Fact}
use Rattle.state_facts.specs.declared.refusal.Refusal.{Refusal}
use Rattle.state_ids.specs.Ids.{Id}
use Rattle.state_ids.specs.declared.outcome.Verdict.TheVariants.{Cancel}
use Rattle.state_facts.specs.declared.command.Command.{Command}
use Rattle.state_facts.specs.declared.command.Command.TheVariants.{Begin, Join, Leave, Decide, Report, Forgot, Told, Purge}
use Rattle.state_facts.specs.declared.command.CommandReply.{CommandReply}
use Rattle.state_facts.specs.declared.command.CommandReply.TheVariants.{Began, Joined, Left, Decided, Reported, Known, Forgotten, Told as ToldReply, Purged, Refused as NotEntered}
use Rattle.state_replica.specs.Replicas.{ReplicaState, view_of}
use Rattle.theory_history.specs.Replies.{Judgement, Denied, AlreadyKnown, Accepted, accepted, judge, reply_by}
use Rattle.theory_history.specs.Views.{View}
use Rattle.theory_history.proofs.ClosedSets.{closed_settled}
use Rattle.wire_frames.specs.declared.version.Version.{Version}
use Rattle.script_world.specs.declared.event.Event.{Event}
use Rattle.script_world.specs.declared.event.Event.TheVariants.{Act as ActEvent, Deliver as DeliverEvent, Restart as RestartEvent, Send as SendEvent, Tick as TickEvent}
use Rattle.script_world.specs.declared.event.EventReply.{EventReply}
use Rattle.script_world.specs.declared.event.EventReply.TheVariants.{Answered}
use Rattle.script_world.specs.Machines.{Happens, IsWorldOf, Machine}
use Rattle.script_world.specs.Worlds.{Acts, Comes, Expires, IfNode, IsEncoded, IsViewOf, SentFrame, Sends, State, Steps, Takes, Ticks, after_command, expired, frame_at, front_of, if_taken, is_node, nodes_of, reply_at, set_of, with_command}
use Rattle.script_world.proofs.Agreeing.{same_view}
use Rattle.script_world.proofs.OneReplicaChanged.{get_some}
use Rattle.script_lines.specs.Asks.{IsNodeOf}
use Rattle.script_lines.specs.Scripts.{IsNothing, IsRefusal, TellsSame}
use Rattle.script_lines.specs.NodeHoldings.{Holds, IsWholeOf}

-- Nothing happened

never_refused : (S : List Fact) (v : List ℕ) (node : ℕ) (c : Command) (r : Refusal) → accepted S v node c ≡ NotEntered r → ⊥
never_refused S v node (Begin parent deadline) r e = absurd cc
never_refused S v node (Join id links) r e = absurd cc
never_refused S v node (Leave id m) r e = absurd cc
never_refused S v node (Decide id verdict) r e = absurd cc
never_refused S v node (Report id m act outcome) r e = absurd cc
never_refused S v node (Forgot id m) r e = absurd cc
never_refused S v node (Told id m) r e = absurd cc
never_refused S v node (Purge root) r e = absurd cc

refused_by : (j : Judgement) (s t : State) (node : ℕ) (c : Command) (r : Refusal) → reply_by j (accepted (set_of s node) (front_of s node) node c) ≡ NotEntered r → if_taken j s t ≡ s
refused_by (Denied q) s t node c r e = refl
refused_by AlreadyKnown s t node c r e = refl
refused_by Accepted s t node c r e = absurd (never_refused (set_of s node) (front_of s node) node c r e)

-- a refused command stores nothing
refused_same : (s : State) (node : ℕ) (c : Command) → IsRefusal (reply_at s node c) → after_command s node c ≡ s
refused_same s node c (r, e) = refused_by (judge (set_of s node) (front_of s node) node c) s (with_command s node c) node c r e

-- an LRA that did not expire was not cancelled
not_expired : (l : Id) (reply : CommandReply) → IsNothing (expired l reply) → IsRefusal reply
not_expired l (Began id m) h = absurd h
not_expired l (Joined id m) h = absurd h
not_expired l Left h = absurd h
not_expired l (Decided id status) h = absurd h
not_expired l Reported h = absurd h
not_expired l Known h = absurd h
not_expired l Forgotten h = absurd h
not_expired l ToldReply h = absurd h
not_expired l Purged h = absurd h
not_expired l (NotEntered r) h = (r, refl)

if_node_stays : (b : Bool) (s t : State) (happens : Type 0) (reply : EventReply) → (happens → t ≡ s) → IfNode b s happens reply t → t ≡ s
if_node_stays true s t happens reply by h = by h
if_node_stays false s t happens reply by h = h.1

acts_nothing : (s t : State) (node : ℕ) (c : Command) (reply : EventReply) → IsNothing reply → Acts s node c reply t → t ≡ s
acts_nothing s t node c reply none h = h.1 ∙ refused_same s node c (subst IsNothing h.0 none)

sends_nothing : (s t : State) (node : ℕ) (base : List ℕ) (version : Version) (reply : EventReply) → IsNothing reply → Sends s node base version reply t → t ≡ s
sends_nothing s t node base version reply none (inl h) = h.1.1
sends_nothing s t node base version reply none (inr (inl h)) = h.2.1
sends_nothing s t node base version reply none (inr (inr (inl h))) = h.3.1
sends_nothing s t node base version reply none (inr (inr (inr h))) = absurd (subst IsNothing h.3 none)

takes_nothing : (s t : State) (node : ℕ) (frame : SentFrame) (bytes : List ℕ) (kept : ℕ) (reply : EventReply) → IsNothing reply → Takes s node frame bytes kept reply t → t ≡ s
takes_nothing s t node frame bytes kept reply none (inl h) = h.1.1
takes_nothing s t node frame bytes kept reply none (inr (inl h)) = h.1.2.1
takes_nothing s t node frame bytes kept reply none (inr (inr (inl h))) = h.2.1
takes_nothing s t node frame bytes kept reply none (inr (inr (inr h))) = absurd (subst IsNothing h.2 none)

comes_nothing : (s t : State) (node : ℕ) (found : Option SentFrame) (kept : ℕ) (reply : EventReply) → IsNothing reply → Comes s node found kept reply t → t ≡ s
comes_nothing s t node None kept reply none h = h.1
comes_nothing s t node (Some frame) kept reply none (bytes, spelled, takes) = takes_nothing s t node frame bytes kept reply none takes

expires_nothing : (s t : State) (node : ℕ) (found : Option Id) (reply : EventReply) → IsNothing reply → Expires s node found reply t → t ≡ s
expires_nothing s t node None reply none h = h.1
expires_nothing s t node (Some l) reply none h =
    h.1 ∙ refused_same s node (Decide l Cancel) (not_expired l (reply_at s node (Decide l Cancel)) (subst IsNothing h.0 none))

-- if nothing happened, the state is the same
nothing_stays : (s t : State) (event : Event) (reply : EventReply) → IsNothing reply → Steps s event reply t → t ≡ s
nothing_stays s t (ActEvent node c) reply none h = if_node_stays (is_node s node) s t _ reply (λ k. acts_nothing s t node c reply none k) h
nothing_stays s t (SendEvent node base version) reply none h = if_node_stays (is_node s node) s t (Sends s node base version reply t) reply (λ k. sends_nothing s t node base version reply none k) h
nothing_stays s t (DeliverEvent number node kept) reply none h =
    if_node_stays (is_node s node) s t (Comes s node (frame_at s number) kept reply t) reply (λ k. comes_nothing s t node (frame_at s number) kept reply none k) h
nothing_stays s t (RestartEvent node) reply none h = if_node_stays (is_node s node) s t _ reply (λ k. k.1) h
nothing_stays s t (TickEvent node now) reply none h =
    if_node_stays (is_node s node) s t (Ticks s node now reply t) reply (λ k. expires_nothing s t node k.0 reply none k.2) h

pub nothing_happened : (s : State) (event : Event) (reply : EventReply) (new : Machine) → Happens s event reply new → IsNothing reply → IsWorldOf s new
nothing_happened s event reply new (t, steps, w) none = subst (λ (u : State). IsWorldOf u new) (nothing_stays s t event reply none steps) w

-- What a node stores

node_yes : (s : State) (m : Machine) (node : ℕ) → IsWorldOf s m → IsNodeOf (length m.replicas) node → is_node s node ≡ true
node_yes s m node w is =
    ap (λ (b : Bool). b && nat_le node (nodes_of s)) (le 1 node is.0) ∙ le node (nodes_of s) (omega (arith, is.1, w.nodes))
  where
    le : (a b : ℕ) → a ≤ b → nat_le a b ≡ true
    le a b h = grind (arith, nat_tests)

pub acted : (s : State) (old new : Machine) (node : ℕ) (c : Command) (reply : EventReply) → IsWorldOf s old → IsNodeOf (length old.replicas) node → Happens s (ActEvent node c) reply new
    → (reply ≡ Answered (reply_at s node c)) × IsWorldOf (after_command s node c) new
acted s old new node c reply w is (t, steps, after) =
    let acts = subst (λ (b : Bool). IfNode b s (Acts s node c reply t) reply t) (node_yes s old node w is) steps in
    (acts.0, subst (λ (u : State). IsWorldOf u new) acts.1 after)

-- What a node holds

pub holds_at : (s : State) (m : Machine) (node : ℕ) (kept : ReplicaState) → IsWorldOf s m → IsNodeOf (length m.replicas) node → IsViewOf s.history (front_of s node) (view_of kept) → Holds (set_of s node) (front_of s node) kept
holds_at s m node kept w is view = record {
  settled = closed_settled s.history w.world.lawful (front_of s node) (w.world.current node is.0 (omega (arith, is.1, w.nodes))).closed;
  stands = view.stands;
  counts = view.counts;
}

view_from : (s : State) (node : ℕ) (kept : ReplicaState) → Holds (set_of s node) (front_of s node) kept → IsViewOf s.history (front_of s node) (view_of kept)
view_from s node kept h = record { stands = h.stands; counts = h.counts }

-- two nodes of a world have equal views if and only if they have equal fronts
pub same_told : (s : State) (one other : ℕ) (k l : ReplicaState) (out : List ℕ) → Holds (set_of s one) (front_of s one) k → Holds (set_of s other) (front_of s other) l
    → TellsSame (view_of k ≡ view_of l) out → TellsSame (front_of s one ≡ front_of s other) out
same_told s one other k l out h g (inl (same, is)) = inl (sym h.counts ∙ ap (λ (v : View). v.front) same ∙ g.counts, is)
same_told s one other k l out h g (inr (differ, is)) =
    inr (λ e. differ (same_view s.history (front_of s one) (front_of s other) (view_of k) (view_of l) e (view_from s one k h) (view_from s other l g)), is)

-- How many bytes arrive

pub whole_coming : (s : State) (m : Machine) (number count : ℕ) → IsWorldOf s m → count ≡ unwrap_or (cond (number == 0) None (option_map length (slice_get m.sent (number - 1)))) 0 → IsWholeOf s number count
whole_coming s m number count w e = by (number == 0) e
  where
    at : (found : Option SentFrame) → slice_get s.sent (number - 1) ≡ found → count ≡ unwrap_or (option_map length (slice_get m.sent (number - 1))) 0
        → IfSome found (λ frame. (bytes : List ℕ) × IsEncoded s.history frame bytes × (count ≡ length bytes))
    at None f e = tt
    at (Some frame) f e =
        let within = slice_get_within s.sent (number - 1) frame f in
        let bytes = get_some m.sent (number - 1) (omega (arith, within, w.count)) in
        (bytes.0, w.frames (number - 1) frame bytes.0 f bytes.1, e ∙ ap (λ (o : Option (List ℕ)). unwrap_or (option_map length o) 0) bytes.1)

    by : (b : Bool) → count ≡ unwrap_or (cond b None (option_map length (slice_get m.sent (number - 1)))) 0
        → IfSome (cond b None (slice_get s.sent (number - 1))) (λ frame. (bytes : List ℕ) × IsEncoded s.history frame bytes × (count ≡ length bytes))
    by true e = tt
    by false e = at (slice_get s.sent (number - 1)) refl e
