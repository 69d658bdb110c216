-- what happens at another node leaves a node's front
use Rattle.std.proofs.Common.{◌≡◌, inl, inr, ◌≤◌, ◌-◌, ℕ, List, refl, ap, ◌∙◌, Bool, true, false, arith, get_or, get_or-set_other, slice_set}
use Rattle.state_ids.specs.Ids.{Id}
use Rattle.state_ids.specs.declared.outcome.Verdict.TheVariants.{Cancel}
use Rattle.std.specs.Prelude.{Option, Some, None, []}
use Rattle.state_facts.specs.declared.command.Command.{Command}
use Rattle.state_facts.specs.declared.command.Command.TheVariants.{Decide}
use Rattle.theory_history.specs.Replies.{Judgement, Denied, AlreadyKnown, Accepted, judge}
use Rattle.wire_frames.specs.declared.version.Version.{Version}
use Rattle.script_world.specs.declared.event.Event.{Event}
use Rattle.script_world.specs.declared.event.Event.TheVariants.{Act, Deliver, Restart, Send, Tick}
use Rattle.script_world.specs.declared.event.EventReply.{EventReply}
use Rattle.script_world.specs.Headline.{IsNode}
use Rattle.script_world.specs.Worlds.{Acts, Comes, Expires, IfNode, SentFrame, Sends, State, Steps, Takes, Ticks, after_command, frame_at, front_of, if_taken, is_node, set_of, with_command}
use Rattle.script_world.proofs.Moving.{node_is}
use Rattle.theory_progress.specs.Diagram.{node_of}

-- the front of the node stays as it was
abbrev pub Leaves : (me : ℕ) → State → State → Type 0
Leaves me s t = front_of t me ≡ front_of s me

same_leaves : (me : ℕ) (s t : State) → t ≡ s → Leaves me s t
same_leaves me s t e = ap (λ (u : State). front_of u me) e

-- the front of one of two nodes is changed, and that of the other is not
other_front : (s : State) (node me : ℕ) (front : List ℕ) → 1 ≤ node → 1 ≤ me → (node ≡ me → ⊥) → get_or (slice_set s.fronts (node - 1) front) (me - 1) [] ≡ front_of s me
other_front s node me front some own other = get_or-set_other s.fronts (node - 1) (me - 1) front [] (λ e. other (omega (arith, e, some, own)))

if_node_leaves : (b : Bool) (s t : State) (node me : ℕ) (happens : Type 0) (reply : EventReply) → is_node s node ≡ b → (IsNode s node → happens → Leaves me s t) → IfNode b s happens reply t → Leaves me s t
if_node_leaves true s t node me happens reply e by h = by (node_is s node e) h
if_node_leaves false s t node me happens reply e by h = same_leaves me s t h.1

command_leaves : (s t : State) (node me : ℕ) (c : Command) → 1 ≤ me → (node ≡ me → ⊥) → IsNode s node → t ≡ after_command s node c → Leaves me s t
command_leaves s t node me c own other is e = by (judge (set_of s node) (front_of s node) node c) e
  where
    by : (j : Judgement) → t ≡ if_taken j s (with_command s node c) → Leaves me s t
    by (Denied r) k = same_leaves me s t k
    by AlreadyKnown k = same_leaves me s t k
    by Accepted k = ap (λ (u : State). front_of u me) k ∙ other_front s node me _ is.some own other

sends_leave : (s t : State) (node me : ℕ) (base : List ℕ) (version : Version) (reply : EventReply) → Sends s node base version reply t → Leaves me s t
sends_leave s t node me base version reply (inl h) = same_leaves me s t h.1.1
sends_leave s t node me base version reply (inr (inl h)) = same_leaves me s t h.2.1
sends_leave s t node me base version reply (inr (inr (inl h))) = same_leaves me s t h.3.1
sends_leave s t node me base version reply (inr (inr (inr h))) = ap (λ (u : State). front_of u me) h.4

takes_leave : (s t : State) (node me : ℕ) (frame : SentFrame) (bytes : List ℕ) (kept : ℕ) (reply : EventReply) → 1 ≤ me → (node ≡ me → ⊥) → IsNode s node → Takes s node frame bytes kept reply t → Leaves me s t
takes_leave s t node me frame bytes kept reply own other is (inl h) = same_leaves me s t h.1.1
takes_leave s t node me frame bytes kept reply own other is (inr (inl h)) = same_leaves me s t h.1.2.1
takes_leave s t node me frame bytes kept reply own other is (inr (inr (inl h))) = same_leaves me s t h.2.1
takes_leave s t node me frame bytes kept reply own other is (inr (inr (inr h))) = ap (λ (u : State). front_of u me) h.3 ∙ other_front s node me _ is.some own other

comes_leave : (s t : State) (node me : ℕ) (found : Option SentFrame) (kept : ℕ) (reply : EventReply) → 1 ≤ me → (node ≡ me → ⊥) → IsNode s node → Comes s node found kept reply t → Leaves me s t
comes_leave s t node me None kept reply own other is h = same_leaves me s t h.1
comes_leave s t node me (Some frame) kept reply own other is h = takes_leave s t node me frame h.0 kept reply own other is h.2

expires_leave : (s t : State) (node me : ℕ) (found : Option Id) (reply : EventReply) → 1 ≤ me → (node ≡ me → ⊥) → IsNode s node → Expires s node found reply t → Leaves me s t
expires_leave s t node me None reply own other is h = same_leaves me s t h.1
expires_leave s t node me (Some l) reply own other is h = command_leaves s t node me (Decide l Cancel) own other is h.1

pub step_leaves : (s t : State) (me : ℕ) (event : Event) (reply : EventReply) → 1 ≤ me → (node_of event ≡ me → ⊥) → Steps s event reply t → Leaves me s t
step_leaves s t me (Act node c) reply own other h =
    if_node_leaves (is_node s node) s t node me (Acts s node c reply t) reply refl (λ is k. command_leaves s t node me c own other is k.1) h
step_leaves s t me (Send node base version) reply own other h =
    if_node_leaves (is_node s node) s t node me (Sends s node base version reply t) reply refl (λ is k. sends_leave s t node me base version reply k) h
step_leaves s t me (Deliver number node kept) reply own other h =
    if_node_leaves (is_node s node) s t node me (Comes s node (frame_at s number) kept reply t) reply refl
    (λ is k. comes_leave s t node me (frame_at s number) kept reply own other is k) h
step_leaves s t me (Restart node) reply own other h =
    if_node_leaves (is_node s node) s t node me _ reply refl (λ is k. same_leaves me s t k.1) h
step_leaves s t me (Tick node now) reply own other h =
    if_node_leaves (is_node s node) s t node me (Ticks s node now reply t) reply refl (λ is k. expires_leave s t node me k.0 reply own other is k.2) h
