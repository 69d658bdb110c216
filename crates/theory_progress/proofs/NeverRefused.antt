-- a frame since nothing is sent, and is taken if it arrives whole
use Rattle.std.proofs.Common.{◌≡◌, inl, inr, ◌≤◌, ◌+◌, ◌-◌, ℕ, zero, suc, List, refl, sym, subst, Bool, true, false, arith, ◌&&◌, Option, None, Some, length, nat_le, replicate, slice_index}
use Rattle.std.proofs.lemmas.Bool.Decides.{nat_tests}
use Rattle.std.proofs.lemmas.List.{length-replicate}
use Rattle.state_ids.specs.Fronts.{IsBelow, count}
use Rattle.wire_frames.specs.declared.version.Version.TheVariants.{Two}
use Rattle.script_world.specs.declared.event.Event.TheVariants.{Deliver, Send}
use Rattle.script_world.specs.declared.event.EventReply.{EventReply}
use Rattle.script_world.specs.declared.event.EventReply.TheVariants.{Sent, Took}
use Rattle.script_world.specs.Headline.{IsNode}
use Rattle.script_world.specs.Worlds.{Comes, IfNode, IsEncoded, NeedsLater, Sends, SentFrame, State, Steps, Takes, frame_at, front_of, is_node, nodes_of}
use Rattle.script_world.proofs.Determined.{one_encoding}

-- a front of no facts counts nothing
none_at : (n i : ℕ) → slice_index (replicate n 0) i ≡ 0
none_at zero i = refl
none_at (suc n) zero = refl
none_at (suc n) (suc i) = none_at n i

pub nothing_below : (n : ℕ) (v : List ℕ) → IsBelow (replicate n 0) v
nothing_below n v node = let none : count (replicate n 0) node ≡ 0 = none_at n (node - 1) in omega (arith, none)

-- such a frame never needs a later version
pub two_tells : (s : State) (node : ℕ) (base : List ℕ) → NeedsLater s node base Two → ⊥
two_tells s node base needs = let wrong = needs.2 in cc

sends_so : (s t : State) (node : ℕ) (reply : EventReply) → Sends s node (replicate (nodes_of s) 0) Two reply t → reply ≡ Sent (length s.sent + 1)
sends_so s t node reply (inl h) = absurd (h.0 (length-replicate {A = ℕ} (nodes_of s) 0))
sends_so s t node reply (inr (inl h)) = absurd (h.1 (nothing_below (nodes_of s) (front_of s node)))
sends_so s t node reply (inr (inr (inl h))) = absurd (two_tells s node (replicate (nodes_of s) 0) h.2)
sends_so s t node reply (inr (inr (inr h))) = h.3

takes_so : (s t : State) (node : ℕ) (frame : SentFrame) (bytes : List ℕ) (reply : EventReply) → IsBelow frame.base (front_of s node) → Takes s node frame bytes (length bytes) reply t → reply ≡ Took
takes_so s t node frame bytes reply below (inl h) = absurd (omega (arith, h.0))
takes_so s t node frame bytes reply below (inr (inl h)) = absurd (omega (arith, h.0))
takes_so s t node frame bytes reply below (inr (inr (inl h))) = absurd (h.1 below)
takes_so s t node frame bytes reply below (inr (inr (inr h))) = h.2

-- `is_node` is true if there is such a node
pub node_is : (s : State) (node : ℕ) → IsNode s node → is_node s node ≡ true
node_is s node is = both (le 1 node is.some) (le node (nodes_of s) is.there)
  where
    le : (a b : ℕ) → a ≤ b → nat_le a b ≡ true
    le a b h = grind (arith, nat_tests)

    both : {a b : Bool} → a ≡ true → b ≡ true → (a && b) ≡ true
    both e f = rw (e, f) refl

if_there : (b : Bool) (s t : State) (happens : Type 0) (reply : EventReply) → b ≡ true → IfNode b s happens reply t → happens
if_there true s t happens reply e h = h
if_there false s t happens reply e h = absurd cc

pub sent_since_nothing : (s t : State) (node : ℕ) (reply : EventReply) → IsNode s node → Steps s (Send node (replicate (nodes_of s) 0) Two) reply t → reply ≡ Sent (length s.sent + 1)
sent_since_nothing s t node reply is step =
    sends_so s t node reply (if_there (is_node s node) s t (Sends s node (replicate (nodes_of s) 0) Two reply t) reply (node_is s node is) step)

comes_so : (s t : State) (node number : ℕ) (frame : SentFrame) (bytes : List ℕ) (reply : EventReply) (found : Option SentFrame) → found ≡ Some frame → frame.base ≡ replicate (nodes_of s) 0 → IsEncoded s.history frame bytes → Comes s node found (length bytes) reply t → reply ≡ Took
comes_so s t node number frame bytes reply None e base encoded h = absurd cc
comes_so s t node number frame bytes reply (Some other) e base encoded h =
    let same : other ≡ frame = cc in
    let is : IsEncoded s.history frame h.0 = subst (λ (f : SentFrame). IsEncoded s.history f h.0) same h.1 in
    let one : h.0 ≡ bytes = one_encoding s.history frame h.0 bytes is encoded in
    let takes : Takes s node frame bytes (length bytes) reply t = subst (λ (b : List ℕ). Takes s node frame b (length bytes) reply t) one (subst (λ (f : SentFrame). Takes s node f h.0 (length bytes) reply t) same h.2) in
    takes_so s t node frame bytes reply (subst (λ (b : List ℕ). IsBelow b (front_of s node)) (sym base) (nothing_below (nodes_of s) (front_of s node))) takes

pub taken_since_nothing : (s t : State) (number node : ℕ) (frame : SentFrame) (bytes : List ℕ) (reply : EventReply) → IsNode s node → frame_at s number ≡ Some frame → frame.base ≡ replicate (nodes_of s) 0 → IsEncoded s.history frame bytes → Steps s (Deliver number node (length bytes)) reply t → reply ≡ Took
taken_since_nothing s t number node frame bytes reply is at base encoded step =
    comes_so s t node number frame bytes reply (frame_at s number) at base encoded
    (if_there (is_node s node) s t (Comes s node (frame_at s number) (length bytes) reply t) reply (node_is s node is) step)
