-- An event has one reply, and leaves one state.
use Rattle.std.proofs.Common.{◌≡◌, ◌⊎◌, inl, inr, ◌≤◌, ◌<◌, ℕ, List, refl, sym, ap, subst, ◌∙◌, Bool, true, false, arith, Option, None, Some, Result, Ok, Err, nat_lt, take}
use Rattle.std.proofs.lemmas.Bool.Decides.{nat_tests}
use Rattle.state_ids.specs.Ids.{Id}
use Rattle.state_facts.specs.declared.fact.Fact.{Fact}
use Rattle.state_forest.specs.Overdue.{IsLeastOverdue, is_overdue}
use Rattle.theory_history.specs.Histories.{History}
use Rattle.theory_history.specs.Views.{View}
use Rattle.script_world.specs.declared.event.Event.{Event}
use Rattle.wire_frames.specs.declared.version.Version.{Version}
use Rattle.script_world.specs.declared.event.Event.TheVariants.{Act, Deliver, Restart, Send, Tick}
use Rattle.script_world.specs.declared.event.EventReply.{EventReply}
use Rattle.script_world.specs.declared.event.EventReply.TheVariants.{Refused}
use Rattle.state_facts.specs.declared.refusal.Refusal.TheVariants.{BadFrame}
use Rattle.wire_frames.specs.declared.input.Stop.{Stop}
use Rattle.wire_frames.specs.declared.input.Stop.TheVariants.{Fault}
use Rattle.wire_frames.specs.Frames.{Frame, frame_of}
use Rattle.wire_frames.specs.Reading.{frame_in}
use Rattle.wire_frames.specs.Encoding.{encoding_as}
use Rattle.script_world.specs.Worlds.{Comes, Expires, SentFrame, IfNode, IsEncoded, Sends, State, Stays, Steps, Takes, Ticks, frame_at, is_node, set_of}
use Rattle.script_world.proofs.Agreeing.{same_view}

pub record AreOne (t u : State) (reply other : EventReply) : Type 0 where
  pub reply_is : reply ≡ other
  pub state_is : t ≡ u

stays_once : (s t u : State) (is reply other : EventReply) → Stays s is reply t → Stays s is other u → AreOne t u reply other
stays_once s t u is reply other h k = record { reply_is = h.0 ∙ sym k.0; state_is = h.1 ∙ sym k.1 }

sends_once : (s t u : State) (node : ℕ) (base : List ℕ) (version : Version) (reply other : EventReply) → Sends s node base version reply t → Sends s node base version other u → AreOne t u reply other
sends_once s t u node base version reply other (inl h) (inl k) = stays_once s t u _ reply other h.1 k.1
sends_once s t u node base version reply other (inl h) (inr (inl k)) = absurd (h.0 k.0)
sends_once s t u node base version reply other (inl h) (inr (inr (inl k))) = absurd (h.0 k.0)
sends_once s t u node base version reply other (inl h) (inr (inr (inr k))) = absurd (h.0 k.0)
sends_once s t u node base version reply other (inr (inl h)) (inl k) = absurd (k.0 h.0)
sends_once s t u node base version reply other (inr (inl h)) (inr (inl k)) = stays_once s t u _ reply other h.2 k.2
sends_once s t u node base version reply other (inr (inl h)) (inr (inr (inl k))) = absurd (h.1 k.1)
sends_once s t u node base version reply other (inr (inl h)) (inr (inr (inr k))) = absurd (h.1 k.1)
sends_once s t u node base version reply other (inr (inr (inl h))) (inl k) = absurd (k.0 h.0)
sends_once s t u node base version reply other (inr (inr (inl h))) (inr (inl k)) = absurd (k.1 h.1)
sends_once s t u node base version reply other (inr (inr (inl h))) (inr (inr (inl k))) = stays_once s t u _ reply other h.3 k.3
sends_once s t u node base version reply other (inr (inr (inl h))) (inr (inr (inr k))) = absurd (k.2 h.2)
sends_once s t u node base version reply other (inr (inr (inr h))) (inl k) = absurd (k.0 h.0)
sends_once s t u node base version reply other (inr (inr (inr h))) (inr (inl k)) = absurd (k.1 h.1)
sends_once s t u node base version reply other (inr (inr (inr h))) (inr (inr (inl k))) = absurd (h.2 k.2)
sends_once s t u node base version reply other (inr (inr (inr h))) (inr (inr (inr k))) = record { reply_is = h.3 ∙ sym k.3; state_is = h.4 ∙ sym k.4 }

-- bytes break a rule at one place only
one_place : (bytes : List ℕ) (place other : ℕ) → frame_in bytes ≡ Err (Fault place) → frame_in bytes ≡ Err (Fault other) → place ≡ other
one_place bytes place other e f = ap place_of (sym e ∙ f)
  where
    place_of : Result Frame Stop → ℕ
    place_of (Err (Fault at)) = at
    place_of (Err _) = 0
    place_of (Ok _) = 0

takes_once : (s t u : State) (node : ℕ) (frame : SentFrame) (bytes : List ℕ) (kept : ℕ) (reply other : EventReply) → Takes s node frame bytes kept reply t → Takes s node frame bytes kept other u → AreOne t u reply other
takes_once s t u node frame bytes kept reply other (inl h) (inl k) = stays_once s t u _ reply other h.1 k.1
takes_once s t u node frame bytes kept reply other (inl h) (inr (inl k)) = absurd (omega (arith, h.0, k.0))
takes_once s t u node frame bytes kept reply other (inl h) (inr (inr (inl k))) = absurd (omega (arith, h.0, k.0))
takes_once s t u node frame bytes kept reply other (inl h) (inr (inr (inr k))) = absurd (omega (arith, h.0, k.0))
takes_once s t u node frame bytes kept reply other (inr (inl h)) (inl k) = absurd (omega (arith, h.0, k.0))
takes_once s t u node frame bytes kept reply other (inr (inl h)) (inr (inl k)) =
    let same : h.1.0 ≡ k.1.0 = one_place (take kept bytes) h.1.0 k.1.0 h.1.1 k.1.1 in
    stays_once s t u (Refused (BadFrame k.1.0)) reply other (subst (λ (place : ℕ). Stays s (Refused (BadFrame place)) reply t) same h.1.2) k.1.2
takes_once s t u node frame bytes kept reply other (inr (inl h)) (inr (inr (inl k))) = absurd (omega (arith, h.0, k.0))
takes_once s t u node frame bytes kept reply other (inr (inl h)) (inr (inr (inr k))) = absurd (omega (arith, h.0, k.0))
takes_once s t u node frame bytes kept reply other (inr (inr (inl h))) (inl k) = absurd (omega (arith, h.0, k.0))
takes_once s t u node frame bytes kept reply other (inr (inr (inl h))) (inr (inl k)) = absurd (omega (arith, h.0, k.0))
takes_once s t u node frame bytes kept reply other (inr (inr (inl h))) (inr (inr (inl k))) = stays_once s t u _ reply other h.2 k.2
takes_once s t u node frame bytes kept reply other (inr (inr (inl h))) (inr (inr (inr k))) = absurd (h.1 k.1)
takes_once s t u node frame bytes kept reply other (inr (inr (inr h))) (inl k) = absurd (omega (arith, h.0, k.0))
takes_once s t u node frame bytes kept reply other (inr (inr (inr h))) (inr (inl k)) = absurd (omega (arith, h.0, k.0))
takes_once s t u node frame bytes kept reply other (inr (inr (inr h))) (inr (inr (inl k))) = absurd (k.1 h.1)
takes_once s t u node frame bytes kept reply other (inr (inr (inr h))) (inr (inr (inr k))) = record { reply_is = h.2 ∙ sym k.2; state_is = h.3 ∙ sym k.3 }

-- a frame has one encoding in its version
pub one_encoding : (h : History) (frame : SentFrame) (b c : List ℕ) → IsEncoded h frame b → IsEncoded h frame c → b ≡ c
one_encoding h frame b c one other =
    one.encodes ∙ ap (λ (v : View). encoding_as frame.version (frame_of v frame.base)) (same_view h frame.front frame.front one.view other.view refl one.sender other.sender) ∙ sym other.encodes

comes_once : (s t u : State) (node : ℕ) (found : Option SentFrame) (kept : ℕ) (reply other : EventReply) → Comes s node found kept reply t → Comes s node found kept other u → AreOne t u reply other
comes_once s t u node None kept reply other h k = stays_once s t u _ reply other h k
comes_once s t u node (Some frame) kept reply other h k =
    takes_once s t u node frame k.0 kept reply other
    (subst (λ (b : List ℕ). Takes s node frame b kept reply t) (one_encoding s.history frame h.0 k.0 h.1 k.1) h.2) k.2

-- only one LRA is overdue with the least number
less_or_more : (a b : ℕ) → (a < b) ⊎ ((b < a) ⊎ (a ≡ b))
less_or_more a b = by (nat_lt a b) (nat_lt b a) refl refl
  where
    by : (x y : Bool) → nat_lt a b ≡ x → nat_lt b a ≡ y → (a < b) ⊎ ((b < a) ⊎ (a ≡ b))
    by true y e f = let h : a < b = grind (arith, nat_tests) in inl h
    by false true e f = let h : b < a = grind (arith, nat_tests) in inr (inl h)
    by false false e f = let h : b ≤ a = grind (arith, nat_tests) in let k : a ≤ b = grind (arith, nat_tests) in inr (inr (omega (arith, h, k)))

same_id_by : (l k : Id) → l.home ≡ k.home → l.num ≡ k.num → l ≡ k
same_id_by l k e f = ap (λ (h : ℕ). record { home = h; num = l.num }) e ∙ ap (λ (n : ℕ). record { home = k.home; num = n }) f

pub never_both : (b : Bool) → b ≡ true → b ≡ false → ⊥
never_both true e f = absurd cc
never_both false e f = absurd cc

least_once : (S : List Fact) (home now : ℕ) (a b : Option Id) → IsLeastOverdue S home now a → IsLeastOverdue S home now b → a ≡ b
least_once S home now None None h k = refl
least_once S home now None (Some l) h k = absurd (never_both (is_overdue S now l) k.1 (h l k.0))
least_once S home now (Some l) None h k = absurd (never_both (is_overdue S now l) h.1 (k l h.0))
least_once S home now (Some l) (Some m) h k = elim (less_or_more l.num m.num) [
  | inl less ↦ absurd (never_both (is_overdue S now l) h.1 (k.2 l h.0 less))
  | inr (inl more) ↦ absurd (never_both (is_overdue S now m) k.1 (h.2 m k.0 more))
  | inr (inr same) ↦ ap Some (same_id_by l m (h.0 ∙ sym k.0) same)
]

expires_once : (s t u : State) (node : ℕ) (found : Option Id) (reply other : EventReply) → Expires s node found reply t → Expires s node found other u → AreOne t u reply other
expires_once s t u node None reply other h k = stays_once s t u _ reply other h k
expires_once s t u node (Some l) reply other h k = record { reply_is = h.0 ∙ sym k.0; state_is = h.1 ∙ sym k.1 }

ticks_once : (s t u : State) (node now : ℕ) (reply other : EventReply) → Ticks s node now reply t → Ticks s node now other u → AreOne t u reply other
ticks_once s t u node now reply other h k =
    expires_once s t u node k.0 reply other
    (subst (λ (f : Option Id). Expires s node f reply t) (least_once (set_of s node) node now h.0 k.0 h.1 k.1) h.2) k.2

if_node_once : (b : Bool) (s t u : State) (X Y : Type 0) (reply other : EventReply) → (X → Y → AreOne t u reply other) → IfNode b s X reply t → IfNode b s Y other u → AreOne t u reply other
if_node_once true s t u X Y reply other by h k = by h k
if_node_once false s t u X Y reply other by h k = stays_once s t u _ reply other h k

pub step_once : (s t u : State) (event : Event) (reply other : EventReply) → Steps s event reply t → Steps s event other u → AreOne t u reply other
step_once s t u (Act node c) reply other h k =
    if_node_once (is_node s node) s t u _ _ reply other (λ x y. record { reply_is = x.0 ∙ sym y.0; state_is = x.1 ∙ sym y.1 }) h k
step_once s t u (Send node base version) reply other h k =
    if_node_once (is_node s node) s t u (Sends s node base version reply t) (Sends s node base version other u) reply other (λ x y. sends_once s t u node base version reply other x y) h k
step_once s t u (Deliver number node kept) reply other h k =
    if_node_once (is_node s node) s t u (Comes s node (frame_at s number) kept reply t) (Comes s node (frame_at s number) kept other u) reply other
    (λ x y. comes_once s t u node (frame_at s number) kept reply other x y) h k
step_once s t u (Restart node) reply other h k =
    if_node_once (is_node s node) s t u _ _ reply other (λ x y. stays_once s t u _ reply other x y) h k
step_once s t u (Tick node now) reply other h k =
    if_node_once (is_node s node) s t u (Ticks s node now reply t) (Ticks s node now other u) reply other (λ x y. ticks_once s t u node now reply other x y) h k
