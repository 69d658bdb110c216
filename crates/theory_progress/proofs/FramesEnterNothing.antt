-- frames and restarts leave the history as it was
use Rattle.std.proofs.Common.{◌≡◌, inl, inr, ◌||◌, ℕ, List, [], ◌∷◌, refl, ap, ◌∙◌, Bool, true, false, Option, None, Some}
use Rattle.std.specs.List.{list_any}
use Rattle.state_forest.proofs.Bools.{or_false}
use Rattle.wire_frames.specs.declared.version.Version.{Version}
use Rattle.script_world.specs.declared.event.Event.{Event}
use Rattle.script_world.specs.declared.event.Event.TheVariants.{Act, Deliver, Restart, Send, Tick}
use Rattle.script_world.specs.declared.event.EventReply.{EventReply}
use Rattle.script_world.specs.declared.event.EventReply.TheVariants.{Restarted}
use Rattle.script_world.specs.Worlds.{Comes, IfNode, Runs, Sends, SentFrame, State, Stays, Steps, Takes, frame_at, is_node}
use Rattle.theory_progress.specs.Rounds.{may_enter}

history_same : (s t : State) → t ≡ s → t.history ≡ s.history
history_same s t e = ap (λ (u : State). u.history) e

-- a step that leaves the history at a node also leaves it if there is no such node
at_node : (b : Bool) (s : State) (happens : Type 0) (reply : EventReply) (t : State) → (happens → t.history ≡ s.history) → IfNode b s happens reply t → t.history ≡ s.history
at_node true s happens reply t same h = same h
at_node false s happens reply t same h = history_same s t h.1

sends_same : (s : State) (node : ℕ) (base : List ℕ) (version : Version) (reply : EventReply) (t : State) → Sends s node base version reply t → t.history ≡ s.history
sends_same s node base version reply t (inl h) = history_same s t h.1.1
sends_same s node base version reply t (inr (inl h)) = history_same s t h.2.1
sends_same s node base version reply t (inr (inr (inl h))) = history_same s t h.3.1
sends_same s node base version reply t (inr (inr (inr h))) = ap (λ (u : State). u.history) h.4

takes_same : (s : State) (node : ℕ) (frame : SentFrame) (bytes : List ℕ) (kept : ℕ) (reply : EventReply) (t : State) → Takes s node frame bytes kept reply t → t.history ≡ s.history
takes_same s node frame bytes kept reply t (inl h) = history_same s t h.1.1
takes_same s node frame bytes kept reply t (inr (inl h)) = history_same s t h.1.2.1
takes_same s node frame bytes kept reply t (inr (inr (inl h))) = history_same s t h.2.1
takes_same s node frame bytes kept reply t (inr (inr (inr h))) = ap (λ (u : State). u.history) h.3

comes_same : (s : State) (node : ℕ) (found : Option SentFrame) (kept : ℕ) (reply : EventReply) (t : State) → Comes s node found kept reply t → t.history ≡ s.history
comes_same s node None kept reply t h = history_same s t h.1
comes_same s node (Some frame) kept reply t h = takes_same s node frame h.0 kept reply t h.2

step_same : (s : State) (event : Event) (reply : EventReply) (t : State) → may_enter event ≡ false → Steps s event reply t → t.history ≡ s.history
step_same s (Act node c) reply t e h = absurd cc
step_same s (Tick node now) reply t e h = absurd cc
step_same s (Send node base version) reply t e h = at_node (is_node s node) s (Sends s node base version reply t) reply t (sends_same s node base version reply t) h
step_same s (Deliver number node kept) reply t e h =
    at_node (is_node s node) s (Comes s node (frame_at s number) kept reply t) reply t (comes_same s node (frame_at s number) kept reply t) h
step_same s (Restart node) reply t e h = at_node (is_node s node) s (Stays s Restarted reply t) reply t (λ stays. history_same s t stays.1) h

or_first : (a b : Bool) → (a || b) ≡ false → a ≡ false
or_first true b e = absurd cc
or_first false b e = refl

pub run_same : (s t : State) (events : List Event) (replies : List EventReply) → Runs s events replies t → list_any may_enter events ≡ false → t.history ≡ s.history
run_same s t [] [] runs e = ap (λ (u : State). u.history) runs
run_same s t [] (reply ∷ replies) runs e = absurd runs
run_same s t (event ∷ events) [] runs e = absurd runs
run_same s t (event ∷ events) (reply ∷ replies) runs e =
    run_same runs.0 t events replies runs.2 (or_false (may_enter event) _ e) ∙ step_same s event reply runs.0 (or_first (may_enter event) _ e) runs.1
