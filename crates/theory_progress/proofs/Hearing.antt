-- what a node that takes a frame counts
use Rattle.std.proofs.Common.{◌≡◌, inl, inr, ◌+◌, ◌-◌, ◌==◌, ℕ, zero, suc, List, [], ◌∷◌, ◌++◌, refl, sym, ap, subst, ◌∙◌, Bool, true, false, cond, arith, Option, None, Some, get_or-set_same, length, slice_get}
use Rattle.std.proofs.lemmas.Bool.Decides.{nat_tests}
use Rattle.state_ids.specs.Fronts.{IsBelow, count, join_fronts}
use Rattle.theory_history.proofs.JoinedFronts.{below_right}
use Rattle.wire_frames.specs.declared.version.Version.{Version}
use Rattle.script_world.specs.declared.event.Event.{Event}
use Rattle.script_world.specs.declared.event.Event.TheVariants.{Deliver, Send}
use Rattle.script_world.specs.declared.event.EventReply.{EventReply}
use Rattle.script_world.specs.declared.event.EventReply.TheVariants.{Sent, Took}
use Rattle.script_world.specs.Headline.{IsNode}
use Rattle.script_world.specs.Worlds.{Comes, IfNode, IsWorld, Runs, Sends, SentFrame, State, Steps, Takes, frame_at, front_of, is_node, with_frame, with_front}
use Rattle.script_world.proofs.Moving.{IsKeptBy, IsMove, Entered, Joined, Posted, Still, run_keeps, step_keeps, step_moves}
use Rattle.theory_progress.specs.Rounds.{HearsOf, Occurs}

-- Frames that were sent

get_more : {X : Type 0} (xs ys : List X) (i : ℕ) (x : X) → slice_get xs i ≡ Some x → slice_get (xs ++ ys) i ≡ Some x
get_more [] ys i x e = absurd cc
get_more (y ∷ xs) ys zero x e = e
get_more (y ∷ xs) ys (suc i) x e = get_more xs ys i x e

get_last : {X : Type 0} (xs : List X) (x : X) → slice_get (xs ++ x ∷ []) (length xs) ≡ Some x
get_last [] x = refl
get_last (y ∷ xs) x = get_last xs x

-- a frame keeps its number
frame_more : (s : State) (version : Version) (node : ℕ) (base : List ℕ) (number : ℕ) (frame : SentFrame) → frame_at s number ≡ Some frame → frame_at (with_frame s version node base) number ≡ Some frame
frame_more s version node base number frame e = by (number == 0) e
  where
    by : (b : Bool) → cond b None (slice_get s.sent (number - 1)) ≡ Some frame → cond b None (slice_get (with_frame s version node base).sent (number - 1)) ≡ Some frame
    by true e = e
    by false e = get_more s.sent _ (number - 1) frame e

frame_stays : (s t : State) (number : ℕ) (frame : SentFrame) → IsMove s t → frame_at s number ≡ Some frame → frame_at t number ≡ Some frame
frame_stays s t number frame (Still e) at = ap (λ (u : State). frame_at u number) e ∙ at
frame_stays s t number frame (Entered node c is taken e) at = ap (λ (u : State). frame_at u number) e ∙ at
frame_stays s t number frame (Joined node other is m e) at = ap (λ (u : State). frame_at u number) e ∙ at
frame_stays s t number frame (Posted version node base is nodes below e) at =
    ap (λ (u : State). frame_at u number) e ∙ frame_more s version node base number frame at

pub frame_kept : (s t : State) (events : List Event) (replies : List EventReply) (number : ℕ) (frame : SentFrame) → Runs s events replies t → frame_at s number ≡ Some frame → frame_at t number ≡ Some frame
frame_kept s t [] [] number frame runs at = ap (λ (u : State). frame_at u number) runs ∙ at
frame_kept s t [] (reply ∷ replies) number frame runs at = absurd runs
frame_kept s t (event ∷ events) [] number frame runs at = absurd runs
frame_kept s t (event ∷ events) (reply ∷ replies) number frame runs at =
    frame_kept runs.0 t events replies number frame runs.2 (frame_stays s runs.0 number frame (step_moves s runs.0 event reply runs.1) at)

pub frame_new : (s : State) (version : Version) (node : ℕ) (base : List ℕ) → frame_at (with_frame s version node base) (length s.sent + 1) ≡ Some (record { version = version; base = base; front = front_of s node })
frame_new s version node base =
    let some : ((length s.sent + 1) == 0) ≡ false = grind (arith, nat_tests) in
    let place : length s.sent + 1 - 1 ≡ length s.sent = omega arith in
    rw (some, place) (get_last s.sent added)
  where
    added : SentFrame
    added = record { version = version; base = base; front = front_of s node }

-- A step that sends a frame

sends_sent : (s t : State) (node : ℕ) (base : List ℕ) (version : Version) (number : ℕ) → Sends s node base version (Sent number) t → (number ≡ length s.sent + 1) × (t ≡ with_frame s version node base)
sends_sent s t node base version number (inl h) = absurd (let wrong = h.1.0 in cc)
sends_sent s t node base version number (inr (inl h)) = absurd (let wrong = h.2.0 in cc)
sends_sent s t node base version number (inr (inr (inl h))) = absurd (let wrong = h.3.0 in cc)
sends_sent s t node base version number (inr (inr (inr h))) = ((let same = h.3 in cc), h.4)

step_sent : (s t : State) (node : ℕ) (base : List ℕ) (version : Version) (number : ℕ) → Steps s (Send node base version) (Sent number) t → (number ≡ length s.sent + 1) × (t ≡ with_frame s version node base)
step_sent s t node base version number step = by (is_node s node) step
  where
    by : (b : Bool) → IfNode b s (Sends s node base version (Sent number) t) (Sent number) t → (number ≡ length s.sent + 1) × (t ≡ with_frame s version node base)
    by true h = sends_sent s t node base version number h
    by false h = absurd (let wrong = h.0 in cc)

-- A step that takes a frame

takes_took : (s t : State) (node : ℕ) (frame : SentFrame) (bytes : List ℕ) (kept : ℕ) → Takes s node frame bytes kept Took t → t ≡ with_front s node (join_fronts (front_of s node) frame.front)
takes_took s t node frame bytes kept (inl h) = absurd (let wrong = h.1.0 in cc)
takes_took s t node frame bytes kept (inr (inl h)) = absurd (let wrong = h.1.2.0 in cc)
takes_took s t node frame bytes kept (inr (inr (inl h))) = absurd (let wrong = h.2.0 in cc)
takes_took s t node frame bytes kept (inr (inr (inr h))) = h.3

-- the node joined the front of a frame that was sent
record IsTaken (s t : State) (node number : ℕ) : Type 0 where
  pub frame : SentFrame
  pub there : frame_at s number ≡ Some frame
  pub after : t ≡ with_front s node (join_fronts (front_of s node) frame.front)

comes_took : (s t : State) (node number kept : ℕ) (found : Option SentFrame) → frame_at s number ≡ found → Comes s node found kept Took t → IsTaken s t node number
comes_took s t node number kept None at h = absurd (let wrong = h.0 in cc)
comes_took s t node number kept (Some frame) at h = record { frame = frame; there = at; after = takes_took s t node frame h.0 kept h.2 }

step_took : (s t : State) (node number kept : ℕ) → Steps s (Deliver number node kept) Took t → IsTaken s t node number
step_took s t node number kept step = by (is_node s node) step
  where
    by : (b : Bool) → IfNode b s (Comes s node (frame_at s number) kept Took t) Took t → IsTaken s t node number
    by true h = comes_took s t node number kept (frame_at s number) refl h
    by false h = absurd (let wrong = h.0 in cc)

-- Runs in which a frame is sent and taken

pub still_node : (s t : State) (node : ℕ) → IsKeptBy s t → IsNode s node → IsNode t node
still_node s t node kept is = record { some = is.some; there = omega (arith, is.there, kept.grown.nodes) }

-- a frame that is sent in a run counts all that its sender did before
record WasSent (s t : State) (node number : ℕ) : Type 0 where
  pub frame : SentFrame
  pub there : frame_at t number ≡ Some frame
  pub counts : IsBelow (front_of s node) frame.front

sent_in : (s t : State) (events : List Event) (replies : List EventReply) (node : ℕ) (base : List ℕ) (version : Version) (number : ℕ) → IsWorld s → Runs s events replies t → IsNode s node → Occurs (Send node base version) (Sent number) events replies → WasSent s t node number
sent_in s t [] replies node base version number world runs is occurs = absurd occurs
sent_in s t (event ∷ events) [] node base version number world runs is occurs = absurd occurs
sent_in s t (event ∷ events) (reply ∷ replies) node base version number world runs is (inl same) =
    let step : Steps s (Send node base version) (Sent number) runs.0 =
    subst (λ (e : Event). Steps s e (Sent number) runs.0) same.0 (subst (λ (r : EventReply). Steps s event r runs.0) same.1 runs.1) in
    let sent = step_sent s runs.0 node base version number step in
    let added : SentFrame = record { version = version; base = base; front = front_of s node } in
    record {
      frame = added;
      there = frame_kept runs.0 t events replies number added runs.2
          (ap (λ (u : State). frame_at u number) sent.1 ∙ ap (frame_at (with_frame s version node base)) sent.0 ∙ frame_new s version node base);
      counts = λ n. omega arith;
    }
sent_in s t (event ∷ events) (reply ∷ replies) node base version number world runs is (inr later) =
    let first = step_keeps s runs.0 event reply world runs.1 in
    let rest = sent_in runs.0 t events replies node base version number first.world runs.2 (still_node s runs.0 node first is) later in
    record { frame = rest.frame; there = rest.there; counts = λ n. omega (arith, first.risen node is n, rest.counts n) }

took_in : (s t : State) (events : List Event) (replies : List EventReply) (node number kept : ℕ) (frame : SentFrame) → IsWorld s → Runs s events replies t → IsNode s node → Occurs (Deliver number node kept) Took events replies → frame_at t number ≡ Some frame → IsBelow frame.front (front_of t node)
took_in s t [] replies node number kept frame world runs is occurs at = absurd occurs
took_in s t (event ∷ events) [] node number kept frame world runs is occurs at = absurd occurs
took_in s t (event ∷ events) (reply ∷ replies) node number kept frame world runs is (inl same) at =
    let step : Steps s (Deliver number node kept) Took runs.0 =
    subst (λ (e : Event). Steps s e Took runs.0) same.0 (subst (λ (r : EventReply). Steps s event r runs.0) same.1 runs.1) in
    let taken = step_took s runs.0 node number kept step in
    let first = step_keeps s runs.0 event reply world runs.1 in
    let rest = run_keeps runs.0 t events replies first.world runs.2 in
    let known : frame_at t number ≡ Some taken.frame = frame_kept s t (event ∷ events) (reply ∷ replies) number taken.frame runs taken.there in
    let one : taken.frame ≡ frame = same_frame taken.frame frame (sym known ∙ at) in
    let here : front_of runs.0 node ≡ join_fronts (front_of s node) taken.frame.front =
    ap (λ (u : State). front_of u node) taken.after ∙ get_or-set_same s.fronts (node - 1) (join_fronts (front_of s node) taken.frame.front) [] (omega (arith, is.some, is.there, world.nodes)) in
    λ n. omega (arith, ap (λ (f : SentFrame). count f.front n) one, below_right (front_of s node) taken.frame.front n, ap (λ (v : List ℕ). count v n) here, rest.risen node (still_node s runs.0 node first is) n)
  where
    same_frame : (f g : SentFrame) → ◌≡◌ {A = Option SentFrame} (Some f) (Some g) → f ≡ g
    same_frame f g e = cc
took_in s t (event ∷ events) (reply ∷ replies) node number kept frame world runs is (inr later) at =
    let first = step_keeps s runs.0 event reply world runs.1 in
    took_in runs.0 t events replies node number kept frame first.world runs.2 (still_node s runs.0 node first is) later at

-- so a node that takes a frame which another sends in the run counts what that node counted before
pub hears_below : (s t : State) (events : List Event) (replies : List EventReply) (from to : ℕ) → IsWorld s → Runs s events replies t → IsNode s from → IsNode s to → HearsOf from to events replies → IsBelow (front_of s from) (front_of t to)
hears_below s t events replies from to world runs one other hears =
    let sent = sent_in s t events replies from hears.base hears.version hears.number world runs one hears.sends in
    let took = took_in s t events replies to hears.number hears.kept sent.frame world runs other hears.takes sent.there in
    λ n. omega (arith, sent.counts n, took n)
