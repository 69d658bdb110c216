-- from each state a round can be made: each node sends a frame since nothing, and each takes all of
-- them
use Rattle.std.proofs.Common.{◌≡◌, inl, inr, ◌≤◌, ◌+◌, ℕ, zero, suc, List, [], ◌∷◌, ◌++◌, refl, sym, ap, subst, ◌∙◌, Bool, arith, Option, Some, length, replicate}
use Rattle.std.proofs.lemmas.List.{length-replicate}
use Rattle.state_ids.specs.Fronts.{IsBelow, join_fronts}
use Rattle.theory_history.specs.Histories.{History, IsClosed}
use Rattle.theory_history.specs.Views.{View}
use Rattle.theory_history.proofs.Basics.{same_or_not}
use Rattle.wire_frames.specs.Frames.{Frame, frame_of}
use Rattle.wire_frames.specs.Encoding.{encoding_as}
use Rattle.wire_frames.specs.Rules.{IsDelta}
use Rattle.wire_frames.specs.Typed.{IsTyped}
use Rattle.wire_frames.specs.declared.version.Version.TheVariants.{Two}
use Rattle.wire_frames.proofs.Grammar.{grammar_law}
use Rattle.wire_frames.proofs.HaveEncodings.{is_delta}
use Rattle.script_world.specs.declared.event.Event.{Event}
use Rattle.script_world.specs.declared.event.Event.TheVariants.{Deliver, Send}
use Rattle.script_world.specs.declared.event.EventReply.{EventReply}
use Rattle.script_world.specs.declared.event.EventReply.TheVariants.{Sent, Took}
use Rattle.script_world.specs.Headline.{IsNode}
use Rattle.script_world.specs.Worlds.{Comes, IfNode, IsEncoded, IsViewOf, IsWorld, Runs, Sends, SentFrame, State, Steps, frame_at, front_of, nodes_of, with_frame, with_front}
use Rattle.script_world.proofs.Converging.{run_on}
use Rattle.theory_progress.specs.Rounds.{CanTell, HasRound, Occurs}
use Rattle.theory_progress.proofs.Hearing.{frame_kept, frame_new}
use Rattle.theory_progress.proofs.NeverRefused.{node_is, nothing_below, two_tells}

-- what happens in a run happens in a longer one
occurs_before : (event : Event) (reply : EventReply) (es fs : List Event) (rs qs : List EventReply) → Occurs event reply es rs → Occurs event reply (es ++ fs) (rs ++ qs)
occurs_before event reply [] fs rs qs o = absurd o
occurs_before event reply (e ∷ es) fs [] qs o = absurd o
occurs_before event reply (e ∷ es) fs (r ∷ rs) qs (inl here) = inl here
occurs_before event reply (e ∷ es) fs (r ∷ rs) qs (inr later) = inr (occurs_before event reply es fs rs qs later)

occurs_behind : (s t : State) (event : Event) (reply : EventReply) (es fs : List Event) (rs qs : List EventReply) → Runs s es rs t → Occurs event reply fs qs → Occurs event reply (es ++ fs) (rs ++ qs)
occurs_behind s t event reply [] fs [] qs runs o = o
occurs_behind s t event reply [] fs (r ∷ rs) qs runs o = absurd runs
occurs_behind s t event reply (e ∷ es) fs [] qs runs o = absurd runs
occurs_behind s t event reply (e ∷ es) fs (r ∷ rs) qs runs o = inr (occurs_behind runs.0 t event reply es fs rs qs runs.2 o)

-- Sending

-- the frame of a node since nothing
abbrev sent_by : State → ℕ → SentFrame
sent_by s node = record { version = Two; base = replicate (nodes_of s) 0; front = front_of s node }

send_step : (s : State) (node : ℕ) → IsNode s node → Steps s (Send node (replicate (nodes_of s) 0) Two) (Sent (length s.sent + 1)) (with_frame s Two node (replicate (nodes_of s) 0))
send_step s node is = subst (λ (b : Bool). IfNode b s (Sends s node (replicate (nodes_of s) 0) Two reply t) reply t) (sym (node_is s node is)) sends
  where
    t : State
    t = with_frame s Two node (replicate (nodes_of s) 0)

    reply : EventReply
    reply = Sent (length s.sent + 1)

    sends : Sends s node (replicate (nodes_of s) 0) Two reply t
    sends = inr (inr (inr (length-replicate {A = ℕ} (nodes_of s) 0, nothing_below (nodes_of s) (front_of s node), two_tells s node (replicate (nodes_of s) 0), refl, refl)))

-- the first n nodes have each sent a frame
record HasSent (s : State) (n : ℕ) : Type 0 where
  state : State
  events : List Event
  replies : List EventReply
  runs : Runs s events replies state
  history : state.history ≡ s.history
  fronts : state.fronts ≡ s.fronts
  each : (node : ℕ) → 1 ≤ node → node ≤ n → (number : ℕ) × (frame_at state number ≡ Some (sent_by s node)) × Occurs (Send node (replicate (nodes_of s) 0) Two) (Sent number) events replies

sends_more : (n : ℕ) (s : State) → suc n ≤ nodes_of s → HasSent (with_frame s Two (suc n) (replicate (nodes_of s) 0)) n → HasSent s (suc n)
sends_more n s few rest =
    record {
      state = rest.state;
      events = Send (suc n) (replicate (nodes_of s) 0) Two ∷ rest.events;
      replies = Sent (length s.sent + 1) ∷ rest.replies;
      runs = (mid, send_step s (suc n) (record { some = omega arith; there = few }), rest.runs);
      history = rest.history;
      fronts = rest.fronts;
      each = λ node some few. elim (same_or_not node (suc n)) [
        | inl same ↦ (
          length s.sent + 1,
          frame_kept mid rest.state rest.events rest.replies (length s.sent + 1) (sent_by s node) rest.runs (subst (λ (k : ℕ). frame_at mid (length s.sent + 1) ≡ Some (sent_by s k)) (sym same) (frame_new s Two (suc n) (replicate (nodes_of s) 0))),
          inl (ap (λ (k : ℕ). Send k (replicate (nodes_of s) 0) Two) (sym same), refl),
        )
        | inr other ↦ let later = rest.each node some (omega (arith, few, other)) in (later.0, later.1, inr later.2)
      ];
    }
  where
    mid : State
    mid = with_frame s Two (suc n) (replicate (nodes_of s) 0)

sends_all : (n : ℕ) (s : State) → n ≤ nodes_of s → HasSent s n
sends_all zero s few = record { state = s; events = []; replies = []; runs = refl; history = refl; fronts = refl; each = λ node some none. absurd (omega (arith, some, none)) }
sends_all (suc n) s few = sends_more n s few (sends_all n (with_frame s Two (suc n) (replicate (nodes_of s) 0)) (omega (arith, few)))

-- Delivering

-- P is what is known of the number of a node's frame
module _ (P : ℕ → ℕ → Type 0) where
  -- a frame of the node, since nothing, and its bytes
  record IsReady (s : State) (from : ℕ) : Type 0 where
    number : ℕ
    known : P from number
    frame : SentFrame
    bytes : List ℕ
    there : frame_at s number ≡ Some frame
    base : frame.base ≡ replicate (nodes_of s) 0
    encoded : IsEncoded s.history frame bytes

  -- the node took such a frame from the other
  abbrev IsHeard : (from to : ℕ) → List Event → List EventReply → Type 0
  IsHeard from to events replies = (number : ℕ) × P from number × ((kept : ℕ) × Occurs (Deliver number to kept) Took events replies)

  deliver_step : (s : State) (from to : ℕ) (ready : IsReady s from) → IsNode s to → Steps s (Deliver ready.number to (length ready.bytes)) Took (with_front s to (join_fronts (front_of s to) ready.frame.front))
  deliver_step s from to ready is = subst (λ (b : Bool). IfNode b s (Comes s to (frame_at s ready.number) (length ready.bytes) Took t) Took t) (sym (node_is s to is)) comes
    where
      t : State
      t = with_front s to (join_fronts (front_of s to) ready.frame.front)

      below : IsBelow ready.frame.base (front_of s to)
      below = subst (λ (b : List ℕ). IsBelow b (front_of s to)) (sym ready.base) (nothing_below (nodes_of s) (front_of s to))

      comes : Comes s to (frame_at s ready.number) (length ready.bytes) Took t
      comes = subst (λ (o : Option SentFrame). Comes s to o (length ready.bytes) Took t) (sym ready.there) (ready.bytes, ready.encoded, inr (inr (inr (refl, below, refl, refl))))

  -- a frame is still ready if nothing was entered and no frame is gone
  ready_still : (s t : State) (from : ℕ) → t.history ≡ s.history → t.sent ≡ s.sent → IsReady s from → IsReady t from
  ready_still s t from history sent ready =
      record {
        number = ready.number;
        known = ready.known;
        frame = ready.frame;
        bytes = ready.bytes;
        there = ap (λ (fs : List SentFrame). frame_at (record { history = t.history; fronts = t.fronts; sent = fs }) ready.number) sent ∙ ready.there;
        base = ready.base ∙ ap (λ (h : History). replicate (length h) 0) (sym history);
        encoded = subst (λ (h : History). IsEncoded h ready.frame ready.bytes) (sym history) ready.encoded;
      }

  abbrev AreReady : State → ℕ → Type 0
  AreReady s n = (from : ℕ) → 1 ≤ from → from ≤ n → IsReady s from

  -- a node takes the frames of the first n nodes
  record HasTaken (s : State) (to n : ℕ) : Type 0 where
    state : State
    events : List Event
    replies : List EventReply
    runs : Runs s events replies state
    history : state.history ≡ s.history
    sent : state.sent ≡ s.sent
    each : (from : ℕ) → 1 ≤ from → from ≤ n → IsHeard from to events replies

  -- the state after one of them was taken
  abbrev after_one : (s : State) (from to : ℕ) → IsReady s from → State
  after_one s from to ready = with_front s to (join_fronts (front_of s to) ready.frame.front)

  takes_more : (n : ℕ) (s : State) (to : ℕ) (last : IsReady s (suc n)) → IsNode s to → HasTaken (after_one s (suc n) to last) to n → HasTaken s to (suc n)
  takes_more n s to last is rest =
      record {
        state = rest.state;
        events = Deliver last.number to (length last.bytes) ∷ rest.events;
        replies = Took ∷ rest.replies;
        runs = (after_one s (suc n) to last, deliver_step s (suc n) to last is, rest.runs);
        history = rest.history;
        sent = rest.sent;
        each = λ from some few. elim (same_or_not from (suc n)) [
          | inl same ↦ (last.number, subst (λ (k : ℕ). P k last.number) (sym same) last.known, (length last.bytes, inl (refl, refl)))
          | inr other ↦ let later = rest.each from some (omega (arith, few, other)) in (later.0, later.1, (later.2.0, inr later.2.1))
        ];
      }

  takes_all : (n : ℕ) (s : State) (to : ℕ) → IsNode s to → AreReady s n → HasTaken s to n
  takes_all zero s to is ready = record { state = s; events = []; replies = []; runs = refl; history = refl; sent = refl; each = λ from some none. absurd (omega (arith, some, none)) }
  takes_all (suc n) s to is ready =
      let last = ready (suc n) (omega arith) (omega arith) in
      takes_more n s to last is
      (takes_all n (after_one s (suc n) to last) to (record { some = is.some; there = is.there })
      (λ from some few. ready_still s (after_one s (suc n) to last) from refl refl (ready from some (omega (arith, few)))))

  -- the first n nodes take the frames of all
  record HaveHeard (s : State) (n all : ℕ) : Type 0 where
    state : State
    events : List Event
    replies : List EventReply
    runs : Runs s events replies state
    history : state.history ≡ s.history
    each : (from to : ℕ) → 1 ≤ from → from ≤ all → 1 ≤ to → to ≤ n → IsHeard from to events replies

  hear_more : (n all : ℕ) (s : State) (first : HasTaken s (suc n) all) → HaveHeard first.state n all → HaveHeard s (suc n) all
  hear_more n all s first rest =
      record {
        state = rest.state;
        events = first.events ++ rest.events;
        replies = first.replies ++ rest.replies;
        runs = run_on s first.state rest.state first.events rest.events first.replies rest.replies first.runs rest.runs;
        history = rest.history ∙ first.history;
        each = λ from to some there one few. elim (same_or_not to (suc n)) [
          | inl same ↦
              let took = first.each from some there in
              (took.0, took.1, (took.2.0, occurs_before (Deliver took.0 to took.2.0) Took first.events rest.events first.replies rest.replies (subst (λ (k : ℕ). Occurs (Deliver took.0 k took.2.0) Took first.events first.replies) (sym same) took.2.1)))
          | inr other ↦
              let took = rest.each from to some there one (omega (arith, few, other)) in
              (took.0, took.1, (took.2.0, occurs_behind s first.state (Deliver took.0 to took.2.0) Took first.events rest.events first.replies rest.replies first.runs took.2.1))
        ];
      }

  hear_all : (n all : ℕ) (s : State) → n ≤ nodes_of s → AreReady s all → HaveHeard s n all
  hear_all zero all s few ready = record { state = s; events = []; replies = []; runs = refl; history = refl; each = λ from to some there one none. absurd (omega (arith, one, none)) }
  hear_all (suc n) all s few ready =
      let first = takes_all all s (suc n) (record { some = omega arith; there = few }) ready in
      hear_more n all s first
      (hear_all n all first.state (omega (arith, few, ap (λ (h : History). length h) first.history))
      (λ from some there. ready_still s first.state from first.history first.sent (ready from some there)))

-- A round

module _ (s : State) (world : IsWorld s) (can : CanTell s) where
  sent : HasSent s (nodes_of s)
  sent = sends_all (nodes_of s) s (omega arith)

  -- what is known of a frame's number: its node sent it
  abbrev WasGiven : ℕ → ℕ → Type 0
  WasGiven from number = Occurs (Send from (replicate (nodes_of s) 0) Two) (Sent number) sent.events sent.replies

  encoded : (node : ℕ) → IsNode s node → (bytes : List ℕ) × IsEncoded s.history (sent_by s node) bytes
  encoded node is = (encoding_as Two told, record { view = view; sender = can_node.1; rules = rules; encodes = refl })
    where
      can_node : (view : View) × IsViewOf s.history (front_of s node) view × IsTyped (frame_of view (replicate (nodes_of s) 0))
      can_node = can node is

      view : View
      view = can_node.0

      told : Frame
      told = frame_of view (replicate (nodes_of s) 0)

      closed : IsClosed s.history (front_of s node)
      closed = (world.current node is.some is.there).closed

      rules : IsDelta told
      rules =
          is_delta told can_node.2
          (grammar_law s.history (front_of s node) (replicate (nodes_of s) 0) view world.lawful closed can_node.1.stands
          (length-replicate {A = ℕ} (nodes_of s) 0 ∙ sym closed.nodes ∙ ap (λ (v : List ℕ). length v) (sym can_node.1.counts))
          (nothing_below (nodes_of s) view.front))

  ready : AreReady WasGiven sent.state (nodes_of s)
  ready from some there =
      let gave = sent.each from some there in
      let bytes = encoded from (record { some = some; there = there }) in
      record {
        number = gave.0;
        known = gave.2;
        frame = sent_by s from;
        bytes = bytes.0;
        there = gave.1;
        base = ap (λ (h : History). replicate (length h) 0) (sym sent.history);
        encoded = subst (λ (h : History). IsEncoded h (sent_by s from) bytes.0) (sym sent.history) bytes.1;
      }

  heard : HaveHeard WasGiven sent.state (nodes_of s) (nodes_of s)
  heard = hear_all WasGiven (nodes_of s) (nodes_of s) sent.state (omega (arith, ap (λ (h : History). length h) sent.history)) ready

  pub round_exists : HasRound s
  round_exists =
      record {
        state = heard.state;
        events = sent.events ++ heard.events;
        replies = sent.replies ++ heard.replies;
        runs = run_on s sent.state heard.state sent.events heard.events sent.replies heard.replies sent.runs heard.runs;
        still = heard.history ∙ sent.history;
        round = λ from to one other apart.
            let took = heard.each from to one.some one.there other.some other.there in
            record {
              base = replicate (nodes_of s) 0;
              version = Two;
              number = took.0;
              kept = took.2.0;
              sends = occurs_before (Send from (replicate (nodes_of s) 0) Two) (Sent took.0) sent.events heard.events sent.replies heard.replies took.1;
              takes = occurs_behind s sent.state (Deliver took.0 to took.2.0) Took sent.events heard.events sent.replies heard.replies sent.runs took.2.1;
            };
      }
