-- What a node makes of a frame that arrives.
use Rattle.std.proofs.Common.{◌≡◌, ◌⊎◌, inl, inr, ◌≤◌, ◌<◌, ◌-◌, ◌==◌, ◌&&◌, ℕ, zero, suc, List, [], ◌∷◌, ◌++◌, Result, Ok, Err, refl, sym, ap, subst, ◌∙◌, Bool, true, false, cond, arith, Option, None, Some, get_or-set_other, get_or-set_same, length, nat_le, nat_lt, slice_get, take, drop}
use Rattle.std.proofs.Math.Seq.{take-length}
use Rattle.std.proofs.lemmas.List.{append-nil, take-append-drop}
use Rattle.std.proofs.lemmas.Bool.Decides.{nat_tests}
use Rattle.state_ids.specs.Fronts.{IsBelow, join_fronts}
use Rattle.state_facts.specs.declared.refusal.Refusal.TheVariants.{Gap}
use Rattle.state_forest.proofs.GiversOfNumbers.{get_in}
use Rattle.theory_history.specs.Histories.{facts}
use Rattle.state_replica.specs.Replicas.{view_of}
use Rattle.theory_history.specs.Views.{View}
use Rattle.wire_frames.specs.declared.input.Stop.{Stop}
use Rattle.wire_frames.specs.declared.input.Stop.TheVariants.{Fault}
use Rattle.wire_frames.specs.Frames.{Frame, frame_of}
use Rattle.wire_frames.specs.Reading.{frame_in}
use Rattle.wire_frames.specs.Rules.{IsDeltaAs}
use Rattle.wire_frames.specs.Encoding.{encoding_as}
use Rattle.wire_frames.specs.declared.version.Version.{Version}
use Rattle.wire_frames.proofs.FrameCodes.{frame_again, one_delta}
use Rattle.wire_frames.proofs.OfSets.{frame_stands}
use Rattle.script_world.specs.declared.event.Event.TheVariants.{Deliver}
use Rattle.script_world.specs.declared.event.EventReply.{EventReply}
use Rattle.script_world.specs.declared.event.EventReply.TheVariants.{Refused, Took}
use Rattle.script_world.proofs.Belows.{below_or_not}
use Rattle.script_world.specs.Headline.{IsNode}
use Rattle.script_world.specs.Machines.{Happens, IsChanged, IsFrom, IsWorldOf, Machine, TakesBytes, TakesFrame}
use Rattle.script_world.specs.Worlds.{Comes, SentFrame, IfNode, IsSent, IsEncoded, IsViewOf, IsWorld, State, Steps, Takes, frame_at, front_of, is_node, nodes_of, with_front}
use Rattle.script_world.proofs.OneReplicaChanged.{TakesSo, get_some}
use Rattle.script_world.proofs.Moving.{kept_joined}
use Rattle.script_world.proofs.WorldsStand.{changed_world, still_world, with_so}

-- a frame of the state arrives at a node of the state
record IsComing (s : State) (node : ℕ) (frame : SentFrame) (bytes : List ℕ) (a : View) : Type 0 where
  world : IsWorld s
  node_is : IsNode s node
  sent : IsSent s.history frame
  encoded : IsEncoded s.history frame bytes
  own : IsViewOf s.history (front_of s node) a

-- the frame that was sent
abbrev frame_from : (s : State) (node : ℕ) (frame : SentFrame) (bytes : List ℕ) (a : View) → IsComing s node frame bytes a → Frame
frame_from s node frame bytes a coming = frame_of coming.encoded.view frame.base

is_from : (s : State) (node : ℕ) (frame : SentFrame) (bytes : List ℕ) (a : View) (coming : IsComing s node frame bytes a) → IsFrom s.history (front_of s node) frame.front a (frame_from s node frame bytes a coming)
is_from s node frame bytes a coming =
    record {
      lawful = coming.world.lawful;
      receiver = (coming.world.current node coming.node_is.some coming.node_is.there).closed;
      sender = coming.sent.closed;
      own = coming.own;
      told = frame_stands (facts s.history frame.front) coming.encoded.view frame.base coming.encoded.sender.stands;
      counts = coming.encoded.sender.counts;
    }

-- all bytes of the frame are read as the frame, and fewer are read as nothing
is_frame : (v w : Version) (frame read : Frame) (bytes rest : List ℕ) → IsDeltaAs v frame → IsDeltaAs w read → bytes ≡ encoding_as v frame → encoding_as w read ++ rest ≡ bytes → (read ≡ frame) × (rest ≡ [])
is_frame v w frame read bytes rest rules also encodes e =
    let one = one_delta w v read frame rest [] also rules (e ∙ encodes ∙ sym (append-nil (encoding_as v frame))) in
    (one.1, one.2)

-- either nothing changes, or the view becomes that of the joined front
data Taken (s : State) (node : ℕ) (frame : SentFrame) (bytes : List ℕ) (kept : ℕ) (reply : EventReply) (a c : View) : Type 0 where
  Unchanged : c ≡ a → Takes s node frame bytes kept reply s → Taken s node frame bytes kept reply a c
  Changed : IsViewOf s.history (join_fronts (front_of s node) frame.front) c
      → Takes s node frame bytes kept reply (with_front s node (join_fronts (front_of s node) frame.front)) → Taken s node frame bytes kept reply a c

takes_frame : (s : State) (node : ℕ) (frame : SentFrame) (bytes : List ℕ) (kept : ℕ) (reply : EventReply) (a c : View) (coming : IsComing s node frame bytes a) → kept ≡ length bytes
    → TakesFrame a (frame_from s node frame bytes a coming) reply c → Taken s node frame bytes kept reply a c
takes_frame s node frame bytes kept reply a c coming all takes = elim (below_or_not frame.base (front_of s node)) [
  | inl below ↦ let took = is.0 below in Changed took.1 (inr (inr (inr (all, below, took.0, refl))))
  | inr not_below ↦ let gap = is.1 not_below in Unchanged gap.1 (inr (inr (inl (all, not_below, (gap.0, refl)))))
]
  where
    is : (IsBelow frame.base (front_of s node) → (reply ≡ Took) × IsViewOf s.history (join_fronts (front_of s node) frame.front) c)
        × ((IsBelow frame.base (front_of s node) → ⊥) → (reply ≡ Refused (Gap (front_of s node))) × (c ≡ a))
    is = takes s.history (front_of s node) frame.front (is_from s node frame bytes a coming)

-- all bytes of a frame arrived: what they encode is that frame
pub all_read : (v : Version) (f : Frame) (bytes : List ℕ) (reply : EventReply) (a c : View) → IsDeltaAs v f → bytes ≡ encoding_as v f → TakesBytes a bytes (length bytes) reply c → TakesFrame a f reply c
all_read v f bytes reply a c rules encodes (inl more) = absurd (omega (arith, more.0))
all_read v f bytes reply a c rules encodes (inr (inl cut)) =
    let read : frame_in (take (length bytes) bytes) ≡ Ok f = ap frame_in (take-length bytes ∙ encodes) ∙ frame_again v f rules in
    absurd (not_both cut.1.0 (sym read ∙ cut.1.1))
  where
    not_both : (place : ℕ) → ◌≡◌ {A = Result Frame Stop} (Ok f) (Err (Fault place)) → ⊥
    not_both place e = absurd cc
all_read v f bytes reply a c rules encodes (inr (inr read)) =
    let is = read.1.1 in
    let whole : encoding_as is.0 read.1.0 ++ [] ≡ bytes = append-nil (encoding_as is.0 read.1.0) ∙ sym is.2 ∙ take-length bytes in
    subst (λ (d : Frame). TakesFrame a d reply c) (is_frame v is.0 f read.1.0 bytes [] rules is.1 encodes whole).0 read.1.2

-- `kept` is more bytes than there are, fewer, or all
less_or_all : (count kept : ℕ) → (count < kept) ⊎ ((kept < count) ⊎ (kept ≡ count))
less_or_all count kept = by (nat_lt count kept) (nat_lt kept count) refl refl
  where
    by : (t u : Bool) → nat_lt count kept ≡ t → nat_lt kept count ≡ u → (count < kept) ⊎ ((kept < count) ⊎ (kept ≡ count))
    by true u e f = let h : count < kept = grind (arith, nat_tests) in inl h
    by false true e f = let h : kept < count = grind (arith, nat_tests) in inr (inl h)
    by false false e f = let h : kept ≤ count = grind (arith, nat_tests) in let k : count ≤ kept = grind (arith, nat_tests) in inr (inr (omega (arith, h, k)))

takes_some : (s : State) (node : ℕ) (frame : SentFrame) (bytes : List ℕ) (kept : ℕ) (reply : EventReply) (a c : View) → IsComing s node frame bytes a → kept < length bytes → TakesBytes a bytes kept reply c → Taken s node frame bytes kept reply a c
takes_some s node frame bytes kept reply a c coming less (inl more) = absurd (omega (arith, less, more.0))
takes_some s node frame bytes kept reply a c coming less (inr (inl cut)) = Unchanged cut.1.3 (inr (inl (less, (cut.1.0, cut.1.1, (cut.1.2, refl)))))
takes_some s node frame bytes kept reply a c coming less (inr (inr read)) =
    let is = read.1.1 in
    let one = is_frame frame.version is.0 (frame_from s node frame bytes a coming) read.1.0 bytes (drop kept bytes) coming.encoded.rules is.1 coming.encoded.encodes
    (ap (λ (b : List ℕ). b ++ drop kept bytes) (sym is.2) ∙ take-append-drop kept bytes) in
    absurd (left_over kept bytes less one.1)
  where
    left_over : (n : ℕ) (xs : List ℕ) → n < length xs → drop n xs ≡ [] → ⊥
    left_over n [] h e = absurd (omega (arith, h))
    left_over zero (x ∷ xs) h e = absurd cc
    left_over (suc n) (x ∷ xs) h e = left_over n xs (omega (arith, h)) e

takes_bytes : (s : State) (node : ℕ) (frame : SentFrame) (bytes : List ℕ) (kept : ℕ) (reply : EventReply) (a c : View) → IsComing s node frame bytes a → TakesBytes a bytes kept reply c → Taken s node frame bytes kept reply a c
takes_bytes s node frame bytes kept reply a c coming takes = elim (less_or_all (length bytes) kept) [
  | inl more ↦ beyond more takes
  | inr within ↦ elim within [
    | inl less ↦ takes_some s node frame bytes kept reply a c coming less takes
    | inr all ↦ takes_frame s node frame bytes kept reply a c coming all
        (all_read frame.version (frame_from s node frame bytes a coming) bytes reply a c coming.encoded.rules coming.encoded.encodes
        (subst (λ (n : ℕ). TakesBytes a bytes n reply c) all takes))
  ]
]
  where
    beyond : length bytes < kept → TakesBytes a bytes kept reply c → Taken s node frame bytes kept reply a c
    beyond more (inl is) = Unchanged is.2 (inl (is.0, (is.1, refl)))
    beyond more (inr (inl cut)) = absurd (omega (arith, more, cut.0))
    beyond more (inr (inr read)) = absurd (omega (arith, more, read.0))

-- what happens if there is such a node
pub at_node : (s t : State) (node : ℕ) (happens : Type 0) (reply : EventReply) → IsNode s node → happens → IfNode (is_node s node) s happens reply t
at_node s t node happens reply is h = subst (λ (b : Bool). IfNode b s happens reply t) (sym yes) h
  where
    le : (a b : ℕ) → a ≤ b → nat_le a b ≡ true
    le a b h = grind (arith, nat_tests)

    yes : is_node s node ≡ true
    yes = ap (λ (b : Bool). b && nat_le node (nodes_of s)) (le 1 node is.some) ∙ le node (nodes_of s) is.there

pub frame_is : (s : State) (number : ℕ) (frame : SentFrame) → 1 ≤ number → slice_get s.sent (number - 1) ≡ Some frame → frame_at s number ≡ Some frame
frame_is s number frame some at = by (number == 0) refl
  where
    by : (b : Bool) → (number == 0) ≡ b → cond b None (slice_get s.sent (number - 1)) ≡ Some frame
    by false e = at
    by true e = let zero : number ≡ 0 = grind (arith, nat_tests) in absurd (omega (arith, zero, some))

-- so an arriving frame leaves the world of the state after it
pub delivered_world : (s : State) (old new : Machine) (number node kept : ℕ) (reply : EventReply) → IsWorldOf s old → IsNode s node → 1 ≤ number → number - 1 < length old.sent
    → IsChanged old new node (TakesSo old (number - 1) kept reply) → Happens s (Deliver number node kept) reply new
delivered_world s old new number node kept reply w is some there change =
    by (takes_bytes s node frame.0 bytes.0 kept reply (view_of change.was) (view_of change.now) coming (change.so bytes.0 bytes.1))
  where
    bytes : (b : List ℕ) × (slice_get old.sent (number - 1) ≡ Some b)
    bytes = get_some old.sent (number - 1) there

    frame : (f : SentFrame) × (slice_get s.sent (number - 1) ≡ Some f)
    frame = get_some s.sent (number - 1) (omega (arith, there, w.count))

    encoded : IsEncoded s.history frame.0 bytes.0
    encoded = w.frames (number - 1) frame.0 bytes.0 frame.1 bytes.1

    coming : IsComing s node frame.0 bytes.0 (view_of change.was)
    coming =
        record {
          world = w.world;
          node_is = is;
          sent = w.world.sent frame.0 (get_in s.sent (number - 1) frame.0 frame.1);
          encoded = encoded;
          own = w.views node change.was is.some change.at;
        }

    both : List ℕ
    both = join_fronts (front_of s node) frame.0.front

    steps : (t : State) → Takes s node frame.0 bytes.0 kept reply t → Steps s (Deliver number node kept) reply t
    steps t takes =
        at_node s t node (Comes s node (frame_at s number) kept reply t) reply is
        (subst (λ (f : Option SentFrame). Comes s node f kept reply t) (sym (frame_is s number frame.0 some frame.1)) (bytes.0, encoded, takes))

    by : Taken s node frame.0 bytes.0 kept reply (view_of change.was) (view_of change.now) → Happens s (Deliver number node kept) reply new
    by (Unchanged same takes) = (s, steps s takes, still_world s old new node w is (with_so old new node change same))
    by (Changed view takes) = (
      with_front s node both,
      steps (with_front s node both) takes,
      changed_world s (with_front s node both) old new node w
          (kept_joined s node frame.0 w.world is (get_in s.sent (number - 1) frame.0 frame.1)) refl is
          (λ n one other. get_or-set_other s.fronts (node - 1) (n - 1) both [] (λ q. other (omega (arith, q, one, is.some))))
          (with_so old new node change (subst (λ (v : List ℕ). IsViewOf s.history v (view_of change.now)) (sym mine) view)),
    )
      where
        mine : front_of (with_front s node both) node ≡ both
        mine = get_or-set_same s.fronts (node - 1) both [] (omega (arith, is.some, is.there, w.world.nodes))
