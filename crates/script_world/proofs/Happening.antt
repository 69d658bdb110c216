-- What happens in a world.
use Rattle.std.proofs.Common.{◌≡◌, ◌⊎◌, ◌+◌, zero, suc, inl, inr, [], ◌∷◌, ◌++◌, append_assoc, take, ◌≤◌, ◌-◌, ℕ, List, refl, sym, ap, subst, ◌∙◌, true, false, arith, Some, length, nat_le, slice_get}
use Rattle.std.proofs.Math.Seq.{take-append_seam}
use Rattle.std.proofs.lemmas.Bool.Decides.{nat_tests}
use Rattle.state_ids.specs.Ids.{Id}
use Rattle.std.proofs.lemmas.List.{length-append}
use Rattle.state_ids.specs.Fronts.{IsBelow}
use Rattle.state_facts.specs.declared.fact.Fact.{Fact}
use Rattle.state_facts.specs.declared.command.Command.{Command}
use Rattle.state_facts.specs.declared.command.Command.TheVariants.{Decide}
use Rattle.state_facts.specs.declared.command.CommandReply.{CommandReply}
use Rattle.state_ids.specs.declared.outcome.Verdict.TheVariants.{Cancel}
use Rattle.state_forest.specs.Overdue.{IsLeastOverdue}
use Rattle.theory_history.specs.Growth.{IsSettled}
use Rattle.theory_history.proofs.ClosedSets.{closed_settled}
use Rattle.theory_history.specs.Histories.{History, IsClosed, IsLawful, facts}
use Rattle.state_replica.specs.Replicas.{ReplicaState, view_of}
use Rattle.theory_history.specs.Views.{OfItsSet, StandsFor, View}
use Rattle.wire_frames.specs.declared.version.Version.{Version}
use Rattle.script_world.specs.declared.event.Event.{Event}
use Rattle.script_world.specs.declared.event.Event.TheVariants.{Act, Restart, Send, Tick}
use Rattle.script_world.specs.declared.event.EventReply.{EventReply}
use Rattle.script_world.specs.declared.event.EventReply.TheVariants.{Answered, Restarted, Sent}
use Rattle.script_world.specs.Headline.{IsNode}
use Rattle.script_world.specs.Machines.{Happens, IsChanged, IsExpired, IsWorldOf, LeadsTo, Machine, StopsIn}
use Rattle.script_world.specs.Worlds.{Acts, SentFrame, IsEncoded, IsViewOf, IsWorld, NeedsLater, Runs, Sends, State, Stays, Ticks, after_command, expired, front_of, needs_later, nodes_of, set_of, with_frame}
use Rattle.wire_frames.specs.Frames.{frame_of}
use Rattle.script_world.proofs.Agreeing.{same_view}
use Rattle.script_world.proofs.Determined.{never_both}
use Rattle.script_world.proofs.Delivering.{at_node}
use Rattle.script_world.proofs.Converging.{converged, one_step, run_on}
use Rattle.script_world.proofs.Moving.{kept_posted}
use Rattle.script_world.proofs.WorldsStand.{ActsSo, acted_world, still_world, with_so}

-- the node exists
pub node_there : (s : State) (m : Machine) (node : ℕ) → IsWorldOf s m → 1 ≤ node → nat_le node (length m.replicas) ≡ true → IsNode s node
node_there s m node w some e = let there : node ≤ length m.replicas = grind (arith, nat_tests) in record { some = some; there = omega (arith, there, w.nodes) }

pub act_happens : (s : State) (old new : Machine) (node : ℕ) (c : Command) (reply : CommandReply) → IsWorldOf s old → IsNode s node → IsChanged old new node (ActsSo node c reply) → Happens s (Act node c) (Answered reply) new
act_happens s old new node c reply w is change =
    let acted = acted_world s old new node c reply w is change in (
      after_command s node c,
      at_node s (after_command s node c) node (Acts s node c (Answered reply) (after_command s node c)) (Answered reply) is (ap Answered acted.0, refl),
      acted.1,
    )

pub restart_happens : (s : State) (old new : Machine) (node : ℕ) (reply : EventReply) → IsWorldOf s old → IsNode s node
    → IsChanged old new node (λ was now. (h : History) (v : List ℕ) → IsLawful h → IsClosed h v → StandsFor (facts h v) (view_of was) → was.front ≡ v → (reply ≡ Restarted) × (view_of now ≡ view_of was))
    → Happens s (Restart node) reply new
restart_happens s old new node reply w is change =
    let view = w.views node change.was is.some change.at in
    let same = change.so s.history (front_of s node) w.world.lawful (w.world.current node is.some is.there).closed view.stands view.counts in
    (s, at_node s s node (Stays s Restarted reply s) reply is (same.0, refl), still_world s old new node w is (with_so old new node change same.1))

-- a node's set is settled, and its replica stands for it
pub own_set : (s : State) (m : Machine) (node : ℕ) (kept : ReplicaState) → IsWorldOf s m → IsNode s node → slice_get m.replicas (node - 1) ≡ Some kept → IsSettled (set_of s node) × StandsFor (set_of s node) (view_of kept)
own_set s m node kept w is at = (
  closed_settled s.history w.world.lawful (front_of s node) (w.world.current node is.some is.there).closed,
  (w.views node kept is.some at).stands,
)

-- expiring an overdue LRA is what happens
pub expire_happens : (s : State) (old new : Machine) (node : ℕ) (l : Id) (reply : CommandReply) → IsWorldOf s old → IsNode s node → IsChanged old new node (ActsSo node (Decide l Cancel) reply) → IsExpired s node l (expired l reply) new
expire_happens s old new node l reply w is change =
    let acted = acted_world s old new node (Decide l Cancel) reply w is change in
    (after_command s node (Decide l Cancel), (ap (expired l) acted.0, refl), acted.1)

pub tick_happens : (s : State) (new : Machine) (node now : ℕ) (l : Id) (reply : EventReply) → IsNode s node → IsLeastOverdue (set_of s node) node now (Some l) → IsExpired s node l reply new → Happens s (Tick node now) reply new
tick_happens s new node now l reply is least e =
    (e.0, at_node s e.0 node (Ticks s node now reply e.0) reply is (Some l, least, e.1), e.2)

-- an answer that a view gives for each set that it stands for is the answer for the node's own set
pub of_own : {X : Type 0} (s : State) (m : Machine) (node : ℕ) (view : View) (answer : X) (of : List Fact → List ℕ → X) → IsWorldOf s m → 1 ≤ node → node ≤ length m.replicas
    → IsViewOf s.history (front_of s node) view → OfItsSet view (λ S. answer ≡ of S view.front) → answer ≡ of (set_of s node) (front_of s node)
of_own s m node view answer of w some there is says =
    let closed = (w.world.current node some (omega (arith, there, w.nodes))).closed in
    says (set_of s node) (closed_settled s.history w.world.lawful (front_of s node) closed) is.stands ∙ ap (of (set_of s node)) is.counts

-- Runs

same_count : (s t : State) (events : List Event) (replies : List EventReply) → Runs s events replies t → length events ≡ length replies
same_count s t [] [] h = refl
same_count s t [] (r ∷ replies) h = absurd h
same_count s t (e ∷ events) [] h = absurd h
same_count s t (e ∷ events) (r ∷ replies) h = ap suc (same_count h.0 t events replies h.2)

-- a run so far: the events in `left` are still to come
pub record IsRunning (s : State) (all left : List Event) (replies : List EventReply) (m : Machine) : Type 0 where
  pub done : List Event
  pub parted : all ≡ done ++ left
  pub state : State
  pub runs : Runs s done replies state
  pub stands : IsWorldOf state m

pub running_none : (s : State) (all : List Event) (m : Machine) → IsWorldOf s m → IsRunning s all all [] m
running_none s all m w = record { done = []; parted = refl; state = s; runs = refl; stands = w }

pub running_still : (s : State) (all left : List Event) (replies : List EventReply) (old new : Machine) (r : IsRunning s all left replies old) → IsWorldOf r.state new → IsRunning s all left replies new
running_still s all left replies old new r w = record { done = r.done; parted = r.parted; state = r.state; runs = r.runs; stands = w }

pub running_more : (s : State) (all left : List Event) (event : Event) (replies : List EventReply) (reply : EventReply) (old new : Machine) (r : IsRunning s all (event ∷ left) replies old) → Happens r.state event reply new → IsRunning s all left (replies ++ reply ∷ []) new
running_more s all left event replies reply old new r h =
    record {
      done = r.done ++ event ∷ [];
      parted = r.parted ∙ sym (append_assoc r.done (event ∷ []) left);
      state = h.0;
      runs = run_on s r.state h.0 r.done (event ∷ []) replies (reply ∷ []) r.runs (one_step r.state h.0 event reply h.1);
      stands = h.2;
    }

-- the headline holds of each run
pub leads : (s t : State) (events : List Event) (replies : List EventReply) (m : Machine) → IsWorld s → Runs s events replies t → IsWorldOf t m → LeadsTo s events replies m
leads s t events replies m world runs w = record { state = t; runs = runs; stands = w; converges = converged s t events replies world runs }

-- the run stops at an event
pub running_stops : (s : State) (all left : List Event) (event : Event) (replies : List EventReply) (m : Machine) → IsWorld s → IsRunning s all (event ∷ left) replies m → StopsIn s all replies m
running_stops s all left event replies m world r =
    let count = same_count s r.state r.done replies r.runs in
    let all_count : length all ≡ length r.done + length (event ∷ left) = ap (λ (l : List Event). length l) r.parted ∙ length-append r.done (event ∷ left) in
    let front : take (length replies) all ≡ r.done = ap (λ (n : ℕ). take n all) (sym count) ∙ ap (take (length r.done)) r.parted ∙ take-append_seam r.done (event ∷ left) in
    record {
      left = omega (arith, count, all_count);
      leads = subst (λ (events : List Event). LeadsTo s events replies m) (sym front) (leads s r.state r.done replies m world r.runs r.stands);
    }

pub running_ends : (s : State) (all left : List Event) (replies : List EventReply) (m : Machine) → IsWorld s → IsRunning s all left replies m → left ≡ [] → LeadsTo s all replies m
running_ends s all left replies m world r none =
    subst (λ (events : List Event). LeadsTo s events replies m) (sym (r.parted ∙ ap (λ (l : List Event). r.done ++ l) none ∙ no_more r.done))
    (leads s r.state r.done replies m world r.runs r.stands)
  where
    no_more : (xs : List Event) → xs ++ [] ≡ xs
    no_more [] = refl
    no_more (x ∷ xs) = ap (λ (l : List Event). x ∷ l) (no_more xs)

-- A frame that is sent

last_or_old : (fs : List SentFrame) (bs : List (List ℕ)) (f : SentFrame) (b : List ℕ) (place : ℕ) (frame : SentFrame) (bytes : List ℕ) → length bs ≡ length fs → slice_get (fs ++ f ∷ []) place ≡ Some frame → slice_get (bs ++ b ∷ []) place ≡ Some bytes
    → ((slice_get fs place ≡ Some frame) × (slice_get bs place ≡ Some bytes)) ⊎ ((f ≡ frame) × (b ≡ bytes))
last_or_old [] [] f b zero frame bytes same at spelt = let one : f ≡ frame = cc in let other : b ≡ bytes = cc in inr (one, other)
last_or_old [] [] f b (suc place) frame bytes same at spelt = absurd cc
last_or_old [] (y ∷ bs) f b place frame bytes same at spelt = absurd (omega (arith, same))
last_or_old (x ∷ fs) [] f b place frame bytes same at spelt = absurd (omega (arith, same))
last_or_old (x ∷ fs) (y ∷ bs) f b zero frame bytes same at spelt = inl (at, spelt)
last_or_old (x ∷ fs) (y ∷ bs) f b (suc place) frame bytes same at spelt = last_or_old fs bs f b place frame bytes (omega (arith, same)) at spelt

-- a set has one view, so if the version tells its frame, no later version is needed
pub needs_none : (s : State) (node : ℕ) (base : List ℕ) (version : Version) (view : View) → IsViewOf s.history (front_of s node) view → needs_later version (frame_of view base) ≡ false → NeedsLater s node base version → ⊥
needs_none s node base version view own none later =
    let same : later.0 ≡ view = same_view s.history (front_of s node) (front_of s node) later.0 view refl later.1 own in
    never_both (needs_later version (frame_of view base)) (subst (λ (v : View). needs_later version (frame_of v base) ≡ true) same later.2) none

-- the world with the frame's bytes stands for the state with the frame
posted_world : (s : State) (m : Machine) (version : Version) (node : ℕ) (base bytes : List ℕ) → IsWorldOf s m → IsNode s node → length base ≡ nodes_of s → IsBelow base (front_of s node)
    → IsEncoded s.history (record { version = version; base = base; front = front_of s node }) bytes
    → IsWorldOf (with_frame s version node base) (record { replicas = m.replicas; sent = m.sent ++ bytes ∷ [] })
posted_world s m version node base bytes w is counts below encoded =
    let frame : SentFrame = record { version = version; base = base; front = front_of s node } in
    record {
      world = (kept_posted s version node base w.world is counts below).world;
      nodes = w.nodes;
      views = w.views;
      count = length-append m.sent (bytes ∷ []) ∙ ap (λ (n : ℕ). n + 1) w.count ∙ sym (length-append s.sent (frame ∷ []));
      frames = λ place f b at spelt. elim (last_or_old s.sent m.sent frame bytes place f b w.count at spelt) [
        | inl old ↦ w.frames place f b old.0 old.1
        | inr new ↦ subst (λ (x : SentFrame). IsEncoded s.history x b) new.0 (subst (λ (x : List ℕ). IsEncoded s.history frame x) new.1 encoded)
      ];
    }

pub send_happens : (s : State) (m : Machine) (node : ℕ) (base : List ℕ) (version : Version) (bytes : List ℕ) → IsWorldOf s m → IsNode s node → length base ≡ length m.replicas → IsBelow base (front_of s node)
    → (NeedsLater s node base version → ⊥) → IsEncoded s.history (record { version = version; base = base; front = front_of s node }) bytes
    → Happens s (Send node base version) (Sent (length m.sent + 1)) (record { replicas = m.replicas; sent = m.sent ++ bytes ∷ [] })
send_happens s m node base version bytes w is nodes below tells encoded =
    let t : State = with_frame s version node base in
    let counts : length base ≡ nodes_of s = nodes ∙ w.nodes in (
      t,
      at_node s t node (Sends s node base version (Sent (length m.sent + 1)) t) (Sent (length m.sent + 1)) is
          (inr (inr (inr (counts, below, tells, ap (λ (n : ℕ). Sent (n + 1)) w.count, refl)))),
      posted_world s m version node base bytes w is counts below encoded,
    )
