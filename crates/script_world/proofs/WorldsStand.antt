-- What a world stands for when one of its replicas is changed.
use Rattle.std.proofs.Common.{◌≡◌, inl, inr, ◌≤◌, ◌<◌, ◌-◌, ℕ, List, [], refl, sym, ap, subst, ◌∙◌, arith, Result, Ok, Err, Some, get_or-set_other, get_or-set_same, length, slice_get, slice_set}
use Rattle.std.specs.Prelude.{OnErr}
use Rattle.std.proofs.lemmas.List.{length-set}
use Rattle.std.proofs.lemmas.Option.{slice_get_within}
use Rattle.state_facts.specs.declared.fact.Fact.{Fact}
use Rattle.state_forest.proofs.GiversOfNumbers.{get_in}
use Rattle.state_facts.specs.declared.command.Command.{Command}
use Rattle.state_facts.specs.declared.command.CommandReply.{CommandReply}
use Rattle.theory_history.specs.Growth.{IsMore, IsSettled}
use Rattle.theory_history.specs.Histories.{History, IsClosed, facts}
use Rattle.theory_history.specs.NodeViews.{IsCurrent, entry_for}
use Rattle.state_replica.specs.Replicas.{ReplicaState, view_of}
use Rattle.theory_history.specs.Changes.{raised}
use Rattle.theory_history.specs.Replies.{Judgement, Denied, AlreadyKnown, Accepted, judge, next_fact, reply_of}
use Rattle.theory_history.specs.Views.{StandsFor, View}
use Rattle.theory_history.proofs.Basics.{same_or_not}
use Rattle.theory_history.proofs.OneMoreEntry.{one_more}
use Rattle.theory_history.proofs.ClosedSets.{closed_settled}
use Rattle.script_world.specs.Headline.{IsNode}
use Rattle.script_world.specs.Machines.{Becomes, IsActed, IsChanged, IsWorldOf, Machine}
use Rattle.script_world.specs.Worlds.{SentFrame, IsEncoded, IsViewOf, State, after_command, front_of, if_taken, nodes_of, reply_at, set_of, with_command}
use Rattle.script_world.proofs.OneReplicaChanged.{get_set_other, get_set_same}
use Rattle.script_world.proofs.GrowingHistories.{IsGrown}
use Rattle.script_world.proofs.Moving.{IsKeptBy, kept_entered, kept_still}

-- the view of a closed front is that in a longer history
view_still : (h k : History) (front : List ℕ) (view : View) → IsGrown h k → IsClosed h front → IsViewOf h front view → IsViewOf k front view
view_still h k front view grown closed is =
    record { stands = subst (λ (S : List Fact). StandsFor S view) (sym (grown.same front closed)) is.stands; counts = is.counts }

encoded_still : (h k : History) (frame : SentFrame) (bytes : List ℕ) → IsGrown h k → IsClosed h frame.front → IsEncoded h frame bytes → IsEncoded k frame bytes
encoded_still h k frame bytes grown closed is =
    record { view = is.view; sender = view_still h k frame.front is.view grown closed is.sender; rules = is.rules; encodes = is.encodes }

-- one replica is changed to the view of what its node then holds, and nothing else is changed
pub changed_world : (s t : State) (old new : Machine) (node : ℕ) → IsWorldOf s old → IsKeptBy s t → t.sent ≡ s.sent → IsNode s node
    → ((n : ℕ) → 1 ≤ n → (n ≡ node → ⊥) → front_of t n ≡ front_of s n)
    → IsChanged old new node (λ was now. IsViewOf t.history (front_of t node) (view_of now)) → IsWorldOf t new
changed_world s t old new node w kept sent is others c =
    record {
      world = kept.world;
      nodes = ap (λ (ks : List ReplicaState). length ks) c.replicas ∙ length-set old.replicas (node - 1) c.now ∙ w.nodes ∙ sym kept.grown.nodes;
      views = views;
      count = ap (λ (bs : List (List ℕ)). length bs) c.sent ∙ w.count ∙ ap (λ (fs : List SentFrame). length fs) (sym sent);
      frames = λ place frame bytes at spelt.
          let at' : slice_get s.sent place ≡ Some frame = ap (λ (fs : List SentFrame). slice_get fs place) (sym sent) ∙ at in
          let spelt' : slice_get old.sent place ≡ Some bytes = ap (λ (bs : List (List ℕ)). slice_get bs place) (sym c.sent) ∙ spelt in
          encoded_still s.history t.history frame bytes kept.grown (w.world.sent frame (get_in s.sent place frame at')).closed
          (w.frames place frame bytes at' spelt');
    }
  where
    there : node - 1 < length old.replicas
    there = slice_get_within old.replicas (node - 1) c.was c.at

    views : (n : ℕ) (k : ReplicaState) → 1 ≤ n → slice_get new.replicas (n - 1) ≡ Some k → IsViewOf t.history (front_of t n) (view_of k)
    views n k some at = elim (same_or_not n node) [
      | inl same ↦
          let here : slice_get new.replicas (n - 1) ≡ Some c.now =
          ap (λ (ks : List ReplicaState). slice_get ks (n - 1)) c.replicas
          ∙ ap (λ (i : ℕ). slice_get (slice_set old.replicas (node - 1) c.now) (i - 1)) same
          ∙ get_set_same old.replicas (node - 1) c.now there in
          let is_now : c.now ≡ k = cc in
          subst (λ (i : ℕ). IsViewOf t.history (front_of t i) (view_of k)) (sym same)
          (subst (λ (x : ReplicaState). IsViewOf t.history (front_of t node) (view_of x)) is_now c.so)
      | inr other ↦
          let apart : n - 1 ≡ node - 1 → ⊥ = (λ q. other (omega (arith, q, some, is.some))) in
          let was : slice_get old.replicas (n - 1) ≡ Some k =
          sym (get_set_other old.replicas (node - 1) (n - 1) c.now apart) ∙ ap (λ (ks : List ReplicaState). slice_get ks (n - 1)) (sym c.replicas) ∙ at in
          let within = slice_get_within old.replicas (n - 1) k was in
          let node_there : n ≤ nodes_of s = omega (arith, within, some, w.nodes) in
          subst (λ (v : List ℕ). IsViewOf t.history v (view_of k)) (sym (others n some other))
          (view_still s.history t.history (front_of s n) (view_of k) kept.grown (w.world.current n some node_there).closed (w.views n k some was))
    ]

-- a property that always holds also holds in case of an error
pub on_err : {T E P : Type 0} (r : Result T E) → P → OnErr r P
on_err (Ok x) p = tt
on_err (Err e) p = p

-- a world whose views are the same stands for the same state
pub still_world : (s : State) (old new : Machine) (node : ℕ) → IsWorldOf s old → IsNode s node → IsChanged old new node (λ was now. view_of now ≡ view_of was) → IsWorldOf s new
still_world s old new node w is c =
    changed_world s s old new node w (kept_still s w.world) refl is (λ n some other. refl)
    (record {
      was = c.was;
      now = c.now;
      at = c.at;
      replicas = c.replicas;
      sent = c.sent;
      so = subst (λ (v : View). IsViewOf s.history (front_of s node) v) (sym c.so) (w.views node c.was is.some c.at);
    })

-- the same change with another fact known about it
pub with_so : {P Q : ReplicaState → ReplicaState → Type 0} (old new : Machine) (node : ℕ) (c : IsChanged old new node P) → Q c.was c.now → IsChanged old new node Q
with_so old new node c so = record { was = c.was; now = c.now; at = c.at; replicas = c.replicas; sent = c.sent; so = so }

abbrev pub ActsSo : ℕ → Command → CommandReply → ReplicaState → ReplicaState → Type 0
ActsSo node c reply was now = (S : List Fact) → IsSettled S → StandsFor S (view_of was) → IsActed S (view_of was) node c reply (view_of now)

-- a node enters a command that it accepts
entered_world : (s : State) (old new : Machine) (node : ℕ) (c : Command) (P : ReplicaState → ReplicaState → Type 0) (change : IsChanged old new node P) → IsWorldOf s old → IsNode s node → judge (set_of s node) (front_of s node) node c ≡ Accepted
    → (change.now.front ≡ raised (front_of s node) node) → ((T : List Fact) → IsMore (next_fact (set_of s node) (front_of s node) node c) (set_of s node) T → StandsFor T (view_of change.now)) → IsWorldOf (with_command s node c) new
entered_world s old new node c P change w is taken raises adds =
    changed_world s t old new node w (kept_entered s node c w.world is taken) refl is
    (λ n some other. get_or-set_other s.fronts (node - 1) (n - 1) (raised v node) [] (λ q. other (omega (arith, q, some, is.some))))
    (with_so old new node change
    (record {
      stands = subst (λ (u : List ℕ). StandsFor (facts t.history u) (view_of change.now)) (sym mine)
          (adds (facts t.history (raised v node)) (one_more h v node (entry_for h v c) is.some is.there current.closed current.own));
      counts = raises ∙ sym mine;
    }))
  where
    h : History
    h = s.history

    v : List ℕ
    v = front_of s node

    t : State
    t = with_command s node c

    current : IsCurrent h node v
    current = w.world.current node is.some is.there

    mine : front_of t node ≡ raised v node
    mine = get_or-set_same s.fronts (node - 1) (raised v node) [] (omega (arith, is.some, is.there, w.world.nodes))

taken_world : (s : State) (old new : Machine) (node : ℕ) (c : Command) (P : ReplicaState → ReplicaState → Type 0) (change : IsChanged old new node P) → IsWorldOf s old → IsNode s node → (j : Judgement) → judge (set_of s node) (front_of s node) node c ≡ j
    → change.was.front ≡ front_of s node → Becomes j (set_of s node) (view_of change.was) node c (view_of change.now) → IsWorldOf (if_taken j s (with_command s node c)) new
taken_world s old new node c P change w is (Denied r) j front b = still_world s old new node w is (with_so old new node change b)
taken_world s old new node c P change w is AlreadyKnown j front b = still_world s old new node w is (with_so old new node change b)
taken_world s old new node c P change w is Accepted j front b =
    entered_world s old new node c P change w is j (b.0 ∙ ap (λ (u : List ℕ). raised u node) front)
    (subst (λ (u : List ℕ). (T : List Fact) → IsMore (next_fact (set_of s node) u node c) (set_of s node) T → StandsFor T (view_of change.now)) front b.1)

plain_world : (s : State) (old new : Machine) (node : ℕ) (c : Command) (reply : CommandReply) (P : ReplicaState → ReplicaState → Type 0) (change : IsChanged old new node P) → IsWorldOf s old → IsNode s node → change.was.front ≡ front_of s node
    → (reply ≡ reply_of (set_of s node) change.was.front node c) × Becomes (judge (set_of s node) change.was.front node c) (set_of s node) (view_of change.was) node c (view_of change.now)
    → (reply ≡ reply_of (set_of s node) (front_of s node) node c) × IsWorldOf (if_taken (judge (set_of s node) (front_of s node) node c) s (with_command s node c)) new
plain_world s old new node c reply P change w is front acted = (
  acted.0 ∙ ap (λ (u : List ℕ). reply_of (set_of s node) u node c) front,
  taken_world s old new node c P change w is (judge (set_of s node) (front_of s node) node c) refl front
      (subst (λ (u : List ℕ). Becomes (judge (set_of s node) u node c) (set_of s node) (view_of change.was) node c (view_of change.now)) front acted.1),
)

-- a node does with a command what the definitions say
pub acted_world : (s : State) (old new : Machine) (node : ℕ) (c : Command) (reply : CommandReply) → IsWorldOf s old → IsNode s node → IsChanged old new node (ActsSo node c reply) → (reply ≡ reply_at s node c) × IsWorldOf (after_command s node c) new
acted_world s old new node c reply w is change =
    let view = w.views node change.was is.some change.at in
    let closed = (w.world.current node is.some is.there).closed in
    plain_world s old new node c reply (ActsSo node c reply) change w is view.counts
    (change.so (set_of s node) (closed_settled s.history w.world.lawful (front_of s node) closed) view.stands)
