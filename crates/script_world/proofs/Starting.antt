-- A world without facts.
use Rattle.std.proofs.Common.{◌≡◌, ◌≤◌, ◌<◌, ◌-◌, ◌+◌, ◌++◌, ℕ, zero, suc, List, [], ◌∷◌, refl, sym, ap, subst, ◌∙◌, arith, Some, length, length-append, replicate, slice_get}
use Rattle.std.proofs.lemmas.List.{length-replicate}
use Rattle.std.proofs.lemmas.Option.{slice_get_within}
use Rattle.theory_history.specs.Histories.{Entry}
use Rattle.state_replica.specs.Replicas.{ReplicaState, view_of}
use Rattle.theory_history.specs.Views.{View, empty_view}
use Rattle.theory_history.proofs.PatchedHistories.{empty_view_in}
use Rattle.script_world.specs.Machines.{AreEmpty, IsMachine, IsWorldOf, Machine}
use Rattle.script_world.specs.Worlds.{IsViewOf, start}
use Rattle.script_world.proofs.Moving.{same_at, start_is}

last_or_old : (ks : List ReplicaState) (k : ReplicaState) (place : ℕ) (kept : ReplicaState) (P : ReplicaState → Type 0) → ((i : ℕ) (x : ReplicaState) → slice_get ks i ≡ Some x → P x) → P k → slice_get (ks ++ k ∷ []) place ≡ Some kept → P kept
last_or_old [] k zero kept P old new at = let same : k ≡ kept = cc in subst P same new
last_or_old [] k (suc place) kept P old new at = absurd cc
last_or_old (x ∷ ks) k zero kept P old new at = old 0 kept at
last_or_old (x ∷ ks) k (suc place) kept P old new at = last_or_old ks k place kept P (λ i y e. old (suc i) y e) new at

-- one more replica
pub one_more_empty : (nodes count : ℕ) (old new : List ReplicaState) (k : ReplicaState) → new ≡ old ++ k ∷ [] → view_of k ≡ empty_view nodes → AreEmpty nodes count old → AreEmpty nodes (count + 1) new
one_more_empty nodes count old new k is none empty = record {
  many = ap (λ (ks : List ReplicaState). length ks) is ∙ length-append old (k ∷ []) ∙ ap (λ n. n + 1) empty.many;
  views = λ place kept at.
      last_or_old old k place kept (λ x. view_of x ≡ empty_view nodes) empty.views none
      (sym (ap (λ (ks : List ReplicaState). slice_get ks place) is) ∙ at);
}

pub empty_machine : (nodes : ℕ) (m : Machine) → AreEmpty nodes nodes m.replicas → IsMachine m
empty_machine nodes m empty =
    record { fronts = λ place kept at. ap (λ (v : View). length v.front) (empty.views place kept at) ∙ length-replicate {A = ℕ} nodes 0 ∙ sym empty.many }

pub start_world : (nodes : ℕ) (m : Machine) → 1 ≤ nodes → AreEmpty nodes nodes m.replicas → m.sent ≡ [] → IsWorldOf (start nodes) m
start_world nodes m some empty none =
    record {
      world = start_is nodes some;
      nodes = empty.many ∙ sym (length-replicate {A = List Entry} nodes []);
      views = λ node kept one at.
          let within = slice_get_within m.replicas (node - 1) kept at in
          let there : node ≤ nodes = omega (arith, within, one, empty.many) in
          let place : node - 1 < nodes = omega (arith, there, one) in
          subst (λ (v : List ℕ). IsViewOf (replicate nodes []) v (view_of kept)) (sym (same_at nodes (node - 1) (replicate nodes 0) place))
          (subst (λ (v : View). IsViewOf (replicate nodes []) (replicate nodes 0) v) (sym (empty.views (node - 1) kept at))
          (record { stands = (empty_view_in nodes node one there).stands; counts = refl }));
      count = ap (λ (bs : List (List ℕ)). length bs) none;
      frames = λ place frame bytes at spelt. absurd cc;
    }
