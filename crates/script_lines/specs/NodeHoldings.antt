-- What a node holds, and how many bytes of a frame arrive.
use Rattle.std.specs.Prelude.{◌≡◌, ℕ, Option, Some, None, List, IfSome, length}
use Rattle.state_facts.specs.declared.fact.Fact.{Fact}
use Rattle.theory_history.specs.Growth.{IsSettled}
use Rattle.state_replica.specs.Replicas.{ReplicaState, view_of}
use Rattle.theory_history.specs.Views.{StandsFor}
use Rattle.script_world.specs.Worlds.{IsEncoded, State, frame_at}

-- a node's replica stands for exactly these facts, which this front counts
pub record Holds (S : List Fact) (front : List ℕ) (kept : ReplicaState) : Type 0 where
  pub settled : IsSettled S
  pub stands : StandsFor S (view_of kept)
  pub counts : kept.front ≡ front

-- this many bytes spell the frame of this number, if it was sent
abbrev pub IsWholeOf : State → ℕ → ℕ → Type 0
IsWholeOf s number count =
    IfSome (frame_at s number) (λ frame. (bytes : List ℕ) × IsEncoded s.history frame bytes × (count ≡ length bytes))

-- how many bytes of the frame of this number arrive: as many as are given, otherwise the whole
-- frame
abbrev pub AreComing : State → ℕ → Option ℕ → ℕ → Type 0
AreComing s number (Some kept) count = count ≡ kept
AreComing s number None count = IsWholeOf s number count
