-- One replica of a world is changed.
use Rattle.std.proofs.Common.{◌≡◌, ◌<◌, ◌-◌, ℕ, zero, suc, List, [], ◌∷◌, refl, sym, ap, subst, ◌∙◌, arith, Some, get_or, length, slice_get, slice_set, Vec}
use Rattle.std.specs.declared.alloc.Global.{Global}
use Rattle.state_replica.specs.Replicas.{ReplicaState, view_of}
use Rattle.script_world.specs.declared.event.EventReply.{EventReply}
use Rattle.script_world.specs.Machines.{IsChanged, Machine, TakesBytes, bytes_of}

pub get_at : {X : Type 0} (xs : List X) (i : ℕ) (x : X) → i < length xs → x ≡ get_or xs i x → slice_get xs i ≡ Some x
get_at [] i x h e = absurd (omega (arith, h))
get_at (y ∷ ys) zero x h e = ap Some (sym e)
get_at (y ∷ ys) (suc i) x h e = get_at ys i x (omega (arith, h)) e

pub get_set_same : {X : Type 0} (xs : List X) (i : ℕ) (x : X) → i < length xs → slice_get (slice_set xs i x) i ≡ Some x
get_set_same [] i x h = absurd (omega (arith, h))
get_set_same (y ∷ ys) zero x h = refl
get_set_same (y ∷ ys) (suc i) x h = get_set_same ys i x (omega (arith, h))

pub get_set_other : {X : Type 0} (xs : List X) (i j : ℕ) (x : X) → (j ≡ i → ⊥) → slice_get (slice_set xs i x) j ≡ slice_get xs j
get_set_other [] i j x apart = refl
get_set_other (y ∷ ys) zero zero x apart = absurd (apart refl)
get_set_other (y ∷ ys) zero (suc j) x apart = refl
get_set_other (y ∷ ys) (suc i) zero x apart = refl
get_set_other (y ∷ ys) (suc i) (suc j) x apart = get_set_other ys i j x (λ e. apart (ap suc e))

pub get_some : {X : Type 0} (xs : List X) (i : ℕ) → i < length xs → (x : X) × (slice_get xs i ≡ Some x)
get_some [] i h = absurd (omega (arith, h))
get_some (y ∷ ys) zero h = (y, refl)
get_some (y ∷ ys) (suc i) h = get_some ys i (omega (arith, h))

pub changed_at : (old : Machine) (place node : ℕ) (was now : ReplicaState) (So : ReplicaState → ReplicaState → Type 0) → place ≡ node - 1 → place < length old.replicas → was ≡ get_or old.replicas place was → So was now
    → IsChanged old (record { replicas = slice_set old.replicas place now; sent = old.sent }) node So
changed_at old place node was now So is there at so =
    record {
      was = was;
      now = now;
      at = ap (slice_get old.replicas) (sym is) ∙ get_at old.replicas place was there at;
      replicas = ap (λ (i : ℕ). slice_set old.replicas i now) is;
      sent = refl;
      so = so;
    }

pub bytes_at : (frames : List (Vec ℕ Global)) (i : ℕ) (frame : Vec ℕ Global) → i < length (bytes_of frames) → frame ≡ get_or frames i frame → slice_get (bytes_of frames) i ≡ Some frame.items
bytes_at [] i frame h e = absurd (omega (arith, h))
bytes_at (x ∷ xs) zero frame h e = ap (λ (f : Vec ℕ Global). Some f.items) (sym e)
bytes_at (x ∷ xs) (suc i) frame h e = bytes_at xs i frame (omega (arith, h)) e

-- what a node makes of the bytes of a frame
abbrev pub TakesSo : Machine → ℕ → ℕ → EventReply → ReplicaState → ReplicaState → Type 0
TakesSo m frame kept reply was now = (bytes : List ℕ) → slice_get m.sent frame ≡ Some bytes → TakesBytes (view_of was) bytes kept reply (view_of now)

pub delivered_at : (old : Machine) (place node frame : ℕ) (was now : ReplicaState) (bytes : List ℕ) (kept : ℕ) (reply : EventReply) → place ≡ node - 1 → place < length old.replicas → was ≡ get_or old.replicas place was
    → slice_get old.sent frame ≡ Some bytes → TakesBytes (view_of was) bytes kept reply (view_of now)
    → IsChanged old (record { replicas = slice_set old.replicas place now; sent = old.sent }) node (TakesSo old frame kept reply)
delivered_at old place node frame was now bytes kept reply is there at spelt taken =
    changed_at old place node was now (TakesSo old frame kept reply) is there at (λ other also.
    let same : bytes ≡ other = cc in
    subst (λ (b : List ℕ). TakesBytes (view_of was) b kept reply (view_of now)) same taken)
