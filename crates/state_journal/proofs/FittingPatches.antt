-- A patch for which a replica has room is a patch of its view.
use Rattle.theory_history.specs.Changes.{Change}
use Rattle.state_replica.specs.Replicas.{Fits, ReplicaState, view_of}
use Rattle.state_journal.specs.Stands.{IsPatchOf}

pub patch_of_its_view : (kept : ReplicaState) (change : Change) → Fits change kept → IsPatchOf (view_of kept) change
patch_of_its_view kept change fits = record { front = fits.front; purges = fits.purges; homes = fits.homes }
