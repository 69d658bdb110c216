-- A patch for which a replica has room is a patch of its view.
use Rattle.std.proofs.Common.{Option, Some, None}
use Rattle.std.specs.Prelude.{IfSome}
use Rattle.theory_history.specs.Changes.{Change}
use Rattle.state_replica.specs.Replicas.{Fits, ReplicaState, view_of}
use Rattle.state_journal.specs.Stands.{IsPatchOf}
use Rattle.state_journal.proofs.FittingPatches.{patch_of_its_view}

pub fits_its_view : (patch : Option Change) (kept : ReplicaState) → IfSome patch (λ change. Fits change kept) → IfSome patch (IsPatchOf (view_of kept))
fits_its_view None kept fits = fits
fits_its_view (Some change) kept fits = patch_of_its_view kept change fits
