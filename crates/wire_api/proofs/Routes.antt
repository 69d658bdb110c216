-- Routes that conflict with no other.
use Rattle.std.proofs.Common.{◌≡◌, ℕ, List, Some, None, sym, ◌∙◌, refl}
use Rattle.matchit.specs.Router.{RouteOf, Refused, nearest}
use Rattle.matchit.specs.Rows.{RowsOf}
use Rattle.matchit.specs.declared.error.InsertError.{InsertError}
use Rattle.matchit.specs.declared.error.InsertError.TheVariants.{Conflict, InvalidParam, InvalidParamSegment, InvalidCatchAll, OutOfMemory}
use Rattle.wire_api.specs.declared.table.Endpoint.{Endpoint}

-- a route that conflicts with no other is refused only if memory runs out
pub only_memory : (p : List ℕ) (rows : RowsOf (RouteOf Endpoint)) (e : InsertError) → nearest p rows ≡ None → Refused p rows e → e ≡ OutOfMemory
only_memory p rows OutOfMemory none r = refl
only_memory p rows (Conflict with) none r = let both : Some r.0 ≡ None = sym r.1 ∙ none in cc
only_memory p rows InvalidParamSegment none r = absurd r
only_memory p rows InvalidParam none r = absurd r
only_memory p rows InvalidCatchAll none r = absurd r
