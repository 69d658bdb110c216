-- Lists of new passes.
use Rattle.std.proofs.Common.{◌≡◌, List, [], ◌∷◌, ◌++◌}
use Rattle.state_book.specs.Desks.{AreNew, PassState, new_pass}

pub are_new_push : (ps : List PassState) (p : PassState) → AreNew ps → p ≡ new_pass → AreNew (ps ++ p ∷ [])
are_new_push [] p all new = (new, tt)
are_new_push (x ∷ ps) p all new = (all.0, are_new_push ps p all.1 new)
