use Rattle.std.proofs.Common.{◌++◌, ◌∷◌, [], List, ap, arith}
use Rattle.std.proofs.lemmas.List.{take_all}
use Rattle.node_replication.specs.declared.mark.Mark.{Mark}
use Rattle.node_replication.proofs.laws.sixty_four_frames_are_remembered.Goals as goal

pub returns : goal.returns
returns c mark marks few = ap (λ (kept : List Mark). kept ++ mark ∷ []) (take_all 63 marks (omega (arith, few)))
