use Rattle.std.proofs.Common.{◌∙◌, ℕ, Option, ap}
use Rattle.std.specs.Prelude.{unwrap_or}
use Rattle.script_lines.proofs.Steps.{whole_coming}
use Rattle.script_lines.proofs.answer.bytes_coming.Goals as goal

pub returns-in-None : goal.returns-in-None
returns-in-None c s w =
    rw c.in-None.is (whole_coming s c.args.world.now c.args.frame _ w (c.unwrap_or.ensures ∙ ap (λ (o : Option ℕ). unwrap_or o 0) c.frame_len.ensures))
