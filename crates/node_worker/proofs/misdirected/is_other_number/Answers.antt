use Rattle.std.proofs.Common.{◌+◌, ◌∷◌, [], ◌≡◌, ◌∙◌, ℕ, List, ap}
use Rattle.std.specs.Prelude.{not}
use Rattle.std.specs.Str.{bytes_eq}
use Rattle.node_worker.proofs.Directed.{other_number}
use Rattle.node_worker.proofs.misdirected.is_other_number.Goals as goal

pub returns : goal.returns
returns c =
    c.ne.ensures ∙ ap (λ (t : List ℕ). not (bytes_eq t c.as_slice.result.now)) c.as_bytes.ensures.value
    ∙ other_number c.args.me c.number.result c.args.number.now c.as_slice.result.now c.number.ensures.value c.number.ensures.range.1 c.as_slice.ensures
