use Rattle.std.proofs.Common.{◌∙◌}
use Rattle.wire_narayana.proofs.OneMore.{trailer_more}
use Rattle.wire_narayana.proofs.chunks.skip_trailers.Goals as goal

pub loop-count-preserved : goal.loop-count-preserved
loop-count-preserved g c = record {
  below = c.in_ok-line.ensures.below;
  taken = trailer_more _ _ _ _ c.loop-count.invariant.taken c.in_ok-line.ensures.gives c.in_ok-line.ensures.line (λ e. c.if-is_empty.ensures (c.deref.ensures.value ∙ e));
}
