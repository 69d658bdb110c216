use Rattle.std.proofs.Common.{arith}
use Rattle.std.proofs.lemmas.Grind.{common_steps}
use Rattle.wire_narayana.proofs.OneBody.{none_of_cut, read_exactly}
use Rattle.wire_narayana.proofs.OneMore.{chunk_more, chunks_end}
use Rattle.wire_narayana.proofs.chunks.read_chunks.Goals as goal

pub returns-then-size-eq0-clause-body : goal.returns-then-size-eq0-clause-body
returns-then-size-eq0-clause-body g c =
    chunks_end _ _ _ _ _ _ c.loop-body.invariant.taken c.in_ok-size.ensures.line c.in_ok-skip_trailers.ensures.section (grind (arith, common_steps))

pub returns-then-size-eq0-clause-exact : goal.returns-then-size-eq0-clause-exact
returns-then-size-eq0-clause-exact g c = λ bytes text rest so left. read_exactly _ _ _ bytes text rest (returns-then-size-eq0-clause-body g c) so left

pub returns-then-size-eq0-clause-cut : goal.returns-then-size-eq0-clause-cut
returns-then-size-eq0-clause-cut g c = λ bytes text more so left. none_of_cut _ _ _ bytes text more (returns-then-size-eq0-clause-body g c) so left

pub loop-body-preserved : goal.loop-body-preserved
loop-body-preserved g c = record {
  below = c.in_ok-bytes.ensures.below;
  taken = chunk_more _ _ _ _ _ _ _ _ c.loop-body.invariant.taken c.in_ok-size.ensures.line c.in_ok-bytes.ensures.gives c.in_ok-bytes.ensures.size (grind (arith, common_steps)) (grind (arith, common_steps));
  short = grind (arith, common_steps);
}
