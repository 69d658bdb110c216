use Rattle.std.proofs.Common.{◌<◌, sym, ◌∙◌, arith, below_more, string_bytes, length, true≢false}
use Rattle.std.proofs.lemmas.Bool.Decides.{Decides-eqb}
use Rattle.std.proofs.lemmas.Slice.Eq.{slice_eq-Decides}
use Rattle.program_args.proofs.EachWord.{length_map, map_at}
use Rattle.program_args.proofs.member_args.stands_in.Goals as goal

pub returns-then-eq : goal.returns-then-eq
returns-then-eq c =
    let inside : c.loop-other.other-index < length c.args.words.now = omega arith in
    let same = (slice_eq-Decides Decides-eqb c.as_str.result.now c.args.word.now c.eq.result c.eq.ensures).0 c.if-eq.true in (
      c.loop-other.other-index,
      omega (arith, length_map string_bytes c.args.words.now),
      map_at string_bytes c.args.words.now c.loop-other.other-index c.args.word.now c.other-item.result inside c.other-item.is ∙ sym c.as_str.ensures.value ∙ same,
    )

pub loop-other-preserved : goal.loop-other-preserved
loop-other-preserved c =
    let inside : c.loop-other.other-index < length c.args.words.now = omega arith in
    below_more _ _ c.loop-other.invariant (λ d e.
    let here = map_at string_bytes c.args.words.now c.loop-other.other-index d c.other-item.result inside c.other-item.is in
    let yes = (slice_eq-Decides Decides-eqb c.as_str.result.now c.args.word.now c.eq.result c.eq.ensures).1 (c.as_str.ensures.value ∙ sym here ∙ e) in
    true≢false (sym yes ∙ c.if-eq.false))
