use Rattle.std.proofs.Common.{◌≡◌, length, arith}
use Rattle.std.proofs.lemmas.Grind.{same_number_lists}
use Rattle.wire_narayana.proofs.seal.is_same.Goals as goal

pub returns : goal.returns
returns c =
    let long : length c.args.one.now ≡ length c.args.other.now = grind arith in (
      λ none.
          let zero : c.loop-place.differ ≡ 0 = grind arith in
          same_number_lists _ _ long (λ k within. c.loop-place.invariant.1.0 zero k (omega (arith, within))),
      λ same.
          let zero : c.loop-place.differ ≡ 0 = c.loop-place.invariant.1.1 same in grind arith,
    )
