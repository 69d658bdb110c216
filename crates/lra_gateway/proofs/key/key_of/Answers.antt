use Rattle.std.proofs.Common.{◌≡◌, ◌<◌, ◌≢◌, ℕ, List, ◌+◌, ◌*◌, length, slice_index, slice_set, sym, ◌∙◌, arith, subst, below_more}
use Rattle.std.proofs.lemmas.List.{get_or-set_same, get_or-set_other, length-set}
use Rattle.lra_gateway.specs.Keys.{SpellByte, SpellKey}
use Rattle.lra_gateway.proofs.key.key_of.Goals as goal

pub returns-in_default : goal.returns-in_default
returns-in_default c = λ key spells.
    let place = c.loop-place.place in
    c.in_default.ensures (slice_index key place) (subst (λ (ds : List ℕ). SpellByte (slice_index ds (2 * place)) (slice_index ds (2 * place + 1)) (slice_index key place)) (sym c.as_bytes-digits.ensures.value) (spells.bytes place c.loop-place-test.true))

pub loop-place-preserved : goal.loop-place-preserved
loop-place-preserved c =
    let text = c.args.text.now in
    let bytes = c.loop-place.bytes in
    let place = c.loop-place.place in
    let byte = c.in-Some.byte in
    let long = c.loop-place.invariant.0 in
    let here : SpellByte (slice_index text (2 * place)) (slice_index text (2 * place + 1)) byte = subst (λ (ds : List ℕ). SpellByte (slice_index ds (2 * place)) (slice_index ds (2 * place + 1)) byte) c.as_bytes-digits.ensures.value c.in-Some.ensures in (
      length-set bytes place byte ∙ long,
      below_more _ _ (λ k below.
          let other : k ≢ place = λ e. omega (arith, below, e) in
          subst (λ b. SpellByte (slice_index text (2 * k)) (slice_index text (2 * k + 1)) b) (sym (get_or-set_other bytes place k byte 0 other)) (c.loop-place.invariant.1 k below))
          (subst (λ b. SpellByte (slice_index text (2 * place)) (slice_index text (2 * place + 1)) b) (sym (get_or-set_same bytes place byte 0 (omega (arith, long)))) here),
    )
