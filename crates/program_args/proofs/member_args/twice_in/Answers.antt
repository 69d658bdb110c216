use Rattle.std.proofs.Common.{Some, ◌<◌, ◌∙◌, ap, arith, below_more, refl, string_bytes, length, subst, sym}
use Rattle.std.specs.List.{Contains, take-map}
use Rattle.std.specs.Option.{option_map}
use Rattle.std.proofs.lemmas.Option.{slice_get-map, slice_get_read}
use Rattle.program_args.proofs.EachWord.{another, twice}
use Rattle.program_args.proofs.member_args.twice_in.Goals as goal

pub returns-then-stands_in : goal.returns-then-stands_in
returns-then-stands_in c =
    let inside : c.loop-place.place < length c.args.words.now = omega arith in
    let here = slice_get_read c.args.words.now (length c.args.words.now) c.loop-place.place c.index-words-place.result refl inside c.index-words-place.is in (
      (
        c.loop-place.place,
        slice_get-map string_bytes c.args.words.now c.loop-place.place ∙ ap (option_map string_bytes) here ∙ ap (λ w. Some w) (sym c.as_str-word.ensures.value),
        subst (λ ws. Contains ws c.as_str-word.result.now) (sym (take-map string_bytes c.loop-place.place c.args.words.now)) c.if-stands_in.ensures,
      ),
      λ once. twice string_bytes c.args.words.now c.loop-place.place c.index-words-place.result c.as_str-word.result.now inside c.index-words-place.is c.as_str-word.ensures.value c.if-stands_in.ensures once,
    )

pub loop-place-preserved : goal.loop-place-preserved
loop-place-preserved c =
    let inside : c.loop-place.place < length c.args.words.now = omega arith in
    below_more _ _ c.loop-place.invariant (another string_bytes c.args.words.now c.loop-place.place c.index-words-place.result c.as_str-word.result.now inside c.index-words-place.is c.as_str-word.ensures.value c.if-stands_in.ensures)
