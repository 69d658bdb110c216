use Rattle.std.proofs.Common.{inl, inr, Some, ap, refl, ◌∙◌, ◌≡◌, ◌<◌, ◌+◌, ◌∷◌, [], ◌++◌, sym, subst, arith, rules, map, take, string_bytes, length}
use Rattle.std.specs.List.{AllZip}
use Rattle.std.specs.Option.{option_map}
use Rattle.std.proofs.lemmas.List.{take_all}
use Rattle.std.proofs.lemmas.Option.{slice_get-map, slice_get_read}
use Rattle.program_args.specs.Arguments.{SaysPeer, reached}
use Rattle.program_args.proofs.EachWord.{each, one_more}
use Rattle.program_args.proofs.member_args.peers_of.Goals as goal

pub returns-in-Err-OtherWords : goal.returns-in-Err-OtherWords
returns-in-Err-OtherWords c =
    let inside : c.loop-word.word-index < length c.args.words.now = omega arith in
    let here = slice_get_read c.args.words.now (length c.args.words.now) c.loop-word.word-index c.word-item.result refl inside c.word-item.is in (
      inl (
        c.loop-word.word-index,
        c.as_str-word.result.now,
        slice_get-map string_bytes c.args.words.now c.loop-word.word-index ∙ ap (option_map string_bytes) here ∙ ap (λ w. Some w) (sym c.as_str-word.ensures.value),
        λ peer says. c.in-Err-OtherWords.ensures c.in-Err-OtherWords.field-0-is peer says,
        c.not_address.ensures,
      ),
      λ peers say.
          let one = each SaysPeer string_bytes c.args.words.now peers c.loop-word.word-index c.word-item.result inside c.word-item.is say.0 in
          c.in-Err-OtherWords.ensures c.in-Err-OtherWords.field-0-is one.0 (subst (λ w. SaysPeer w one.0) (sym c.as_str-word.ensures.value) one.1),
    )

pub returns-in-Some : goal.returns-in-Some
returns-in-Some c =
    let all = take_all c.loop-word.word-index c.args.words.now (omega arith) in (
      inr (map reached c.loop-word.peers.items, subst (λ ws. AllZip SaysPeer (map string_bytes ws) (map reached c.loop-word.peers.items)) all c.loop-word.invariant, c.in-Some.ensures.0),
      λ peers say. c.in-Some.ensures.1 say.1,
    )

pub loop-word-preserved : goal.loop-word-preserved
loop-word-preserved c =
    let inside : c.loop-word.word-index < length c.args.words.now = omega arith in
    let grown : c.push.new.self.items ≡ c.loop-word.peers.items ++ c.in-Ok.peer ∷ [] = search rules in
    let here = subst (λ w. SaysPeer w (reached c.in-Ok.peer)) c.as_str-word.ensures.value c.in-Ok.ensures in
    subst (λ ps. AllZip SaysPeer (map string_bytes (take (c.loop-word.word-index + 1) c.args.words.now)) (map reached ps)) (sym grown)
    (one_more SaysPeer string_bytes reached c.args.words.now c.loop-word.peers.items c.loop-word.word-index c.word-item.result c.in-Ok.peer inside c.word-item.is c.loop-word.invariant here)
