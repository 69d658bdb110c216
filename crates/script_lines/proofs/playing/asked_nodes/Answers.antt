use Rattle.std.proofs.Common.{◌≡◌, arith, rules}
use Rattle.std.specs.Prelude.{codes, string_bytes}
use Rattle.std.specs.Fmt.{decimal}
use Rattle.script_lines.proofs.TwoWords.{both_words, two}
use Rattle.script_lines.proofs.playing.asked_nodes.Goals as goal

pub returns : goal.returns
returns c =
    let all = two c.args.words.now c.command-item.result c.count-item.result c.in-len2.len_at_least c.in-len2.len_below c.command-item.is c.count-item.is in
    let first : string_bytes c.command-item.result ≡ codes "script" = search rules in
    let second : string_bytes c.count-item.result ≡ decimal c.number.result = search rules in
    let last = c.in_ok-last.ensures in
    let is = c.number.ensures.value in (
      (omega (arith, is, last.0.0), omega (arith, is, last.0.1)),
      both_words string_bytes c.args.words.now c.command-item.result c.count-item.result (codes "script") (decimal c.number.result) all first second,
    )
