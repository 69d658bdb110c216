use Rattle.std.proofs.Common.{◌≡◌, ◌<◌, ◌^◌, arith, rules}
use Rattle.std.specs.Prelude.{codes, string_bytes}
use Rattle.std.specs.Fmt.{decimal}
use Rattle.lra_node.proofs.FourWords.{all_words, asks_none, four}
use Rattle.lra_node.proofs.asked_server.Goals as goal

pub returns-then-port-lt-FIRST_PORT : goal.returns-then-port-lt-FIRST_PORT
returns-then-port-lt-FIRST_PORT c =
    let all = four c.args.words.now c.command-item.result c.count-item.result c.first-item.result c._folder-item.result c.in-len4.len_at_least c.in-len4.len_below c.command-item.is c.count-item.is c.first-item.is c._folder-item.is in
    let third : string_bytes c.first-item.result ≡ decimal c.in_ok-port.port = search rules in
    let small : c.in_ok-port.port < 2 ^ 16 = omega arith in
    asks_none string_bytes c.args.words.now c.command-item.result c.count-item.result c.first-item.result c._folder-item.result c.in_ok-port.port all third small c.then-port-lt-FIRST_PORT.either

pub returns : goal.returns
returns c =
    let all = four c.args.words.now c.command-item.result c.count-item.result c.first-item.result c._folder-item.result c.in-len4.len_at_least c.in-len4.len_below c.command-item.is c.count-item.is c.first-item.is c._folder-item.is in
    let first : string_bytes c.command-item.result ≡ codes "serve" = search rules in
    let second : string_bytes c.count-item.result ≡ decimal c.number.result = search rules in
    let third : string_bytes c.first-item.result ≡ decimal c.in_ok-port.port = search rules in
    let last = c.in_ok-last.ensures in
    let is = c.number.ensures.value in (
      string_bytes c._folder-item.result,
      (
        (omega (arith, is, last.0.0), omega (arith, is, last.0.1)),
        omega arith,
        omega arith,
        all_words string_bytes c.args.words.now c.command-item.result c.count-item.result c.first-item.result c._folder-item.result (codes "serve") (decimal c.number.result) (decimal c.in_ok-port.port) all first second third,
      ),
    )
