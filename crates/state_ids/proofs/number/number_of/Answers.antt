use Rattle.std.proofs.Common.{ℕ, ap, sym, ◌∙◌, true≢false, refl, Ok}
use Rattle.std.specs.Fmt.{decimal}
use Rattle.std.proofs.lemmas.Fmt.{parse-decimal, decimal-digits_value}
use Rattle.std.proofs.lemmas.Str.Parse.{parse_plain}
use Rattle.state_ids.proofs.DecimalNumbers.{own, odd_is_none, decimal_is_text}
use Rattle.state_ids.proofs.number.number_of.Goals as goal

pub returns-then-not-is_canonical : goal.returns-then-not-is_canonical
returns-then-not-is_canonical c = λ n small e. odd_is_none c.args.word.now n small e (c.if-not-is_canonical.ensures.odd (λ t. true≢false (sym t)))

pub returns-in_default : goal.returns-in_default
returns-in_default c = λ n small e. c.in_default.ensures.cases.0 (decimal_is_text c.args.word.now n small e)

pub returns-in-Ok-parse : goal.returns-in-Ok-parse
returns-in-Ok-parse c =
    let word = c.args.word.now in
    let plain = c.if-not-is_canonical.ensures.plain refl in
    let value = rw c.in-Ok.ensures.cases.0 at c.in-Ok-parse.ensures.value.0 in
    let read = parse_plain own {E = ℕ} 64 word (Ok c.in-Ok-parse.number) value plain.0 in
    sym (decimal-digits_value own word read.0.0 read.0.1 plain.1 read.0.2) ∙ ap decimal (sym read.1)

pub returns-in-Err : goal.returns-in-Err
returns-in-Err c = λ n small e.
    let gave = parse-decimal 64 n c.in-Ok.text.now _ small small (c.in-Ok.ensures.cases.0 ∙ e) c.parse.ensures.value.0 in
    let was = c.in-Err.is in cc
