use Rattle.std.proofs.Common.{[], ◌∷◌, ◌++◌, lit<, Some, None}
use Rattle.std.proofs.lemmas.Str.Pattern.{strip_prefix_char, strip_suffix_char}
use Rattle.program_args.proofs.Addresses.{bracketed}
use Rattle.program_args.proofs.words.in_brackets.Goals as goal

pub returns-in_default : goal.returns-in_default
returns-in_default c = λ host e. strip_prefix_char 91 c.args.text.now None c.in_default.ensures.cases (lit< tt) (host ++ 93 ∷ []) e

pub returns : goal.returns
returns c =
    let front = strip_prefix_char 91 c.args.text.now (Some c.in-Some.rest) c.in-Some.ensures.cases (lit< tt) in
    bracketed c.args.text.now c.in-Some.rest.now front c.strip_suffix.result (strip_suffix_char 93 c.in-Some.rest.now c.strip_suffix.result c.strip_suffix.ensures.cases (lit< tt))
