use Rattle.std.proofs.Common.{map, string_bytes}
use Rattle.program_args.proofs.ChoiceWords.{one_said}
use Rattle.program_args.proofs.member_texts.text_of.Goals as goal

pub returns-clause-one : goal.returns-clause-one
returns-clause-one c = λ text others other e.
    one_said c.args.name.now c.in-Some.text.now (map string_bytes c.args.words.now) (map string_bytes c.in-Some.others.now) others text c.in-Some.ensures other e
