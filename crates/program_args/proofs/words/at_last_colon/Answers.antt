use Rattle.program_args.proofs.Addresses.{last_parts}
use Rattle.program_args.proofs.words.at_last_colon.Goals as goal

pub returns : goal.returns
returns c = last_parts c.args.word.now c.rsplit_once.result c.rsplit_once.ensures.cases
