use Rattle.script_lines.proofs.OneAskALine.{one_ask}
use Rattle.script_lines.proofs.laws.a_line_spells_one_ask.Goals as goal

pub returns : goal.returns
returns c = one_ask
