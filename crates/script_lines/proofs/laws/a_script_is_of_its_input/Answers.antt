use Rattle.script_lines.proofs.KnownInputs.{text_of_input, part_of_input}
use Rattle.script_lines.proofs.laws.a_script_is_of_its_input.Goals as goal

pub returns-clause-text : goal.returns-clause-text
returns-clause-text c = text_of_input

pub returns-clause-part : goal.returns-clause-part
returns-clause-part c = part_of_input
