use Rattle.script_lines.proofs.OneTextAScript.{text_once, text_is_one}
use Rattle.script_lines.proofs.laws.a_script_has_one_text.Goals as goal

pub returns-clause-one : goal.returns-clause-one
returns-clause-one c = text_once

pub returns-clause-text : goal.returns-clause-text
returns-clause-text c = text_is_one
