use Rattle.wire_frames.proofs.Grammar.{grammar_law}
use Rattle.wire_frames.proofs.laws.frames_of_a_history_keep_the_rules.Goals as goal

pub returns : goal.returns
returns c = grammar_law
