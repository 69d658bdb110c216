use Rattle.script_lines.proofs.showing.text_line.Goals as goal

pub unreachable-requires : goal.unreachable-requires
unreachable-requires c = c.in-Err.ensures.cases.0 c.to_text-bytes.ensures.utf8
