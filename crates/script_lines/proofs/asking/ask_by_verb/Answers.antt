use Rattle.script_lines.proofs.asking.ask_by_verb.Goals as goal

pub returns-in-Read : goal.returns-in-Read
returns-in-Read c = rw c.in-Read.is (c.read_of.ensures c.args.nodes)

pub returns-in-Text : goal.returns-in-Text
returns-in-Text c = rw c.in-Text.is (c.text_of.ensures c.args.nodes)
