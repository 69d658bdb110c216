use Rattle.script_lines.proofs.MemberWords.{none_reported}
use Rattle.script_lines.proofs.asking.members.report_of.Goals as goal

pub returns-in_err-node : goal.returns-in_err-node
returns-in_err-node c = rw c.from_residual.ensures (none_reported c.args.nodes c.args.words c.in_err-node.ensures)
