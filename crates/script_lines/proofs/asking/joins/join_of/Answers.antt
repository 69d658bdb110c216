use Rattle.script_lines.proofs.MemberWords.{none_joined}
use Rattle.script_lines.proofs.asking.joins.join_of.Goals as goal

pub returns-in_default-2 : goal.returns-in_default-2
returns-in_default-2 c = none_joined c.args.nodes c.args.words c.next_node_and_id.new.words _ _ c.in-Some.ensures'.2 (rw c.in_default-2.is at c.in_ok-links.ensures)
