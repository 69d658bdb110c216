-- A node that is one of a group has its place.
use Rattle.std.proofs.Common.{◌≡◌, ◌≤◌, ◌∙◌, ℕ, arith, length, sym, replicate}
use Rattle.std.proofs.lemmas.List.{length-replicate}
use Rattle.node_core.specs.Nodes.{node_at_first}
use Rattle.node_core.specs.declared.node_state.NodeState.{NodeState}
use Rattle.theory_node.specs.Steps.{IsReached}
use Rattle.theory_node.proofs.Passing.{Keeps}
use Rattle.theory_node.proofs.PullsPass.{HeardStays}
use Rattle.theory_node.proofs.StepsPass.{steps_pass}
use Rattle.theory_node.proofs.TurnsPass.{LookStays}

abbrev pub HasPlace : NodeState → Type 0
HasPlace n =
    (1 ≤ n.mail.opening.me) × (n.mail.opening.me ≤ length n.mail.opening.awaited) × (length n.mail.known.front ≡ length n.mail.opening.awaited)

within : (me node nodes long : ℕ) → 1 ≤ node → node ≤ nodes → me ≡ node → long ≡ nodes → (1 ≤ me) × (me ≤ long)
within me node nodes long some few is all = (omega (arith, some, is), omega (arith, few, is, all))

pub placed : HeardStays → LookStays → (n : NodeState) → IsReached n → HasPlace n
placed heard looks n is =
    let first : NodeState = node_at_first is.me is.nodes is.settings is.sweeping in
    let passes : Keeps first n = (steps_pass heard looks first n is.steps).keeps in
    let zeros : length (replicate is.nodes 0) ≡ is.nodes = length-replicate is.nodes 0 in
    let me : n.mail.opening.me ≡ is.me = passes.me in
    let long : length n.mail.opening.awaited ≡ is.nodes = passes.long ∙ zeros in
    let known : length n.mail.known.front ≡ is.nodes = passes.sizes ∙ zeros in
    let here = within n.mail.opening.me is.me is.nodes (length n.mail.opening.awaited) is.some is.few me long in
    (here.0, here.1, known ∙ sym long)
