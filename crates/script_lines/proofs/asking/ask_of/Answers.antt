use Rattle.std.proofs.Common.{ℕ, List, [], get_or, ap, sym, ◌∙◌}
use Rattle.script_lines.proofs.Verbs.{each_ask_has_a_verb}
use Rattle.script_lines.proofs.asking.ask_of.Goals as goal

-- the first word is no verb's name, and each ask begins with one
pub returns-in-None : goal.returns-in-None
returns-in-None c ask spells =
    let named = each_ask_has_a_verb ask
    in c.in-None.ensures named.0 (ap (λ (l : List (List ℕ)). get_or l 0 []) (sym c.in-Some.ensures ∙ c.of-words.ensures ∙ spells.1) ∙ named.1)
