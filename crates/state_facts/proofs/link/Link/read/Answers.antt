use Rattle.std.proofs.Common.{◌≡◌, ◌≤◌, List, ℕ, Some, length, subst, sym, ◌∙◌}
use Rattle.state_facts.specs.LinkTexts.{kept_text}
use Rattle.state_facts.proofs.KeptLinks.{kept_again, kept_short}
use Rattle.state_facts.proofs.link.Link.read.Goals as goal

pub invariant_of-result : goal.invariant_of-result
invariant_of-result c =
    let P : List ℕ → Type 0 = λ t. (length t ≤ 127) × (kept_text t ≡ Some t) in
    subst P (sym (c.in_ok-from_str-in-Ok.ensures.ok ∙ c.as_str.ensures.value))
    (kept_short c.in-Ok.url (sym c.if-is_link.ensures), kept_again c.args.text.now c.in-Ok.url c.as_str.ensures.valid c.in-Ok.ensures (sym c.if-is_link.ensures))

pub returns-in_ok-from_str-in-Ok-clause-kept : goal.returns-in_ok-from_str-in-Ok-clause-kept
returns-in_ok-from_str-in-Ok-clause-kept c =
    let P : List ℕ → Type 0 = λ t. kept_text t ≡ Some t in
    subst P (sym (c.in_ok-from_str-in-Ok.ensures.ok ∙ c.as_str.ensures.value))
    (kept_again c.args.text.now c.in-Ok.url c.as_str.ensures.valid c.in-Ok.ensures (sym c.if-is_link.ensures))
