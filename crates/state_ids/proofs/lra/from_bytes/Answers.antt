use Rattle.std.proofs.Common.{ℕ, ◌%◌, ◌^◌, ◌∙◌, sym, ap, true≢false, not}
use Rattle.std.proofs.lemmas.Slice.Eq.{bytes_eq-Decides}
use Rattle.state_ids.proofs.Layouts.{home_back, num_back, same_layout}
use Rattle.state_ids.proofs.lra.from_bytes.Goals as goal

pub returns-then-ne-clause-refused : goal.returns-then-ne-clause-refused
returns-then-ne-clause-refused c = λ id valid same.
    let home = c.in_ok-id.ensures.value.0 ∙ c.in_ok-home.ensures.value ∙ home_back c.args.bytes id valid same in
    let num = c.in_ok-id.ensures.value.1 ∙ ap (λ (n : ℕ). n % 2 ^ 62) c.from_be_bytes-low.ensures ∙ num_back c.args.bytes id valid same in
    let alike = c.to_bytes.ensures.bytes ∙ same_layout c.in_ok-id.id id home num ∙ sym same in
    absurd (true≢false (sym c.if-ne.true ∙ c.ne.ensures ∙ ap not ((bytes_eq-Decides c.to_bytes.result c.args.bytes).1 alike)))
