use Rattle.std.proofs.Common.{◌≡◌, ◌∙◌, IfOk, List, ℕ, refl, subst, sym}
use Rattle.std.specs.Option.{option_copied}
use Rattle.wire_http.specs.ByteResponses.{Response}
use Rattle.wire_api.specs.Answers.{ok_json}
use Rattle.wire_operators.specs.declared.page.TheConstants.{PAGE}
use Rattle.wire_operators.specs.declared.wanted.Topic.{Topic}
use Rattle.wire_operators.specs.declared.wanted.Topic.TheVariants.{Calls, Health, Metrics, Page, Ready}
use Rattle.wire_operators.specs.Serving.{IsTold, counts_answer, page_answer, ready_answer}
use Rattle.wire_operators.proofs.Sent.{tells}
use Rattle.wire_operators.proofs.telling.told_answer.Goals as goal

pub returns-in_ok-text-in-Page : goal.returns-in_ok-text-in-Page
returns-in_ok-text-in-Page g c =
    let is = c.in_ok-text-in-Page.ensures.items ∙ c.as_bytes.ensures.value in
    let page = subst (λ (text : List ℕ). IfOk c.page_answer.result (λ (response : Response). response ≡ page_answer text)) is c.page_answer.ensures in
    subst (λ (topic : Topic). IfOk c.page_answer.result (IsTold g.T.State c.args.state.now topic)) (sym c.in-Page.is)
    (tells c.page_answer.result (page_answer PAGE.now) (IsTold g.T.State c.args.state.now Page) refl page)

pub returns-in_ok-text-in-Health : goal.returns-in_ok-text-in-Health
returns-in_ok-text-in-Health g c =
    let text = c.in_ok-text-in-Health.text.items in
    subst (λ (topic : Topic). IfOk c.ok_json.result (IsTold g.T.State c.args.state.now topic)) (sym c.in-Health.is)
    (tells c.ok_json.result (ok_json text) (IsTold g.T.State c.args.state.now Health) (text, c.in_ok-text-in-Health.ensures, refl) c.ok_json.ensures)

pub returns-in-Ready : goal.returns-in-Ready
returns-in-Ready g c =
    let cause = option_copied c.unready.result in
    subst (λ (topic : Topic). IfOk c.ready_answer.result (IsTold g.T.State c.args.state.now topic)) (sym c.in-Ready.is)
    (tells c.ready_answer.result (ready_answer cause) (IsTold g.T.State c.args.state.now Ready) (cause, c.unready.ensures, refl) c.ready_answer.ensures)

pub returns-in_ok-text-in-Metrics : goal.returns-in_ok-text-in-Metrics
returns-in_ok-text-in-Metrics g c =
    let text = c.in_ok-text-in-Metrics.text.items in
    subst (λ (topic : Topic). IfOk c.counts_answer.result (IsTold g.T.State c.args.state.now topic)) (sym c.in-Metrics.is)
    (tells c.counts_answer.result (counts_answer text) (IsTold g.T.State c.args.state.now Metrics) (text, c.in_ok-text-in-Metrics.ensures, refl) c.counts_answer.ensures)

pub returns-in_ok-text-in-Calls : goal.returns-in_ok-text-in-Calls
returns-in_ok-text-in-Calls g c =
    let text = c.in_ok-text-in-Calls.text.items in
    subst (λ (topic : Topic). IfOk c.ok_json-in-Calls.result (IsTold g.T.State c.args.state.now topic)) (sym c.in-Calls.is)
    (tells c.ok_json-in-Calls.result (ok_json text) (IsTold g.T.State c.args.state.now Calls) (text, c.in_ok-text-in-Calls.ensures, refl) c.ok_json-in-Calls.ensures)
