-- The request's text, byte by byte.
use Rattle.std.proofs.Common.{◌≡◌, ◌∙◌, ℕ, ◌+◌, ◌*◌, List, ◌++◌, Result, Ok, Err, ap, append_assoc, codes, length}
use Rattle.std.specs.Prelude.{IfOk}
use Rattle.std.specs.Fmt.{decimal}
use Rattle.wire_http.specs.declared.message.CallRequest.{CallRequest}
use Rattle.wire_http.specs.MessageTexts.{field_lines, host_line, line_end, request_text}
use Rattle.wire_pulls.specs.PullBodies.{pull_body}
use Rattle.wire_pulls.specs.Texts.{pull_fields, pull_request, pull_text}

grouped : (d e c l b : List ℕ) → ((((d ++ e) ++ c) ++ l) ++ b) ≡ d ++ (e ++ (c ++ (l ++ b)))
grouped d e c l b = append_assoc ((d ++ e) ++ c) l b ∙ append_assoc (d ++ e) c (l ++ b) ∙ append_assoc d e (c ++ (l ++ b))

-- what comes between the query and the length
abbrev before_length : List ℕ → List ℕ
before_length rest =
    codes " HTTP/1.1" ++ (line_end
    ++ (codes "Host: peer" ++ (line_end
    ++ (codes "Content-Type: application/octet-stream" ++ (line_end
    ++ (codes "Content-Length: " ++ rest))))))

-- what follows the line of the request, up to the body
abbrev head_behind : List ℕ → List ℕ
head_behind front = host_line (codes "peer") ++ (field_lines (pull_fields (1 + 8 * length front)) ++ line_end)

abbrev with_query : (query rest : List ℕ) → List ℕ
with_query query rest = codes "POST /peer/pull" ++ (query ++ rest)

lined : (query version head body : List ℕ) → ((query ++ version) ++ head) ++ body ≡ query ++ (version ++ (head ++ body))
lined query version head body = append_assoc (query ++ version) head body ∙ append_assoc query version (head ++ body)

pub text_is : (query front : List ℕ) → request_text (pull_request query front) ≡ pull_text query front
text_is query front =
    ap (λ (t : List ℕ). codes "POST /peer/pull" ++ t) (lined query (codes " HTTP/1.1" ++ line_end) (head_behind front) (pull_body front))
    ∙ ap (λ (t : List ℕ). with_query query (before_length t))
    (grouped (decimal (1 + 8 * length front)) line_end (codes "Connection: close" ++ line_end) line_end (pull_body front))

pub requested : {E : Type 0} (query front : List ℕ) (result : Result CallRequest E) → IfOk result (λ request. request ≡ pull_request query front)
    → IfOk result (λ request. request_text request ≡ pull_text query front)
requested query front (Ok request) is = ap request_text is ∙ text_is query front
requested query front (Err error) is = tt
