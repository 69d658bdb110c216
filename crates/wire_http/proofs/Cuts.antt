-- a whole response that is cut isn't a response any more
use Rattle.std.proofs.Common.{◌≡◌, ℕ, ◌+◌, ◌<◌, List, [], ◌∷◌, ◌++◌, length, sym, ◌∙◌, ap, append_assoc, append-nil, length-append, arith, Result, Ok}
use Rattle.httparse.specs.Grammar.{ResponseHead, ReadsResponse, print_response}
use Rattle.wire_http.specs.declared.fault.Fault.{Fault}
use Rattle.wire_http.specs.Responses.{Room, head_room, Skips, HasFinal, IsResponse, HasNoResponse, stated}
use Rattle.wire_http.proofs.Messages.{unique_final}

-- what a text begins with is there whatever follows

reads_more : (input rest more : List ℕ) (h : ResponseHead) → ReadsResponse input h rest → ReadsResponse (input ++ more) h (rest ++ more)
reads_more input rest more h (valid, text) = (valid, ap (λ (t : List ℕ). t ++ more) text ∙ append_assoc (print_response h) rest more)

skips_more : (heads : List ResponseHead) (input rest more : List ℕ) → Skips heads input rest → Skips heads (input ++ more) (rest ++ more)
skips_more [] input rest more same = ap (λ (t : List ℕ). t ++ more) same
skips_more (h ∷ heads) input rest more (middle, reads, interim, plain, skips) =
    (middle ++ more, reads_more input middle more h reads, interim, plain, skips_more heads middle rest more skips)

pub final_more : (room : Room) (input rest more : List ℕ) (h : ResponseHead) → HasFinal room input h rest → HasFinal room (input ++ more) h (rest ++ more)
final_more room input rest more h (b, last) = (
  record {
    skipped = b.skipped;
    middle = b.middle ++ more;
    left = b.left;
    skips = skips_more b.skipped input b.middle more b.skips;
    bytes = b.bytes;
    lines = b.lines;
    holds = record { reads = reads_more b.middle rest more h b.holds.reads; short = b.holds.short; few = b.holds.few };
  },
  last,
)

pub cut_is_none : (limit : ℕ) (prefix more : List ℕ) (h : ResponseHead) (body : List ℕ) → 0 < length more
    → IsResponse head_room limit (prefix ++ more) h body [] → HasNoResponse head_room limit prefix
cut_is_none limit prefix more h body some (final, states) k other rest (has, says) =
    let same = unique_final head_room (prefix ++ more) k ((other ++ rest) ++ more) h (body ++ []) (final_more head_room prefix (other ++ rest) more k has) final in
    let lengths : ◌≡◌ {A = Result ℕ Fault} (Ok (length other)) (Ok (length body)) = sym says ∙ ap (stated limit) same.0 ∙ states in
    let equal : length other ≡ length body = cc in
    let outer : length (other ++ rest) + length more ≡ length (body ++ []) = sym (length-append (other ++ rest) more) ∙ ap length same.1 in
    let inner : length (other ++ rest) ≡ length other + length rest = length-append other rest in
    let all : length (body ++ []) ≡ length body = ap length (append-nil body) in
    omega (arith, some, equal, outer, inner, all)
