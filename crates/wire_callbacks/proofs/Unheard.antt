-- what is learned if no whole response came
use Rattle.std.proofs.Common.{◌≡◌, ◌∙◌, ◌<◌, ◌++◌, ℕ, List, [], Some, length, refl, subst, sym}
use Rattle.std.proofs.lemmas.List.{append_cancel_left}
use Rattle.state_ids.specs.declared.outcome.Act.{Act}
use Rattle.wire_http.specs.ByteResponses.{Response}
use Rattle.wire_http.specs.Responses.{HasNoResponse, IsResponse, IsResponseMessage, head_room}
use Rattle.wire_http.specs.Streams.{GivenBytes, Gives}
use Rattle.wire_http.proofs.Cuts.{cut_is_none}
use Rattle.wire_http.proofs.Left.{response_taken}
use Rattle.wire_http.specs.Bodies.{max_body_bytes}
use Rattle.wire_callbacks.specs.declared.answer.Answer.{Answer}
use Rattle.wire_callbacks.specs.declared.answer.Answer.TheVariants.{Code, Broken}
use Rattle.wire_callbacks.specs.declared.answer.Heard.TheVariants.{Again}
use Rattle.wire_callbacks.specs.declared.answer.Kind.{Kind}
use Rattle.wire_callbacks.specs.Answers.{heard_of}
use Rattle.wire_callbacks.specs.OneCall.{IsCodeOf}

-- two lists that were given between the same two moments are the same list
one_given : (old new : GivenBytes) (a b : List ℕ) → Gives old new a → Gives old new b → a ≡ b
one_given old new a b p q = append_cancel_left old.given a b (sym p.given ∙ q.given)

pub none_heard : (act : Act) (kind : Kind) (bytes : List ℕ) (old new : GivenBytes) (answer : Answer)
    → HasNoResponse head_room max_body_bytes bytes → Gives old new bytes → IsCodeOf old new answer → heard_of act kind answer ≡ Again
none_heard act kind bytes old new Broken none gives is = refl
none_heard act kind bytes old new (Code code body) none gives (given, took, is) =
    absurd (none is.whole.head is.response.body [] (subst (λ (l : List ℕ). IsResponse head_room max_body_bytes l is.whole.head is.response.body []) (one_given old new given bytes took gives) is.whole.whole))

pub none_heard_left : (act : Act) (kind : Kind) (input : List ℕ) (old new : GivenBytes) (answer : Answer)
    → HasNoResponse head_room max_body_bytes input → old.left ≡ Some input → IsCodeOf old new answer → heard_of act kind answer ≡ Again
none_heard_left act kind input old new Broken none left is = refl
none_heard_left act kind input old new (Code code body) none left (given, took, is) =
    let stands = rw left at (response_taken max_body_bytes old new is.response (given, took, is.whole)) in
    absurd (none stands.1.0 is.response.body stands.0 stands.1.1)

pub cut_heard : (act : Act) (kind : Kind) (front more : List ℕ) (whole : Response) (old new : GivenBytes) (answer : Answer)
    → 0 < length more → IsResponseMessage max_body_bytes (front ++ more) whole → Gives old new front → IsCodeOf old new answer
    → heard_of act kind answer ≡ Again
cut_heard act kind front more whole old new answer some is gives =
    none_heard act kind front old new answer (cut_is_none max_body_bytes front more is.head whole.body some is.whole) gives

pub cut_heard_left : (act : Act) (kind : Kind) (front more : List ℕ) (whole : Response) (old new : GivenBytes) (answer : Answer)
    → 0 < length more → IsResponseMessage max_body_bytes (front ++ more) whole → old.left ≡ Some front → IsCodeOf old new answer
    → heard_of act kind answer ≡ Again
cut_heard_left act kind front more whole old new answer some is left =
    none_heard_left act kind front old new answer (cut_is_none max_body_bytes front more is.head whole.body some is.whole) left
