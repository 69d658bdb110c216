use Rattle.std.proofs.Common.{◌≡◌, ℕ, List, Ok, Err, length, rules, subst}
use Rattle.state_facts.specs.declared.refusal.Refusal.TheVariants.{NoMemory}
use Rattle.state_replica.specs.Replicas.{view_of}
use Rattle.wire_pulls.specs.PullBodies.{asked}
use Rattle.wire_pulls.specs.Serving.{Serves}
use Rattle.state_book.proofs.Pulls.{not_served, served}
use Rattle.state_book.proofs.preparing.give.Goals as goal

pub returns-in-Ok-clause-reply : goal.returns-in-Ok-clause-reply
returns-in-Ok-clause-reply c =
    let a = view_of c.args.replica.now in
    let nodes = length c.args.replica.now.front in
    served a (asked nodes c.args.body.now) c.in-Ok.delta (subst (λ (bytes : List ℕ). Serves a (asked nodes bytes) (Ok c.in-Ok.delta)) c.as_slice.ensures c.in-Ok.ensures.exact)

pub returns-else-eq-clause-reply : goal.returns-else-eq-clause-reply
returns-else-eq-clause-reply c =
    let a = view_of c.args.replica.now in
    let nodes = length c.args.replica.now.front in
    let other : c.in-Err.refusal ≡ NoMemory → ⊥ = search rules in
    not_served a (asked nodes c.args.body.now) c.in-Err.refusal (subst (λ (bytes : List ℕ). Serves a (asked nodes bytes) (Err c.in-Err.refusal)) c.as_slice.ensures c.in-Err.ensures.exact) other
