use Rattle.std.proofs.Common.{◌≡◌, rules}
use Rattle.state_facts.specs.declared.refusal.Refusal.TheVariants.{NoMemory}
use Rattle.state_replica.specs.Replicas.{view_of}
use Rattle.state_book.proofs.NextViews.{denied_next, prepared_next}
use Rattle.state_book.proofs.preparing.act.Goals as goal

pub returns-in-Ok-clause-reply : goal.returns-in-Ok-clause-reply
returns-in-Ok-clause-reply c = (prepared_next (view_of c.args.replica.now) c.args.me c.args.command c.in-Ok.prepared c.in-Ok.ensures.next).0

pub returns-in-Ok-clause-next : goal.returns-in-Ok-clause-next
returns-in-Ok-clause-next c = (prepared_next (view_of c.args.replica.now) c.args.me c.args.command c.in-Ok.prepared c.in-Ok.ensures.next).1

pub returns-else-eq-clause-reply : goal.returns-else-eq-clause-reply
returns-else-eq-clause-reply c =
    let other : c.in-Err.refusal ≡ NoMemory → ⊥ = search rules in
    (denied_next (view_of c.args.replica.now) c.args.me c.args.command c.in-Err.refusal c.in-Err.ensures.next other).0

pub returns-else-eq-clause-next : goal.returns-else-eq-clause-next
returns-else-eq-clause-next c =
    let other : c.in-Err.refusal ≡ NoMemory → ⊥ = search rules in
    (denied_next (view_of c.args.replica.now) c.args.me c.args.command c.in-Err.refusal c.in-Err.ensures.next other).1
