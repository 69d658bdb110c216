use Rattle.std.proofs.Common.{◌≡◌, inl, inr, refl, rules}
use Rattle.state_facts.specs.declared.refusal.Refusal.TheVariants.{NoMemory}
use Rattle.state_replica.specs.Replicas.{view_of}
use Rattle.state_book.proofs.Frames.{first_cause}
use Rattle.state_book.proofs.preparing.take.Goals as goal

pub returns-in-Ok-clause-next : goal.returns-in-Ok-clause-next
returns-in-Ok-clause-next c = inl (refl, record { reached = c.in-Ok.ensures.reached; taken = c.in-Ok.ensures.taken; shape = c.in-Ok.ensures.shape })

pub returns-else-eq-clause-next : goal.returns-else-eq-clause-next
returns-else-eq-clause-next c =
    let other : c.in-Err.refusal ≡ NoMemory → ⊥ = search rules in
    inr (c.in-Err.refusal, refl, first_cause (view_of c.args.replica.now) c.args.delta c.in-Err.refusal c.in-Err.ensures.refused other c.in-Err.ensures.nodes c.in-Err.ensures.gap, refl)
