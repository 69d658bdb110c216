-- What is told of a call that operators want.
use Rattle.std.specs.Prelude.{⊤}
use Rattle.std.proofs.Common.{◌≡◌, ℕ, None, Some, Result, ap, subst, sym, inl, inr}
use Rattle.state_facts.specs.declared.refusal.Refusal.{Refusal}
use Rattle.state_book.specs.declared.calls.Call.{Call}
use Rattle.state_book.specs.declared.calls.Reply.{Reply}
use Rattle.state_book.specs.declared.clerk.Clerk.{Ghosts as OfClerk}
use Rattle.node_server.specs.Entering.{IsMadeAndCopied, IsMadeInMemory, MakesIf, told}

-- it is what came of the call, or that there was no memory for a copy
pub told_made : {C : Type 0} (clerk : OfClerk C) (old new : C) (now : ℕ) (asked : Call) (outcome : Result Reply Refusal) (result : Result ⊤ Refusal)
    → IsMadeAndCopied clerk old new now asked outcome → result ≡ told outcome → MakesIf clerk old new (Some asked) result
told_made clerk old new now asked outcome result (made, makes, inl is) is_told =
    (now, made, makes, inl (subst (λ o. result ≡ told o) is is_told))
told_made clerk old new now asked outcome result (made, makes, inr is) is_told =
    (now, made, makes, inr (subst (λ o. result ≡ told o) is is_told))
