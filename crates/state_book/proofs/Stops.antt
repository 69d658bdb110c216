-- What a stop leaves, both in a call that commits nothing and in one that commits what another did.
use Rattle.std.proofs.Common.{◌⊎◌, inl, inr, arith, refl}
use Rattle.sqlite.specs.State.{State, Survives}
use Rattle.sqlite.specs.Tree.{Trees}

pub survives_same : (s : State) (Commits : Trees → Type 0) → Survives s s Commits
survives_same s Commits = record { clean = omega arith; shield = λ is. is; counts = omega arith; limit = refl; closes = λ clean still. inl still; crash = λ clean db may. inl may }

either : {A B C : Type 0} → (B → C) → A ⊎ B → A ⊎ C
either f (inl a) = inl a
either f (inr b) = inr (f b)

pub survives_more : (old new : State) (Commits Others : Trees → Type 0) → ((db : Trees) → Commits db → Others db) → Survives old new Commits → Survives old new Others
survives_more old new Commits Others more is =
    record { clean = is.clean; shield = is.shield; counts = is.counts; limit = is.limit; closes = is.closes; crash = λ clean db may. either (more db) (is.crash clean db may) }
