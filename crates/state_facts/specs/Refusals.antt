-- Refusals in their order, and those that depend only on a front and an id.
use Rattle.std.specs.Prelude.{◌==◌, ℕ, Bool, Option, Some, None, List, [], ◌∷◌, if◌then◌else◌, nat_lt}
use Rattle.state_ids.specs.Ids.{Id, last_number}
use Rattle.state_ids.specs.Fronts.{count, is_covered}
use Rattle.state_facts.specs.declared.refusal.Refusal.{Refusal}
use Rattle.state_facts.specs.declared.refusal.Refusal.TheVariants.{UnknownLra, NotHome, NumbersSpent}

-- the refusal, unless the test holds
abbrev pub unless : Bool → Refusal → Option Refusal
unless b r = if b then None else Some r

-- the first refusal in the list
abbrev pub first : List (Option Refusal) → Option Refusal
first [] = None
first (Some r ∷ rest) = Some r
first (None ∷ rest) = first rest

-- the front doesn't count the id's number
abbrev pub unknown : List ℕ → Id → Option Refusal
unknown v l = unless (is_covered v l) UnknownLra

-- the node is not the id's home
abbrev pub away : ℕ → Id → Option Refusal
away node l = unless (l.home == node) (NotHome l.home)

-- the node has given its last number
abbrev pub spent : List ℕ → ℕ → Option Refusal
spent v node = unless (nat_lt (count v node) last_number) NumbersSpent
