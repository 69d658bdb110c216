-- Saga order over time: who comes behind whom in a saga, and who has ended in it.
use Rattle.std.specs.Prelude.{◌≡◌, ◌⊎◌, ℕ, true, false, Some, List}
use Rattle.state_ids.specs.Ids.{Id}
use Rattle.state_ids.specs.declared.status.MemberStatus.TheVariants.{Compensated, FailedToCompensate}
use Rattle.state_facts.specs.declared.fact.Fact.{Fact}
use Rattle.state_facts.specs.Duties.{is_later, saga_path, topmost_cancelled}
use Rattle.state_facts.specs.Sets.{is_held, is_participant, member_status}

-- the participant n of d comes behind the participant m of l: both are in one saga, under the same
-- topmost cancelled LRA, and it is later in saga order
pub record IsBehind (S : List Fact) (l : Id) (m : ℕ) (d : Id) (n : ℕ) : Type 0 where
  pub known : is_participant S d n ≡ true
  pub saga : topmost_cancelled S d ≡ topmost_cancelled S l
  pub later : is_later (saga_path S d n) (saga_path S l m) ≡ true

-- the participant is compensated, or failed to compensate, or was purged with its tree
abbrev pub HasCompensated : List Fact → Id → ℕ → Type 0
HasCompensated S l m =
    (member_status S l m ≡ Some Compensated) ⊎ (member_status S l m ≡ Some FailedToCompensate) ⊎ (is_held S l ≡ false)
